use Rattle.std.proofs.Common.{length, arith, ap, ◌∙◌}
use Rattle.hash_factory.proofs.Made.{few_created, length-created}
use Rattle.hash_factory.proofs.LeastMoves.{length-least}
use Rattle.topology_phase.specs.Owners.{members, owners_at}
use Rattle.topology_coord.proofs.coord.Coord.aimed.Goals as goal

pub returns-in_ok-hash-in-Create-clause-as_long : goal.returns-in_ok-hash-in-Create-clause-as_long
returns-in_ok-hash-in-Create-clause-as_long c =
    ap length c.in_ok-hash-in-Create.ensures
    ∙ length-created (members c.live-live.result) c.segments.result c.owners.result
    ∙ c.segments.ensures.segments ∙ ap (λ t. length t.current) c.newest.ensures.newest

pub returns-in_ok-hash-in-Create-clause-few : goal.returns-in_ok-hash-in-Create-clause-few
returns-in_ok-hash-in-Create-clause-few c = λ s.
    omega (arith, ap (λ h. length (owners_at h s)) c.in_ok-hash-in-Create.ensures, few_created (members c.live-live.result) c.segments.result c.owners.result s, c.owners.ensures.owners, c.owners.ensures.few)

pub returns-in_ok-least-in-Least-clause-as_long : goal.returns-in_ok-least-in-Least-clause-as_long
returns-in_ok-least-in-Least-clause-as_long c =
    ap length c.in_ok-least-in-Least.ensures.hash
    ∙ length-least (members c.live-live.result) c.owners-in-Least.result c.current.result.now
    ∙ ap length c.current.ensures ∙ ap (λ t. length t.current) c.newest-in-Least.ensures.newest
