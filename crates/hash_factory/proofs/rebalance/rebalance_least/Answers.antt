use Rattle.std.proofs.Common.{◌≡◌, length, min, arith, ap, sym, subst, ◌∙◌}
use Rattle.std.specs.List.{AllByRecursion}
use Rattle.topology_phase.specs.Owners.{among, members}
use Rattle.hash_factory.specs.Least.{is_balanced, least, moved}
use Rattle.hash_factory.proofs.Made.{members_distinct, members_low}
use Rattle.hash_factory.proofs.LeastMoves.{balanced_least, least_is_least}
use Rattle.hash_factory.proofs.LeastRows.{full_least, least_settled}
use Rattle.hash_factory.proofs.rebalance.rebalance_least.Goals as goal

pub seated-requires-clause-low : goal.seated-requires-clause-low
seated-requires-clause-low c = λ n above. ap (among n) c.new-members.ensures ∙ members_low c.args.nodes.now n above

pub returns-clause-balanced : goal.returns-clause-balanced
returns-clause-balanced c =
    let live = members c.args.nodes.now in
    ap (is_balanced live) (c.in_ok-hash.ensures ∙ ap (λ ns. least ns c.args.owners c.args.current.now) c.new-members.ensures)
    ∙ balanced_least live c.args.owners c.args.current.now (members_distinct c.args.nodes.now) c.requires.member c.requires.some_owner

pub returns-clause-full : goal.returns-clause-full
returns-clause-full c =
    let live = members c.args.nodes.now in
    let made : c.in_ok-hash.hash ≡ least live c.args.owners c.args.current.now = c.in_ok-hash.ensures ∙ ap (λ ns. least ns c.args.owners c.args.current.now) c.new-members.ensures in
    subst (AllByRecursion (λ row. length row ≡ min c.args.owners (length live))) (sym made) (full_least live c.args.owners c.args.current.now (members_distinct c.args.nodes.now) c.requires.member c.requires.some_owner)

pub returns-clause-none_moves_fewer : goal.returns-clause-none_moves_fewer
returns-clause-none_moves_fewer c = λ other long balanced.
    let live = members c.args.nodes.now in
    let made : c.in_ok-hash.hash ≡ least live c.args.owners c.args.current.now = c.in_ok-hash.ensures ∙ ap (λ ns. least ns c.args.owners c.args.current.now) c.new-members.ensures in
    omega (
      arith,
      c.moved-moved.ensures.moved,
      ap (moved c.args.current.now) made,
      least_is_least live c.args.owners c.args.current.now other (members_distinct c.args.nodes.now) c.requires.member c.requires.some_owner (sym long) balanced,
    )

pub returns-clause-settled : goal.returns-clause-settled
returns-clause-settled c = λ settled.
    let live = members c.args.nodes.now in
    c.in_ok-hash.ensures ∙ ap (λ ns. least ns c.args.owners c.args.current.now) c.new-members.ensures
    ∙ least_settled live c.args.owners c.args.current.now (members_distinct c.args.nodes.now) c.requires.member c.requires.some_owner settled.balanced settled.full
