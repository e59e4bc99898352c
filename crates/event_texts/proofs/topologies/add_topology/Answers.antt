use Rattle.std.proofs.Common.{◌≡◌, ◌≤◌, true, ap, ◌∙◌, sym, subst, arith}
use Rattle.std.proofs.lemmas.Bool.{le-leb}
use Rattle.std.proofs.lemmas.Result.{on_ok_weaker}
use Rattle.std.specs.List.{list_all}
use Rattle.event_texts.specs.Fits.{are_owners}
use Rattle.event_texts.proofs.Ranges.{topology_known}
use Rattle.event_texts.proofs.topologies.add_topology.Goals as goal

pub returns-clause-keeps : goal.returns-clause-keeps
returns-clause-keeps c =
    let small : c.args.topology.now.id ≤ 4294967295 = omega (arith, c.number.type_inv, c.number.ensures, c.id.ensures) in
    on_ok_weaker c.add_pending.result
    (λ pending.
    topology_known c.args.topology.now c.segments-segments.ensures.kept (le-leb c.args.topology.now.id 4294967295 small) c.segments-segments.ensures.few
    (ap (list_all are_owners) (sym c.current.ensures) ∙ c.in_ok-add_hash.ensures.keeps) pending)
    c.add_pending.ensures.keeps
