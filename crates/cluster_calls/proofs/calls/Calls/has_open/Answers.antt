use Rattle.std.proofs.Common.{◌==◌, not, sym, ap, ◌∙◌}
use Rattle.cluster_model.specs.State.{Calling, is_of, is_open_unit}
use Rattle.cluster_model.specs.Calls.{any_open}
use Rattle.cluster_calls.proofs.ListLaws.{any_none, length-filter}
use Rattle.cluster_calls.proofs.QueryLaws.{any_counted}
use Rattle.cluster_calls.proofs.RightLaws.{and_none}
use Rattle.cluster_calls.proofs.RoundLaws.{no_unit}
use Rattle.cluster_calls.proofs.UnitLaws.{is_busy}
use Rattle.cluster_calls.proofs.calls.Calls.has_open.Goals as goal

pub returns-in-None : goal.returns-in-None
returns-in-None c =
    let n = c.args.number in
    let units = c.self.inside.units.items in
    sym (any_none (is_busy n) units (λ i u at. and_none (is_of n u) (is_open_unit u) (no_unit c.self.inside.segments units c.self.inside.table n c.self.invariant.right (sym c.in-None.ensures) i u at)))
    ∙ ap (λ (x : Calling). any_open x.units n) c.self.view_is

pub returns-in-Some : goal.returns-in-Some
returns-in-Some c =
    let n = c.args.number in
    let units = c.self.inside.units.items in
    let kept = c.self.invariant.right.kept n c.in-Some.row.now (sym c.in-Some.ensures) in
    c.has_open.ensures
    ∙ ap (λ k. not (k == 0)) (kept.tally.unended ∙ length-filter (is_busy n) units)
    ∙ sym (any_counted (is_busy n) units)
    ∙ ap (λ (x : Calling). any_open x.units n) c.self.view_is
