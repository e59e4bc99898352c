use Rattle.std.proofs.Common.{ℕ, ◌==◌, not, sym, ap, ◌∙◌}
use Rattle.std.specs.FinSet as set_of
use Rattle.std.specs.List.{range_with_len}
use Rattle.cluster_model.specs.Topologies.{is_complete}
use Rattle.cluster_model.specs.State.{Calling}
use Rattle.cluster_model.specs.Calls.{all_complete}
use Rattle.cluster_calls.proofs.ListLaws.{length-filter}
use Rattle.cluster_calls.proofs.QueryLaws.{all_agree, all_counted, all_none, none_complete}
use Rattle.cluster_calls.proofs.calls.Calls.all_complete.Goals as goal

pub returns-in-None : goal.returns-in-None
returns-in-None c =
    let units = c.self.inside.units.items in
    sym (all_none (is_complete units c.args.number) 0 c.self.inside.segments (none_complete c.self.inside.segments units c.self.inside.table c.args.number c.self.invariant.right (sym c.in-None.ensures)))
    ∙ ap (λ (x : Calling). all_complete x c.args.number) c.self.view_is

pub returns-in-Some : goal.returns-in-Some
returns-in-Some c =
    let units = c.self.inside.units.items in
    let tally = c.in-Some.row.now.tally in
    let kept = c.self.invariant.right.kept c.args.number c.in-Some.row.now (sym c.in-Some.ensures) in
    let segments = range_with_len 0 c.self.inside.segments in
    c.all_complete.ensures
    ∙ ap (λ k. k == 0) (kept.tally.left ∙ length-filter (λ (s : ℕ). not (set_of.contains tally.complete s)) segments)
    ∙ sym (all_counted (set_of.contains tally.complete) segments)
    ∙ all_agree (set_of.contains tally.complete) (is_complete units c.args.number) segments kept.tally.complete
    ∙ ap (λ (x : Calling). all_complete x c.args.number) c.self.view_is
