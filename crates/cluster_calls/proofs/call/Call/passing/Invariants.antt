use Rattle.std.proofs.Common.{◌≡◌, take, not, ◌&&◌, filter}
use Rattle.grid_base.specs.declared.entry.Entry.{Entry}
use Rattle.cluster_model.specs.State.{is_exact}
use Rattle.cluster_model.specs.Units.{was_taken}
use Rattle.cluster_calls.proofs.call.Call.passing.Given as goal

abbrev pub invariant-loop-entry : goal.invariant-loop-entry
invariant-loop-entry l =
    l.entries.list
    ≡ filter (λ (e : Entry). not (is_exact l.self.request.guarantee && was_taken l.self.taken l.segment e.key)) (take l.entry-index l.batch)
