use Rattle.std.proofs.Common.{◌≡◌, take}
use Rattle.pipeline_eval.specs.Pipes.{as_items}
use Rattle.pipeline_eval.proofs.pipes.elements_of.Given as goal

abbrev pub invariant-loop-entry : goal.invariant-loop-entry
invariant-loop-entry l = l.items.items ≡ as_items (take l.entry-index l.entries)
