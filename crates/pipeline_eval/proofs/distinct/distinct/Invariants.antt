use Rattle.pipeline_eval.specs.Seen.{Keeps}
use Rattle.pipeline_eval.proofs.distinct.distinct.Given as goal

abbrev pub invariant-loop-item : goal.invariant-loop-item
invariant-loop-item l = Keeps l.seen l.kept.items l.yielded
