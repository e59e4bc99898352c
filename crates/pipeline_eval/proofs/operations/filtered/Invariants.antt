use Rattle.std.proofs.Common.{◌≡◌}
use Rattle.std.specs.List.{filter}
use Rattle.pipeline_eval.specs.Evaluation.{value_of}
use Rattle.pipeline_eval.specs.Values.{is_on}
use Rattle.pipeline_eval.proofs.operations.filtered.Given as goal

abbrev pub invariant-loop-item : goal.invariant-loop-item
invariant-loop-item l = l.kept.items ≡ filter (λ x. is_on (value_of l.test x)) l.yielded
