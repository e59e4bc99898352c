use Rattle.std.proofs.Common.{◌≡◌, take, length}
use Rattle.pipeline_expr.proofs.alike.same_list.Given as goal

abbrev pub invariant-loop-place : goal.invariant-loop-place
invariant-loop-place g l = (take l.place l.a ≡ take l.place l.b) × (length l.a ≡ length l.b)
