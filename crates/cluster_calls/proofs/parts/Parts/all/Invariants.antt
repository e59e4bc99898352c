use Rattle.std.proofs.Common.{◌≡◌, drop}
use Rattle.pipeline_split.specs.declared.piece.Piece.TheVariants.{Nothing}
use Rattle.cluster_calls.specs.Parts.{all_joined}
use Rattle.cluster_calls.proofs.parts.Parts.all.Given as goal

abbrev pub invariant-loop-segment : goal.invariant-loop-segment
invariant-loop-segment l = all_joined l.all (drop l.segment l.self.booked.booked) ≡ all_joined Nothing l.self.booked.booked
