use Rattle.std.proofs.Common.{◌≡◌}
use Rattle.container_seg.specs.Stored.{left_of}
use Rattle.container_seg.proofs.parts.purge.Given as goal

-- what hasn't expired is as it was
abbrev pub invariant-loop : goal.invariant-loop
invariant-loop l = left_of l.clock l.segments.items ≡ left_of l.clock l.fn.segments.items
