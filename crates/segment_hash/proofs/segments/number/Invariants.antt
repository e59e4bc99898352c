use Rattle.std.proofs.Common.{◌≡◌, ◌<◌, ◌^◌, take}
use Rattle.segment_hash.specs.Segments.{decimal}
use Rattle.segment_hash.proofs.segments.number.Given as goal

-- the number that the digits so far write, which has no more digits than they
abbrev pub invariant-loop-digit : goal.invariant-loop-digit
invariant-loop-digit l = record { small : l.number < 10 ^ l.digit-index; so_far : l.number ≡ decimal (take l.digit-index l.digits) }
