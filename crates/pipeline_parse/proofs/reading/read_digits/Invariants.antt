use Rattle.std.proofs.Common.{◌≡◌, ◌≤◌, length}
use Rattle.pipeline_parse.specs.Reading.{digits_at}
use Rattle.pipeline_parse.proofs.reading.read_digits.Given as goal

abbrev pub invariant-loop-byte : goal.invariant-loop-byte
invariant-loop-byte l = (l.number ≤ l.limit) × (l.number-2 ≤ l.number) × (digits_at l.limit l.number l.rest ≡ digits_at l.limit l.number-2 l.text)

abbrev pub decreases-loop-byte : goal.decreases-loop-byte
decreases-loop-byte l = length l.rest
