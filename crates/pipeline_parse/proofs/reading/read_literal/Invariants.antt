use Rattle.std.proofs.Common.{◌≡◌, drop}
use Rattle.pipeline_parse.specs.Reading.{literal_at}
use Rattle.pipeline_parse.proofs.reading.read_literal.Given as goal

abbrev pub invariant-loop-letter : goal.invariant-loop-letter
invariant-loop-letter l = (literal_at (drop l.letter-index l.letter-items) l.rest ≡ literal_at l.word l.text) × (l.letter-items ≡ l.word)
