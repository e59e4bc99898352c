use Rattle.std.proofs.Common.{sym, ◌∙◌}
use Rattle.std.proofs.lemmas.List.{nil_from_length}
use Rattle.pipeline_parse.proofs.Steps.{literal_ends}
use Rattle.pipeline_parse.proofs.reading.read_literal.Goals as goal

pub returns-in_default : goal.returns-in_default
returns-in_default c =
    sym c.loop-letter.invariant.0
    ∙ literal_ends c.as_bytes-letter-items.result.now c.loop-letter.rest.now c.loop-letter.letter-index c.loop-letter-test.true (nil_from_length c.loop-letter.rest.now c.in_default.ensures.cases)
