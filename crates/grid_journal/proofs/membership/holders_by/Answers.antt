use Rattle.std.proofs.Common.{◌∙◌, arith}
use Rattle.grid_journal.proofs.Telling.{no_holder}
use Rattle.grid_journal.proofs.membership.holders_by.Goals as goal

pub returns-else-number-segments : goal.returns-else-number-segments
returns-else-number-segments c =
    c.new.ensures ∙ no_holder c.args.topology.now c.args.segment c.segments.ensures.kept (omega (arith, c.segments.ensures.segments, c.if-number-segments.false))
