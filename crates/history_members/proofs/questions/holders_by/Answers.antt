use Rattle.std.proofs.Common.{◌∙◌, sym, arith}
use Rattle.history_members.proofs.Owners.{no_holder}
use Rattle.history_members.proofs.questions.holders_by.Goals as goal

pub returns-else-number-segments : goal.returns-else-number-segments
returns-else-number-segments c =
    c.new.ensures ∙ sym (no_holder c.args.topology.now c.args.segment c.segments.ensures.kept (omega (arith, c.segments.ensures.segments, c.if-number-segments.false)))
