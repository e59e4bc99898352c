use Rattle.std.proofs.Common.{◌∙◌, sym, arith}
use Rattle.std.proofs.lemmas.Bool.{le-ltb}
use Rattle.history_members.proofs.Owners.{no_reader}
use Rattle.history_members.proofs.changes.reads.Goals as goal

pub returns-else-number-segments : goal.returns-else-number-segments
returns-else-number-segments c =
    le-ltb c.number.result c.segments.result c.if-number-segments.false
    ∙ sym (no_reader c.args.topology.now c.args.node c.args.segment c.segments.ensures.kept (omega (arith, c.segments.ensures.segments, c.if-number-segments.false)))
