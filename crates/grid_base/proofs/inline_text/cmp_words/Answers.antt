use Rattle.std.proofs.Common.{◌∙◌, ◌+◌, ◌*◌, arith}
use Rattle.grid_base.proofs.Order.{decided, tied}
use Rattle.grid_base.proofs.inline_text.cmp_words.Goals as goal

pub returns-then-left-right : goal.returns-then-left-right
returns-then-left-right c =
    c.cmp.ensures
    ∙ decided (8 * c.loop-i.i) c.args.a.now c.args.b.now c.word-left.result c.word-right.result
    (omega arith) (omega arith) c.fits-a c.fits-b
    c.word-left.ensures c.word-right.ensures c.if-left-right.true c.loop-i.invariant

pub loop-i-preserved : goal.loop-i-preserved
loop-i-preserved c =
    tied (8 * c.loop-i.i) (8 * (c.loop-i.i + 1)) c.args.a.now c.args.b.now c.word-left.result c.word-right.result
    (omega arith) (omega arith) (omega arith) c.fits-a c.fits-b
    c.word-left.ensures c.word-right.ensures c.if-left-right.false c.loop-i.invariant
