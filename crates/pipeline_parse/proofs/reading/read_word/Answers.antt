use Rattle.std.proofs.Common.{sym, ◌∙◌, arith}
use Rattle.pipeline_parse.proofs.Steps.{word_ends, word_leaves}
use Rattle.pipeline_parse.proofs.reading.read_word.Goals as goal

pub loop-choice-init : goal.loop-choice-init
loop-choice-init g c = (omega arith, word_leaves g.W.Word.word c.args.choices.now c.args.text.now)

pub returns : goal.returns
returns g c = sym c.loop-choice.invariant.1 ∙ word_ends g.W.Word.word c.args.choices.now c.loop-choice.choice-index c.args.text.now c.loop-choice.left (omega arith) c.loop-choice.invariant.0
