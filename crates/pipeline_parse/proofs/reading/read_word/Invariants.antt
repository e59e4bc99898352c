use Rattle.std.proofs.Common.{◌≡◌, ◌≤◌, drop, length}
use Rattle.pipeline_parse.specs.Reading.{word_at}
use Rattle.pipeline_parse.proofs.Steps.{least}
use Rattle.pipeline_parse.proofs.reading.read_word.Given as goal

abbrev pub invariant-loop-choice : goal.invariant-loop-choice
invariant-loop-choice g l = (l.left ≤ length l.text) × (least l.left (word_at g.W.Word.word (drop l.choice-index l.choices) l.text) ≡ word_at g.W.Word.word l.choices l.text)
