use Rattle.std.proofs.Common.{◌≡◌, drop}
use Rattle.grid_shell.specs.Words.{after_words}
use Rattle.grid_shell.specs.declared.words.Reading.TheVariants.{First}
use Rattle.grid_shell.proofs.words.asked.Given as goal

abbrev pub invariant-loop-word : goal.invariant-loop-word
invariant-loop-word l = after_words l.reading (drop l.word-index l.words) ≡ after_words First l.words
