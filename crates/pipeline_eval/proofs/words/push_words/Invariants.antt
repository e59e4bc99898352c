use Rattle.std.proofs.Common.{◌≡◌, ◌≤◌, ◌++◌, take, drop, ◌-◌}
use Rattle.pipeline_eval.specs.Lists.{between_blanks}
use Rattle.pipeline_eval.proofs.WordLemmas.{words_left, word_items}
use Rattle.pipeline_eval.proofs.words.push_words.Given as goal

abbrev pub invariant-loop-place : goal.invariant-loop-place
invariant-loop-place l =
    (l.start ≤ l.place)
    × (l.out.items ++ words_left (take (l.place - l.start) (drop l.start l.bytes)) (drop l.place l.bytes) ≡ l.fn.out.items ++ word_items (between_blanks l.bytes))
