use Rattle.std.proofs.Common.{◌∙◌, ◌++◌, ◌+◌, ap, arith, length, take, drop, ◌-◌}
use Rattle.std.proofs.lemmas.Result.{on_ok_weaker}
use Rattle.pipeline_eval.specs.Lists.{between_blanks}
use Rattle.pipeline_eval.proofs.TextLemmas.{part_is_text}
use Rattle.pipeline_eval.proofs.WordLemmas.{word_items, words_left, words_left_first, run_ended, run_on, run_last}
use Rattle.pipeline_eval.proofs.words.push_words.Goals as goal
use Rattle.pipeline_eval.proofs.words.push_words.Goals.{then-byte-eq32+in_ok-push_word, else-byte-eq32}

pub loop-place-init : goal.loop-place-init
loop-place-init c = (omega arith, ap (λ ts. c.args.out.now.items ++ ts) (words_left_first c.args.bytes.now))

pub push_word-requires : goal.push_word-requires
push_word-requires c = part_is_text (c.loop-place.place - c.loop-place.start) c.loop-place.start c.args.bytes.now c.requires

pub loop-place-preserved : goal.loop-place-preserved
loop-place-preserved c =
    let bytes = c.args.bytes.now in
    let i = c.loop-place.place in
    let start = c.loop-place.start in
    let all = c.args.out.now.items ++ word_items (between_blanks bytes) in
    elim c.if-byte-eq32.branch [
      | then-byte-eq32+in_ok-push_word w ↦ (
        omega (arith, w.start-is),
        run_ended bytes i c.if-byte-eq32.start (take (i - start) (drop start bytes)) all c.loop-place.out.items c.if-byte-eq32.out.items c.loop-place-test.true w.if-byte-eq32.true w.start-is
            (ap (λ v. v.items) w.out-is ∙ w.in_ok-push_word.ensures) c.loop-place.invariant.1,
      )
      | else-byte-eq32 w ↦ (
        omega (arith, w.start-is, c.loop-place.invariant.0),
        ap (λ v. v.items ++ words_left (take (i + 1 - c.if-byte-eq32.start) (drop c.if-byte-eq32.start bytes)) (drop (i + 1) bytes)) w.out-is
            ∙ run_on bytes i c.if-byte-eq32.start start all c.loop-place.out.items c.loop-place-test.true w.if-byte-eq32.false w.start-is c.loop-place.invariant.0 c.loop-place.invariant.1,
      )
    ]

pub push_word-requires-2 : goal.push_word-requires-2
push_word-requires-2 c = part_is_text (length c.args.bytes.now - c.loop-place.start) c.loop-place.start c.args.bytes.now c.requires

pub returns : goal.returns
returns c =
    let bytes = c.args.bytes.now in
    let start = c.loop-place.start in
    on_ok_weaker c.push_word-2.result
    (run_last bytes c.loop-place.place start (c.args.out.now.items ++ word_items (between_blanks bytes)) c.loop-place.out.items c.push_word-2.new.out.items c.loop-place-test.false c.loop-place.auto.place-end c.loop-place.invariant.1)
    c.push_word-2.ensures
