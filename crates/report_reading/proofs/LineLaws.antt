-- A line of a report is read as what it says, and says what is read.
use Rattle.std.proofs.Common.{◌≡◌, ℕ, suc, ◌+◌, ◌≤◌, ◌<◌, ◌==◌, nat_le, Bool, true, false, not, ◌&&◌, cond, if◌then◌else◌, List, [], ◌∷◌, ◌++◌, length, Option, Some, None, Result, Ok, Err, refl, sym, ap, ◌∙◌, subst, arith, append_assoc, true≢false, eqb-true}
use Rattle.std.specs.Fmt.{decimal}
use Rattle.std.specs.Prelude.{codes}
use Rattle.std.proofs.lemmas.Bool.{eq-eqb, le-leb}
use Rattle.std.proofs.lemmas.List.{append-nil}
use Rattle.std.proofs.lemmas.Option.{none-some, same_Some}
use Rattle.grid_event.specs.declared.event.Event.{Event}
use Rattle.pipeline_parse.specs.Reading.{is_digit, literal_at}
use Rattle.event_texts.specs.Events.{event_text}
use Rattle.event_texts.specs.Fits.{event_fits}
use Rattle.event_texts.specs.Reading.{Reading, after, begins_number, behind, by_word, choice, event_of, made, number, number_in, whole_of}
use Rattle.event_texts.specs.Words.{words}
use Rattle.event_texts.proofs.EventLaws.{event_found, event_full}
use Rattle.event_texts.proofs.NumberLaws.{number_begins, number_in_law, number_law}
use Rattle.event_texts.proofs.ReadLaws.{Sound, SoundBehind, after_found, behind_sound, choice_sound, made_behind, other_byte, other_missed}
use Rattle.pipeline_parse.proofs.WordLaws.{literal_own}
use Rattle.pipeline_parse.proofs.Full.{calm}
use Rattle.event_texts.proofs.ReadLaws.{Told as Stands}
use Rattle.report_reading.specs.ReportLines.{ReportLine, Note, Told, End, end_in, event_in, line_fits, line_of, line_text, this_number, told_by}

-- a reading of the whole leaves nothing
whole_is : {A : Type 0} (r : Reading A) (a : A) → whole_of r ≡ Some a → r ≡ Some (a, [])
whole_is None a e = absurd (none-some a e)
whole_is (Some (x, [])) a e = ap (λ z. Some (z, [])) (same_Some x a e)
whole_is (Some (x, b ∷ s)) a e = absurd (none-some a e)

-- this very number is read
this_sound : (n : ℕ) → Sound (λ (m : ℕ). decimal n) (λ m. true) (this_number n)
this_sound n s p e =
    let f = after_found (number 4294967295 s) (λ found rest. if found == n then Some (n, rest) else None) p e in
    let l = (number_law 4294967295 (omega arith) (omega arith)).sound s f.0 f.1 in
    by_test f.0.0 f.0.1 (f.0.0 == n) refl f.2 l.0
  where
    by_test : (m : ℕ) (rest : List ℕ) → (b : Bool) → (m == n) ≡ b → cond b (Some (n, rest)) None ≡ Some p → s ≡ decimal m ++ rest → Stands (λ (m : ℕ). decimal n) (λ m. true) s p
    by_test m rest true t e l = (l ∙ ap (λ k. decimal k ++ rest) (eqb-true m n t) ∙ ap (λ (q : ℕ × List ℕ). decimal n ++ q.1) (same_Some (n, rest) p e), refl)
    by_test m rest false t e l = absurd (none-some p e)

-- the number of a line is read as it is written
this_full : (n : ℕ) (y : List ℕ) → n ≤ 4294967295 → calm y ≡ true → this_number n (decimal n ++ y) ≡ Some (n, y)
this_full n y small ended =
    ap (λ r. after r (λ found rest. if found == n then Some (n, rest) else None)) ((number_law 4294967295 (omega arith) (omega arith)).full n y (le-leb n 4294967295 small) ended)
    ∙ ap (λ b. if b then Some (n, y) else None) (eq-eqb n n refl)

-- the texts of the three kinds of lines
end_sound : (count : ℕ) → SoundBehind (codes "end") (line_text count) line_fits (end_in count)
end_sound count s p e =
    let f = after_found (behind (codes " ") (this_number count) s) (λ a rest. Some (End, rest)) p e in
    let l = behind_sound (codes " ") (λ (m : ℕ). decimal count) (λ m. true) (this_sound count) s f.0 f.1 in
    subst (Stands (line_text count) line_fits (codes "end" ++ s)) (same_Some (End, f.0.1) p f.2)
    (ap (λ z. codes "end" ++ z) l.0, refl)

-- what is read as an event's line is that line
told_sound : (event : Option Event) (s : List ℕ) (count : ℕ) (p : ReportLine × List ℕ) → event_of s ≡ event → told_by event ≡ Some p → Stands (line_text count) line_fits (decimal (count + 1) ++ (32 ∷ s)) p
told_sound None s count p is e = absurd (none-some p e)
told_sound (Some event) s count p is e =
    let l = event_found s event is in
    subst (Stands (line_text count) line_fits (decimal (count + 1) ++ (32 ∷ s))) (same_Some (Told event, []) p e)
    (ap (λ z. decimal (count + 1) ++ (32 ∷ z)) (sym l.0) ∙ sym (append-nil (decimal (count + 1) ++ (32 ∷ event_text event))), l.1)

-- and so it is with the number in front
event_sound : (count : ℕ) → Sound (line_text count) line_fits (event_in count)
event_sound count s p e =
    let f = after_found (this_number (count + 1) s) (λ n rest. behind (codes " ") (λ text. told_by (event_of text)) rest) p e in
    let l = this_sound (count + 1) s f.0 f.1 in
    by_blank f.0.1 l.0 (literal_at (codes " ") f.0.1) refl f.2
  where
    blank_found : (s y : List ℕ) → literal_at (32 ∷ []) s ≡ Ok y → s ≡ 32 ∷ y
    blank_found [] y e = cc
    blank_found (b ∷ s) y e = go (b == 32) refl e
      where
        go : (t : Bool) → (b == 32) ≡ t → cond t (Ok s) (Err (suc (length s))) ≡ Ok y → b ∷ s ≡ 32 ∷ y
        go true f g = (let same : s ≡ y = cc in λ i. eqb-true b 32 f i ∷ same i)
        go false f g = cc

    by_blank : (rest : List ℕ) → s ≡ decimal (count + 1) ++ rest → (o : Result (List ℕ) ℕ) → literal_at (codes " ") rest ≡ o → by_word o (λ text. told_by (event_of text)) None ≡ Some p → Stands (line_text count) line_fits s p
    by_blank rest is (Ok text) f e =
        subst (λ z. Stands (line_text count) line_fits z p) (sym (is ∙ ap (λ z. decimal (count + 1) ++ z) (blank_found rest text f)))
        (told_sound (event_of text) text count p refl e)
    by_blank rest is (Err left) f e = absurd (none-some p e)

-- what is read of a line is its text
pub line_sound : (count : ℕ) (s : List ℕ) (l : ReportLine) → line_of count s ≡ Some l → (line_text count l ≡ s) × (line_fits l ≡ true)
line_sound count s l e =
    let whole = whole_is (choice (codes "- idle") (made Note (number_in 4294967295)) (choice (codes "end") (end_in count) (event_in count)) s) l e in
    let stands = choice_sound (codes "- idle") (line_text count) line_fits
    (made_behind (codes "- idle") Note (line_text count) line_fits (λ n. refl) (λ n. refl) (number_in_law 4294967295 (omega arith) (omega arith)))
    (choice_sound (codes "end") (line_text count) line_fits (end_sound count) (event_sound count)) s (l, []) whole in
    (sym (append-nil (line_text count l)) ∙ sym stands.0, stands.1)

-- a byte that is no digit doesn't stand in front of a number
digit_other : (a : ℕ) (s : List ℕ) → is_digit a ≡ false → begins_number s ≡ true → other_byte a s ≡ true
digit_other a [] e h = refl
digit_other a (b ∷ s) e h = go (b == a) refl
  where
    go : (t : Bool) → (b == a) ≡ t → not t ≡ true
    go true f = absurd (true≢false (sym h ∙ ap is_digit (eqb-true b a f) ∙ e))
    go false f = refl

-- and each text is read
pub line_full : (count : ℕ) (l : ReportLine) → count < 4294967295 → line_fits l ≡ true → line_of count (line_text count l) ≡ Some l
line_full count (Note n) small keeps =
    ap (λ z. whole_of (made Note (number_in 4294967295) z)) (sym (append-nil (32 ∷ decimal n)))
    ∙ ap (λ r. whole_of (after r (λ a rest. Some (Note a, rest)))) ((number_in_law 4294967295 (omega arith) (omega arith)).full n [] keeps refl)
line_full count End small keeps =
    ap (λ z. whole_of (after (this_number count z) (λ a rest. Some (End, rest)))) (sym (append-nil (decimal count)))
    ∙ ap (λ r. whole_of (after r (λ a rest. Some (End, rest)))) (this_full count [] (omega arith) refl)
line_full count (Told event) small keeps =
    let begins = number_begins 4294967295 (count + 1) (32 ∷ event_text event) (omega arith) (omega arith) in
    let s = decimal (count + 1) ++ (32 ∷ event_text event) in
    let no_note = other_missed 45 (32 ∷ codes "idle") s (digit_other 45 s refl begins) in
    let no_end = other_missed 101 (codes "nd") s (digit_other 101 s refl begins) in
    ap (λ o. whole_of (by_word o (made Note (number_in 4294967295)) (choice (codes "end") (end_in count) (event_in count) s))) no_note.1
    ∙ (ap (λ o. whole_of (by_word o (end_in count) (event_in count s))) no_end.1
    ∙ (ap (λ r. whole_of (after r (λ n rest. behind (codes " ") (λ text. told_by (event_of text)) rest))) (this_full (count + 1) (32 ∷ event_text event) (omega arith) refl)
    ∙ ap (λ o. whole_of (told_by o)) (event_full event keeps)))
