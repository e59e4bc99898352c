-- Readings of what calls ask for, of rounds and of outcomes are exact.
use Rattle.std.proofs.Common.{◌≡◌, ℕ, suc, ◌≤◌, Bool, true, false, ◌&&◌, cond, nat_le, List, [], ◌∷◌, ◌++◌, length, map, codes, Option, Some, None, Result, Ok, Err, refl, sym, ap, ◌∙◌, subst, arith, append_assoc, true≢false, eqb-true, length-append}
use Rattle.std.specs.List.{join_with_byte, list_all}
use Rattle.std.specs.Fmt.{decimal}
use Rattle.std.proofs.lemmas.Bool.Decides.{nat_tests}
use Rattle.std.proofs.lemmas.List.{append-nil}
use Rattle.std.proofs.lemmas.Option.{none-some, same_Some}
use Rattle.grid_base.specs.declared.datum.Datum.{Datum}
use Rattle.delivery_mode.specs.declared.guarantee.Guarantee.{Guarantee}
use Rattle.delivery_mode.specs.declared.guarantee.Guarantee.TheVariants as guarantees
use Rattle.grid_event.specs.declared.call_events.Ask.{Ask}
use Rattle.grid_event.specs.declared.outcome.Outcome.{Outcome}
use Rattle.grid_event.specs.declared.outcome.Outcome.TheVariants as outcomes
use Rattle.grid_event.specs.declared.request.Request.{Request}
use Rattle.pipeline_expr.specs.declared.answer.Answer.{Answer}
use Rattle.pipeline_expr.specs.declared.answer.Answer.TheVariants as answers
use Rattle.pipeline_expr.specs.declared.pipeline.Pipeline.{Pipeline}
use Rattle.pipeline_parse.specs.Answers.{Explains}
use Rattle.pipeline_parse.specs.Grammar.{StopsAt, datum_text, fits, text_of}
use Rattle.pipeline_parse.specs.declared.parse_fault.ParseFault.{ParseFault}
use Rattle.pipeline_parse.specs.declared.parse_fault.ParseFault.TheVariants.{Syntax}
use Rattle.pipeline_parse.specs.Parsing.{pipeline_at}
use Rattle.pipeline_parse.proofs.Exactness as exact
use Rattle.pipeline_parse.proofs.Full.{calm}
use Rattle.pipeline_parse.proofs.ParseLaws.{both_fit}
use Rattle.pipeline_parse.proofs.WordLaws.{both_true}
use Rattle.event_texts.specs.Events.{answer_text, ask_text, asks_text, best_text, guarantee_text, last_text, outcome_text, request_text, runs_text}
use Rattle.event_texts.specs.Fits.{answer_fits, ask_fits, best_fits, is_u16, is_u32, is_u64, is_u8, outcome_fits, pipeline_fits, request_fits}
use Rattle.event_texts.specs.Reading.{Reading, after, answer_in, ask, asks, begins_number, behind, by_word, choice, datum, guarantee_in, just, last_in, made, more, no_bar, number, number_in, outcome_in, pairs, pipeline, request_in, runs_in, whole_pipeline}
use Rattle.event_texts.specs.Words.{each_behind}
use Rattle.event_texts.proofs.Joining.{joined_from_first}
use Rattle.event_texts.proofs.ReadLaws.{Law, Sound, Told, after_found, at_end, at_last, behind_law, behind_sound, choice_sound, just_behind, made_behind, made_law, more_full, more_sound, none_in_way, nothing_sound, other_missed, pair_law}
use Rattle.event_texts.proofs.NumberLaws.{datum_law, datum_other, end_is_calm, end_is_other, int_law, number_begins, number_in_law, number_law}
use Rattle.event_texts.proofs.FieldLaws.{any, blank_law, items_law}

-- a number of 8, 16 or 32 bits behind a blank
pub u8_law : Law calm (λ n. 32 ∷ decimal n) is_u8 (number_in 255)
u8_law = number_in_law 255 (omega arith) (omega arith)

-- numbers below 65,536 are read exactly behind a blank
pub u16_law : Law calm (λ n. 32 ∷ decimal n) is_u16 (number_in 65535)
u16_law = number_in_law 65535 (omega arith) (omega arith)

-- and so are those below 2 ^ 32
pub u32_law : Law calm (λ n. 32 ∷ decimal n) is_u32 (number_in 4294967295)
u32_law = number_in_law 4294967295 (omega arith) (omega arith)

-- whether a batch is the last one
pub last_law : Law at_end (λ b. 32 ∷ last_text b) any last_in
last_law = record {
  sound =
      behind_sound (32 ∷ []) last_text any
      (choice_sound (codes "last") last_text any (just_behind (codes "last") true last_text any refl refl)
      (choice_sound (codes "more") last_text any (just_behind (codes "more") false last_text any refl refl) (nothing_sound last_text any)));
  full = each;
}
  where
    each : (b : Bool) (y : List ℕ) → any b ≡ true → at_end y ≡ true → last_in ((32 ∷ last_text b) ++ y) ≡ Some (b, y)
    each true y keeps ended = refl
    each false y keeps ended = refl

-- whether a unit runs
pub runs_law : Law at_end (λ b. 32 ∷ runs_text b) any runs_in
runs_law = record {
  sound =
      behind_sound (32 ∷ []) runs_text any
      (choice_sound (codes "run") runs_text any (just_behind (codes "run") true runs_text any refl refl)
      (choice_sound (codes "refuse") runs_text any (just_behind (codes "refuse") false runs_text any refl refl) (nothing_sound runs_text any)));
  full = each;
}
  where
    each : (b : Bool) (y : List ℕ) → any b ≡ true → at_end y ≡ true → runs_in ((32 ∷ runs_text b) ++ y) ≡ Some (b, y)
    each true y keeps ended = refl
    each false y keeps ended = refl

-- a guarantee
pub guarantee_law : Law at_end (λ g. 32 ∷ guarantee_text g) any guarantee_in
unfolding guarantee_in
guarantee_law = record {
  sound =
      behind_sound (32 ∷ []) guarantee_text any
      (choice_sound (codes "exact") guarantee_text any (just_behind (codes "exact") guarantees.Exact guarantee_text any refl refl)
      (choice_sound (codes "atleast") guarantee_text any (just_behind (codes "atleast") guarantees.AtLeast guarantee_text any refl refl)
      (choice_sound (codes "atmost") guarantee_text any (just_behind (codes "atmost") guarantees.AtMost guarantee_text any refl refl) (nothing_sound guarantee_text any))));
  full = each;
}
  where
    each : (g : Guarantee) (y : List ℕ) → any g ≡ true → at_end y ≡ true → guarantee_in ((32 ∷ guarantee_text g) ++ y) ≡ Some (g, y)
    each guarantees.Exact y keeps ended = refl
    each guarantees.AtLeast y keeps ended = refl
    each guarantees.AtMost y keeps ended = refl

-- a pipeline
pub pipeline_law : Law at_last text_of pipeline_fits pipeline
pipeline_law = record { sound = from; full = whole }
  where
    from : Sound text_of pipeline_fits pipeline
    from s p e = go (nat_le (length s) 1024) refl (pipeline_at (suc (length s)) s) refl e
      where
        go : (t : Bool) → nat_le (length s) 1024 ≡ t → (o : Result Pipeline ℕ) → pipeline_at (suc (length s)) s ≡ o → cond t (whole_pipeline o) None ≡ Some p → Told text_of pipeline_fits s p
        go true f (Ok q) g h =
            let told = exact.found (suc (length s)) s q g in
            subst (Told text_of pipeline_fits s) (same_Some (q, []) p h)
            (sym told.0 ∙ sym (append-nil (text_of q)), both_fit (fits q) (nat_le (length (text_of q)) 1024) told.1 (ap (λ t. nat_le (length t) 1024) told.0 ∙ f))
        go true f (Err n) g h = absurd (none-some p h)
        go false f o g h = absurd (none-some p h)

    here : (s : List ℕ) (p : Pipeline) → fits p ≡ true → text_of p ≡ s → nat_le (length s) 1024 ≡ true → pipeline s ≡ Some (p, [])
    here s p keeps same short =
        ap (λ t. cond t (whole_pipeline (pipeline_at (suc (length s)) s)) None) short
        ∙ ap whole_pipeline (exact.only (suc (length s)) s p (omega arith) keeps same)

    whole : (p : Pipeline) (y : List ℕ) → pipeline_fits p ≡ true → at_last y ≡ true → pipeline (text_of p ++ y) ≡ Some (p, y)
    whole p (b ∷ y) keeps ended = absurd (true≢false (sym ended))
    whole p [] keeps ended =
        let h = both_true (fits p) (nat_le (length (text_of p)) 1024) keeps in
        ap pipeline (append-nil (text_of p)) ∙ here (text_of p) p h.0 refl h.1

-- the pipeline whose text this is is read
pub pipeline_found : (s : List ℕ) (p : Pipeline) → length s ≤ 1024 → text_of p ≡ s → fits p ≡ true → pipeline s ≡ Some (p, [])
pipeline_found s p short same keeps =
    ap (λ t. cond t (whole_pipeline (pipeline_at (suc (length s)) s)) None) (le_to (length s) 1024 short)
    ∙ ap whole_pipeline (exact.only (suc (length s)) s p (omega arith) keeps same)
  where
    le_to : (m n : ℕ) → m ≤ n → nat_le m n ≡ true
    le_to m n e = grind (arith, nat_tests)

-- the text of no pipeline is none
pub pipeline_none : (s : List ℕ) (fault : ParseFault) (at : ℕ) → fault ≡ Syntax at → Explains fault s → pipeline s ≡ None
pipeline_none s fault at is h = go (nat_le (length s) 1024) (pipeline_at (suc (length s)) s) refl (subst (λ f. Explains f s) is h)
  where
    go : (t : Bool) (o : Result Pipeline ℕ) → pipeline_at (suc (length s)) s ≡ o → StopsAt s at → cond t (whole_pipeline o) None ≡ None
    go true (Ok q) e stops = let told = exact.found (suc (length s)) s q e in absurd (stops.other q told.1 told.0)
    go true (Err n) e stops = refl
    go false o e stops = refl

-- what a call asks for
pub request_law : Law at_last (λ r. 32 ∷ request_text r) request_fits request_in
unfolding request_in request_text
request_law =
    made_law (λ (p : Guarantee × (ℕ × (ℕ × Pipeline))). record { guarantee = p.0; rounds = p.1.0; batch = p.1.1.0; pipeline = p.1.1.1 })
    (λ (r : Request). (r.guarantee, (r.rounds, (r.batch, r.pipeline)))) (λ r. 32 ∷ request_text r) request_fits (λ r. refl) (λ p. refl) (λ p. refl)
    (pair_law guarantee_law (pair_law u8_law (pair_law u16_law (blank_law pipeline_law) (λ x y e. refl)) (λ x y e. refl)) (λ x y e. refl))

-- a segment is read exactly behind its colon
colon_law : Law calm (λ n. 58 ∷ decimal n) is_u16 (behind (58 ∷ []) (number 65535))
colon_law = behind_law (58 ∷ []) (number_law 65535 (omega arith) (omega arith))

-- and a node behind its at sign
at_law : Law calm (λ n. 64 ∷ decimal n) is_u8 (behind (64 ∷ []) (number 255))
at_law = behind_law (64 ∷ []) (number_law 255 (omega arith) (omega arith))

-- an ask
pub ask_law : Law calm ask_text ask_fits ask
unfolding ask
ask_law =
    made_law (λ (p : ℕ × (ℕ × ℕ)). record { unit = p.0; segment = p.1.0; node = p.1.1 }) (λ (a : Ask). (a.unit, (a.segment, a.node))) ask_text ask_fits (λ a. refl) (λ p. refl) (λ p. refl)
    (pair_law (number_law 4294967295 (omega arith) (omega arith)) (pair_law colon_law at_law (λ x y e. refl)) (λ x y e. refl))

-- an ask begins with a digit
ask_begins : (a : Ask) (y : List ℕ) → ask_fits a ≡ true → begins_number (ask_text a ++ y) ≡ true
ask_begins a y keeps =
    let h = both_true (is_u32 a.unit) (is_u16 a.segment && is_u8 a.node) keeps in
    let tail = 58 ∷ (decimal a.segment ++ (64 ∷ decimal a.node)) in
    let low = le_from a.unit 4294967295 h.0 in
    ap begins_number (append_assoc (decimal a.unit) tail y) ∙ number_begins 4294967295 a.unit (tail ++ y) (omega arith) low
  where
    le_from : (m n : ℕ) → nat_le m n ≡ true → m ≤ n
    le_from m n e = grind (arith, nat_tests)

-- a comma ends a number
comma_is_calm : (s : List ℕ) → calm (44 ∷ s) ≡ true
comma_is_calm s = refl

-- no number begins where a text ends
end_no_number : (y : List ℕ) → at_end y ≡ true → begins_number y ≡ false
end_no_number [] e = refl
end_no_number (b ∷ y) e = ap (λ c. begins_number (c ∷ y)) (eqb-true b 32 e)

-- the asks of a round
pub asks_law : Law at_end asks_text (list_all ask_fits) asks
unfolding asks asks_text
asks_law = record { sound = λ s p e. from s p (begins_number s) e; full = whole }
  where
    next : Ask → List ℕ → Reading (List Ask)
    next first rest = more 44 ask no_bar (length rest) (first ∷ []) rest

    from : (s : List ℕ) (p : List Ask × List ℕ) (t : Bool) → cond t (after (ask s) next) (Some ([], s)) ≡ Some p → Told (λ l. join_with_byte 44 (map ask_text l)) (list_all ask_fits) s p
    from s p false e = subst (Told (λ l. join_with_byte 44 (map ask_text l)) (list_all ask_fits) s) (same_Some ([], s) p e) (refl, refl)
    from s p true e =
        let f = after_found (ask s) next p e in
        let l = ask_law.sound s f.0 f.1 in
        let h = more_sound 44 ask_text ask_fits no_bar ask calm ask_law comma_is_calm (length f.0.1) (f.0.0 ∷ []) f.0.1 p f.2 in (
          l.0 ∙ ap (λ z. ask_text f.0.0 ++ z) h.whole ∙ sym (append_assoc (ask_text f.0.0) (each_behind 44 (map ask_text h.list)) p.1)
              ∙ ap (λ z. z ++ p.1) (sym (joined_from_first 44 (ask_text f.0.0) (map ask_text h.list)))
              ∙ ap (λ list. join_with_byte 44 (map ask_text list) ++ p.1) (sym h.all),
          ap (list_all ask_fits) h.all ∙ both_fit (ask_fits f.0.0) (list_all ask_fits h.list) l.1 h.keeps,
        )

    calm_list : (list : List Ask) (y : List ℕ) → at_end y ≡ true → calm (each_behind 44 (map ask_text list) ++ y) ≡ true
    calm_list [] y e = end_is_calm y e
    calm_list (a ∷ list) y e = refl

    short : (list : List Ask) (y : List ℕ) → length list ≤ length (each_behind 44 (map ask_text list) ++ y)
    short [] y = omega arith
    short (a ∷ list) y =
        let h = short list y in
        omega (
          arith,
          length-append (ask_text a ++ each_behind 44 (map ask_text list)) y,
          length-append (ask_text a) (each_behind 44 (map ask_text list)),
          length-append (each_behind 44 (map ask_text list)) y,
        )

    whole : (list : List Ask) (y : List ℕ) → list_all ask_fits list ≡ true → at_end y ≡ true → asks (join_with_byte 44 (map ask_text list) ++ y) ≡ Some (list, y)
    whole [] y keeps ended = ap (λ t. cond t (after (ask y) next) (Some ([], y))) (end_no_number y ended)
    whole (a ∷ list) y keeps ended =
        let h = both_true (ask_fits a) (list_all ask_fits list) keeps in
        let rest = each_behind 44 (map ask_text list) in
        ap (λ z. asks (z ++ y)) (joined_from_first 44 (ask_text a) (map ask_text list))
        ∙ ap asks (append_assoc (ask_text a) rest y)
        ∙ ap (λ t. cond t (after (ask (ask_text a ++ (rest ++ y))) next) (Some ([], ask_text a ++ (rest ++ y)))) (ask_begins a (rest ++ y) h.0)
        ∙ ap (λ r. after r next) (ask_law.full a (rest ++ y) h.0 (calm_list list y ended))
        ∙ more_full 44 ask_text ask_fits no_bar ask calm ask_law comma_is_calm list (a ∷ []) (length (rest ++ y)) y (short list y) h.1 (none_in_way (a ∷ []) list) (end_is_calm y ended) (end_is_other 44 refl y ended)

-- the least or the greatest element
best_in : List ℕ → Reading (Option Datum)
best_in = behind (32 ∷ []) (choice (codes "none") (just None) (made Some datum))

-- the best value of an answer is read exactly, or that there is none
best_law : Law calm (λ b. 32 ∷ best_text b) best_fits best_in
unfolding best_in
best_law = record {
  sound =
      behind_sound (32 ∷ []) best_text best_fits
      (choice_sound (codes "none") best_text best_fits (just_behind (codes "none") None best_text best_fits refl refl) (made_behind [] Some best_text best_fits (λ d. refl) (λ d. refl) datum_law));
  full = each;
}
  where
    each : (b : Option Datum) (y : List ℕ) → best_fits b ≡ true → calm y ≡ true → best_in ((32 ∷ best_text b) ++ y) ≡ Some (b, y)
    each None y keeps ended = refl
    each (Some d) y keeps ended =
        ap (λ o. by_word o (just None) (made Some datum (datum_text d ++ y))) (other_missed 110 (codes "one") (datum_text d ++ y) (datum_other 110 refl refl refl d y keeps ended)).1
        ∙ ap (λ o. after o (λ d rest. Some (Some d, rest))) (datum_law.full d y keeps ended)

-- numbers below 2 ^ 64 are read exactly behind a blank
u64_law : Law calm (λ n. 32 ∷ decimal n) is_u64 (number_in 18446744073709551615)
u64_law = number_in_law 18446744073709551615 (omega arith) (omega arith)

-- the answer of a pipeline
pub answer_law : Law at_end (λ a. 32 ∷ answer_text a) answer_fits answer_in
unfolding answer_in answer_text best_in
answer_law = record {
  sound =
      behind_sound (32 ∷ []) answer_text answer_fits
      (choice_sound (codes "count") answer_text answer_fits (made_behind (codes "count") answers.Count answer_text answer_fits (λ n. refl) (λ n. refl) u64_law)
      (choice_sound (codes "sum") answer_text answer_fits (made_behind (codes "sum") answers.Sum answer_text answer_fits (λ n. refl) (λ n. refl) (blank_law int_law))
      (choice_sound (codes "best") answer_text answer_fits (made_behind (codes "best") answers.Best answer_text answer_fits (λ n. refl) (λ n. refl) best_law)
      (choice_sound (codes "list") answer_text answer_fits (made_behind (codes "list") answers.List answer_text answer_fits (λ n. refl) (λ n. refl) items_law) (nothing_sound answer_text answer_fits)))));
  full = each;
}
  where
    each : (a : Answer) (y : List ℕ) → answer_fits a ≡ true → at_end y ≡ true → answer_in ((32 ∷ answer_text a) ++ y) ≡ Some (a, y)
    each (answers.Count n) y keeps ended = ap (λ o. after o (λ n rest. Some (answers.Count n, rest))) (u64_law.full n y keeps (end_is_calm y ended))
    each (answers.Sum n) y keeps ended = ap (λ o. after o (λ n rest. Some (answers.Sum n, rest))) (int_law.full n y keeps (end_is_calm y ended))
    each (answers.Best b) y keeps ended = ap (λ o. after o (λ b rest. Some (answers.Best b, rest))) (best_law.full b y keeps (end_is_calm y ended))
    each (answers.List l) y keeps ended = ap (λ o. after o (λ l rest. Some (answers.List l, rest))) (items_law.full l y keeps ended)

-- the rounds of `again` and its suspect are read exactly
again_law : Law calm (λ (p : ℕ × ℕ). (32 ∷ decimal p.0) ++ (32 ∷ decimal p.1)) (λ p. is_u8 p.0 && is_u16 p.1) (pairs (number_in 255) (number_in 65535))
again_law = pair_law u8_law u16_law (λ x y e. refl)

-- how a call ended
pub outcome_law : Law at_end (λ o. 32 ∷ outcome_text o) outcome_fits outcome_in
unfolding outcome_in outcome_text
outcome_law = record {
  sound =
      behind_sound (32 ∷ []) outcome_text outcome_fits
      (choice_sound (codes "value") outcome_text outcome_fits (made_behind (codes "value") outcomes.Value outcome_text outcome_fits (λ a. refl) (λ a. refl) answer_law)
      (choice_sound (codes "ended") outcome_text outcome_fits (just_behind (codes "ended") outcomes.Ended outcome_text outcome_fits refl refl)
      (choice_sound (codes "again") outcome_text outcome_fits (made_behind (codes "again") (λ (p : ℕ × ℕ). outcomes.Again p.0 p.1) outcome_text outcome_fits (λ p. refl) (λ p. refl) again_law)
      (choice_sound (codes "segment_lost") outcome_text outcome_fits (made_behind (codes "segment_lost") outcomes.SegmentLost outcome_text outcome_fits (λ n. refl) (λ n. refl) u16_law)
      (choice_sound (codes "originator_left") outcome_text outcome_fits (just_behind (codes "originator_left") outcomes.OriginatorLeft outcome_text outcome_fits refl refl)
      (nothing_sound outcome_text outcome_fits))))));
  full = each;
}
  where
    each : (o : Outcome) (y : List ℕ) → outcome_fits o ≡ true → at_end y ≡ true → outcome_in ((32 ∷ outcome_text o) ++ y) ≡ Some (o, y)
    each (outcomes.Value a) y keeps ended = ap (λ o. after o (λ a rest. Some (outcomes.Value a, rest))) (answer_law.full a y keeps ended)
    each outcomes.Ended y keeps ended = refl
    each (outcomes.Again rounds suspect) y keeps ended = ap (λ o. after o (λ p rest. Some (outcomes.Again p.0 p.1, rest))) (again_law.full (rounds, suspect) y keeps (end_is_calm y ended))
    each (outcomes.SegmentLost segment) y keeps ended = ap (λ o. after o (λ n rest. Some (outcomes.SegmentLost n, rest))) (u16_law.full segment y keeps (end_is_calm y ended))
    each outcomes.OriginatorLeft y keeps ended = refl
