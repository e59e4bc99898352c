-- A history stays in its limits with a line more, and its front grows by that line.
use Rattle.std.proofs.Common.{◌≡◌, ℕ, suc, ◌+◌, ◌≤◌, ◌<◌, nat_lt, nat_le, Bool, true, false, ◌&&◌, ◌||◌, List, [], ◌∷◌, ◌++◌, length, refl, sym, ap, ◌∙◌, subst, arith, append_assoc}
use Rattle.std.specs.List.{list_all}
use Rattle.std.proofs.lemmas.Bool.{and_parts, le-leb, leb-true, leb-false, ltb-false}
use Rattle.std.proofs.lemmas.List.{append-nil, length-append}
use Rattle.std.proofs.lemmas.List.Folds.{list_all-append}
use Rattle.grid_base.specs.declared.limits.TheConstants.{MOST_EVENTS, MOST_WEIGHT}
use Rattle.grid_event.specs.Histories.{History, are_placed, passes_limit, with_event, with_idle}
use Rattle.grid_event.specs.Weights.{total_weight, weight_of}
use Rattle.grid_event.specs.declared.event.Event.{Event}
use Rattle.grid_event.specs.declared.idle.Idle.{Idle}
use Rattle.grid_event.proofs.TotalWeights.{HasRoom, room-passes_limit, total_weight-push}
use Rattle.event_texts.specs.Fits.{event_fits, is_u32}
use Rattle.grid_journal.specs.Reports.{head_text, line, report_text, run_text}
use Rattle.report_reading.specs.ReportLines.{Note, Told, End, line_text}
use Rattle.report_reading.specs.WholeReports.{IsKeepable, front_text}
use Rattle.report_reading.proofs.Growing.{run_event, run_note}
use Rattle.grid_event.proofs.PlacedNotes.{placed_event, placed_note}

-- a list with one more is longer by one
one_more : {A : Type 0} (xs : List A) (x : A) → length (xs ++ x ∷ []) ≡ length xs + 1
one_more xs x = length-append xs (x ∷ [])

-- all of a list pass with one more that does
all_more : {A : Type 0} (test : A → Bool) (xs : List A) (x : A) → list_all test xs ≡ true → test x ≡ true → list_all test (xs ++ x ∷ []) ≡ true
all_more test xs x all one = list_all-append test xs (x ∷ []) ∙ (λ i. all i && (one i && true))

-- a history in its limits stays so with an event that fits and passes none
pub keep_event : (h : History) (event : Event) → IsKeepable h → event_fits event ≡ true → passes_limit h event ≡ false → IsKeepable (with_event h event)
keep_event h event k fits room =
    let free = room-passes_limit h event (sym room) in
    record {
      settings = k.settings;
      few = (let a = one_more h.events event in let b = free.one_more in omega arith);
      light = (let a = total_weight-push h.events event in let b = free.fits in omega arith);
      fit = all_more event_fits h.events event k.fit fits;
      placed = ap (λ n. are_placed 0 n h.idle) (one_more h.events event) ∙ placed_event 0 (length h.events) h.idle k.placed;
      numbered = k.numbered;
    }

-- and with an idle note
pub keep_note : (h : History) (number : ℕ) → IsKeepable h → is_u32 number ≡ true → IsKeepable (with_idle h number)
keep_note h number k fits = record {
  settings = k.settings;
  few = k.few;
  light = k.light;
  fit = k.fit;
  placed = placed_note 0 (length h.events) h.idle number (omega arith) k.placed;
  numbered = all_more (λ (note : Idle). is_u32 note.line) h.idle (record { place = length h.events; line = number }) k.numbered fits;
}

-- none and a number are the number
pub zero_sum : (n : ℕ) → 0 + n ≡ n
zero_sum n = omega arith

-- the front grows by the line of an event
pub front_event : (h : History) (event : Event) → IsKeepable h → front_text (with_event h event) ≡ front_text h ++ line (line_text (length h.events) (Told event))
front_event h event k =
    ap (λ z. head_text h.config ++ z)
    (run_event 0 h.events h.idle event (ap (λ n. are_placed 0 n h.idle) (zero_sum (length h.events)) ∙ k.placed)
    ∙ ap (λ n. run_text 0 h.events h.idle ++ line (line_text n (Told event))) (zero_sum (length h.events)))
    ∙ sym (append_assoc (head_text h.config) (run_text 0 h.events h.idle) (line (line_text (length h.events) (Told event))))

-- and by the line of a note
pub front_note : (h : History) (number : ℕ) → IsKeepable h → front_text (with_idle h number) ≡ front_text h ++ line (line_text (length h.events) (Note number))
front_note h number k =
    ap (λ z. head_text h.config ++ z) (run_note 0 h.events h.idle (record { place = length h.events; line = number }) (ap (λ n. are_placed 0 n h.idle) (zero_sum (length h.events)) ∙ k.placed) (omega arith))
    ∙ sym (append_assoc (head_text h.config) (run_text 0 h.events h.idle) (line (line_text (length h.events) (Note number))))

-- a report is its front and the last line
pub whole_text : (h : History) → report_text h ≡ front_text h ++ line (line_text (length h.events) End)
whole_text h = sym (append_assoc (head_text h.config) (run_text 0 h.events h.idle) (line (line_text (length h.events) End)))
