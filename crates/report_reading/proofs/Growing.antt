-- A report's front grows by a line for each event and each note.
use Rattle.std.proofs.Common.{◌≡◌, ℕ, suc, zero, ◌+◌, ◌-◌, ◌≤◌, ◌==◌, nat_le, Bool, true, false, ◌&&◌, List, [], ◌∷◌, ◌++◌, length, take, drop, refl, sym, ap, ◌∙◌, subst, arith, append_assoc}
use Rattle.std.specs.Fmt.{decimal}
use Rattle.std.proofs.lemmas.Bool.{and_parts, le-leb, leb-true}
use Rattle.std.proofs.lemmas.List.{append-nil, drop-append-le, length-append, length-drop, length-take-le, take-append-le}
use Rattle.grid_event.specs.declared.event.Event.{Event}
use Rattle.grid_event.specs.declared.idle.Idle.{Idle}
use Rattle.event_texts.specs.Events.{event_text}
use Rattle.grid_journal.specs.Reports.{events_text, idle_text, line, run_text}
use Rattle.event_texts.specs.Words.{words}
use Rattle.grid_event.specs.Histories.{are_placed}
use Rattle.grid_event.proofs.PlacedNotes.{first_placed}

-- the line of the event behind so many others
abbrev pub event_line : ℕ → Event → List ℕ
event_line place event = line (words (decimal (place + 1) ∷ event_text event ∷ []))

-- the lines of events grow by the line of one more
pub events_more : (place : ℕ) (events : List Event) (event : Event) → events_text place (events ++ event ∷ []) ≡ events_text place events ++ event_line (place + length events) event
events_more place [] event = append-nil (event_line place event) ∙ ap (λ n. event_line n event) (omega arith)
events_more place (first ∷ events) event =
    ap (λ z. event_line place first ++ z) (events_more (place + 1) events event ∙ ap (λ n. events_text (place + 1) events ++ event_line n event) (omega arith))
    ∙ sym (append_assoc (event_line place first) (events_text (place + 1) events) (event_line (place + suc (length events)) event))

-- one more event
pub run_event : (place : ℕ) (events : List Event) (idle : List Idle) (event : Event) → are_placed place (place + length events) idle ≡ true →
    run_text place (events ++ event ∷ []) idle ≡ run_text place events idle ++ event_line (place + length events) event
run_event place events [] event h = events_more place events event
run_event place events (note ∷ notes) event h =
    let f = first_placed place (place + length events) note notes h in
    let k = note.place - place in
    let few : k ≤ length events = let a = f.from in let b = f.to in omega arith in
    let size : length (take k events) ≡ k = length-take-le k events few in
    let left : length (drop k events) ≡ length events - k = length-drop k events in
    let here : place + k ≡ note.place = let a = f.from in omega arith in
    let placed : are_placed (place + k) (place + k + length (drop k events)) notes ≡ true =
    (λ i. are_placed (here i) (omega_last left few i) notes) ∙ f.others in
    let rest = run_event (place + k) (drop k events) notes event placed in
    let before = events_text place (take k events) in
    (λ i. events_text place (take-append-le k events (event ∷ []) few i) ++ (idle_text note ++ run_text (place + length (take-append-le k events (event ∷ []) few i)) (drop-append-le k events (event ∷ []) few i) notes))
    ∙ (ap (λ n. before ++ (idle_text note ++ run_text (place + n) (drop k events ++ event ∷ []) notes)) size
    ∙ (ap (λ z. before ++ (idle_text note ++ z)) rest
    ∙ (ap (λ n. before ++ (idle_text note ++ (run_text (place + k) (drop k events) notes ++ event_line n event))) (omega_last left few)
    ∙ (ap (λ z. before ++ z) (sym (append_assoc (idle_text note) (run_text (place + k) (drop k events) notes) (event_line (place + length events) event)))
    ∙ (sym (append_assoc before (idle_text note ++ run_text (place + k) (drop k events) notes) (event_line (place + length events) event))
    ∙ ap (λ n. (before ++ (idle_text note ++ run_text (place + n) (drop k events) notes)) ++ event_line (place + length events) event) (sym size))))))
  where
    omega_last : length (drop (note.place - place) events) ≡ length events - (note.place - place) → note.place - place ≤ length events → place + (note.place - place) + length (drop (note.place - place) events) ≡ place + length events
    omega_last left few = omega arith

-- one more note, behind all events
pub run_note : (place : ℕ) (events : List Event) (idle : List Idle) (last : Idle) → are_placed place (place + length events) idle ≡ true → last.place ≡ place + length events →
    run_text place events (idle ++ last ∷ []) ≡ run_text place events idle ++ idle_text last
run_note place events [] last h at =
    let k = last.place - place in
    let all : k ≡ length events = omega arith in
    (λ i. events_text place (take (all i) events) ++ (idle_text last ++ events_text (place + length (take (all i) events)) (drop (all i) events)))
    ∙ (λ i. events_text place (take_all events i) ++ (idle_text last ++ events_text (place + length (take_all events i)) (drop_all events i)))
    ∙ ap (λ z. events_text place events ++ z) (append-nil (idle_text last))
  where
    take_all : (xs : List Event) → take (length xs) xs ≡ xs
    take_all [] = refl
    take_all (x ∷ xs) = ap (λ z. x ∷ z) (take_all xs)

    drop_all : (xs : List Event) → drop (length xs) xs ≡ []
    drop_all [] = refl
    drop_all (x ∷ xs) = drop_all xs
run_note place events (note ∷ notes) last h at =
    let f = first_placed place (place + length events) note notes h in
    let k = note.place - place in
    let few : k ≤ length events = let a = f.from in let b = f.to in omega arith in
    let size : length (take k events) ≡ k = length-take-le k events few in
    let left : length (drop k events) ≡ length events - k = length-drop k events in
    let here : place + k ≡ note.place = let a = f.from in omega arith in
    let placed : are_placed (place + k) (place + k + length (drop k events)) notes ≡ true =
    (λ i. are_placed (here i) (omega_last left few i) notes) ∙ f.others in
    let rest = run_note (place + k) (drop k events) notes last placed (at ∙ sym (omega_last left few)) in
    let before = events_text place (take k events) in
    ap (λ n. before ++ (idle_text note ++ run_text (place + n) (drop k events) (notes ++ last ∷ []))) size
    ∙ (ap (λ z. before ++ (idle_text note ++ z)) rest
    ∙ (ap (λ z. before ++ z) (sym (append_assoc (idle_text note) (run_text (place + k) (drop k events) notes) (idle_text last)))
    ∙ (sym (append_assoc before (idle_text note ++ run_text (place + k) (drop k events) notes) (idle_text last))
    ∙ ap (λ n. (before ++ (idle_text note ++ run_text (place + n) (drop k events) notes)) ++ idle_text last) (sym size))))
  where
    omega_last : length (drop (note.place - place) events) ≡ length events - (note.place - place) → note.place - place ≤ length events → place + (note.place - place) + length (drop (note.place - place) events) ≡ place + length events
    omega_last left few = omega arith
