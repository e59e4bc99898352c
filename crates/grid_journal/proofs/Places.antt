-- Events and notes by their places.
use Rattle.std.proofs.Common.{◌≡◌, ℕ, zero, suc, ◌+◌, ◌-◌, ◌<◌, ◌≤◌, List, [], ◌∷◌, ◌++◌, length, take, drop, Some, None, refl, sym, ap, ◌∙◌, append_assoc, arith, min, max}
use Rattle.std.proofs.lemmas.List.{append-nil, drop-drop, drop_min, length-take-le, length-drop, take_min, take_rest}
use Rattle.std.specs.List.{slice_get}
use Rattle.grid_event.specs.declared.event.Event.{Event}
use Rattle.grid_event.specs.declared.idle.Idle.{Idle}
use Rattle.grid_journal.specs.Reports.{events_text, idle_text, line, run_text}
use Rattle.event_texts.specs.Events.{event_text}
use Rattle.event_texts.specs.Words.{words}
use Rattle.std.specs.Prelude.{decimal}

-- the item at a place stands in front of those behind it
pub drop_found : {T : Type 0} (items : List T) (place : ℕ) (item : T) → slice_get items place ≡ Some item → drop place items ≡ item ∷ drop (suc place) items
drop_found [] place item found = cc
drop_found (first ∷ rest) zero item found = let same : first ≡ item = cc in ap (λ it. it ∷ rest) same
drop_found (first ∷ rest) (suc place) item found = drop_found rest place item found

-- behind the last place there is nothing
pub drop_missing : {T : Type 0} (items : List T) (place : ℕ) → slice_get items place ≡ None → drop place items ≡ []
drop_missing [] zero missing = refl
drop_missing [] (suc place) missing = refl
drop_missing (first ∷ rest) zero missing = cc
drop_missing (first ∷ rest) (suc place) missing = drop_missing rest place missing

-- the events from a place on are the first of them and those behind it
pub events_text_step : (place to : ℕ) (events : List Event) → place < to → to ≤ length events
    → events_text place (take (to - place) (drop place events))
    ≡ events_text place (take 1 (drop place events)) ++ events_text (place + 1) (take (to - (place + 1)) (drop (place + 1) events))
events_text_step place to events before within =
    let more : suc (to - (place + 1)) ≡ to - place = omega arith in
    let left : 0 < length (drop place events) = omega (arith, length-drop place events) in
    rw (← more, ← drop-drop 1 place events) (split place (to - (place + 1)) (drop place events) left)
  where
    split : (place n : ℕ) (items : List Event) → 0 < length items
        → events_text place (take (suc n) items) ≡ events_text place (take 1 items) ++ events_text (place + 1) (take n (drop 1 items))
    split place n [] left = absurd (omega arith)
    split place n (event ∷ items) left =
        ap (λ text. text ++ events_text (place + 1) (take n items)) (sym (append-nil (line (words (decimal (place + 1) ∷ event_text event ∷ [])))))

-- the event at a place is the first of those from there on
pub first_found : (events : List Event) (place : ℕ) (event : Event) → slice_get events place ≡ Some event → take 1 (drop place events) ≡ event ∷ []
first_found events place event found = rw (drop_found events place event found) refl

-- no event is missing below the number of events
pub never_missing : (events : List Event) (place : ℕ) → place < length events → None ≡ slice_get events (place + 1 - 1) → ⊥
never_missing events place there missing =
    let same : place + 1 - 1 ≡ place = omega arith in
    let none : drop place events ≡ [] = drop_missing events place (sym (missing ∙ ap (slice_get events) same)) in
    let empty : length (drop place events) ≡ 0 = ap length none in
    omega (arith, length-drop place events)

-- the line of the event at a place is the text of the events from there on, up to the next
pub event_at : (events : List Event) (place : ℕ) (event : Event) (out after : List ℕ)
    → Some event ≡ slice_get events (place + 1 - 1) → after ≡ out ++ line (words (decimal (place + 1) ∷ event_text event ∷ []))
    → after ≡ out ++ events_text place (take 1 (drop place events))
event_at events place event out after found added =
    let same : place + 1 - 1 ≡ place = omega arith in
    let text = line (words (decimal (place + 1) ∷ event_text event ∷ [])) in
    added ∙ ap (λ rest. out ++ rest) (sym (append-nil text) ∙ ap (events_text place) (sym (first_found events place event (sym (found ∙ ap (slice_get events) same)))))

-- one more event is printed, and the whole stays
pub events_step : (events : List Event) (place to : ℕ) (out after whole : List ℕ) → place < to → to ≤ length events
    → out ++ events_text place (take (to - place) (drop place events)) ≡ whole
    → after ≡ out ++ events_text place (take 1 (drop place events))
    → after ++ events_text (place + 1) (take (to - (place + 1)) (drop (place + 1) events)) ≡ whole
events_step events place to out after whole before within stands added =
    let rest = events_text (place + 1) (take (to - (place + 1)) (drop (place + 1) events)) in
    let one = events_text place (take 1 (drop place events)) in
    ap (λ text. text ++ rest) added
    ∙ (append_assoc out one rest
    ∙ (ap (λ text. out ++ text) (sym (events_text_step place to events before within)) ∙ stands))

-- behind the last note stand the events that are left
pub run_end : (events : List Event) (idle : List Idle) (place number count : ℕ) (out after whole : List ℕ) → count ≡ length events → None ≡ slice_get idle (number - 1)
    → out ++ run_text place (drop place events) (drop (number - 1) idle) ≡ whole
    → after ≡ out ++ events_text place (take (count - place) (drop place events)) → after ≡ whole
run_end events idle place number count out after whole counts missing stands added =
    added ∙ (ap (λ n. out ++ events_text place (take (n - place) (drop place events))) counts ∙ (ap (λ left. out ++ events_text place left) (take_rest events place)
    ∙ (ap (λ notes. out ++ run_text place (drop place events) notes) (sym (drop_missing idle (number - 1) (sym missing))) ∙ stands)))

-- the events before a note and the note are printed, and the whole stays
pub run_step : (events : List Event) (idle : List Idle) (note : Idle) (place number until count : ℕ) (out shown after whole : List ℕ)
    → count ≡ length events → Some note ≡ slice_get idle (number - 1) → 0 < number → place ≤ length events → until ≡ max place (min note.place count)
    → out ++ run_text place (drop place events) (drop (number - 1) idle) ≡ whole
    → shown ≡ out ++ events_text place (take (until - place) (drop place events)) → after ≡ shown ++ idle_text note
    → after ++ run_text until (drop until events) (drop (number + 1 - 1) idle) ≡ whole
run_step events idle note place number until count out shown after whole counts found counted within ends stands printed noted =
    let left = drop place events in
    let due = note.place - place in
    let many : length left ≡ length events - place = length-drop place events in
    let size : min due (length left) ≡ until - place = omega (arith, many, ends, counts) in
    let before : take due left ≡ take (until - place) left = sym (take_min due left) ∙ ap (λ n. take n left) size in
    let short : length (take (until - place) left) ≡ until - place = length-take-le (until - place) left (omega (arith, many, ends, counts)) in
    let reached : place + (until - place) ≡ until = omega (arith, ends) in
    let behind : drop due left ≡ drop until events =
    sym (drop_min due left) ∙ (ap (λ n. drop n left) size ∙ (drop-drop (until - place) place events ∙ ap (λ n. drop n events) reached)) in
    let next : suc (number - 1) ≡ number + 1 - 1 = omega arith in
    let notes : drop (number - 1) idle ≡ note ∷ drop (number + 1 - 1) idle = drop_found idle (number - 1) note (sym found) ∙ ap (λ n. note ∷ drop n idle) next in
    let rest = drop (number + 1 - 1) idle in
    let tail = run_text until (drop until events) rest in
    let place_is : place + length (take due left) ≡ until = ap (λ items. place + length items) before ∙ (ap (λ n. place + n) short ∙ reached) in
    let opened : run_text place left (note ∷ rest) ≡ events_text place (take (until - place) left) ++ (idle_text note ++ tail) =
    ap (λ items. events_text place items ++ (idle_text note ++ run_text (place + length (take due left)) (drop due left) rest)) before
    ∙ (ap (λ at. events_text place (take (until - place) left) ++ (idle_text note ++ run_text at (drop due left) rest)) place_is
    ∙ ap (λ items. events_text place (take (until - place) left) ++ (idle_text note ++ run_text until items rest)) behind) in
    ap (λ text. text ++ tail) noted
    ∙ (append_assoc shown (idle_text note) tail
    ∙ (ap (λ text. text ++ (idle_text note ++ tail)) printed
    ∙ (append_assoc out (events_text place (take (until - place) left)) (idle_text note ++ tail)
    ∙ (ap (λ text. out ++ text) (sym opened)
    ∙ (ap (λ items. out ++ run_text place left items) (sym notes) ∙ stands)))))
