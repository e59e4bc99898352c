-- The front of a report is read as its history.
use Rattle.std.proofs.Common.{◌≡◌, ℕ, suc, zero, ◌+◌, ◌-◌, ◌≤◌, ◌<◌, ◌==◌, nat_lt, nat_le, Bool, true, false, ◌&&◌, ◌||◌, if◌then◌else◌, List, [], ◌∷◌, ◌++◌, length, take, drop, Option, Some, None, Result, Ok, Err, refl, sym, ap, ◌∙◌, subst, arith, append_assoc}
use Rattle.std.specs.List.{list_all}
use Rattle.std.proofs.lemmas.Bool.{and_parts, le-leb, leb-true, lt-ltb, le-ltb, lt-leb, leb-false}
use Rattle.std.proofs.lemmas.Bool.Decides.{nat_tests}
use Rattle.std.proofs.lemmas.List.{append-nil, length-append, length-drop, length-take-le, take-append-drop}
use Rattle.grid_base.proofs.DatumLemmas.{same_bytes_decides}
use Rattle.grid_base.specs.Datum.{same_bytes}
use Rattle.grid_base.specs.declared.limits.TheConstants.{MOST_EVENTS, MOST_WEIGHT}
use Rattle.grid_event.specs.Configs.{is_config}
use Rattle.grid_event.specs.Histories.{History, are_placed, blank, passes_limit, with_event, with_idle}
use Rattle.grid_event.specs.Weights.{total_weight, weight_of}
use Rattle.grid_event.specs.declared.config.Config.{Config}
use Rattle.grid_event.specs.declared.event.Event.{Event}
use Rattle.grid_event.specs.declared.idle.Idle.{Idle}
use Rattle.grid_event.proofs.TotalWeights.{total_weight-push}
use Rattle.event_texts.specs.Fits.{event_fits, is_u32}
use Rattle.grid_journal.specs.Reports.{config_text, events_text, first_text, head_text, idle_text, line, run_text}
use Rattle.text_lines.specs.Lines.{Line, is_one_line, lines_of}
use Rattle.report_reading.specs.OneLines.{OneLines}
use Rattle.report_reading.specs.ReportLines.{ReportLine, Note, Told, End, config_of, line_fits, line_of, line_text}
use Rattle.report_reading.specs.ReportReading.{Stop, at_end, read_first, read_head, read_lines, read_second, report_of, with_line}
use Rattle.report_reading.specs.WholeReports.{IsKeepable, front_text, has_settings}
use Rattle.text_lines.proofs.Cutting.{lines_cut}
use Rattle.grid_event.proofs.PlacedNotes.{first_placed}
use Rattle.report_reading.proofs.Keeping.{zero_sum}
use Rattle.report_reading.proofs.LineLaws.{line_full}

-- a line in front of a text, as it falls into lines
pub in_front : (t rest : List ℕ) → is_one_line t ≡ true → lines_of (line t ++ rest) ≡ record { bytes = t; ended = true } ∷ lines_of rest
in_front t rest one = ap lines_of (append_assoc t (10 ∷ []) rest) ∙ lines_cut t rest one

-- reading goes on behind a whole line
pub goes_on : (h : History) (n : ℕ) (t rest : List ℕ) → is_one_line t ≡ true →
    read_lines h n (lines_of (line t ++ rest)) ≡ with_line h n (line_of (length h.events) t) (λ next. read_lines next (suc n) (lines_of rest)) (at_end h (suc n) (lines_of rest))
goes_on h n t rest one = ap (read_lines h n) (in_front t rest one)

-- the room that is left for some events
pub record HasRoomFor (done events : List Event) : Type 0 where
  pub few : length done + length events ≤ MOST_EVENTS
  pub light : total_weight done + total_weight events ≤ MOST_WEIGHT
  pub fit : list_all event_fits events ≡ true

-- two lists of events weigh what each weighs
weight_of_both : (xs ys : List Event) → total_weight (xs ++ ys) ≡ total_weight xs + total_weight ys
weight_of_both [] ys = omega arith
weight_of_both (x ∷ xs) ys = let h = weight_of_both xs ys in omega arith

-- where all of two lists fit, the first do
first_fit : (xs ys : List Event) → list_all event_fits (xs ++ ys) ≡ true → list_all event_fits xs ≡ true
first_fit [] ys h = refl
first_fit (x ∷ xs) ys h = let p = and_parts (event_fits x) (list_all event_fits (xs ++ ys)) h in λ i. p.0 i && first_fit xs ys p.1 i

-- and so do the second
second_fit : (xs ys : List Event) → list_all event_fits (xs ++ ys) ≡ true → list_all event_fits ys ≡ true
second_fit [] ys h = h
second_fit (x ∷ xs) ys h = second_fit xs ys (and_parts (event_fits x) (list_all event_fits (xs ++ ys)) h).1

module _ (L : OneLines) where
  -- a line of a report in front is read as what it says
  pub line_read : (h : History) (n : ℕ) (l : ReportLine) (rest : List ℕ) → length h.events ≤ MOST_EVENTS → line_fits l ≡ true →
      read_lines h n (lines_of (line (line_text (length h.events) l) ++ rest)) ≡ with_line h n (Some l) (λ next. read_lines next (suc n) (lines_of rest)) (at_end h (suc n) (lines_of rest))
  line_read h n l rest few fits =
      goes_on h n (line_text (length h.events) l) rest (L.lines (length h.events) l (omega arith) fits)
      ∙ ap (λ o. with_line h n o (λ next. read_lines next (suc n) (lines_of rest)) (at_end h (suc n) (lines_of rest))) (line_full (length h.events) l (omega arith) fits)

  -- an event in front is read, where it passes no limit
  pub event_read : (h : History) (n : ℕ) (event : Event) (rest : List ℕ) → length h.events ≤ MOST_EVENTS → event_fits event ≡ true → passes_limit h event ≡ false →
      read_lines h n (lines_of (line (line_text (length h.events) (Told event)) ++ rest)) ≡ read_lines (with_event h event) (suc n) (lines_of rest)
  event_read h n event rest few fits room =
      line_read h n (Told event) rest few fits ∙ ap (λ b. if b then Err (Stop.Full n) else read_lines (with_event h event) (suc n) (lines_of rest)) room

  has_room : (h : History) (event : Event) (events : List Event) → HasRoomFor h.events (event ∷ events) → passes_limit h event ≡ false
  has_room h event events room = let a = room.few in let b = room.light in grind (arith, nat_tests)

  room_left : (h : History) (event : Event) (events : List Event) → HasRoomFor h.events (event ∷ events) → HasRoomFor (h.events ++ event ∷ []) events
  room_left h event events room = record {
    few = (let a = room.few in let b = length-append h.events (event ∷ []) in omega arith);
    light = (let a = room.light in let b = total_weight-push h.events event in omega arith);
    fit = (and_parts (event_fits event) (list_all event_fits events) room.fit).1;
  }

  pub events_read : (events : List Event) (h : History) (n : ℕ) (tail : List ℕ) → HasRoomFor h.events events →
      read_lines h n (lines_of (events_text (length h.events) events ++ tail)) ≡ read_lines (record h { events = h.events ++ events }) (n + length events) (lines_of tail)
  events_read [] h n tail room =
      ap (λ es. read_lines (record h { events = es }) n (lines_of tail)) (sym (append-nil h.events))
      ∙ ap (λ m. read_lines (record h { events = h.events ++ [] }) m (lines_of tail)) (omega arith)
  events_read (event ∷ events) h n tail room =
      let few : length h.events ≤ MOST_EVENTS = (let a = room.few in omega arith) in
      let fits = (and_parts (event_fits event) (list_all event_fits events) room.fit).0 in
      ap (λ z. read_lines h n (lines_of z)) (append_assoc (line (line_text (length h.events) (Told event))) (events_text (length h.events + 1) events) tail)
      ∙ (event_read h n event (events_text (length h.events + 1) events ++ tail) few fits (has_room h event events room)
      ∙ (ap (λ m. read_lines (with_event h event) (suc n) (lines_of (events_text m events ++ tail))) (sym (length-append h.events (event ∷ [])))
      ∙ (events_read events (with_event h event) (suc n) tail (room_left h event events room)
      ∙ (ap (λ es. read_lines (record h { events = es }) (suc n + length events) (lines_of tail)) (append_assoc h.events (event ∷ []) events)
      ∙ ap (λ m. read_lines (record h { events = h.events ++ event ∷ events }) m (lines_of tail)) (omega arith)))))

  -- with events and notes behind it
  abbrev pub extended : History → List Event → List Idle → History
  extended h events idle = record h { events = h.events ++ events; idle = h.idle ++ idle }

  take_room : (h : History) (events : List Event) (k : ℕ) → k ≤ length events → HasRoomFor h.events events → HasRoomFor h.events (take k events)
  take_room h events k few room =
      let parts : take k events ++ drop k events ≡ events = take-append-drop k events in
      let size : length (take k events) ≡ k = length-take-le k events few in
      let weight : total_weight (take k events) + total_weight (drop k events) ≡ total_weight events = sym (weight_of_both (take k events) (drop k events)) ∙ ap total_weight parts in
      record {
        few = (let a = room.few in omega arith);
        light = (let a = room.light in omega arith);
        fit = first_fit (take k events) (drop k events) (ap (list_all event_fits) parts ∙ room.fit);
      }

  drop_room : (h : History) (events : List Event) (k : ℕ) → k ≤ length events → HasRoomFor h.events events → HasRoomFor (h.events ++ take k events) (drop k events)
  drop_room h events k few room =
      let parts : take k events ++ drop k events ≡ events = take-append-drop k events in
      let size : length (take k events) ≡ k = length-take-le k events few in
      let left : length (drop k events) ≡ length events - k = length-drop k events in
      let both : length (h.events ++ take k events) ≡ length h.events + length (take k events) = length-append h.events (take k events) in
      let weight : total_weight (take k events) + total_weight (drop k events) ≡ total_weight events = sym (weight_of_both (take k events) (drop k events)) ∙ ap total_weight parts in
      let more : total_weight (h.events ++ take k events) ≡ total_weight h.events + total_weight (take k events) = weight_of_both h.events (take k events) in
      record {
        few = (let a = room.few in omega arith);
        light = (let a = room.light in omega arith);
        fit = second_fit (take k events) (drop k events) (ap (list_all event_fits) parts ∙ room.fit);
      }

  pub run_read : (idle : List Idle) (events : List Event) (h : History) (n : ℕ) (tail : List ℕ) → HasRoomFor h.events events → are_placed (length h.events) (length h.events + length events) idle ≡ true →
      list_all (λ (note : Idle). is_u32 note.line) idle ≡ true →
      read_lines h n (lines_of (run_text (length h.events) events idle ++ tail)) ≡ read_lines (extended h events idle) (n + length events + length idle) (lines_of tail)
  run_read [] events h n tail room placed numbered =
      events_read events h n tail room
      ∙ (ap (λ notes. read_lines (record h { events = h.events ++ events; idle = notes }) (n + length events) (lines_of tail)) (sym (append-nil h.idle))
      ∙ ap (λ m. read_lines (extended h events []) m (lines_of tail)) (omega arith))
  run_read (note ∷ notes) events h n tail room placed numbered =
      let place = length h.events in
      let f = first_placed place (place + length events) note notes placed in
      let k = note.place - place in
      let few : k ≤ length events = let a = f.from in let b = f.to in omega arith in
      let size : length (take k events) ≡ k = length-take-le k events few in
      let left : length (drop k events) ≡ length events - k = length-drop k events in
      let parts : take k events ++ drop k events ≡ events = take-append-drop k events in
      let first : History = record h { events = h.events ++ take k events } in
      let reached : length first.events ≡ place + k = length-append h.events (take k events) ∙ ap (λ m. place + m) size in
      let here : place + k ≡ note.place = let a = f.from in omega arith in
      let q = and_parts (is_u32 note.line) (list_all (λ (note : Idle). is_u32 note.line) notes) numbered in
      let many : place + length events ≤ MOST_EVENTS = room.few in
      let within : length first.events ≤ MOST_EVENTS = omega arith in
      let noted : with_idle first note.line ≡ record h { events = h.events ++ take k events; idle = h.idle ++ note ∷ [] } =
      ap (λ m. record first { idle = first.idle ++ record { place = m; line = note.line } ∷ [] }) (reached ∙ here) in
      let second : History = record h { events = h.events ++ take k events; idle = h.idle ++ note ∷ [] } in
      let body = run_text (place + length (take k events)) (drop k events) notes in
      let start : place + length (take k events) ≡ length second.events = sym (length-append h.events (take k events)) in
      let others : are_placed (length second.events) (length second.events + length (drop k events)) notes ≡ true =
      (λ i. are_placed ((reached ∙ here) i) (last_place left few reached i) notes) ∙ f.others in
      ap (λ z. read_lines h n (lines_of z)) (append_assoc (events_text place (take k events)) (idle_text note ++ body) tail)
      ∙ (events_read (take k events) h n ((idle_text note ++ body) ++ tail) (take_room h events k few room)
      ∙ (ap (λ z. read_lines first (n + length (take k events)) (lines_of z)) (append_assoc (idle_text note) body tail)
      ∙ (line_read first (n + length (take k events)) (Note note.line) (body ++ tail) within q.0
      ∙ (ap (λ next. read_lines next (suc (n + length (take k events))) (lines_of (body ++ tail))) noted
      ∙ (ap (λ m. read_lines second (suc (n + length (take k events))) (lines_of (run_text m (drop k events) notes ++ tail))) start
      ∙ (run_read notes (drop k events) second (suc (n + length (take k events))) tail (drop_room h events k few room) others q.1
      ∙ (ap (λ es. read_lines (record h { events = es; idle = (h.idle ++ note ∷ []) ++ notes }) (suc (n + length (take k events)) + length (drop k events) + length notes) (lines_of tail)) (append_assoc h.events (take k events) (drop k events) ∙ ap (λ es. h.events ++ es) parts)
      ∙ (ap (λ ns. read_lines (record h { events = h.events ++ events; idle = ns }) (suc (n + length (take k events)) + length (drop k events) + length notes) (lines_of tail)) (append_assoc h.idle (note ∷ []) notes)
      ∙ ap (λ m. read_lines (extended h events (note ∷ notes)) m (lines_of tail)) (omega arith)))))))))
    where
      last_place : length (drop (note.place - length h.events) events) ≡ length events - (note.place - length h.events) → note.place - length h.events ≤ length events →
          length (h.events ++ take (note.place - length h.events) events) ≡ length h.events + (note.place - length h.events) →
          length (h.events ++ take (note.place - length h.events) events) + length (drop (note.place - length h.events) events) ≡ length h.events + length events
      last_place left few reached = omega arith

  -- the settings and the first topology are read
  pub head_read : (config : Config) (tail : List ℕ) → is_config config ≡ true →
      report_of ((line (config_text config) ++ line (first_text config)) ++ tail) ≡ read_lines (record blank { config = Some config }) 3 (lines_of tail)
  head_read config tail good =
      ap report_of (append_assoc (line (config_text config)) (line (first_text config)) tail)
      ∙ (ap read_head (in_front (config_text config) (line (first_text config) ++ tail) (L.config config good))
      ∙ (ap (λ o. read_first o (lines_of (line (first_text config) ++ tail))) (L.settings config good)
      ∙ (ap (read_second config) (in_front (first_text config) tail (L.first config good))
      ∙ ap (λ b. if b then read_lines (record blank { config = Some config }) 3 (lines_of tail) else Err (Stop.Unread 2)) ((same_bytes_decides (first_text config) (first_text config)).1 refl))))

  -- at which line reading is behind the front of a history's report
  abbrev pub next_line : History → ℕ
  next_line h = 3 + length h.events + length h.idle

  front_of : (o : Option Config) (events : List Event) (idle : List Idle) (tail : List ℕ) → IsKeepable (record { config = o; events = events; idle = idle }) →
      report_of (front_text (record { config = o; events = events; idle = idle }) ++ tail) ≡ read_lines (record { config = o; events = events; idle = idle }) (next_line (record { config = o; events = events; idle = idle })) (lines_of tail)
  front_of None events idle tail k = let no_settings = k.settings in absurd (cc)
  front_of (Some config) events idle tail k =
      ap report_of (append_assoc (line (config_text config) ++ line (first_text config)) (run_text 0 events idle) tail)
      ∙ (head_read config (run_text 0 events idle ++ tail) k.settings
      ∙ run_read idle events (record blank { config = Some config }) 3 tail
      (record { few = (let a = k.few in omega arith); light = (let a = k.light in omega arith); fit = k.fit })
      (ap (λ n. are_placed 0 n idle) (zero_sum (length events)) ∙ k.placed) k.numbered)

  -- whatever comes behind it, the front of a history's report is read as the history
  pub front_read : (h : History) (tail : List ℕ) → IsKeepable h → report_of (front_text h ++ tail) ≡ read_lines h (next_line h) (lines_of tail)
  front_read h tail k = front_of h.config h.events h.idle tail k
