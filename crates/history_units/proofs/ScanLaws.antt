-- The places of scans, and the events at places.
use Rattle.std.proofs.Common.{◌≡◌, ◌≢◌, ℕ, zero, suc, ◌≤◌, ◌==◌, Bool, true, false, if◌then◌else◌, List, [], ◌∷◌, ◌++◌, length, reverse, Some, slice_get, inl, inr, refl, sym, ap, ◌∙◌, append-nil, length-append, arith}
use Rattle.std.proofs.lemmas.Bool.{cases_eq, eq-eqb, ne_eqb}
use Rattle.std.proofs.lemmas.Grind.{flat_map-append}
use Rattle.std.proofs.lemmas.List.{reverse-append}
use Rattle.std.specs.List.{AllByRecursion, flat_map}
use Rattle.grid_event.specs.declared.event.Event.{Event}
use Rattle.grid_event.specs.declared.event.Event.TheVariants.{Scan}
use Rattle.cluster_model.specs.Evidence.{scanned_by}
use Rattle.history_units.specs.Dates.{entries_in, event_at, scans_at}

-- numbers that are bounded are so by the next bound, and with one more
higher : (n : ℕ) (places : List ℕ) → AllByRecursion (λ place. place ≤ n) places → AllByRecursion (λ place. place ≤ suc n) places
higher n [] h = tt
higher n (place ∷ places) h = (let low = h.0 in omega arith, higher n places h.1)

with_last : (n last : ℕ) (places : List ℕ) → AllByRecursion (λ place. place ≤ n) places → last ≤ n → AllByRecursion (λ place. place ≤ n) (places ++ last ∷ [])
with_last n last [] h low = (low, tt)
with_last n last (place ∷ places) h low = (h.0, with_last n last places h.1 low)

-- scans have places in the past
scans_within : (past : List Event) (unit : ℕ) → AllByRecursion (λ place. place ≤ length past) (scans_at past unit)
scans_within [] unit = tt
scans_within (Scan scan ∷ past) unit = by_test (scan.unit == unit) (higher (length past) (scans_at past unit) (scans_within past unit))
  where
    by_test : (b : Bool) → AllByRecursion (λ place. place ≤ suc (length past)) (scans_at past unit)
        → AllByRecursion (λ place. place ≤ suc (length past)) (if b then scans_at past unit ++ suc (length past) ∷ [] else scans_at past unit)
    by_test true h = with_last (suc (length past)) (suc (length past)) (scans_at past unit) h (omega arith)
    by_test false h = h
scans_within (_ ∷ past) unit = higher (length past) (scans_at past unit) (scans_within past unit)

-- an event more leaves the events at the places before
entries_before : (event : Event) (past : List Event) (places : List ℕ) → AllByRecursion (λ place. place ≤ length past) places
    → flat_map (λ place. entries_in (event_at (event ∷ past) place)) places ≡ flat_map (λ place. entries_in (event_at past place)) places
entries_before event past [] h = refl
entries_before event past (place ∷ places) h =
    let low = h.0 in
    let differ : suc (length past) ≢ place = omega arith in
    (λ i. entries_in (if ne_eqb (suc (length past)) place differ i then Some event else event_at past place) ++ entries_before event past places h.1 i)

-- the entries that a unit scanned are those of the events at the places of its scans
pub scans_told : (past : List Event) (unit : ℕ) → scanned_by past unit ≡ flat_map (λ place. entries_in (event_at past place)) (scans_at past unit)
scans_told [] unit = refl
scans_told (Scan scan ∷ past) unit =
    by_test (scan.unit == unit) (scans_told past unit ∙ sym (entries_before (Scan scan) past (scans_at past unit) (scans_within past unit)))
    (ap (λ b. entries_in (if b then Some (Scan scan) else event_at past (suc (length past)))) (eq-eqb (suc (length past)) (suc (length past)) refl))
  where
    by_test : (b : Bool) → scanned_by past unit ≡ flat_map (λ place. entries_in (event_at (Scan scan ∷ past) place)) (scans_at past unit)
        → entries_in (event_at (Scan scan ∷ past) (suc (length past))) ≡ scan.batch.entries
        → (if b then scanned_by past unit ++ scan.batch.entries else scanned_by past unit)
        ≡ flat_map (λ place. entries_in (event_at (Scan scan ∷ past) place)) (if b then scans_at past unit ++ suc (length past) ∷ [] else scans_at past unit)
    by_test true h last =
        (λ i. h i ++ (sym last ∙ sym (append-nil (entries_in (event_at (Scan scan ∷ past) (suc (length past)))))) i)
        ∙ sym (flat_map-append (λ place. entries_in (event_at (Scan scan ∷ past) place)) (scans_at past unit) (suc (length past) ∷ []))
    by_test false h last = h
scans_told (event ∷ past) unit = scans_told past unit ∙ sym (entries_before event past (scans_at past unit) (scans_within past unit))

-- the oldest event has place 1, and those behind it have one place more
first_at : (past : List Event) (first : Event) → event_at (past ++ first ∷ []) 1 ≡ Some first
first_at [] first = refl
first_at (event ∷ past) first =
    let differ : suc (length (past ++ first ∷ [])) ≢ 1 = omega (arith, length-append past (first ∷ [])) in
    ap (λ b. if b then Some event else event_at (past ++ first ∷ []) 1) (ne_eqb (suc (length (past ++ first ∷ []))) 1 differ) ∙ first_at past first

later_at : (past : List Event) (first : Event) (place : ℕ) → event_at (past ++ first ∷ []) (suc (suc place)) ≡ event_at past (suc place)
later_at [] first place =
    let differ : 1 ≢ suc (suc place) = omega arith in
    ap (λ b. if b then Some first else event_at [] (suc (suc place))) (ne_eqb 1 (suc (suc place)) differ)
later_at (event ∷ past) first place =
    let longer = length-append past (first ∷ []) in
    elim (cases_eq (suc (length past)) (suc place)) [
      | inl same ↦
          let at : suc (length (past ++ first ∷ [])) ≡ suc (suc place) = omega (arith, longer, same) in
          ap (λ b. if b then Some event else event_at (past ++ first ∷ []) (suc (suc place))) (eq-eqb (suc (length (past ++ first ∷ []))) (suc (suc place)) at)
          ∙ sym (ap (λ b. if b then Some event else event_at past (suc place)) (eq-eqb (suc (length past)) (suc place) same))
      | inr differ ↦
          let not_at : suc (length (past ++ first ∷ [])) ≢ suc (suc place) = omega (arith, longer, differ) in
          ap (λ b. if b then Some event else event_at (past ++ first ∷ []) (suc (suc place))) (ne_eqb (suc (length (past ++ first ∷ []))) (suc (suc place)) not_at)
          ∙ later_at past first place
          ∙ sym (ap (λ b. if b then Some event else event_at past (suc place)) (ne_eqb (suc (length past)) (suc place) differ))
    ]

-- the events of a history have the places from 1 on
pub places_told : (events : List Event) (index : ℕ) → event_at (reverse events) (suc index) ≡ slice_get events index
places_told [] index = refl
places_told (event ∷ events) zero = ap (λ past. event_at past 1) (reverse-append (event ∷ []) events) ∙ first_at (reverse events) event
places_told (event ∷ events) (suc index) =
    ap (λ past. event_at past (suc (suc index))) (reverse-append (event ∷ []) events) ∙ later_at (reverse events) event index ∙ places_told events index
