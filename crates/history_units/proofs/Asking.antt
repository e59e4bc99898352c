-- The table after a round is the one of the past with the round.
use Rattle.std.proofs.Common.{◌≡◌, ℕ, suc, ◌+◌, ◌-◌, ◌<◌, ◌≤◌, ◌==◌, nat_lt, true, false, ◌&&◌, ◌||◌, if◌then◌else◌, List, ◌∷◌, ◌++◌, length, map, Option, None, Some, is_some, slice_get, inl, inr, refl, sym, ap, subst, ◌∙◌, arith, length-append}
use Rattle.std.proofs.lemmas.Bool.{and_parts, cases_lt, ltb-true}
use Rattle.std.proofs.lemmas.List.{length-map}
use Rattle.std.proofs.lemmas.Option.{slice_get-map, slice_get_past}
use Rattle.std.specs.List.{list_all, list_any}
use Rattle.std.specs.Option.{option_map}
use Rattle.grid_event.specs.UnitHistories.{asker_of, is_gone, was_asked}
use Rattle.grid_event.specs.declared.call_events.Ask.{Ask}
use Rattle.grid_event.specs.declared.call_events.RoundEvent.{RoundEvent}
use Rattle.grid_event.specs.declared.config.Config.{Config}
use Rattle.grid_event.specs.declared.event.Event.{Event}
use Rattle.grid_event.specs.declared.event.Event.TheVariants.{Round}
use Rattle.grid_event.specs.Spans.{invoke_of}
use Rattle.audit_clauses.specs.Mentions.{segments_named}
use Rattle.audit_clauses.specs.Shapes.{are_numbered, fits_past, goes_on, is_at_originator, is_shaped, units_asked}
use Rattle.history_units.specs.Asks.{ask_in, ask_of, asked_by}
use Rattle.history_units.specs.Dates.{asked_at}
use Rattle.history_units.specs.Rows.{asked_unit, unit_in}
use Rattle.history_units.specs.Told.{AreUnitsOf, IsUnitIn, IsUnknown, KnowsGone}
use Rattle.history_units.specs.declared.unit.Unit.{Unit}
use Rattle.history_units.proofs.Keeping.{same_told, untouched}
use Rattle.history_units.proofs.Numbering.{get_rear, numbered_at, numbered_from, own_ask, passes_at, some_ask, unit_front}

-- what the shape of a round says
pub round_numbered : (config : Config) (past : List Event) (round : RoundEvent) → is_shaped config past (Round round) ≡ true → are_numbered (units_asked past + 1) round.asks ≡ true
unfolding fits_past
round_numbered config past round shaped =
    (and_parts (is_at_originator config past round.id (invoke_of past round.call)) _ (and_parts (goes_on past round.call) _ (and_parts _ _ shaped).1).1).1

pub round_known : (config : Config) (past : List Event) (round : RoundEvent) → is_shaped config past (Round round) ≡ true
    → list_all (λ segment. nat_lt segment config.segments) (map (λ (ask : Ask). ask.segment) round.asks) ≡ true
unfolding segments_named
round_known config past round shaped = (and_parts _ _ (and_parts _ _ (and_parts _ _ shaped).0).1).0

-- a number is one of the units so far, or one behind them
data IsPlaced (units : List Unit) (number : ℕ) : Type 0 where
  Front : number ≤ length units → IsPlaced units number
  Rear : (row : ℕ) → number ≡ suc (length units + row) → IsPlaced units number

placed : (units : List Unit) (number : ℕ) → IsPlaced units number
placed units number = elim (cases_lt (length units) number) [
  | inl behind ↦ Rear (number - suc (length units)) (omega (arith, behind))
  | inr within ↦ Front within
]

-- a unit behind a table is the one that the round asks for there
rear_unit : (units : List Unit) (f : Ask → Unit) (asks : List Ask) (number row : ℕ) → number ≡ suc (length units + row) → unit_in (units ++ map f asks) number ≡ option_map f (slice_get asks row)
rear_unit units f asks number row e = ap (unit_in (units ++ map f asks)) e ∙ get_rear units (map f asks) row ∙ slice_get-map f asks row

-- and the table had none there
rear_none : (past : List Event) (units : List Unit) (number row : ℕ) → AreUnitsOf past units → number ≡ suc (length units + row) → IsUnknown past number
rear_none past units number row t e =
    subst (IsUnitIn past number) (ap (unit_in units) e ∙ slice_get_past units (length units + row) (omega arith)) (t.told number)

-- the round asks for none of the front, and behind it for those at their places
front_ask : (past : List Event) (units : List Unit) (round : RoundEvent) (number : ℕ) → AreUnitsOf past units → are_numbered (units_asked past + 1) round.asks ≡ true → number ≤ length units
    → list_any (λ (ask : Ask). ask.unit == number) round.asks ≡ false
front_ask past units round number t numbered within =
    some_ask round.asks number ∙ ap is_some (numbered_from (units_asked past + 1) round.asks numbered number (omega (arith, within, t.count)))

rear_ask : (past : List Event) (units : List Unit) (round : RoundEvent) (number row : ℕ) → AreUnitsOf past units → are_numbered (units_asked past + 1) round.asks ≡ true → number ≡ suc (length units + row)
    → ask_in round.asks number ≡ slice_get round.asks row
rear_ask past units round number row t numbered e =
    let same : number ≡ (units_asked past + 1) + row = omega (arith, e, t.count) in
    ap (ask_in round.asks) same ∙ numbered_at (units_asked past + 1) round.asks numbered row

-- a round asks for its units
pub asked : (config : Config) (past : List Event) (round : RoundEvent) (place : ℕ) (units : List Unit) → AreUnitsOf past units → place ≡ length past + 1
    → is_shaped config past (Round round) ≡ true → AreUnitsOf (Round round ∷ past) (units ++ map (asked_unit round place) round.asks)
asked config past round place units t here shaped = record {
  numbered = (λ i. numbered i && t.numbered i);
  count = length-append units (map (asked_unit round place) round.asks) ∙ (λ i. t.count i + length-map round.asks (asked_unit round place) i);
  told = λ number. by_place number (placed units number);
  orderly = λ number. ((λ some. next number some (placed units number)), t.orderly number);
}
  where
    numbered : are_numbered (units_asked past + 1) round.asks ≡ true
    numbered = round_numbered config past round shaped

    by_ask : (number : ℕ) → IsUnknown past number → (found : Option Ask) → ask_in round.asks number ≡ found → IsUnitIn (Round round ∷ past) number (option_map (asked_unit round place) found)
    by_ask number none None e =
        same_told past (Round round ∷ past) number (untouched past (Round round) number (some_ask round.asks number ∙ ap is_some e)) None none
    by_ask number none (Some ask) e =
        let some : list_any (λ (other : Ask). other.unit == number) round.asks ≡ true = some_ask round.asks number ∙ ap is_some e in
        let at : suc (length past) ≡ place = omega (arith, here) in
        record {
          was = ap (λ b. b || was_asked past number) some;
          asker = ap (λ b. if b then Some round.call else asker_of past number) some;
          id = ap (λ b. if b then Some round.id else asked_by past number) some;
          ask = ap (λ b. if b then ask_in round.asks number else ask_of past number) some ∙ e;
          asked = ap (λ b. if b then suc (length past) else asked_at past number) some ∙ at;
          begun = none.begun;
          runs = none.runs;
          refused = none.refused;
          ended = none.ended;
          scans = none.scans;
          own = own_ask round.asks number ask e;
          either = refl;
        }

    by_place : (number : ℕ) → IsPlaced units number → IsUnitIn (Round round ∷ past) number (unit_in (units ++ map (asked_unit round place) round.asks) number)
    by_place number (Front within) =
        subst (IsUnitIn (Round round ∷ past) number) (sym (unit_front units (map (asked_unit round place) round.asks) number within))
        (same_told past (Round round ∷ past) number (untouched past (Round round) number (front_ask past units round number t numbered within)) (unit_in units number) (t.told number))
    by_place number (Rear row e) =
        subst (IsUnitIn (Round round ∷ past) number) (sym (rear_unit units (asked_unit round place) round.asks number row e))
        (by_ask number (rear_none past units number row t e) (slice_get round.asks row) (rear_ask past units round number row t numbered e))

    next : (number : ℕ) → list_any (λ (ask : Ask). ask.unit == number) round.asks ≡ true → IsPlaced units number → was_asked past number ≡ false
    next number some (Front within) = let no = front_ask past units round number t numbered within in absurd (cc)
    next number some (Rear row e) = (rear_none past units number row t e).unasked

-- the table knows on which units are gone
pub asked_gone : (config : Config) (past : List Event) (round : RoundEvent) (place : ℕ) (units : List Unit) → AreUnitsOf past units → KnowsGone config past units
    → is_shaped config past (Round round) ≡ true → KnowsGone config (Round round ∷ past) (units ++ map (asked_unit round place) round.asks)
asked_gone config past round place units t k shaped = record {
  within = λ number unit found. by_within number unit found (placed units number);
  gone = λ number unit found closed. by_gone number unit found closed (placed units number);
}
  where
    front : (number : ℕ) (unit : Unit) → unit_in (units ++ map (asked_unit round place) round.asks) number ≡ Some unit → number ≤ length units → unit_in units number ≡ Some unit
    front number unit found within = sym (unit_front units (map (asked_unit round place) round.asks) number within) ∙ found

    rear_within : (unit : Unit) (row : ℕ) (found : Option Ask) → slice_get round.asks row ≡ found → option_map (asked_unit round place) found ≡ Some unit → unit.ask.segment < config.segments
    rear_within unit row None at e = absurd (cc)
    rear_within unit row (Some ask) at e =
        let is : asked_unit round place ask ≡ unit = cc in
        let low = ltb-true ask.segment config.segments (passes_at (λ segment. nat_lt segment config.segments) (λ (a : Ask). a.segment) round.asks row ask (round_known config past round shaped) at) in
        subst (λ (u : Unit). u.ask.segment < config.segments) is low

    by_within : (number : ℕ) (unit : Unit) → unit_in (units ++ map (asked_unit round place) round.asks) number ≡ Some unit → IsPlaced units number → unit.ask.segment < config.segments
    by_within number unit found (Front within) = k.within number unit (front number unit found within)
    by_within number unit found (Rear row e) =
        rear_within unit row (slice_get round.asks row) refl (sym (rear_unit units (asked_unit round place) round.asks number row e) ∙ found)

    rear_gone : (unit : Unit) (found : Option Ask) → option_map (asked_unit round place) found ≡ Some unit → (unit.refused || unit.ended) ≡ true → is_gone config past unit.ask ≡ unit.gone
    rear_gone unit None e closed = absurd (cc)
    rear_gone unit (Some ask) e closed =
        let is : asked_unit round place ask ≡ unit = cc in
        let open_still : false ≡ true = ap (λ (u : Unit). u.refused || u.ended) is ∙ closed in
        absurd (cc)

    by_gone : (number : ℕ) (unit : Unit) → unit_in (units ++ map (asked_unit round place) round.asks) number ≡ Some unit → (unit.refused || unit.ended) ≡ true → IsPlaced units number
        → is_gone config past unit.ask ≡ unit.gone
    by_gone number unit found closed (Front within) = k.gone number unit (front number unit found within) closed
    by_gone number unit found closed (Rear row e) =
        rear_gone unit (slice_get round.asks row) (sym (rear_unit units (asked_unit round place) round.asks number row e) ∙ found) closed
