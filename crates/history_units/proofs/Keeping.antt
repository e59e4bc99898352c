-- What an event leaves of the other units.
use Rattle.std.proofs.Common.{◌≡◌, ℕ, suc, ◌<◌, ◌==◌, Bool, true, false, not, ◌&&◌, ◌||◌, if◌then◌else◌, List, [], ◌∷◌, ◌++◌, length, Option, None, Some, refl, sym, ap, subst, ◌∙◌}
use Rattle.std.proofs.lemmas.Bool.{eqb-true}
use Rattle.std.specs.List.{list_any}
use Rattle.std.specs.Option.{option_map}
use Rattle.grid_event.specs.UnitHistories.{asker_of, has_begun, has_ended, is_gone, was_asked, was_refused}
use Rattle.grid_event.specs.declared.call_events.Ask.{Ask}
use Rattle.grid_event.specs.declared.config.Config.{Config}
use Rattle.grid_event.specs.declared.event.Event.{Event}
use Rattle.grid_event.specs.declared.event.Event.TheVariants.{Begin, Done, Round, Scan}
use Rattle.audit_clauses.specs.Shapes.{asker_goes_on}
use Rattle.history_units.specs.Asks.{ask_in, ask_of, asked_by}
use Rattle.history_units.specs.Dates.{asked_at, begun_at, scans_at}
use Rattle.history_units.specs.Rows.{HasChanged, unit_in}
use Rattle.history_units.specs.Told.{AreUnitsOf, IsUnitIn, IsUnitOf, KnowsGone}
use Rattle.history_units.specs.declared.unit.Unit.{Unit}

-- two pasts tell the same of a unit
pub record TellSame (past next : List Event) (number : ℕ) : Type 0 where
  pub was : was_asked next number ≡ was_asked past number
  pub asker : asker_of next number ≡ asker_of past number
  pub id : asked_by next number ≡ asked_by past number
  pub ask : ask_of next number ≡ ask_of past number
  pub asked : asked_at next number ≡ asked_at past number
  pub begun : begun_at next number ≡ begun_at past number
  pub runs : has_begun next number ≡ has_begun past number
  pub refused : was_refused next number ≡ was_refused past number
  pub ended : has_ended next number ≡ has_ended past number
  pub scans : scans_at next number ≡ scans_at past number

pub same_told : (past next : List Event) (number : ℕ) → TellSame past next number → (found : Option Unit) → IsUnitIn past number found → IsUnitIn next number found
same_told past next number s None h = record {
  unasked = s.was ∙ h.unasked;
  asker = s.asker ∙ h.asker;
  id = s.id ∙ h.id;
  ask = s.ask ∙ h.ask;
  begun = s.begun ∙ h.begun;
  runs = s.runs ∙ h.runs;
  refused = s.refused ∙ h.refused;
  ended = s.ended ∙ h.ended;
  scans = s.scans ∙ h.scans;
}
same_told past next number s (Some unit) h = record {
  was = s.was ∙ h.was;
  asker = s.asker ∙ h.asker;
  id = s.id ∙ h.id;
  ask = s.ask ∙ h.ask;
  asked = s.asked ∙ h.asked;
  begun = s.begun ∙ h.begun;
  runs = s.runs ∙ h.runs;
  refused = s.refused ∙ h.refused;
  ended = s.ended ∙ h.ended;
  scans = s.scans ∙ h.scans;
  own = h.own;
  either = h.either;
}

-- the event tells something of the unit
abbrev pub touches : Event → ℕ → Bool
touches (Round round) number = list_any (λ (ask : Ask). ask.unit == number) round.asks
touches (Begin other runs) number = other == number
touches (Scan scan) number = scan.unit == number
touches (Done other) number = other == number
touches _ number = false

-- of the other units the past tells as before
pub untouched : (past : List Event) (event : Event) (number : ℕ) → touches event number ≡ false → TellSame past (event ∷ past) number
untouched past (Round round) number e = record {
  was = ap (λ b. b || was_asked past number) e;
  asker = ap (λ b. if b then Some round.call else asker_of past number) e;
  id = ap (λ b. if b then Some round.id else asked_by past number) e;
  ask = ap (λ b. if b then ask_in round.asks number else ask_of past number) e;
  asked = ap (λ b. if b then suc (length past) else asked_at past number) e;
  begun = refl;
  runs = refl;
  refused = refl;
  ended = refl;
  scans = refl;
}
untouched past (Begin other starts) number e = record {
  was = refl;
  asker = refl;
  id = refl;
  ask = refl;
  asked = refl;
  begun = ap (λ b. if b && starts then suc (length past) else begun_at past number) e;
  runs = ap (λ b. (b && starts) || has_begun past number) e;
  refused = ap (λ b. (b && not starts) || was_refused past number) e;
  ended = refl;
  scans = refl;
}
untouched past (Scan scan) number e = record {
  was = refl;
  asker = refl;
  id = refl;
  ask = refl;
  asked = refl;
  begun = refl;
  runs = refl;
  refused = refl;
  ended = refl;
  scans = ap (λ b. if b then scans_at past number ++ suc (length past) ∷ [] else scans_at past number) e;
}
untouched past (Done other) number e = record {
  was = refl;
  asker = refl;
  id = refl;
  ask = refl;
  asked = refl;
  begun = refl;
  runs = refl;
  refused = refl;
  ended = ap (λ b. b || has_ended past number) e;
  scans = refl;
}
untouched past _ number e = record {
  was = refl;
  asker = refl;
  id = refl;
  ask = refl;
  asked = refl;
  begun = refl;
  runs = refl;
  refused = refl;
  ended = refl;
  scans = refl;
}

-- where an event changes one unit that was asked for, the table with the change is told
pub change_told : (past : List Event) (event : Event) (number : ℕ) (change : Unit → Unit) (before after : List Unit) → HasChanged number change before after
    → AreUnitsOf past before → asker_goes_on past (asker_of past number) ≡ true
    → ((other : ℕ) → (number == other) ≡ false → touches event other ≡ false)
    → ((unit : Unit) → IsUnitOf past number unit → IsUnitOf (event ∷ past) number (change unit))
    → (other : ℕ) → IsUnitIn (event ∷ past) other (unit_in after other)
change_told past event number change before after c t goes others changed other =
    subst (IsUnitIn (event ∷ past) other) (sym (c.units other)) (by_test (number == other) refl)
  where
    by_row : (found : Option Unit) → IsUnitIn past number found → IsUnitIn (event ∷ past) number (option_map change found)
    by_row None h = let no : asker_goes_on past None ≡ true = ap (asker_goes_on past) (sym h.asker) ∙ goes in absurd (cc)
    by_row (Some unit) h = changed unit h

    by_test : (b : Bool) → (number == other) ≡ b → IsUnitIn (event ∷ past) other (if b then option_map change (unit_in before other) else unit_in before other)
    by_test true e =
        subst (λ n. IsUnitIn (event ∷ past) n (option_map change (unit_in before n))) (eqb-true number other e) (by_row (unit_in before number) (t.told number))
    by_test false e = same_told past (event ∷ past) other (untouched past event other (others other e)) (unit_in before other) (t.told other)

-- a changed table knows which units are gone where it does so of the changed one
pub change_gone : (config : Config) (past next : List Event) (number : ℕ) (change : Unit → Unit) (before after : List Unit) → HasChanged number change before after
    → KnowsGone config past before → ((ask : Ask) → is_gone config next ask ≡ is_gone config past ask) → ((unit : Unit) → (change unit).ask ≡ unit.ask)
    → ((unit : Unit) → unit_in before number ≡ Some unit → ((change unit).refused || (change unit).ended) ≡ true → is_gone config past unit.ask ≡ (change unit).gone)
    → KnowsGone config next after
change_gone config past next number change before after c k still same changed = record {
  within = λ other unit found. by_within other unit (number == other) (sym (c.units other) ∙ found);
  gone = λ other unit found closed. by_gone other unit closed (number == other) refl (sym (c.units other) ∙ found);
}
  where
    mapped_within : (other : ℕ) (unit : Unit) (found : Option Unit) → unit_in before other ≡ found → option_map change found ≡ Some unit → unit.ask.segment < config.segments
    mapped_within other unit None at e = absurd (cc)
    mapped_within other unit (Some old) at e =
        let is : change old ≡ unit = cc in
        subst (λ (a : Ask). a.segment < config.segments) (sym (same old) ∙ ap (λ (u : Unit). u.ask) is) (k.within other old at)

    by_within : (other : ℕ) (unit : Unit) (b : Bool) → (if b then option_map change (unit_in before other) else unit_in before other) ≡ Some unit → unit.ask.segment < config.segments
    by_within other unit true e = mapped_within other unit (unit_in before other) refl e
    by_within other unit false e = k.within other unit e

    mapped_gone : (unit : Unit) → (unit.refused || unit.ended) ≡ true → (found : Option Unit) → unit_in before number ≡ found → option_map change found ≡ Some unit → is_gone config next unit.ask ≡ unit.gone
    mapped_gone unit closed None at e = absurd (cc)
    mapped_gone unit closed (Some old) at e =
        let is : change old ≡ unit = cc in
        still unit.ask
        ∙ ap (is_gone config past) (sym (ap (λ (u : Unit). u.ask) is) ∙ same old)
        ∙ changed old at (ap (λ (u : Unit). u.refused || u.ended) is ∙ closed)
        ∙ ap (λ (u : Unit). u.gone) is

    by_gone : (other : ℕ) (unit : Unit) → (unit.refused || unit.ended) ≡ true → (b : Bool) → (number == other) ≡ b
        → (if b then option_map change (unit_in before other) else unit_in before other) ≡ Some unit → is_gone config next unit.ask ≡ unit.gone
    by_gone other unit closed true t e =
        mapped_gone unit closed (unit_in before number) refl (ap (λ n. option_map change (unit_in before n)) (eqb-true number other t) ∙ e)
    by_gone other unit closed false t e = still unit.ask ∙ k.gone other unit e closed
