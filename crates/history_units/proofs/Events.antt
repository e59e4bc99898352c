-- The table after an event is the one of the past with the event.
use Rattle.std.proofs.Common.{◌≡◌, ℕ, suc, ◌+◌, ◌==◌, nat_lt, Bool, true, false, not, ◌&&◌, ◌||◌, if◌then◌else◌, List, [], ◌∷◌, ◌++◌, length, Option, None, Some, refl, sym, ap, subst, ◌∙◌, arith}
use Rattle.std.proofs.lemmas.Bool.{and_parts, eq-eqb, eqb-true, lt-ltb}
use Rattle.grid_event.specs.UnitHistories.{asker_of, has_begun, has_ended, is_gone, was_asked, was_refused}
use Rattle.grid_event.specs.declared.config.Config.{Config}
use Rattle.grid_event.specs.declared.event.Event.{Event}
use Rattle.grid_event.specs.declared.event.Event.TheVariants.{Begin, Done, Scan}
use Rattle.grid_event.specs.declared.unit_events.ScanEvent.{ScanEvent}
use Rattle.audit_clauses.specs.Shapes.{asker_goes_on, asker_has_form, fits_past, is_shaped}
use Rattle.history_units.specs.Asks.{ask_of, is_gone_of}
use Rattle.history_units.specs.Dates.{begun_at, scans_at}
use Rattle.history_units.specs.Rows.{HasChanged, begun_unit, ended_unit, refused_unit, scanned_unit, unit_in}
use Rattle.history_units.specs.Told.{AreUnitsOf, IsUnitIn, KnowsGone}
use Rattle.history_units.specs.declared.unit.Unit.{Unit}
use Rattle.history_units.proofs.Keeping.{change_gone, change_told}

-- a number is itself
itself : (n : ℕ) → (n == n) ≡ true
itself n = eq-eqb n n refl

-- what is no unit of the number isn't touched
apart : (a b : ℕ) → (a == b) ≡ false → (a == b) ≡ false
apart a b e = e

not_true : (b : Bool) → not b ≡ true → b ≡ false
not_true true e = absurd (cc)
not_true false e = refl

-- what the shape of a beginning says
pub begin_parts : (config : Config) (past : List Event) (number : ℕ) (starts : Bool) → is_shaped config past (Begin number starts) ≡ true
    → (asker_goes_on past (asker_of past number) ≡ true) × ((has_begun past number ≡ false) × (was_refused past number ≡ false))
unfolding fits_past
begin_parts config past number starts shaped =
    let fits = (and_parts _ _ shaped).1 in
    let parts = and_parts (asker_goes_on past (asker_of past number)) _ fits in
    let later = and_parts (not (has_begun past number)) (not (was_refused past number)) parts.1 in
    (parts.0, (not_true (has_begun past number) later.0, not_true (was_refused past number) later.1))

-- what the shape of an end, and that of a scan, say
pub done_goes : (config : Config) (past : List Event) (number : ℕ) → is_shaped config past (Done number) ≡ true → asker_goes_on past (asker_of past number) ≡ true
unfolding fits_past
done_goes config past number shaped = (and_parts (asker_goes_on past (asker_of past number)) _ (and_parts _ _ shaped).1).0

pub scan_goes : (config : Config) (past : List Event) (scan : ScanEvent) → is_shaped config past (Scan scan) ≡ true → asker_goes_on past (asker_of past scan.unit) ≡ true
unfolding fits_past
scan_goes config past scan shaped =
    (and_parts (asker_goes_on past (asker_of past scan.unit)) _ (and_parts _ (asker_has_form past false (asker_of past scan.unit)) (and_parts _ _ shaped).1).0).0

-- a unit that a call asked for was asked for
was_there : (past : List Event) (number : ℕ) (found : Option Unit) → IsUnitIn past number found → asker_goes_on past (asker_of past number) ≡ true → was_asked past number ≡ true
was_there past number None h goes = let no : asker_goes_on past None ≡ true = ap (asker_goes_on past) (sym h.asker) ∙ goes in absurd (cc)
was_there past number (Some unit) h goes = h.was

-- a unit begins to run
pub begun : (config : Config) (past : List Event) (number place : ℕ) (before after : List Unit) → AreUnitsOf past before → HasChanged number (begun_unit place) before after
    → place ≡ length past + 1 → is_shaped config past (Begin number true) ≡ true → AreUnitsOf (Begin number true ∷ past) after
begun config past number place before after t c placed shaped = record {
  numbered = t.numbered;
  count = c.count ∙ t.count;
  told = change_told past (Begin number true) number (begun_unit place) before after c t parts.0 (apart number) (λ unit h. record {
    was = h.was;
    asker = h.asker;
    id = h.id;
    ask = h.ask;
    asked = h.asked;
    begun = ap (λ b. if b && true then suc (length past) else begun_at past number) (itself number) ∙ here;
    runs = ap (λ b. (b && true) || has_begun past number) (itself number) ∙ sym (lt-ltb 0 place (omega (arith, placed)));
    refused = ap (λ b. (b && false) || was_refused past number) (itself number) ∙ h.refused;
    ended = h.ended;
    scans = h.scans;
    own = h.own;
    either = ap (λ b. b && nat_lt 0 place) (sym h.refused ∙ parts.1.1);
  });
  orderly = λ other. ((λ e. by_other other e), t.orderly other);
}
  where
    parts : (asker_goes_on past (asker_of past number) ≡ true) × ((has_begun past number ≡ false) × (was_refused past number ≡ false))
    parts = begin_parts config past number true shaped

    here : suc (length past) ≡ place
    here = omega (arith, placed)

    by_other : (other : ℕ) → (number == other) ≡ true → (was_asked past other ≡ true) × (has_begun past other ≡ false)
    by_other other e =
        subst (λ n. (was_asked past n ≡ true) × (has_begun past n ≡ false)) (eqb-true number other e)
        (was_there past number (unit_in before number) (t.told number) parts.0, parts.1.0)

-- a unit is refused
pub refused : (config : Config) (past : List Event) (number : ℕ) (gone : Bool) (before after : List Unit) → AreUnitsOf past before → HasChanged number (refused_unit gone) before after
    → is_shaped config past (Begin number false) ≡ true → AreUnitsOf (Begin number false ∷ past) after
refused config past number gone before after t c shaped = record {
  numbered = t.numbered;
  count = c.count ∙ t.count;
  told = change_told past (Begin number false) number (refused_unit gone) before after c t parts.0 (apart number) (λ unit h. record {
    was = h.was;
    asker = h.asker;
    id = h.id;
    ask = h.ask;
    asked = h.asked;
    begun = ap (λ b. if b && false then suc (length past) else begun_at past number) (itself number) ∙ h.begun;
    runs = ap (λ b. (b && false) || has_begun past number) (itself number) ∙ h.runs;
    refused = ap (λ b. (b && true) || was_refused past number) (itself number);
    ended = h.ended;
    scans = h.scans;
    own = h.own;
    either = sym h.runs ∙ parts.1.0;
  });
  orderly = λ other. ((λ e. by_other other e), t.orderly other);
}
  where
    parts : (asker_goes_on past (asker_of past number) ≡ true) × ((has_begun past number ≡ false) × (was_refused past number ≡ false))
    parts = begin_parts config past number false shaped

    by_other : (other : ℕ) → (number == other) ≡ true → (was_asked past other ≡ true) × (has_begun past other ≡ false)
    by_other other e =
        subst (λ n. (was_asked past n ≡ true) × (has_begun past n ≡ false)) (eqb-true number other e)
        (was_there past number (unit_in before number) (t.told number) parts.0, parts.1.0)

-- a unit ends
pub ended : (config : Config) (past : List Event) (number : ℕ) (gone : Bool) (before after : List Unit) → AreUnitsOf past before → HasChanged number (ended_unit gone) before after
    → is_shaped config past (Done number) ≡ true → AreUnitsOf (Done number ∷ past) after
ended config past number gone before after t c shaped = record {
  numbered = t.numbered;
  count = c.count ∙ t.count;
  told = change_told past (Done number) number (ended_unit gone) before after c t (done_goes config past number shaped) (apart number) (λ unit h. record {
    was = h.was;
    asker = h.asker;
    id = h.id;
    ask = h.ask;
    asked = h.asked;
    begun = h.begun;
    runs = h.runs;
    refused = h.refused;
    ended = ap (λ b. b || has_ended past number) (itself number);
    scans = h.scans;
    own = h.own;
    either = h.either;
  });
  orderly = λ other. (tt, t.orderly other);
}

-- a unit scans
pub scanned : (config : Config) (past : List Event) (scan : ScanEvent) (place : ℕ) (before after : List Unit) → AreUnitsOf past before
    → HasChanged scan.unit (scanned_unit place) before after → place ≡ length past + 1 → is_shaped config past (Scan scan) ≡ true → AreUnitsOf (Scan scan ∷ past) after
scanned config past scan place before after t c placed shaped = record {
  numbered = t.numbered;
  count = c.count ∙ t.count;
  told = change_told past (Scan scan) scan.unit (scanned_unit place) before after c t (scan_goes config past scan shaped) (apart scan.unit) (λ unit h. record {
    was = h.was;
    asker = h.asker;
    id = h.id;
    ask = h.ask;
    asked = h.asked;
    begun = h.begun;
    runs = h.runs;
    refused = h.refused;
    ended = h.ended;
    scans = ap (λ b. if b then scans_at past scan.unit ++ suc (length past) ∷ [] else scans_at past scan.unit) (itself scan.unit) ∙ (λ i. h.scans i ++ here i ∷ []);
    own = h.own;
    either = h.either;
  });
  orderly = λ other. (tt, t.orderly other);
}
  where
    here : suc (length past) ≡ place
    here = omega (arith, placed)

-- of the unit's ask the flag that was asked for says whether it is gone
flag_tells : (config : Config) (past : List Event) (number : ℕ) (gone : Bool) (units : List Unit) → AreUnitsOf past units → gone ≡ is_gone_of config past (ask_of past number)
    → (unit : Unit) → unit_in units number ≡ Some unit → is_gone config past unit.ask ≡ gone
flag_tells config past number gone units t flag unit found =
    let h = subst (IsUnitIn past number) found (t.told number) in
    sym (flag ∙ ap (is_gone_of config past) h.ask)

-- the table knows on which units are gone where one begins, is refused, ends or scans
pub begun_gone : (config : Config) (past : List Event) (number place : ℕ) (before after : List Unit) → KnowsGone config past before → HasChanged number (begun_unit place) before after
    → KnowsGone config (Begin number true ∷ past) after
begun_gone config past number place before after k c =
    change_gone config past (Begin number true ∷ past) number (begun_unit place) before after c k (λ ask. refl) (λ unit. refl) (λ unit found closed. k.gone number unit found closed)

pub refused_gone : (config : Config) (past : List Event) (number : ℕ) (gone : Bool) (before after : List Unit) → AreUnitsOf past before → KnowsGone config past before
    → HasChanged number (refused_unit gone) before after → gone ≡ is_gone_of config past (ask_of past number) → KnowsGone config (Begin number false ∷ past) after
refused_gone config past number gone before after t k c flag =
    change_gone config past (Begin number false ∷ past) number (refused_unit gone) before after c k (λ ask. refl) (λ unit. refl)
    (λ unit found closed. flag_tells config past number gone before t flag unit found)

pub ended_gone : (config : Config) (past : List Event) (number : ℕ) (gone : Bool) (before after : List Unit) → AreUnitsOf past before → KnowsGone config past before
    → HasChanged number (ended_unit gone) before after → gone ≡ is_gone_of config past (ask_of past number) → KnowsGone config (Done number ∷ past) after
ended_gone config past number gone before after t k c flag =
    change_gone config past (Done number ∷ past) number (ended_unit gone) before after c k (λ ask. refl) (λ unit. refl)
    (λ unit found closed. flag_tells config past number gone before t flag unit found)

pub scanned_gone : (config : Config) (past : List Event) (scan : ScanEvent) (place : ℕ) (before after : List Unit) → KnowsGone config past before
    → HasChanged scan.unit (scanned_unit place) before after → KnowsGone config (Scan scan ∷ past) after
scanned_gone config past scan place before after k c =
    change_gone config past (Scan scan ∷ past) scan.unit (scanned_unit place) before after c k (λ ask. refl) (λ unit. refl) (λ unit found closed. k.gone scan.unit unit found closed)
