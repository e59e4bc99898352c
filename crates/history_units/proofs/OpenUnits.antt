-- Whether a unit is gone that was neither refused nor ended.
use Rattle.std.proofs.Common.{◌≡◌, ℕ, nat_lt, Bool, false, ◌&&◌, ◌||◌, List, Some, sym, ap, subst, ◌∙◌}
use Rattle.grid_event.specs.UnitHistories.{has_begun, has_ended, was_asked, was_refused}
use Rattle.grid_event.specs.declared.config.Config.{Config}
use Rattle.grid_event.specs.declared.event.Event.{Event}
use Rattle.history_members.specs.Dates.{departed_at, unread_at}
use Rattle.history_units.specs.Asks.{ask_of, is_gone_of}
use Rattle.history_units.specs.Dates.{asked_at, begun_at}
use Rattle.history_units.specs.Rows.{unit_in}
use Rattle.history_units.specs.Told.{AreUnitsOf, IsUnitIn}
use Rattle.history_units.specs.declared.unit.Unit.{Unit}
use Rattle.history_units.proofs.Gone.{gone_dated}

-- it is gone where its node departed after it was asked for, or installed a topology by which it doesn't read the segment after
-- it began
pub open_gone : (config : Config) (past : List Event) (number : ℕ) (unit : Unit) (units : List Unit) (left : Bool) → AreUnitsOf past units → unit_in units number ≡ Some unit
    → unit.refused ≡ false → unit.ended ≡ false
    → left ≡ (nat_lt unit.asked (departed_at past unit.ask.node) || (nat_lt 0 unit.begun && nat_lt unit.begun (unread_at config past unit.ask.node unit.ask.segment)))
    → left ≡ is_gone_of config past (ask_of past number)
open_gone config past number unit units left t found unrefused going told =
    let h = subst (IsUnitIn past number) found (t.told number) in
    let was = ap (was_asked past) h.own ∙ h.was in
    let asked = ap (asked_at past) h.own ∙ h.asked in
    let begun = ap (begun_at past) h.own ∙ h.begun in
    let runs = ap (has_begun past) h.own ∙ h.runs in
    let dated = gone_dated config past unit.ask (t.orderly unit.ask.unit) (ap (was_refused past) h.own ∙ h.refused ∙ unrefused) (ap (has_ended past) h.own ∙ h.ended ∙ going) in
    told
    ∙ sym (λ i. was i && (nat_lt (asked i) (departed_at past unit.ask.node) || (runs i && nat_lt (begun i) (unread_at config past unit.ask.node unit.ask.segment))))
    ∙ sym dated
    ∙ sym (ap (is_gone_of config past) h.ask)
