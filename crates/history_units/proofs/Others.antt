-- Events that the table leaves alone.
use Rattle.std.proofs.Common.{◌≡◌, ◌==◌, nat_lt, Bool, true, false, not, ◌&&◌, ◌||◌, List, ◌∷◌, refl, ap, subst, ◌∙◌}
use Rattle.grid_event.specs.Members.{newest_topology}
use Rattle.grid_event.specs.UnitHistories.{has_begun, has_ended, is_gone, was_asked, was_refused}
use Rattle.grid_event.specs.declared.call_events.Ask.{Ask}
use Rattle.grid_event.specs.declared.config.Config.{Config}
use Rattle.grid_event.specs.declared.event.Event.{Event}
use Rattle.grid_event.specs.declared.event.Event.TheVariants.{Begin, Depart, Done, Install, Round, Scan}
use Rattle.topology_phase.specs.Owners.{among}
use Rattle.topology_phase.specs.Topologies.{read_owners}
use Rattle.history_units.specs.Rows.{unit_in}
use Rattle.history_units.specs.Told.{AreUnitsOf, IsUnitIn, KnowsGone}
use Rattle.history_units.specs.declared.unit.Unit.{Unit}
use Rattle.history_units.proofs.Keeping.{same_told, untouched}

-- the event changes something of the table
abbrev pub changes_units : Event → Bool
changes_units (Round round) = true
changes_units (Begin unit runs) = true
changes_units (Scan scan) = true
changes_units (Done unit) = true
changes_units _ = false

-- the others change nothing of it
pub left_alone : (past : List Event) (event : Event) (units : List Unit) → changes_units event ≡ false → AreUnitsOf past units → AreUnitsOf (event ∷ past) units
left_alone past (Round round) units other t = absurd (cc)
left_alone past (Begin unit runs) units other t = absurd (cc)
left_alone past (Scan scan) units other t = absurd (cc)
left_alone past (Done unit) units other t = absurd (cc)
left_alone past event units other t = record {
  numbered = t.numbered;
  count = t.count;
  told = λ number. same_told past (event ∷ past) number (untouched past event number refl) (unit_in units number) (t.told number);
  orderly = λ number. (tt, t.orderly number);
}

or_false : (a b : Bool) → (a || (b && false)) ≡ a
or_false true b = refl
or_false false true = refl
or_false false false = refl

-- a unit that was refused or ended is no more gone after a departure
after_depart : (gone at asked refused ended : Bool) → (refused || ended) ≡ true → (gone || (at && (asked && (not refused && not ended)))) ≡ gone
after_depart true at asked refused ended closed = refl
after_depart false false asked refused ended closed = refl
after_depart false true false refused ended closed = refl
after_depart false true true true ended closed = refl
after_depart false true true false true closed = refl
after_depart false true true false false closed = absurd (cc)

-- nor after an installation
after_install : (gone at runs refused ended left : Bool) → (refused || ended) ≡ true → (refused && runs) ≡ false → (gone || (at && ((runs && not ended) && left))) ≡ gone
after_install true at runs refused ended left closed either = refl
after_install false false runs refused ended left closed either = refl
after_install false true false refused ended left closed either = refl
after_install false true true refused true left closed either = refl
after_install false true true true false left closed either = absurd (cc)
after_install false true true false false left closed either = absurd (cc)

-- whether it is gone stays as it was
still_gone : (config : Config) (past : List Event) (event : Event) (ask : Ask) → (was_refused past ask.unit || has_ended past ask.unit) ≡ true
    → (was_refused past ask.unit && has_begun past ask.unit) ≡ false → is_gone config (event ∷ past) ask ≡ is_gone config past ask
still_gone config past (Depart node) ask closed either =
    after_depart (is_gone config past ask) (node == ask.node) (was_asked past ask.unit) (was_refused past ask.unit) (has_ended past ask.unit) closed
still_gone config past (Install node id) ask closed either =
    after_install (is_gone config past ask) (node == ask.node) (has_begun past ask.unit) (was_refused past ask.unit) (has_ended past ask.unit)
    (not (among node (read_owners (newest_topology config past) ask.segment))) closed either
still_gone config past _ ask closed either = refl

pub gone_left : (config : Config) (past : List Event) (event : Event) (units : List Unit) → AreUnitsOf past units → KnowsGone config past units → KnowsGone config (event ∷ past) units
gone_left config past event units t k = record {
  within = k.within;
  gone = λ number unit found closed.
      let h = subst (IsUnitIn past number) found (t.told number) in
      let refused : was_refused past unit.ask.unit ≡ unit.refused = ap (was_refused past) h.own ∙ h.refused in
      let ended : has_ended past unit.ask.unit ≡ unit.ended = ap (has_ended past) h.own ∙ h.ended in
      let runs : has_begun past unit.ask.unit ≡ nat_lt 0 unit.begun = ap (has_begun past) h.own ∙ h.runs in
      still_gone config past event unit.ask ((λ i. refused i || ended i) ∙ closed) ((λ i. refused i && runs i) ∙ h.either)
      ∙ k.gone number unit found closed;
}
