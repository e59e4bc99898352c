-- What the events tell of the stage of one unit.
use Rattle.std.proofs.Common.{◌≡◌, ℕ, ◌==◌, Bool, true, false, not, ◌&&◌, ◌||◌, cond, List, ◌∷◌, Option, None, Some, refl, sym, ap, ◌∙◌, if◌then◌else◌}
use Rattle.std.specs.Cmp.{nat_eq_equiv}
use Rattle.grid_event.specs.Members.{newest_topology}
use Rattle.grid_event.specs.UnitHistories.{has_begun, has_ended, is_gone, was_asked, was_refused}
use Rattle.grid_event.specs.declared.call_events.Ask.{Ask}
use Rattle.grid_event.specs.declared.config.Config.{Config}
use Rattle.grid_event.specs.declared.event.Event.{Event}
use Rattle.grid_event.specs.declared.event.Event.TheVariants.{Begin, Depart, Done, Install}
use Rattle.local_publisher.specs.Stages.{is_open}
use Rattle.local_publisher.specs.declared.unit_state.UnitState.{UnitState}
use Rattle.local_publisher.specs.declared.unit_state.UnitState.TheVariants.{Asked, Running, Refused, Lost, Ended}
use Rattle.topology_phase.specs.Owners.{among}
use Rattle.topology_phase.specs.Topologies.{Topology, read_owners}
use Rattle.cluster_model.specs.State.{is_asked, is_ended, is_lost, is_running}
use Rattle.cluster_laws.proofs.units.Reading.{reads_in}
use Rattle.cluster_laws.specs.Laws.{is_refused}

-- what the events tell of a unit in a stage: it was asked; it was refused, is gone, has ended where its stage says so; and but for
-- a lost one it began where it runs or has ended
pub record StageOf (config : Config) (past : List Event) (ask : Ask) (stage : UnitState) : Type 0 where
  pub asked : was_asked past ask.unit ≡ true
  pub refused : was_refused past ask.unit ≡ is_refused stage
  pub begun : is_lost stage ≡ false → has_begun past ask.unit ≡ reads_in stage
  pub gone : is_gone config past ask ≡ is_lost stage
  pub ended : has_ended past ask.unit ≡ is_ended stage

-- of a unit that no round asked for yet nothing is told
pub record Unborn (config : Config) (past : List Event) (ask : Ask) : Type 0 where
  pub asked : was_asked past ask.unit ≡ false
  pub refused : was_refused past ask.unit ≡ false
  pub begun : has_begun past ask.unit ≡ false
  pub gone : is_gone config past ask ≡ false
  pub ended : has_ended past ask.unit ≡ false

-- two pasts tell the same of all units
pub record UnitsAlike (config : Config) (past later : List Event) : Type 0 where
  pub asked : was_asked later ≡ was_asked past
  pub refused : was_refused later ≡ was_refused past
  pub begun : has_begun later ≡ has_begun past
  pub gone : is_gone config later ≡ is_gone config past
  pub ended : has_ended later ≡ has_ended past

-- so they tell the same of a stage
pub alike_stage : (config : Config) (past later : List Event) → UnitsAlike config past later → (ask : Ask) (stage : UnitState) → StageOf config past ask stage → StageOf config later ask stage
alike_stage config past later same ask stage h = record {
  asked = ap (λ f. f ask.unit) same.asked ∙ h.asked;
  refused = ap (λ f. f ask.unit) same.refused ∙ h.refused;
  begun = λ kept. ap (λ f. f ask.unit) same.begun ∙ h.begun kept;
  gone = ap (λ f. f ask) same.gone ∙ h.gone;
  ended = ap (λ f. f ask.unit) same.ended ∙ h.ended;
}

-- and of a number that is no unit's yet
pub alike_unborn : (config : Config) (past later : List Event) → UnitsAlike config past later → (ask : Ask) → Unborn config past ask → Unborn config later ask
alike_unborn config past later same ask h = record {
  asked = ap (λ f. f ask.unit) same.asked ∙ h.asked;
  refused = ap (λ f. f ask.unit) same.refused ∙ h.refused;
  begun = ap (λ f. f ask.unit) same.begun ∙ h.begun;
  gone = ap (λ f. f ask) same.gone ∙ h.gone;
  ended = ap (λ f. f ask.unit) same.ended ∙ h.ended;
}

-- ---- begins

-- the begin of another unit
pub begin_other : (config : Config) (past : List Event) (number : ℕ) (runs : Bool) (ask : Ask) (stage : UnitState) → (number == ask.unit) ≡ false → StageOf config past ask stage →
    StageOf config (Begin number runs ∷ past) ask stage
begin_other config past number runs ask stage other h = record {
  asked = h.asked;
  refused = ap (λ b. (b && not runs) || was_refused past ask.unit) other ∙ h.refused;
  begun = λ kept. ap (λ b. (b && runs) || has_begun past ask.unit) other ∙ h.begun kept;
  gone = h.gone;
  ended = h.ended;
}

-- and of a number that is no unit's yet
pub begin_unborn : (config : Config) (past : List Event) (number : ℕ) (runs : Bool) (ask : Ask) → (number == ask.unit) ≡ false → Unborn config past ask → Unborn config (Begin number runs ∷ past) ask
begin_unborn config past number runs ask other h = record {
  asked = h.asked;
  refused = ap (λ b. (b && not runs) || was_refused past ask.unit) other ∙ h.refused;
  begun = ap (λ b. (b && runs) || has_begun past ask.unit) other ∙ h.begun;
  gone = h.gone;
  ended = h.ended;
}

-- an asked unit begins to run, or is refused
pub begin_this : (config : Config) (past : List Event) (number at : ℕ) (runs : Bool) (ask : Ask) (stage : UnitState) → is_asked stage ≡ true → (number == ask.unit) ≡ true → StageOf config past ask stage →
    StageOf config (Begin number runs ∷ past) ask (if runs then Running else Refused at)
begin_this config past number at true ask Asked a here h = record {
  asked = h.asked;
  refused = ap (λ b. (b && false) || was_refused past ask.unit) here ∙ h.refused;
  begun = λ kept. ap (λ b. (b && true) || has_begun past ask.unit) here;
  gone = h.gone;
  ended = h.ended;
}
begin_this config past number at false ask Asked a here h = record {
  asked = h.asked;
  refused = ap (λ b. (b && true) || was_refused past ask.unit) here;
  begun = λ kept. ap (λ b. (b && false) || has_begun past ask.unit) here ∙ h.begun refl;
  gone = h.gone;
  ended = h.ended;
}
begin_this config past number at runs ask Running a here h = absurd (cc)
begin_this config past number at runs ask (Refused x) a here h = absurd (cc)
begin_this config past number at runs ask (Lost x) a here h = absurd (cc)
begin_this config past number at runs ask Ended a here h = absurd (cc)

-- ---- ends

-- the end of another unit
pub done_other : (config : Config) (past : List Event) (number : ℕ) (ask : Ask) (stage : UnitState) → (number == ask.unit) ≡ false → StageOf config past ask stage → StageOf config (Done number ∷ past) ask stage
done_other config past number ask stage other h = record {
  asked = h.asked;
  refused = h.refused;
  begun = h.begun;
  gone = h.gone;
  ended = ap (λ b. b || has_ended past ask.unit) other ∙ h.ended;
}

-- and for a number that is no unit's yet
pub done_unborn : (config : Config) (past : List Event) (number : ℕ) (ask : Ask) → (number == ask.unit) ≡ false → Unborn config past ask → Unborn config (Done number ∷ past) ask
done_unborn config past number ask other h = record {
  asked = h.asked;
  refused = h.refused;
  begun = h.begun;
  gone = h.gone;
  ended = ap (λ b. b || has_ended past ask.unit) other ∙ h.ended;
}

-- a unit that runs has ended
pub done_this : (config : Config) (past : List Event) (number : ℕ) (ask : Ask) (stage : UnitState) → is_running stage ≡ true → (number == ask.unit) ≡ true → StageOf config past ask stage → StageOf config (Done number ∷ past) ask Ended
done_this config past number ask Running r here h = record {
  asked = h.asked;
  refused = h.refused;
  begun = λ kept. h.begun refl;
  gone = h.gone;
  ended = ap (λ b. b || has_ended past ask.unit) here;
}
done_this config past number ask Asked r here h = absurd (cc)
done_this config past number ask (Refused x) r here h = absurd (cc)
done_this config past number ask (Lost x) r here h = absurd (cc)
done_this config past number ask Ended r here h = absurd (cc)

-- ---- losses

-- an open unit was neither refused nor has it ended
open_unrefused : (stage : UnitState) → is_open stage ≡ true → is_refused stage ≡ false
open_unrefused Asked o = refl
open_unrefused Running o = refl
open_unrefused (Refused at) o = absurd (cc)
open_unrefused (Lost at) o = refl
open_unrefused Ended o = refl

-- nor has it ended
open_unended : (stage : UnitState) → is_open stage ≡ true → is_ended stage ≡ false
open_unended Asked o = refl
open_unended Running o = refl
open_unended (Refused at) o = refl
open_unended (Lost at) o = refl
open_unended Ended o = absurd (cc)

-- a unit that is lost by an event that tells that it is gone, and one that stays by an event that doesn't tell more of it
lost_now : (config : Config) (past later : List Event) (ask : Ask) (stage : UnitState) (at : Option ℕ) → was_asked later ≡ was_asked past → was_refused later ≡ was_refused past → has_ended later ≡ has_ended past →
    is_open stage ≡ true → is_gone config later ask ≡ true → StageOf config past ask stage → StageOf config later ask (Lost at)
lost_now config past later ask stage at asked refused ended o gone h = record {
  asked = ap (λ f. f ask.unit) asked ∙ h.asked;
  refused = ap (λ f. f ask.unit) refused ∙ h.refused ∙ open_unrefused stage o;
  begun = λ kept. absurd (cc);
  gone = gone;
  ended = ap (λ f. f ask.unit) ended ∙ h.ended ∙ open_unended stage o;
}

-- and one that stays as it was
stays_so : (config : Config) (past later : List Event) (ask : Ask) (stage : UnitState) → was_asked later ≡ was_asked past → was_refused later ≡ was_refused past → has_begun later ≡ has_begun past → has_ended later ≡ has_ended past →
    is_gone config later ask ≡ is_lost stage → StageOf config past ask stage → StageOf config later ask stage
stays_so config past later ask stage asked refused begun ended gone h = record {
  asked = ap (λ f. f ask.unit) asked ∙ h.asked;
  refused = ap (λ f. f ask.unit) refused ∙ h.refused;
  begun = λ kept. ap (λ f. f ask.unit) begun ∙ h.begun kept;
  gone = gone;
  ended = ap (λ f. f ask.unit) ended ∙ h.ended;
}

-- which stages a departure leaves lost
departs_from : (stage : UnitState) (b : Bool) → (is_lost stage || (b && (true && (not (is_refused stage) && not (is_ended stage))))) ≡ is_lost (cond (is_open stage && b) (Lost None) stage)
departs_from Asked true = refl
departs_from Asked false = refl
departs_from Running true = refl
departs_from Running false = refl
departs_from (Refused at) true = refl
departs_from (Refused at) false = refl
departs_from (Lost at) true = refl
departs_from (Lost at) false = refl
departs_from Ended true = refl
departs_from Ended false = refl

-- after a departure a unit is gone where it was, or where it was open at the node
departed_gone : (config : Config) (past : List Event) (node : ℕ) (ask : Ask) (stage : UnitState) → StageOf config past ask stage →
    is_gone config (Depart node ∷ past) ask ≡ is_lost (cond (is_open stage && (ask.node == node)) (Lost None) stage)
departed_gone config past node ask stage h =
    (λ i. h.gone i || (nat_eq_equiv.symm node ask.node i && (h.asked i && (not (h.refused i) && not (h.ended i))))) ∙ departs_from stage (ask.node == node)

-- an open unit at the node is lost
pub departs_lost : (config : Config) (past : List Event) (node : ℕ) (ask : Ask) (stage : UnitState) → (is_open stage && (ask.node == node)) ≡ true → is_open stage ≡ true → StageOf config past ask stage → StageOf config (Depart node ∷ past) ask (Lost None)
departs_lost config past node ask stage test o h =
    lost_now config past (Depart node ∷ past) ask stage None refl refl refl o (departed_gone config past node ask stage h ∙ ap (λ b. is_lost (cond b (Lost None) stage)) test) h

-- another unit stays as it was
pub departs_stays : (config : Config) (past : List Event) (node : ℕ) (ask : Ask) (stage : UnitState) → (is_open stage && (ask.node == node)) ≡ false → StageOf config past ask stage → StageOf config (Depart node ∷ past) ask stage
departs_stays config past node ask stage test h =
    stays_so config past (Depart node ∷ past) ask stage refl refl refl refl (departed_gone config past node ask stage h ∙ ap (λ b. is_lost (cond b (Lost None) stage)) test) h

-- which stages an installation leaves lost
installs_at : (id : ℕ) (stage : UnitState) (b c : Bool) → is_lost stage ≡ false → (is_lost stage || (b && ((reads_in stage && not (is_ended stage)) && c))) ≡ is_lost (cond (is_running stage && (b && c)) (Lost (Some id)) stage)
installs_at id Asked true c l = refl
installs_at id Asked false c l = refl
installs_at id Running true true l = refl
installs_at id Running true false l = refl
installs_at id Running false c l = refl
installs_at id (Refused at) true c l = refl
installs_at id (Refused at) false c l = refl
installs_at id (Lost at) b c l = absurd (cc)
installs_at id Ended true c l = refl
installs_at id Ended false c l = refl

-- after an installation a unit is gone where it was, or where it ran at the node, which doesn't read its segment by the newest topology
installed_gone : (config : Config) (past : List Event) (newest : Topology) (node id : ℕ) (ask : Ask) (stage : UnitState) → newest ≡ newest_topology config past → StageOf config past ask stage →
    is_gone config (Install node id ∷ past) ask
    ≡ is_lost (cond (is_running stage && ((ask.node == node) && not (among node (read_owners newest ask.segment)))) (Lost (Some id)) stage)
installed_gone config past newest node id ask stage told h = by_lost (is_lost stage) refl
  where
    reader : Topology → Bool
    reader t = not (among node (read_owners t ask.segment))

    still_lost : (stage : UnitState) (b : Bool) → is_lost stage ≡ true → true ≡ is_lost (cond (is_running stage && b) (Lost (Some id)) stage)
    still_lost Asked b l = absurd (cc)
    still_lost Running b l = absurd (cc)
    still_lost (Refused at) b l = absurd (cc)
    still_lost (Lost at) b l = refl
    still_lost Ended b l = absurd (cc)

    by_lost : (b : Bool) → is_lost stage ≡ b → is_gone config (Install node id ∷ past) ask ≡ is_lost (cond (is_running stage && ((ask.node == node) && reader newest)) (Lost (Some id)) stage)
    by_lost true l =
        ap (λ b. b || ((node == ask.node) && ((has_begun past ask.unit && not (has_ended past ask.unit)) && reader (newest_topology config past)))) (h.gone ∙ l)
        ∙ still_lost stage ((ask.node == node) && reader newest) l
    by_lost false l =
        (λ i. h.gone i || (nat_eq_equiv.symm node ask.node i && ((h.begun l i && not (h.ended i)) && reader (sym told i))))
        ∙ installs_at id stage (ask.node == node) (reader newest) l

-- a unit for which the node ceases to read is lost
pub installs_lost : (config : Config) (past : List Event) (newest : Topology) (node id : ℕ) (ask : Ask) (stage : UnitState) → newest ≡ newest_topology config past →
    (is_running stage && ((ask.node == node) && not (among node (read_owners newest ask.segment)))) ≡ true → is_open stage ≡ true → StageOf config past ask stage → StageOf config (Install node id ∷ past) ask (Lost (Some id))
installs_lost config past newest node id ask stage told test o h =
    lost_now config past (Install node id ∷ past) ask stage (Some id) refl refl refl o (installed_gone config past newest node id ask stage told h ∙ ap (λ b. is_lost (cond b (Lost (Some id)) stage)) test) h

-- another unit stays as it was
pub installs_stays : (config : Config) (past : List Event) (newest : Topology) (node id : ℕ) (ask : Ask) (stage : UnitState) → newest ≡ newest_topology config past →
    (is_running stage && ((ask.node == node) && not (among node (read_owners newest ask.segment)))) ≡ false → StageOf config past ask stage → StageOf config (Install node id ∷ past) ask stage
installs_stays config past newest node id ask stage told test h =
    stays_so config past (Install node id ∷ past) ask stage refl refl refl refl (installed_gone config past newest node id ask stage told h ∙ ap (λ b. is_lost (cond b (Lost (Some id)) stage)) test) h

-- an unborn unit stays so where a node departs or installs
pub departs_unborn : (config : Config) (past : List Event) (node : ℕ) (ask : Ask) → Unborn config past ask → Unborn config (Depart node ∷ past) ask
departs_unborn config past node ask h = record {
  asked = h.asked;
  refused = h.refused;
  begun = h.begun;
  gone = (λ i. h.gone i || ((node == ask.node) && (h.asked i && (not (was_refused past ask.unit) && not (has_ended past ask.unit))))) ∙ and_never (node == ask.node);
  ended = h.ended;
}
  where
    and_never : (b : Bool) → (b && false) ≡ false
    and_never true = refl
    and_never false = refl

-- and where it installs a topology
pub installs_unborn : (config : Config) (past : List Event) (node id : ℕ) (ask : Ask) → Unborn config past ask → Unborn config (Install node id ∷ past) ask
installs_unborn config past node id ask h = record {
  asked = h.asked;
  refused = h.refused;
  begun = h.begun;
  gone = (λ i. h.gone i || ((node == ask.node) && ((h.begun i && not (has_ended past ask.unit)) && not (among node (read_owners (newest_topology config past) ask.segment))))) ∙ and_never (node == ask.node);
  ended = h.ended;
}
  where
    and_never : (b : Bool) → (b && false) ≡ false
    and_never true = refl
    and_never false = refl
