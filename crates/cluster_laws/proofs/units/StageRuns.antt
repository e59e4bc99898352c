-- Every run keeps what the events tell of calls, units, stages and notes.
use Rattle.std.proofs.Common.{◌≡◌, ℕ, true, List, [], ◌∷◌, reverse, None, refl, sym, subst}
use mathlib.Core.List.{reverse_aux}
use Rattle.std.specs.FinMap as map_of
use Rattle.std.specs.Ordering.{nat_cmp}
use Rattle.grid_event.specs.Configs.{is_config}
use Rattle.grid_event.specs.UnitHistories.{has_ended_on}
use Rattle.grid_event.specs.declared.config.Config.{Config}
use Rattle.grid_event.specs.declared.event.Event.{Event}
use Rattle.cluster_model.specs.Kept.{IsKept}
use Rattle.cluster_model.specs.State.{Call, State, Unit, call_of, start}
use Rattle.cluster_model.specs.Step.{allowed, changed, runs, state}
use Rattle.cluster_model.specs.Topologies.{is_complete}
use Rattle.cluster_laws.proofs.units.CallLinks.{AsksTold, CallTold, CallsTold, EndTold, ended_told}
use Rattle.cluster_laws.proofs.units.CallSteps.{asks_told, calls_told}
use Rattle.cluster_laws.proofs.units.CompletionRuns.{next_known, shown}
use Rattle.cluster_laws.proofs.Lists.{each_imply}
use Rattle.cluster_laws.proofs.units.PlaceKinds.{all_placed}
use Rattle.cluster_laws.proofs.units.ReadKinds.{units_kept}
use Rattle.cluster_laws.proofs.units.ReadSteps.{UnitsKept}
use Rattle.cluster_laws.proofs.Runs.{step_keeps}
use Rattle.cluster_laws.proofs.units.StageNotes.{AllNotes, notes_kept}
use Rattle.cluster_laws.proofs.units.StageSteps.{StageKept, StagesKept, stages_kept}
use Rattle.cluster_laws.proofs.copies.Starts.{good_config, start_kept}
use Rattle.cluster_laws.proofs.units.UnitPlaces.{AllPlaced}
use Rattle.cluster_laws.specs.Laws.{StagesAreTold, TellsStage}
use Rattle.cluster_laws.proofs.Along.{along}
use Rattle.cluster_model.specs.Completion.{Completion, IsCompleted, is_reading}
use Rattle.cluster_laws.proofs.units.ReadSteps.{ReadKept}

-- all that a run keeps of calls and units, but for what was read
pub record IsTraced (config : Config) (past : List Event) (st : State) : Type 0 where
  pub kept : IsKept config past st
  pub units : UnitsKept config past st.calling.units
  pub placed : AllPlaced st.holding.coord st.calling.units
  pub calls : CallsTold past st
  pub asks : AsksTold past st.calling.units
  pub stages : StagesKept config past st.calling.units
  pub notes : AllNotes config past st

-- which segments are complete for a call is told
pub ends_told : (config : Config) (past : List Event) (st : State) → IsTraced config past st → (call segment : ℕ) → has_ended_on past call segment ≡ is_complete st.calling.units call segment
ends_told config past st h call segment =
    ended_told past st.calling.units call segment h.asks (each_imply (StageKept config past) (EndTold past) (λ unit k. k.ended) st.calling.units h.stages.each)

-- each event that may happen keeps it
pub traced_on : (config : Config) (past : List Event) (st : State) (event : Event) → allowed st event ≡ true → IsTraced config past st → IsTraced config (event ∷ past) (changed st event)
traced_on config past st event may h = record {
  kept = step_keeps config past st event may h.kept;
  units = units_kept config past st event may (shown config past st h.kept h.placed) h.units;
  placed = all_placed config.segments st event may h.kept.parts.topologies h.units.numbered (next_known config past st event may h.kept) h.placed;
  calls = calls_told past st event may h.units.numbered h.asks h.calls;
  asks = asks_told past st event h.asks;
  stages = stages_kept config past st event may h.kept.told.newest h.units.numbered h.stages;
  notes = notes_kept config past st h.kept (ends_told config past st h) event h.notes;
}

-- at the start there are no calls and no units
pub traced_start : (config : Config) → is_config config ≡ true → IsTraced config [] (start config)
traced_start config good = record {
  kept = start_kept config (good_config config good);
  units = record { numbered = tt; unborn = λ id more. refl; read = tt };
  placed = tt;
  calls = λ call.
      subst (CallTold [] call) (sym (map_of.get-empty {X = Call} nat_cmp call))
      (record { request = refl; originator = refl; rounds = refl; outcome = refl; taken = refl; given = refl });
  asks = λ call. refl;
  stages = record { each = tt; unborn = λ ask more. record { asked = refl; refused = refl; begun = refl; gone = refl; ended = refl } };
  notes = λ number call e. let none : call_of (start config).calling number ≡ None = map_of.get-empty {X = Call} nat_cmp number in absurd (cc);
}

-- and so does a run
traced_run : (config : Config) (past : List Event) (st : State) (events : List Event) → runs st events ≡ true → IsTraced config past st → IsTraced config (reverse_aux events past) (state st events)
traced_run config = along (IsTraced config) (traced_on config)

-- in every run from the start
pub always_traced : (config : Config) (events : List Event) → is_config config ≡ true → runs (start config) events ≡ true → IsTraced config (reverse events) (state (start config) events)
always_traced config events good is = traced_run config [] (start config) events is (traced_start config good)

-- stages and noted segments are told
pub stages_told : StagesAreTold
stages_told config events good is =
    let h = always_traced config events good is in
    record {
      units = each_imply (StageKept config (reverse events)) (TellsStage config (reverse events)) (λ unit k. record { refused = sym k.refused; lost = sym k.gone; ended = sym k.ended }) (state (start config) events).calling.units h.stages.each;
      calls = λ number call e. (h.notes number call e).told;
    }

-- a unit that reads, and of which is kept what it has read, is completed
completed : (config : Config) (past : List Event) (unit : Unit) → ReadKept config past unit → is_reading unit ≡ true → IsCompleted config past unit
completed config past unit r reading = record { read = r.read reading; left = λ last. r.left reading last }

-- in every run each unit that runs or has ended is completed so far
pub completion : Completion
completion config events good is =
    each_imply (ReadKept config (reverse events)) (λ unit. is_reading unit ≡ true → IsCompleted config (reverse events) unit) (completed config (reverse events)) (state (start config) events).calling.units
    (always_traced config events good is).units.read
