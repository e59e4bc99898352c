-- Every run keeps all that is audited, so all clauses hold of each of its events.
use Rattle.std.proofs.Common.{◌≡◌, ℕ, true, ◌&&◌, List, [], ◌∷◌, ◌++◌, reverse, Some, refl, sym, ap, ◌∙◌}
use Rattle.std.proofs.lemmas.Bool.{and_parts}
use Rattle.std.specs.List.{AllByRecursion}
use Rattle.grid_event.specs.Configs.{is_config}
use Rattle.grid_event.specs.declared.config.Config.{Config}
use Rattle.grid_event.specs.declared.event.Event.{Event}
use Rattle.cluster_model.specs.Rightness.{IsRight}
use Rattle.cluster_model.specs.State.{State, start}
use Rattle.cluster_model.specs.Step.{allowed, changed, runs, state}
use Rattle.cluster_laws.proofs.Along.{along}
use Rattle.cluster_laws.proofs.answers.AnswerRuns.{AllRight, always_right, run_right}
use Rattle.cluster_laws.proofs.causes.CauseRuns.{IsReasoned, few_segments, reasoned_on, reasoned_start}
use Rattle.audit_clauses.specs.Clauses.{Holds}
use Rattle.audit_clauses.specs.Mentions.{names_known}
use Rattle.audit_clauses.specs.Shapes.{is_shaped}
use Rattle.audit_clauses.specs.declared.clause.Clause.{Clause}
use Rattle.audit_runs.proofs.CallShapes.{UnitsTold, units_told}
use Rattle.audit_runs.proofs.ClausesHold.{event_holds}
use Rattle.audit_runs.proofs.EventShapes.{event_fits}
use Rattle.audit_runs.proofs.Flights.{Flies, flies_kept}
use Rattle.audit_runs.proofs.KnownEntries.{AlwaysKnown, always_known}
use Rattle.audit_runs.proofs.NamedEntries.{entries_are_known}
use Rattle.audit_runs.proofs.NamedNodes.{nodes_known, segments_known}
use Rattle.audit_runs.specs.Laws.{RunsAreFaultless}

-- all that is kept: answers are right, outcomes have causes, units are told, batches fly for running units, and what stands is known
record IsAudited (config : Config) (past : List Event) (st : State) : Type 0 where
  right : AllRight config past st
  reasoned : IsReasoned config past st
  units : UnitsTold past st
  flies : AllByRecursion Flies st.calling.units
  known : AlwaysKnown config past

-- each event that may happen keeps it
audited_on : (config : Config) → is_config config ≡ true → (past : List Event) (st : State) (event : Event) → allowed st event ≡ true
    → IsAudited config past st → IsAudited config (event ∷ past) (changed st event)
audited_on config good past st event may h = record {
  right = run_right config past st (event ∷ []) good (ap (λ b. b && true) may) h.right;
  reasoned = reasoned_on config (few_segments config good) past st h.reasoned event may;
  units = units_told past st event h.units;
  flies = flies_kept st event may h.right.kept.units.numbered h.flies;
  known = always_known config past st event h.right.kept.kept.told.settings may h.known;
}

-- in every run from the start
always_audited : (config : Config) (events : List Event) → is_config config ≡ true → runs (start config) events ≡ true
    → IsAudited config (reverse events) (state (start config) events)
always_audited config events good is =
    along (IsAudited config) (audited_on config good) [] (start config) events is
    (record { right = always_right config [] good refl; reasoned = reasoned_start config good; units = refl; flies = tt; known = tt })

-- the answers of a call are right
right_of : (config : Config) (past : List Event) (st : State) → AllRight config past st → (call : ℕ) → IsRight config past call
right_of config past st h call = record {
  outcome = λ request outcome asked was. h.outcomes call request outcome asked was;
  takes = λ request asked. h.takes call request (λ other is. (let same : Some other ≡ Some request = sym is ∙ asked in cc));
}

-- all clauses hold of an event that may happen
all_hold : (config : Config) → is_config config ≡ true → (past : List Event) (st : State) (event : Event) → allowed st event ≡ true
    → IsAudited config past st → (which : Clause) → Holds which config past event
all_hold config good past st event may h = event_holds config past event shape right later.reasoned.causes
  where
    later : IsAudited config (event ∷ past) (changed st event)
    later = audited_on config good past st event may h

    right : (call : ℕ) → IsRight config (event ∷ past) call
    right = right_of config (event ∷ past) (changed st event) later.right

    named : names_known config event ≡ true
    named =
        let nodes = nodes_known config past st h.right.kept.kept h.reasoned.few event may in
        let segments = segments_known config past st h.right.kept.kept h.reasoned.traced.notes event may in
        let entries = entries_are_known config past st h.right.kept event h.known later.known right may in
        λ i. nodes i && (segments i && (entries.0 i && entries.1 i))

    shape : is_shaped config past event ≡ true
    shape =
        let fits = event_fits config past st h.right.kept h.reasoned.traced h.reasoned.few h.units h.flies event may in
        λ i. named i && fits i

-- the front of a run is one, and the event behind it may happen there
run_parts : (st : State) (before : List Event) (event : Event) (later : List Event) → runs st (before ++ event ∷ later) ≡ true
    → (runs st before ≡ true) × (allowed (state st before) event ≡ true)
run_parts st [] event later h = (refl, (and_parts (allowed st event) (runs (changed st event) later) h).0)
run_parts st (first ∷ before) event later h =
    let p = and_parts (allowed st first) (runs (changed st first) (before ++ event ∷ later)) h in
    let rest = run_parts (changed st first) before event later p.1 in
    (λ i. p.0 i && rest.0 i, rest.1)

-- in every run all clauses hold of each event
pub never_at_fault : RunsAreFaultless
never_at_fault config events good is before event later splits which =
    let parts = run_parts (start config) before event later (ap (runs (start config)) (sym splits) ∙ is) in
    all_hold config good (reverse before) (state (start config) before) event parts.1 (always_audited config before good parts.0) which
