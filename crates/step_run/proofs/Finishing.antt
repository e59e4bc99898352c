-- A run that nothing stopped has answered each call, and has settled the topology.
use Rattle.std.proofs.Common.{◌≡◌, ℕ, zero, suc, ◌+◌, ◌≤◌, ◌<◌, ◌==◌, Bool, true, false, List, [], ◌∷◌, ◌++◌, length, reverse, Option, None, Some, is_none, is_some, refl, sym, ap, subst, ◌∙◌, arith, if◌then◌else◌, ◌⊎◌, inl, inr}
use Rattle.std.proofs.lemmas.Bool.{and_parts, eqb-true, leb-true}
use Rattle.std.proofs.lemmas.Bool.Decides.{nat_tests}
use Rattle.std.proofs.lemmas.List.{reverse-append}
use Rattle.std.specs.Prelude.{Result, Ok, Err, OnOk}
use Rattle.grid_base.specs.declared.limits.TheConstants.{LAST_CALL, MOST_EVENTS}
use Rattle.grid_event.specs.Configs.{is_config, is_up_to}
use Rattle.grid_event.specs.Histories.{History, passes_limit, with_event}
use Rattle.grid_event.specs.Spans.{invokes, outcome_in}
use Rattle.grid_event.specs.declared.command.Command.{Command}
use Rattle.grid_event.specs.declared.command.Command.TheVariants.{Advance, Drive}
use Rattle.grid_event.specs.declared.config.Config.{Config}
use Rattle.grid_event.specs.declared.event.Event.{Event}
use Rattle.grid_event.specs.declared.event.Event.TheVariants.{Invoke}
use Rattle.grid_event.specs.declared.outcome.Outcome.{Outcome}
use Rattle.grid_event.specs.declared.request.Request.{Request}
use Rattle.grid_script.specs.Scripts.{Steps}
use Rattle.cluster_model.specs.Calls.{can_invoke, is_request}
use Rattle.cluster_model.specs.Commands.{advance_event, chosen, drive_event, is_unanswered}
use Rattle.cluster_model.specs.Evidence.{request_of}
use Rattle.cluster_model.specs.State.{Call, State, call_of, start}
use Rattle.cluster_model.specs.Step.{allowed, changed, runs, state}
use Rattle.cluster_model.proofs.ChosenSteps.{Found, chosen_may}
use Rattle.cluster_model.proofs.NoNewCalls.{MakesNone, advance_makes_none, drive_makes_none}
use Rattle.cluster_laws.proofs.Along.{along}
use Rattle.cluster_laws.proofs.answers.AnswerRuns.{answered_stay, calls_told_by}
use Rattle.cluster_laws.proofs.answers.AnswerUnits.{request_stays}
use Rattle.cluster_laws.proofs.stuck.StuckRuns.{never_stuck}
use Rattle.cluster_laws.specs.Laws.{NothingIsStuck, TellsCalls, fits_journal, is_settled}
use Rattle.topology_coord.specs.Coordination.{lives}
use Rattle.step_run.specs.Finished.{HasAnswer, IsFinished}
use Rattle.step_run.specs.Outcomes.{LeavesRun}
use Rattle.step_run.specs.StepRuns.{ENOUGH, Progress, after_lines, all_finished, begin, ended, going, repeated, run_of, with_event_at}
use Rattle.step_run.specs.declared.run_fault.RunFault.{RunFault}
use Rattle.step_run.proofs.Endings.{HasEnded, ends}
use Rattle.step_run.proofs.Kept.{IsKept, after_lines-keeps, begin_kept, repeated_by, run_of-kept, with_event_at-keeps}

-- ---- what an event leaves

-- a call that is made has a number in its limits
made_within : (st : State) (event : Event) (call : ℕ) → allowed st event ≡ true → invokes call event ≡ true → is_up_to LAST_CALL call ≡ true
unfolding can_invoke
made_within st (Invoke i) call may made =
    let new = (and_parts (lives st.holding.coord i.node) _ may).1 in
    let within = (and_parts (is_none (call_of st.calling i.call)) _ new).1 in
    subst (λ n. is_up_to LAST_CALL n ≡ true) (eqb-true i.call call made) (and_parts (is_up_to LAST_CALL i.call) (is_request st.holding.config.values i.request) within).0
made_within st _ call may made = absurd (cc)

-- so has each call that a run was asked for
asked_within : (config : Config) (events : List Event) → runs (start config) events ≡ true → (call : ℕ) (request : Request) → request_of (reverse events) call ≡ Some request → is_up_to LAST_CALL call ≡ true
asked_within config events is =
    along (λ past st. (call : ℕ) (request : Request) → request_of past call ≡ Some request → is_up_to LAST_CALL call ≡ true) step [] (start config) events is (λ call request asked. absurd (cc))
  where
    step : (past : List Event) (st : State) (event : Event) → allowed st event ≡ true → ((call : ℕ) (request : Request) → request_of past call ≡ Some request → is_up_to LAST_CALL call ≡ true)
        → (call : ℕ) (request : Request) → request_of (event ∷ past) call ≡ Some request → is_up_to LAST_CALL call ≡ true
    step past st event may h call request asked = by_test (invokes call event) refl
      where
        by_test : (b : Bool) → invokes call event ≡ b → is_up_to LAST_CALL call ≡ true
        by_test true e = made_within st event call may e
        by_test false e = h call request (sym (request_stays past event call e) ∙ asked)

-- an event that makes no call leaves a call's answer
answer_stays : (config : Config) (run : Progress) (event : Event) (call : ℕ) → is_config config ≡ true → IsKept config run → allowed run.state event ≡ true → MakesNone event
    → HasAnswer (reverse run.history.events) call → HasAnswer (event ∷ reverse run.history.events) call
answer_stays config run event call good kept may none h request asked =
    by_outcome (outcome_in (reverse run.history.events) call) refl
    (h request (sym (request_stays (reverse run.history.events) event call (none call)) ∙ asked))
  where
    there : allowed (state (start config) run.history.events) event ≡ true
    there = subst (λ (st : State). allowed st event ≡ true) (sym kept.cluster) may

    by_outcome : (o : Option Outcome) → outcome_in (reverse run.history.events) call ≡ o → is_some o ≡ true → is_some (outcome_in (event ∷ reverse run.history.events) call) ≡ true
    by_outcome None e some = absurd (cc)
    by_outcome (Some outcome) e some =
        ap is_some ((answered_stay config run.history.events event good kept.steps there call outcome e).outcome ∙ e)

-- ---- what is answered so far

-- the run is kept; and where nothing stopped it, the calls below a number have answers
record HaveAnswers (config : Config) (next : ℕ) (run : Progress) : Type 0 where
  pub kept : IsKept config run
  pub answered : is_some run.stopped ≡ false → (call : ℕ) → 1 ≤ call → call < next → HasAnswer (reverse run.history.events) call

-- an event that makes no call keeps that
event_keeps : (config : Config) (next line : ℕ) (run : Progress) (event : Event) → is_config config ≡ true → allowed run.state event ≡ true → MakesNone event
    → HaveAnswers config next run → HaveAnswers config next (with_event_at line event run)
unfolding with_event_at
event_keeps config next line run event good may none h = record {
  kept = with_event_at-keeps config line event run may h.kept;
  answered = by_room (passes_limit run.history event);
}
  where
    by_room : (full : Bool) →
        is_some (if full then record run { stopped = Some line } else record run { state = changed run.state event; history = with_event run.history event }).stopped ≡ false → (call : ℕ) → 1 ≤ call → call < next
        → HasAnswer (reverse (if full then record run { stopped = Some line } else record run { state = changed run.state event; history = with_event run.history event }).history.events) call
    by_room true goes call one below = absurd (cc)
    by_room false goes call one below =
        subst (λ past. HasAnswer past call) (sym (reverse-append run.history.events (event ∷ [])))
        (answer_stays config run event call good h.kept may none (h.answered goes call one below))

-- and so does the repetition of a command that makes none
repeated_keep : (config : Config) (next line : ℕ) (command : Command) → is_config config ≡ true → ((st : State) → Found MakesNone (chosen st command))
    → (times : ℕ) (run : Progress) → HaveAnswers config next run → HaveAnswers config next (repeated times line command run)
repeated_keep config next line command good none =
    repeated_by (HaveAnswers config next) line command
    (λ run event e h. event_keeps config next line run event good (chosen_may run.state command event e) (none run.state event e) h)

-- ---- what is left where a command has no event

-- a journal holds the events of the run
few_events : (config : Config) (run : Progress) → IsKept config run → length run.history.events ≤ MOST_EVENTS
few_events config run kept = leb-true _ _ (and_parts _ _ kept.fits).0

-- nothing is stuck after the run
goes_on_there : (config : Config) (run : Progress) → is_config config ≡ true → IsKept config run → NothingIsStuck run.state
goes_on_there config run good kept = subst NothingIsStuck kept.cluster (never_stuck config run.history.events good kept.steps kept.fits)

-- a call that can't be driven on has an answer, where it was made
driven_is_answered : (config : Config) (run : Progress) (call : ℕ) → is_config config ≡ true → IsKept config run → chosen run.state (Drive call) ≡ None → HasAnswer (reverse run.history.events) call
unfolding chosen
driven_is_answered config run call good kept none request asked =
    by_call (call_of run.state.calling call) refl (by_open (is_unanswered (call_of run.state.calling call)) refl)
  where
    by_open : (b : Bool) → is_unanswered (call_of run.state.calling call) ≡ b → b ≡ false
    by_open true e = let some = (goes_on_there config run good kept).drive call e in absurd (cc)
    by_open false e = refl

    told : TellsCalls config (reverse run.history.events) run.state
    told = subst (TellsCalls config (reverse run.history.events)) kept.cluster (calls_told_by config run.history.events good kept.steps)

    by_call : (found : Option Call) → call_of run.state.calling call ≡ found → is_unanswered (call_of run.state.calling call) ≡ false → is_some (outcome_in (reverse run.history.events) call) ≡ true
    by_call None e closed = let absent = told.others call e in absurd (cc)
    by_call (Some it) e closed = ap is_some ((told.calls call it e).outcome) ∙ by_outcome it.outcome (sym (ap is_unanswered e) ∙ closed)
      where
        by_outcome : (o : Option Outcome) → is_none o ≡ false → is_some o ≡ true
        by_outcome None e = absurd (cc)
        by_outcome (Some outcome) e = refl

-- a topology that can't advance is settled
stays_is_settled : (config : Config) (run : Progress) → is_config config ≡ true → IsKept config run → chosen run.state Advance ≡ None → is_settled run.state ≡ true
unfolding chosen
stays_is_settled config run good kept none = by_settled (is_settled run.state) refl
  where
    by_settled : (b : Bool) → is_settled run.state ≡ b → is_settled run.state ≡ true
    by_settled true e = e
    by_settled false e = let some = (goes_on_there config run good kept).advance e in absurd (cc)

-- what is repeated often enough has no event, where nothing stopped it
no_event : (config : Config) (line : ℕ) (command : Command) (run : Progress) → IsKept config run → is_some (repeated ENOUGH line command run).stopped ≡ false
    → chosen (repeated ENOUGH line command run).state command ≡ None
no_event config line command run kept goes = by_end (ends ENOUGH line command run (few_events config run kept) (omega arith))
  where
    by_end : HasEnded command (repeated ENOUGH line command run) → chosen (repeated ENOUGH line command run).state command ≡ None
    by_end (inl stopped) = absurd (cc)
    by_end (inr none) = none

-- ---- the end of a run

-- driving a call makes no call
drive_none : (call : ℕ) (st : State) → Found MakesNone (chosen st (Drive call))
unfolding chosen
drive_none call st = drive_makes_none st call

-- nor does advancing the topology
advance_none : (st : State) → Found MakesNone (chosen st Advance)
unfolding chosen
advance_none st = advance_makes_none st.holding

-- a number that is below the next one and isn't the last is below the last
below_last : (c last : ℕ) → c < last + 1 → (c == last) ≡ false → c < last
below_last c last below other = grind (arith, nat_tests)

-- one more call is answered
one_finished : (config : Config) (call : ℕ) (run : Progress) → is_config config ≡ true → HaveAnswers config call run → HaveAnswers config (call + 1) (going (repeated ENOUGH 0 (Drive call)) run)
one_finished config call run good h = by_stop (is_some run.stopped) refl
  where
    next : Progress
    next = repeated ENOUGH 0 (Drive call) run

    after : HaveAnswers config call next
    after = repeated_keep config call 0 (Drive call) good (drive_none call) ENOUGH run h

    each : is_some next.stopped ≡ false → (c : ℕ) → 1 ≤ c → c < call + 1 → (b : Bool) → (c == call) ≡ b → HasAnswer (reverse next.history.events) c
    each goes c one below true e =
        subst (HasAnswer (reverse next.history.events)) (sym (eqb-true c call e)) (driven_is_answered config next call good after.kept (no_event config 0 (Drive call) run h.kept goes))
    each goes c one below false e = after.answered goes c one (below_last c call below e)

    by_stop : (b : Bool) → is_some run.stopped ≡ b → HaveAnswers config (call + 1) (if b then run else next)
    by_stop true e = record { kept = h.kept; answered = λ goes. absurd (cc) }
    by_stop false e = record { kept = after.kept; answered = λ goes c one below. each goes c one below (c == call) refl }

-- so many calls from a number on are answered
calls_finished : (config : Config) (calls call last : ℕ) (run : Progress) → is_config config ≡ true → last ≡ call + calls → HaveAnswers config call run → HaveAnswers config last (all_finished calls call run)
unfolding all_finished
calls_finished config zero call last run good e h = subst (λ n. HaveAnswers config n run) (sym (e ∙ omega arith)) h
calls_finished config (suc calls) call last run good e h =
    calls_finished config calls (call + 1) last (going (repeated ENOUGH 0 (Drive call)) run) good (omega arith) (one_finished config call run good h)

-- and the topology is settled
record IsSettledAt (config : Config) (next : ℕ) (run : Progress) : Type 0 where
  pub answers : HaveAnswers config next run
  pub settled : is_some run.stopped ≡ false → is_settled run.state ≡ true

-- what follows the last call settles the topology
settled_at : (config : Config) (next : ℕ) (run : Progress) → is_config config ≡ true → HaveAnswers config next run → IsSettledAt config next (going (repeated ENOUGH 0 Advance) run)
settled_at config next run good h = by_stop (is_some run.stopped) refl
  where
    after : HaveAnswers config next (repeated ENOUGH 0 Advance run)
    after = repeated_keep config next 0 Advance good advance_none ENOUGH run h

    by_stop : (b : Bool) → is_some run.stopped ≡ b → IsSettledAt config next (if b then run else repeated ENOUGH 0 Advance run)
    by_stop true e = record { answers = h; settled = λ goes. absurd (cc) }
    by_stop false e = record {
      answers = after;
      settled = λ goes. stays_is_settled config (repeated ENOUGH 0 Advance run) good after.kept (no_event config 0 Advance run h.kept goes);
    }

-- so it is at the end of a script
run_of-settled : (script : Steps) → is_config script.config ≡ true → IsSettledAt script.config (LAST_CALL + 1) (run_of script)
unfolding run_of
run_of-settled script good =
    settled_at script.config (LAST_CALL + 1) (all_finished LAST_CALL 1 (after_lines script.lines (begin script.config))) good
    (calls_finished script.config LAST_CALL 1 (LAST_CALL + 1) (after_lines script.lines (begin script.config)) good (omega arith)
    (record { kept = after_lines-keeps script.config script.lines (begin script.config) (begin_kept script.config); answered = λ goes call one below. absurd (omega arith) }))

-- a stepped run that nothing stopped has answered each call and settled the topology
pub run_of-finished : (script : Steps) → is_config script.config ≡ true → (run_of script).stopped ≡ None → IsFinished (run_of script).history
run_of-finished script good goes = record {
  answered = λ call request asked.
      let within = and_parts _ _ (asked_within script.config (run_of script).history.events end.answers.kept.steps call request asked) in
      end.answers.answered (ap is_some goes) call (leb-true _ _ within.0) (omega (arith, leb-true _ _ within.1)) request asked;
  settled = λ config is.
      let same : Some config ≡ Some script.config = sym is ∙ end.answers.kept.settings in
      let named : config ≡ script.config = cc in
      ap (λ (c : Config). is_settled (state (start c) (run_of script).history.events)) named ∙ ap is_settled end.answers.kept.cluster ∙ end.settled (ap is_some goes);
}
  where
    end : IsSettledAt script.config (LAST_CALL + 1) (run_of script)
    end = run_of-settled script good

-- so has what is left of one
pub left_is_finished : {A : Type 0} (result : Result A RunFault) (h : History) (script : Steps) → is_config script.config ≡ true → LeavesRun result h (run_of script) → OnOk result (IsFinished h)
left_is_finished (Ok value) h script good left = subst IsFinished (sym left.1) (run_of-finished script good left.0)
left_is_finished (Err fault) h script good left = tt
