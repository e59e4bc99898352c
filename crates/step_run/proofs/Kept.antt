-- Each event of a run may happen where it stands.
use Rattle.std.proofs.Common.{◌≡◌, ℕ, zero, suc, ◌+◌, ◌≤◌, nat_le, arith, length, length-append, Bool, true, false, ◌&&◌, List, [], ◌∷◌, ◌++◌, Option, None, Some, is_some, refl, sym, ap, subst, ◌∙◌, if◌then◌else◌, inl, inr}
use Rattle.std.proofs.lemmas.Bool.{and_from, le-leb}
use Rattle.std.specs.Prelude.{Result, Ok, Err, OnOk}
use Rattle.grid_base.specs.declared.limits.TheConstants.{LAST_CALL, MOST_EVENTS, MOST_WEIGHT}
use Rattle.grid_event.specs.declared.command.Command.{Command}
use Rattle.grid_event.specs.declared.command.Command.TheVariants.{Advance, Drive}
use Rattle.grid_event.specs.declared.config.Config.{Config}
use Rattle.grid_event.specs.declared.event.Event.{Event}
use Rattle.grid_event.specs.Weights.{total_weight}
use Rattle.grid_event.specs.Histories.{History, blank, passes_limit, with_event}
use Rattle.grid_event.proofs.TotalWeights.{room-passes_limit, total_weight-push}
use Rattle.grid_script.specs.Scripts.{Steps}
use Rattle.grid_script.specs.declared.order.Order.{Order}
use Rattle.grid_script.specs.declared.order.Order.TheVariants.{One, Settle, Finish}
use Rattle.grid_script.specs.declared.step_line.StepLine.{StepLine}
use Rattle.cluster_model.specs.Commands.{chosen}
use Rattle.cluster_model.specs.State.{State, start}
use Rattle.cluster_model.specs.Step.{allowed, changed, is_run, is_run_of, runs, state}
use Rattle.cluster_model.proofs.ChosenSteps.{MayHappen, chosen_may}
use Rattle.cluster_laws.specs.Laws.{fits_journal}
use Rattle.step_run.specs.Outcomes.{IsFront, Leaves, LeavesRun, running}
use Rattle.step_run.specs.StepRuns.{ENOUGH, Progress, after_lines, all_done, all_finished, begin, by_event, done, ended, going, noted, order_done, repeated, run_of, with_event_at}
use Rattle.step_run.specs.declared.run_fault.RunFault.{RunFault}
use Rattle.step_run.proofs.Fronts.{same_running}
use Rattle.step_run.specs.declared.run_fault.RunFault.TheVariants.{Full, NoMemory}

-- of two tests the second may be told from the first
joined : (a b c : Bool) → (a && b) ≡ true → (b ≡ true → c ≡ true) → (a && c) ≡ true
joined true b c h next = next h
joined false b c h next = h

-- an event that may happen behind others makes a longer run
runs-push : (st : State) (es : List Event) (e : Event) → runs st es ≡ true → allowed (state st es) e ≡ true → runs st (es ++ e ∷ []) ≡ true
runs-push st [] e r a = rw a refl
runs-push st (first ∷ es) e r a = joined (allowed st first) (runs (changed st first) es) (runs (changed st first) (es ++ e ∷ [])) r (λ rest. runs-push (changed st first) es e rest a)

-- the state after one event more is what that event makes of the state before
state-push : (st : State) (es : List Event) (e : Event) → state st (es ++ e ∷ []) ≡ changed (state st es) e
state-push st [] e = refl
state-push st (first ∷ es) e = state-push (changed st first) es e

-- the front of a run is a run
runs-front : (st : State) (es more : List Event) → runs st (es ++ more) ≡ true → runs st es ≡ true
runs-front st [] more r = refl
runs-front st (first ∷ es) more r = joined (allowed st first) (runs (changed st first) (es ++ more)) (runs (changed st first) es) r (λ rest. runs-front (changed st first) es more rest)

-- what a run keeps: its events may happen where they stand, they make its cluster, and a journal holds them
pub record IsKept (config : Config) (run : Progress) : Type 0 where
  pub settings : run.history.config ≡ Some config
  pub steps : runs (start config) run.history.events ≡ true
  pub cluster : state (start config) run.history.events ≡ run.state
  pub fits : fits_journal run.history.events ≡ true

-- an event that passes no limit fits behind the others
fits_more : (h : History) (event : Event) → passes_limit h event ≡ false → fits_journal (h.events ++ event ∷ []) ≡ true
fits_more h event e =
    let room = room-passes_limit h event (sym e) in
    let fits = room.fits in
    let one = room.one_more in
    let shorter : length (h.events ++ event ∷ []) ≤ MOST_EVENTS = omega (arith, length-append h.events (event ∷ [])) in
    let lighter : total_weight (h.events ++ event ∷ []) ≤ MOST_WEIGHT = omega (arith, total_weight-push h.events event) in
    and_from (nat_le (length (h.events ++ event ∷ [])) MOST_EVENTS) (nat_le (total_weight (h.events ++ event ∷ [])) MOST_WEIGHT)
    (le-leb (length (h.events ++ event ∷ [])) MOST_EVENTS shorter) (le-leb (total_weight (h.events ++ event ∷ [])) MOST_WEIGHT lighter)

-- what is done keeps a run a run of these settings
abbrev Keeps : Config → (Progress → Progress) → Type 0
Keeps config next = (run : Progress) → IsKept config run → IsKept config (next run)

-- an event that may happen keeps it so
pub with_event_at-keeps : (config : Config) (line : ℕ) (event : Event) (run : Progress) → allowed run.state event ≡ true → IsKept config run → IsKept config (with_event_at line event run)
unfolding with_event_at
with_event_at-keeps config line event run may kept = by_room (passes_limit run.history event) refl
  where
    by_room : (full : Bool) → passes_limit run.history event ≡ full →
        IsKept config (if full then record run { stopped = Some line } else record run { state = changed run.state event; history = with_event run.history event })
    by_room true e = record { settings = kept.settings; steps = kept.steps; cluster = kept.cluster; fits = kept.fits }
    by_room false e = record {
      settings = kept.settings;
      steps =
          runs-push (start config) run.history.events event kept.steps (subst (λ (st : State). allowed st event ≡ true) (sym kept.cluster) may);
      cluster = state-push (start config) run.history.events event ∙ ap (λ (st : State). changed st event) kept.cluster;
      fits = fits_more run.history event e;
    }

-- so does an idle note
noted-keeps : (config : Config) (line : ℕ) → Keeps config (noted line)
unfolding noted
noted-keeps config line run kept = record { settings = kept.settings; steps = kept.steps; cluster = kept.cluster; fits = kept.fits }

-- so does what is done only where the run goes on
going-keeps : (config : Config) (next : Progress → Progress) → Keeps config next → Keeps config (going next)
going-keeps config next keeps run kept =
    elim (is_some run.stopped) as (λ (stopped : Bool). IsKept config (if stopped then run else next run)) [ true ↦ kept | false ↦ keeps run kept ]

-- so does what is done by an event that may happen
by_event-keeps : (config : Config) (line : ℕ) (rest none : Progress → Progress) → Keeps config rest → Keeps config none → (event : Option Event) (run : Progress) →
    MayHappen run.state event → IsKept config run → IsKept config (by_event line rest none event run)
by_event-keeps config line rest none r n None run may kept = n run kept
by_event-keeps config line rest none r n (Some event) run may kept =
    going-keeps config rest r (with_event_at line event run) (with_event_at-keeps config line event run (may event refl) kept)

-- so does nothing
same-keeps : (config : Config) → Keeps config (λ same. same)
same-keeps config run kept = kept

-- what each event of a command keeps, its repetition keeps
pub repeated_by : (P : Progress → Type 0) (line : ℕ) (command : Command) →
    ((run : Progress) (event : Event) → chosen run.state command ≡ Some event → P run → P (with_event_at line event run)) →
    (times : ℕ) (run : Progress) → P run → P (repeated times line command run)
unfolding repeated
repeated_by P line command each zero run h = h
repeated_by P line command each (suc times) run h = by_choice (chosen run.state command) refl (repeated_by P line command each times)
  where
    by_choice : (found : Option Event) → chosen run.state command ≡ found → ((next : Progress) → P next → P (repeated times line command next)) → P (by_event line (repeated times line command) (λ same. same) found run)
    by_choice None e rest = h
    by_choice (Some event) e rest =
        let next = with_event_at line event run in
        let there : P next = each run event e h in
        elim (is_some next.stopped) as (λ (stopped : Bool). P (if stopped then next else repeated times line command next)) [
          | true ↦ there
          | false ↦ rest next there
        ]

-- so do repeated steps
repeated-keeps : (config : Config) (times line : ℕ) (command : Command) → Keeps config (repeated times line command)
repeated-keeps config times line command run kept =
    repeated_by (IsKept config) line command (λ run event e kept. with_event_at-keeps config line event run (chosen_may run.state command event e) kept) times run kept

-- so does a command done until it has no event
all_done-keeps : (config : Config) (line : ℕ) (command : Command) → Keeps config (all_done line command)
all_done-keeps config line command run kept =
    by_event-keeps config line (repeated ENOUGH line command) (noted line) (repeated-keeps config ENOUGH line command) (noted-keeps config line)
    (chosen run.state command) run (chosen_may run.state command) kept

-- so does an order
order_done-keeps : (config : Config) (line : ℕ) (order : Order) → Keeps config (order_done line order)
order_done-keeps config line (One command) run kept =
    by_event-keeps config line (λ same. same) (noted line) (same-keeps config) (noted-keeps config line) (chosen run.state command) run (chosen_may run.state command) kept
order_done-keeps config line Settle run kept = all_done-keeps config line Advance run kept
order_done-keeps config line (Finish call) run kept = all_done-keeps config line (Drive call) run kept

-- so do lines
pub after_lines-keeps : (config : Config) (lines : List StepLine) → Keeps config (after_lines lines)
after_lines-keeps config [] run kept = kept
after_lines-keeps config (line ∷ lines) run kept =
    after_lines-keeps config lines (going (done line) run) (going-keeps config (done line) (order_done-keeps config line.line line.order) run kept)

-- so does finishing the calls
all_finished-keeps : (config : Config) (calls call : ℕ) → Keeps config (all_finished calls call)
unfolding all_finished
all_finished-keeps config zero call run kept = kept
all_finished-keeps config (suc calls) call run kept =
    all_finished-keeps config calls (call + 1) (going (repeated ENOUGH 0 (Drive call)) run)
    (going-keeps config (repeated ENOUGH 0 (Drive call)) (repeated-keeps config ENOUGH 0 (Drive call)) run kept)

-- so does the end of a script
ended-keeps : (config : Config) → Keeps config ended
ended-keeps config run kept =
    going-keeps config (repeated ENOUGH 0 Advance) (repeated-keeps config ENOUGH 0 Advance) (all_finished LAST_CALL 1 run)
    (all_finished-keeps config LAST_CALL 1 run kept)

-- a new run keeps it
pub begin_kept : (config : Config) → IsKept config (begin config)
begin_kept config = record { settings = refl; steps = refl; cluster = refl; fits = refl }

-- the run of a script is a run of its settings
pub run_of-kept : (script : Steps) → IsKept script.config (run_of script)
unfolding run_of
run_of-kept script =
    ended-keeps script.config (after_lines script.lines (begin script.config))
    (after_lines-keeps script.config script.lines (begin script.config) (begin_kept script.config))

-- the journal of a stepped run is a run of the cluster
pub run_of-is_run : (script : Steps) → is_run (run_of script).history ≡ true
run_of-is_run script =
    let kept = run_of-kept script in
    ap (λ (config : Option Config). is_run_of config (run_of script).history.events) kept.settings ∙ kept.steps

-- so is each front of it
front_is_run : (history whole : History) (config : Config) → whole.config ≡ Some config → is_run whole ≡ true → IsFront history whole → is_run history ≡ true
front_is_run history whole config settings run front =
    let steps : runs (start config) whole.events ≡ true =
    sym (ap (λ (c : Option Config). is_run_of c whole.events) settings) ∙ run in
    ap (λ (c : Option Config). is_run_of c history.events) (sym front.config ∙ settings)
    ∙ runs-front (start config) history.events front.more (subst (λ (es : List Event). runs (start config) es ≡ true) front.events steps)

-- what a run leaves is what it leaves of the whole
pub leaves_run : {A : Type 0} (result : Result A RunFault) (st : State) (h : History) (target : Progress) → Leaves result st h target → LeavesRun result h target
leaves_run (Ok value) st h target left = (ap (λ (run : Progress). run.stopped) left, sym (ap (λ (run : Progress). run.history) left))
leaves_run (Err (Full line)) st h target left = (ap (λ (run : Progress). run.stopped) left, sym (ap (λ (run : Progress). run.history) left))
leaves_run (Err NoMemory) st h target left = inr left

-- whatever comes, the journal is a run
pub left_is_run : {A : Type 0} (result : Result A RunFault) (h : History) (script : Steps) → LeavesRun result h (run_of script) → is_run h ≡ true
left_is_run (Ok value) h script left = ap is_run left.1 ∙ run_of-is_run script
left_is_run (Err (Full line)) h script left = ap is_run left.1 ∙ run_of-is_run script
left_is_run (Err NoMemory) h script (inl empty) = ap is_run empty
left_is_run (Err NoMemory) h script (inr front) = front_is_run h (run_of script).history script.config (run_of-kept script).settings (run_of-is_run script) front

-- the journal has the settings of the script
pub run_of-settings : (script : Steps) → (run_of script).history.config ≡ Some script.config
run_of-settings script = (run_of-kept script).settings

-- what is left of a script's run has its settings
pub settings_left : {A : Type 0} (result : Result A RunFault) (h : History) (script : Steps) → LeavesRun result h (run_of script) →
    OnOk result (h.config ≡ Some script.config)
settings_left (Ok value) h script left = ap (λ (history : History). history.config) left.1 ∙ run_of-settings script
settings_left (Err fault) h script left = tt

-- the run is that of the lines and then of what is left
pub run_of-parts : (script : Steps) (run : Progress) → after_lines script.lines (begin script.config) ≡ run → run_of script ≡ ended run
unfolding run_of
run_of-parts script run e = ap ended e

-- the lines begin with a new cluster and a journal that has its settings
pub begun_with : (s script : Steps) (core : State) (h : History) (lines : List StepLine) → s ≡ script → core ≡ start s.config →
    h ≡ record blank { config = Some s.config } → lines ≡ s.lines → after_lines script.lines (begin script.config) ≡ after_lines lines (running core h)
begun_with s script core h lines seen new started all =
    ap (λ (script : Steps). after_lines script.lines (begin script.config)) (sym seen)
    ∙ ap (after_lines s.lines) (same_running (sym new) (sym started))
    ∙ ap (λ (ls : List StepLine). after_lines ls (running core h)) (sym all)
