-- A run only grows, and one that has stopped stays.
use Rattle.std.proofs.Common.{◌≡◌, ℕ, zero, suc, ◌+◌, Bool, true, false, List, [], ◌∷◌, ◌++◌, Option, None, Some, is_some, refl, sym, ap, ◌∙◌, append_assoc, append-nil, if◌then◌else◌}
use Rattle.std.specs.Prelude.{Result, Ok, Err, OnErr, OnOk}
use Rattle.std.specs.Result.{is_err}
use Rattle.grid_base.specs.declared.limits.TheConstants.{LAST_CALL}
use Rattle.grid_event.specs.declared.command.Command.{Command}
use Rattle.grid_event.specs.declared.command.Command.TheVariants.{Advance, Drive}
use Rattle.grid_event.specs.declared.event.Event.{Event}
use Rattle.grid_event.specs.Histories.{History, passes_limit, with_event}
use Rattle.grid_script.specs.declared.order.Order.{Order}
use Rattle.grid_script.specs.declared.order.Order.TheVariants.{One, Settle, Finish}
use Rattle.grid_script.specs.declared.step_line.StepLine.{StepLine}
use Rattle.cluster_model.specs.Commands.{chosen}
use Rattle.cluster_model.specs.State.{State}
use Rattle.cluster_model.specs.Step.{changed}
use Rattle.step_run.specs.Outcomes.{IsFront, LeavesAt, running}
use Rattle.step_run.specs.StepRuns.{ENOUGH, Progress, after_lines, all_done, all_finished, by_event, done, ended, going, noted, order_done, repeated, settled, with_event_at}
use Rattle.step_run.specs.declared.run_fault.RunFault.{RunFault}
use Rattle.step_run.specs.declared.run_fault.RunFault.TheVariants.{Full, NoMemory}

-- a history is a front of itself
pub same_front : (h : History) → IsFront h h
same_front h = record { config = refl; more = []; events = sym (append-nil h.events) }

-- a front of a front is a front
pub longer_front : {g h i : History} → IsFront g h → IsFront h i → IsFront g i
longer_front {g} a b = record {
  config = b.config ∙ a.config;
  more = a.more ++ b.more;
  events = b.events ∙ ap (λ es. es ++ b.more) a.events ∙ append_assoc g.events a.more b.more;
}

-- what a part of the run does to it
abbrev pub Grows : (Progress → Progress) → Type 0
Grows next = (run : Progress) → IsFront run.history (next run).history

-- what is done leaves a run that has stopped as it is
abbrev pub Stays : (Progress → Progress) → Type 0
Stays next = (run : Progress) → is_some run.stopped ≡ true → next run ≡ run

-- an event at a line makes a run no shorter
pub with_event_at-grows : (line : ℕ) (event : Event) → Grows (with_event_at line event)
unfolding with_event_at
with_event_at-grows line event run =
    elim (passes_limit run.history event) as (λ (full : Bool).
    IsFront run.history (if full then record run { stopped = Some line } else record run { state = changed run.state event; history = with_event run.history event }).history) [
      | true ↦ same_front run.history
      | false ↦ record { config = refl; more = event ∷ []; events = refl }
    ]

-- nor does an idle note
pub noted-grows : (line : ℕ) → Grows (noted line)
unfolding noted
noted-grows line run = record { config = refl; more = []; events = sym (append-nil run.history.events) }

-- nor does what is done only where the run goes on
pub going-grows : (next : Progress → Progress) → Grows next → Grows (going next)
going-grows next grows run =
    elim (is_some run.stopped) as (λ (stopped : Bool). IsFront run.history (if stopped then run else next run).history) [
      | true ↦ same_front run.history
      | false ↦ grows run
    ]

-- and that leaves a stopped run
pub going-stays : (next : Progress → Progress) → Stays (going next)
going-stays next run stopped = rw stopped refl

-- nor does what is done by an event that there may be
pub by_event-grows : (line : ℕ) (rest none : Progress → Progress) → Grows rest → Grows none → (event : Option Event) → Grows (by_event line rest none event)
by_event-grows line rest none r n None run = n run
by_event-grows line rest none r n (Some event) run = longer_front (with_event_at-grows line event run) (going-grows rest r (with_event_at line event run))

-- nor does one step
pub step-grows : (line : ℕ) (event : Option Event) → Grows (by_event line (λ same. same) (λ same. same) event)
step-grows line event run = by_event-grows line (λ same. same) (λ same. same) (λ same. same_front same.history) (λ same. same_front same.history) event run

-- nor do repeated ones
pub repeated-grows : (times line : ℕ) (command : Command) → Grows (repeated times line command)
unfolding repeated
repeated-grows zero line command run = same_front run.history
repeated-grows (suc times) line command run =
    by_event-grows line (repeated times line command) (λ same. same) (repeated-grows times line command) (λ same. same_front same.history) (chosen run.state command) run

-- nor does a command done until it has no event
all_done-grows : (line : ℕ) (command : Command) → Grows (all_done line command)
all_done-grows line command run =
    by_event-grows line (repeated ENOUGH line command) (noted line) (repeated-grows ENOUGH line command) (noted-grows line) (chosen run.state command) run

-- nor does an order
pub order_done-grows : (line : ℕ) (order : Order) → Grows (order_done line order)
order_done-grows line (One command) run = by_event-grows line (λ same. same) (noted line) (λ same. same_front same.history) (noted-grows line) (chosen run.state command) run
order_done-grows line Settle run = all_done-grows line Advance run
order_done-grows line (Finish call) run = all_done-grows line (Drive call) run

-- nor does a line
pub done-grows : (line : StepLine) → Grows (done line)
done-grows line run = order_done-grows line.line line.order run

-- nor do lines
pub after_lines-grows : (lines : List StepLine) → Grows (after_lines lines)
after_lines-grows [] run = same_front run.history
after_lines-grows (line ∷ lines) run = longer_front (going-grows (done line) (done-grows line) run) (after_lines-grows lines (going (done line) run))

-- and they leave a stopped run
pub after_lines-stays : (lines : List StepLine) → Stays (after_lines lines)
after_lines-stays [] run stopped = refl
after_lines-stays (line ∷ lines) run stopped = ap (after_lines lines) (going-stays (done line) run stopped) ∙ after_lines-stays lines run stopped

-- nor does finishing the calls
pub all_finished-grows : (calls call : ℕ) → Grows (all_finished calls call)
unfolding all_finished
all_finished-grows zero call run = same_front run.history
all_finished-grows (suc calls) call run =
    longer_front (going-grows (repeated ENOUGH 0 (Drive call)) (repeated-grows ENOUGH 0 (Drive call)) run) (all_finished-grows calls (call + 1) (going (repeated ENOUGH 0 (Drive call)) run))

-- which leaves a stopped run
pub all_finished-stays : (calls call : ℕ) → Stays (all_finished calls call)
unfolding all_finished
all_finished-stays zero call run stopped = refl
all_finished-stays (suc calls) call run stopped =
    ap (all_finished calls (call + 1)) (going-stays (repeated ENOUGH 0 (Drive call)) run stopped) ∙ all_finished-stays calls (call + 1) run stopped

-- nor does settling the topology
pub settled-grows : Grows settled
settled-grows = going-grows (repeated ENOUGH 0 Advance) (repeated-grows ENOUGH 0 Advance)

-- which leaves a stopped run
pub settled-stays : Stays settled
settled-stays = going-stays (repeated ENOUGH 0 Advance)

-- nor does the end of a script
pub ended-grows : Grows ended
ended-grows run = longer_front (all_finished-grows LAST_CALL 1 run) (settled-grows (all_finished LAST_CALL 1 run))

-- which leaves a stopped run
pub ended-stays : Stays ended
ended-stays run stopped = ap settled (all_finished-stays LAST_CALL 1 run stopped) ∙ settled-stays run stopped

-- a run that was left for a fault is so left whatever was to come
pub leaves_on : (fault : RunFault) (st : State) (h : History) (target : Progress) (next : Progress → Progress) → Stays next → Grows next →
    LeavesAt fault st h target → LeavesAt fault st h (next target)
leaves_on (Full line) st h target next stays grows left = ap next left ∙ stays (record { state = st; history = h; stopped = Some line }) refl
leaves_on NoMemory st h target next stays grows left = longer_front left (grows target)

-- an event that would pass a limit stops the run
pub with_event_at-full : (line : ℕ) (event : Event) (st : State) (h : History) → passes_limit h event ≡ true →
    with_event_at line event (running st h) ≡ record { state = st; history = h; stopped = Some line }
unfolding with_event_at
with_event_at-full line event st h full = rw full refl

-- one that has room happens
pub with_event_at-room : (line : ℕ) (event : Event) (st : State) (h : History) → passes_limit h event ≡ false →
    with_event_at line event (running st h) ≡ running (changed st event) (with_event h event)
unfolding with_event_at
with_event_at-room line event st h room = rw room refl

-- equal clusters with equal histories are at the same place
pub same_running : {st su : State} {h i : History} → st ≡ su → h ≡ i → running st h ≡ running su i
same_running a b = λ i. record { state = a i; history = b i; stopped = None }

-- what holds of an Err, or of an Ok, holds where there is one
pub on_err : {A E : Type 0} {P : Type 0} (r : Result A E) → true ≡ is_err r → OnErr r P → P
on_err (Ok value) h p = absurd (cc)
on_err (Err fault) h p = p

-- what holds on success holds where there is no fault
pub on_ok : {A E : Type 0} {P : Type 0} (r : Result A E) → false ≡ is_err r → OnOk r P → P
on_ok (Ok value) h p = p
on_ok (Err fault) h p = absurd (cc)
