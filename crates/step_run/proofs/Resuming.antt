-- A step of what is repeated, and the rest of it.
use Rattle.std.proofs.Common.{◌≡◌, ℕ, zero, suc, ◌+◌, ◌-◌, ◌<◌, Bool, true, false, Option, None, Some, is_some, refl, sym, ap, subst, ◌∙◌, arith, if◌then◌else◌}
use Rattle.std.specs.Prelude.{Result}
use Rattle.grid_event.specs.declared.command.Command.{Command}
use Rattle.grid_event.specs.declared.command.Command.TheVariants.{Drive}
use Rattle.grid_event.specs.declared.event.Event.{Event}
use Rattle.grid_event.specs.Histories.{History, with_idle}
use Rattle.cluster_model.specs.Commands.{chosen}
use Rattle.cluster_model.specs.State.{State}
use Rattle.step_run.specs.Outcomes.{Leaves, LeavesAt, running}
use Rattle.step_run.specs.StepRuns.{ENOUGH, Progress, all_finished, by_event, going, noted, repeated, with_event_at}
use Rattle.step_run.specs.declared.run_fault.RunFault.{RunFault}
use Rattle.step_run.specs.declared.run_fault.RunFault.TheVariants.{Full, NoMemory}
use Rattle.step_run.proofs.Fronts.{Grows, Stays, going-grows, going-stays, leaves_on, longer_front, repeated-grows, same_front}

-- what is done behind a step: the rest, where there was an event
abbrev pub after_step : (Progress → Progress) → Option Event → Progress → Progress
after_step rest None run = run
after_step rest (Some event) run = going rest run

-- one step
abbrev pub one_step : ℕ → Option Event → Progress → Progress
one_step line event run = by_event line (λ same. same) (λ same. same) event run

-- nothing done leaves a run
going-same : (run : Progress) → going (λ same. same) run ≡ run
going-same run = elim (is_some run.stopped) as (λ (stopped : Bool). (if stopped then run else run) ≡ run) [ true ↦ refl | false ↦ refl ]

-- what is done by an event is one step, and then the rest
pub by_event-step : (line : ℕ) (rest : Progress → Progress) (event : Option Event) (run : Progress) →
    by_event line rest (λ same. same) event run ≡ after_step rest event (one_step line event run)
by_event-step line rest None run = refl
by_event-step line rest (Some event) run = ap (going rest) (sym (going-same (with_event_at line event run)))

-- where a line may be idle instead
pub by_event-or : (line : ℕ) (rest none : Progress → Progress) (event : Option Event) (run : Progress) → true ≡ is_some event →
    by_event line rest none event run ≡ after_step rest event (one_step line event run)
by_event-or line rest none None run h = absurd (cc)
by_event-or line rest none (Some event) run h = ap (going rest) (sym (going-same (with_event_at line event run)))

-- without an event it is what is done for none
pub by_event-none : (line : ℕ) (rest none : Progress → Progress) (event : Option Event) (run : Progress) → false ≡ is_some event →
    by_event line rest none event run ≡ none run
by_event-none line rest none None run h = refl
by_event-none line rest none (Some event) run h = absurd (cc)

-- without an event a step changes nothing
pub one_step-none : (line : ℕ) (event : Option Event) (run : Progress) → false ≡ is_some event → one_step line event run ≡ run
one_step-none line None run h = refl
one_step-none line (Some event) run h = absurd (cc)

-- what is done after a step leaves a stopped run
pub after_step-stays : (rest : Progress → Progress) (event : Option Event) → Stays (after_step rest event)
after_step-stays rest None run stopped = refl
after_step-stays rest (Some event) run stopped = going-stays rest run stopped

-- and makes it no shorter
pub after_step-grows : (rest : Progress → Progress) → Grows rest → (event : Option Event) → Grows (after_step rest event)
after_step-grows rest grows None run = same_front run.history
after_step-grows rest grows (Some event) run = going-grows rest grows run

-- without an event nothing is done after the step
pub after_step-none : (rest : Progress → Progress) (event : Option Event) (run : Progress) → false ≡ is_some event → after_step rest event run ≡ run
after_step-none rest None run h = refl
after_step-none rest (Some event) run h = absurd (cc)

-- with one the rest is done
pub after_step-some : (rest : Progress → Progress) (event : Option Event) (st : State) (h : History) → true ≡ is_some event →
    after_step rest event (running st h) ≡ rest (running st h)
after_step-some rest None st h e = absurd (cc)
after_step-some rest (Some event) st h e = refl

-- what is repeated is a step, and the rest
pub repeated-next : (times line : ℕ) (command : Command) (run : Progress) → 0 < times →
    repeated times line command run ≡ after_step (repeated (times - 1) line command) (chosen run.state command) (one_step line (chosen run.state command) run)
unfolding repeated
repeated-next zero line command run h = absurd (omega arith)
repeated-next (suc times) line command run h =
    let e : times ≡ suc times - 1 = omega arith in
    by_event-step line (repeated times line command) (chosen run.state command) run
    ∙ ap (λ n. after_step (repeated n line command) (chosen run.state command) (one_step line (chosen run.state command) run)) e

-- repeated no more, nothing is done
pub repeated-end : (line : ℕ) (command : Command) (run : Progress) → repeated 0 line command run ≡ run
unfolding repeated
repeated-end line command run = refl

-- a fault at a step is one of what is repeated
pub repeated-leaves : (times line : ℕ) (command : Command) (run : Progress) (fault : RunFault) (st : State) (h : History) → 0 < times →
    LeavesAt fault st h (one_step line (chosen run.state command) run) → LeavesAt fault st h (repeated times line command run)
repeated-leaves times line command run fault st h more left =
    subst (λ (target : Progress). LeavesAt fault st h target) (sym (repeated-next times line command run more))
    (leaves_on fault st h (one_step line (chosen run.state command) run) (after_step (repeated (times - 1) line command) (chosen run.state command))
    (after_step-stays (repeated (times - 1) line command) (chosen run.state command))
    (after_step-grows (repeated (times - 1) line command) (repeated-grows (times - 1) line command) (chosen run.state command))
    left)

-- a line that is noted keeps its cluster
pub noted-running : (line : ℕ) (st : State) (h : History) → noted line (running st h) ≡ running st (with_idle h line)
unfolding noted
noted-running line st h = refl

-- a run that goes on has not stopped
never_stopped : (line : ℕ) (st su : State) (h i : History) → running st h ≡ record { state = su; history = i; stopped = Some line } → ⊥
never_stopped line st su h i e = let f = ap (λ (run : Progress). run.stopped) e in cc

-- a fault at a line's first step is one of the line
pub by_event-leaves : (line : ℕ) (rest none : Progress → Progress) → Grows rest → Grows none → (event : Option Event) (su : State) (i : History)
    (fault : RunFault) (st : State) (h : History) →
    LeavesAt fault st h (one_step line event (running su i)) → LeavesAt fault st h (by_event line rest none event (running su i))
by_event-leaves line rest none r n None su i (Full at) st h left = absurd (never_stopped at su st i h left)
by_event-leaves line rest none r n None su i NoMemory st h left = longer_front left (n (running su i))
by_event-leaves line rest none r n (Some event) su i fault st h left =
    leaves_on fault st h (with_event_at line event (running su i)) (going rest) (going-stays rest) (going-grows rest r)
    (subst (λ (target : Progress). LeavesAt fault st h target) (going-same (with_event_at line event (running su i))) left)

-- behind a line's first event comes the rest
pub by_event-rest : (line : ℕ) (rest none : Progress → Progress) (event : Option Event) (run : Progress) (st : State) (h : History) → true ≡ is_some event →
    by_event line (λ same. same) none event run ≡ running st h → by_event line rest none event run ≡ rest (running st h)
by_event-rest line rest none None run st h some left = absurd (cc)
by_event-rest line rest none (Some event) run st h some left = ap (going rest) (sym (going-same (with_event_at line event run)) ∙ left)

-- a line that is idle has no rest
pub by_event-idle : (line : ℕ) (rest none : Progress → Progress) (event : Option Event) (run : Progress) → false ≡ is_some event →
    by_event line rest none event run ≡ by_event line (λ same. same) none event run
by_event-idle line rest none None run h = refl
by_event-idle line rest none (Some event) run h = absurd (cc)

-- a fault at a line's first event is one of the line
pub by_event-fault : (line : ℕ) (rest none : Progress → Progress) → Grows rest → (event : Option Event) (run : Progress) (fault : RunFault) (st : State) (h : History) →
    LeavesAt fault st h (by_event line (λ same. same) none event run) → LeavesAt fault st h (by_event line rest none event run)
by_event-fault line rest none r None run fault st h left = left
by_event-fault line rest none r (Some event) run fault st h left =
    leaves_on fault st h (with_event_at line event run) (going rest) (going-stays rest) (going-grows rest r)
    (subst (λ (target : Progress). LeavesAt fault st h target) (going-same (with_event_at line event run)) left)

-- the first call is finished, and then the others
pub all_finished-next : (calls call : ℕ) (st : State) (h : History) → 0 < calls →
    all_finished calls call (running st h) ≡ all_finished (calls - 1) (call + 1) (repeated ENOUGH 0 (Drive call) (running st h))
unfolding all_finished
all_finished-next zero call st h more = absurd (omega arith)
all_finished-next (suc calls) call st h more =
    let e : calls ≡ suc calls - 1 = omega arith in
    ap (λ n. all_finished n (call + 1) (repeated ENOUGH 0 (Drive call) (running st h))) e

-- no call more to finish, nothing is done
pub all_finished-end : (call : ℕ) (run : Progress) → all_finished 0 call run ≡ run
unfolding all_finished
all_finished-end call run = refl

-- what was left behind a part that went on is what the rest leaves
pub leaves_from : {A : Type 0} (result : Result A RunFault) (st : State) (h : History) (run : Progress) (su : State) (i : History)
    (next : Progress → Progress) → run ≡ running su i → Leaves result st h (next (running su i)) → Leaves result st h (next run)
leaves_from result st h run su i next went left = subst (λ (target : Progress). Leaves result st h target) (ap next (sym went)) left
