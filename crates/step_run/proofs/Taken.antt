-- What a step of a core and its journal makes of a run.
use Rattle.std.proofs.Common.{◌≡◌, ℕ, Bool, true, false, Option, None, Some, refl, sym, ◌∙◌, if◌then◌else◌, is_some}
use Rattle.grid_event.specs.Histories.{History}
use Rattle.grid_event.specs.declared.event.Event.{Event}
use Rattle.cluster_model.specs.State.{State}
use Rattle.grid_book.specs.Booked.{changed_by, passes_any, with_any}
use Rattle.step_run.specs.Outcomes.{running}
use Rattle.step_run.specs.StepRuns.{Progress, by_event, going, with_event_at}
use Rattle.step_run.proofs.Fronts.{same_running, with_event_at-full, with_event_at-room}

-- where nothing is left to do, a run stays whether it goes on or not
stays_so : (run : Progress) → going (λ same. same) run ≡ run
stays_so run = by_test (is_some run.stopped)
  where
    by_test : (b : Bool) → (if b then run else run) ≡ run
    by_test true = refl
    by_test false = refl

-- an event that there is happens, where it has room
pub taken : (line : ℕ) (st : State) (h : History) (found : Option Event) (next : State) (later : History) → next ≡ changed_by st found → later ≡ with_any h found → passes_any h found ≡ false →
    by_event line (λ same. same) (λ same. same) found (running st h) ≡ running next later
taken line st h None next later did told room = same_running (sym did) (sym told)
taken line st h (Some event) next later did told room =
    stays_so (with_event_at line event (running st h)) ∙ with_event_at-room line event st h room ∙ same_running (sym did) (sym told)

-- and else stops the run
pub filled : (line : ℕ) (st : State) (h : History) (found : Option Event) → passes_any h found ≡ true →
    by_event line (λ same. same) (λ same. same) found (running st h) ≡ record { state = st; history = h; stopped = Some line }
filled line st h None full = absurd (cc)
filled line st h (Some event) full = stays_so (with_event_at line event (running st h)) ∙ with_event_at-full line event st h full

-- the settings stay
pub any_config : (h : History) (found : Option Event) → (with_any h found).config ≡ h.config
any_config h None = refl
any_config h (Some event) = refl
