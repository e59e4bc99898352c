-- What is repeated ends.
use Rattle.std.proofs.Common.{◌≡◌, ℕ, zero, suc, ◌+◌, ◌≤◌, ◌<◌, Bool, true, false, ◌∷◌, [], length, Option, None, Some, is_some, refl, arith, if◌then◌else◌, ◌⊎◌, inl, inr, length-append}
use Rattle.std.proofs.lemmas.Bool.Decides.{nat_tests}
use Rattle.grid_base.specs.declared.limits.TheConstants.{MOST_EVENTS}
use Rattle.grid_event.specs.declared.command.Command.{Command}
use Rattle.grid_event.specs.declared.event.Event.{Event}
use Rattle.grid_event.specs.Histories.{History, passes_limit, with_event}
use Rattle.cluster_model.specs.Commands.{chosen}
use Rattle.cluster_model.specs.Step.{changed}
use Rattle.step_run.specs.StepRuns.{Progress, by_event, repeated, with_event_at}

-- the run has stopped, or the command has no event
abbrev pub HasEnded : Command → Progress → Type 0
HasEnded command run = (is_some run.stopped ≡ true) ⊎ (chosen run.state command ≡ None)

-- an event that passes no limit finds room for it
one_more : (h : History) (event : Event) → passes_limit h event ≡ false → length h.events < MOST_EVENTS
one_more h event room = grind (arith, nat_tests)

-- where the run goes on the journal has one event more, and had room for it
record IsLonger (run next : Progress) : Type 0 where
  pub longer : length next.history.events ≡ length run.history.events + 1
  pub room : length run.history.events < MOST_EVENTS

-- a run that isn't stopped by an event is longer by it
longer_by : (line : ℕ) (event : Event) (run : Progress) (full : Bool) → passes_limit run.history event ≡ full →
    is_some (if full then record run { stopped = Some line } else record run { state = changed run.state event; history = with_event run.history event }).stopped ≡ false →
    IsLonger run (if full then record run { stopped = Some line } else record run { state = changed run.state event; history = with_event run.history event })
longer_by line event run true full goes = absurd (cc)
longer_by line event run false full goes = record { longer = length-append run.history.events (event ∷ []); room = one_more run.history event full }

-- so it is where the event is the one of a line
with_event_at-longer : (line : ℕ) (event : Event) (run : Progress) → is_some (with_event_at line event run).stopped ≡ false → IsLonger run (with_event_at line event run)
unfolding with_event_at
with_event_at-longer line event run goes = longer_by line event run (passes_limit run.history event) refl goes

-- what a command that was repeated so many times more has come to
abbrev EndsIn : ℕ → ℕ → Command → Type 0
EndsIn times line command =
    (run : Progress) → length run.history.events ≤ MOST_EVENTS → MOST_EVENTS < length run.history.events + times → HasEnded command (repeated times line command run)

-- what is repeated behind an event ends, where it ends from there
behind : (times line : ℕ) (command : Command) → EndsIn times line command → (run next : Progress) (stopped : Bool) → is_some next.stopped ≡ stopped →
    (is_some next.stopped ≡ false → IsLonger run next) → MOST_EVENTS < length run.history.events + suc times →
    HasEnded command (if stopped then next else repeated times line command next)
behind times line command rest run next true e longer enough = inl e
behind times line command rest run next false e longer enough =
    let more = longer e in
    let room = more.room in
    let long = more.longer in
    rest next (omega arith) (omega arith)

-- and so does what is repeated by choice
by_choice : (times line : ℕ) (command : Command) → EndsIn times line command → (run : Progress) (found : Option Event) → chosen run.state command ≡ found →
    MOST_EVENTS < length run.history.events + suc times → HasEnded command (by_event line (repeated times line command) (λ same. same) found run)
by_choice times line command rest run None e enough = inr e
by_choice times line command rest run (Some event) e enough =
    behind times line command rest run (with_event_at line event run) (is_some (with_event_at line event run).stopped) refl (with_event_at-longer line event run) enough

-- what is repeated more often than a journal has room ends
pub ends : (times line : ℕ) (command : Command) → EndsIn times line command
unfolding repeated
ends zero line command run few enough = absurd (omega arith)
ends (suc times) line command run few enough = by_choice times line command (ends times line command) run (chosen run.state command) refl enough
