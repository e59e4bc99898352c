-- The stepped run of a script: which journal it names.
use Rattle.std.specs.Prelude.{ℕ, zero, suc, ◌+◌, if◌then◌else◌, List, [], ◌∷◌, Option, None, Some, is_some}
use Rattle.grid_base.specs.declared.limits.TheConstants.{LAST_CALL, MOST_EVENTS}
use Rattle.grid_event.specs.declared.config.Config.{Config}
use Rattle.grid_event.specs.declared.command.Command.{Command}
use Rattle.grid_event.specs.declared.command.Command.TheVariants.{Advance, Drive}
use Rattle.grid_event.specs.declared.event.Event.{Event}
use Rattle.grid_event.specs.Histories.{History, blank, passes_limit, with_event, with_idle}
use Rattle.grid_script.specs.Scripts.{Steps}
use Rattle.grid_script.specs.declared.order.Order.{Order}
use Rattle.grid_script.specs.declared.order.Order.TheVariants.{One, Settle, Finish}
use Rattle.grid_script.specs.declared.step_line.StepLine.{StepLine}
use Rattle.cluster_model.specs.State.{State, start}
use Rattle.cluster_model.specs.Step.{changed}
use Rattle.cluster_model.specs.Commands.{chosen}

-- a run at one moment: the cluster, its history, and the line at which the journal was full
pub record Progress : Type 0 where
  pub state : State
  pub history : History
  pub stopped : Option ℕ

-- the start of a run: a new cluster, and a journal that has its settings and nothing else
abbrev pub begin : Config → Progress
begin config = record { state = start config; history = record blank { config = Some config }; stopped = None }

-- what is done while the run goes on; one that has stopped stays as it is
abbrev pub going : (Progress → Progress) → Progress → Progress
going next run = if is_some run.stopped then run else next run

-- an event of a line: it happens, or it would pass a limit of the journal, and then the run stops at the line
unfoldable pub with_event_at : ℕ → Event → Progress → Progress
with_event_at line event run =
    if passes_limit run.history event
    then record run { stopped = Some line }
    else record run { state = changed run.state event; history = with_event run.history event }

-- a line without an event is noted
unfoldable pub noted : ℕ → Progress → Progress
noted line run = record run { history = with_idle run.history line }

-- the event of a line, and then the rest of what it does; or what is done where there is none
abbrev pub by_event : ℕ → (Progress → Progress) → (Progress → Progress) → Option Event → Progress → Progress
by_event line rest none None run = none run
by_event line rest none (Some event) run = going rest (with_event_at line event run)

-- a command is repeated as long as it has an event, so many times at the most
unfoldable pub repeated : ℕ → ℕ → Command → Progress → Progress
repeated zero line command run = run
repeated (suc times) line command run =
    by_event line (repeated times line command) (λ same. same) (chosen run.state command) run

-- more often than the journal has room for events, so that it ends by itself or the journal is full
abbrev pub ENOUGH : ℕ
ENOUGH = MOST_EVENTS + 1

-- a command that is repeated as long as it has an event; where it has none at first, its line is idle
abbrev pub all_done : ℕ → Command → Progress → Progress
all_done line command run =
    by_event line (repeated ENOUGH line command) (noted line) (chosen run.state command) run

-- a line with one command, one that advances until nothing is left to advance, or one that drives a call to its answer;
-- where its first command has no event it is idle
abbrev pub order_done : ℕ → Order → Progress → Progress
order_done line (One command) run = by_event line (λ same. same) (noted line) (chosen run.state command) run
order_done line Settle run = all_done line Advance run
order_done line (Finish call) run = all_done line (Drive call) run

abbrev pub done : StepLine → Progress → Progress
done line run = order_done line.line line.order run

-- the lines in their order
abbrev pub after_lines : List StepLine → Progress → Progress
after_lines [] run = run
after_lines (line ∷ lines) run = after_lines lines (going (done line) run)

-- so many calls from a number on are driven to their answers, in the order of their numbers, at line 0; one that is
-- answered has no event, nor has one that was never made
unfoldable pub all_finished : ℕ → ℕ → Progress → Progress
all_finished zero call run = run
all_finished (suc calls) call run = all_finished calls (call + 1) (going (repeated ENOUGH 0 (Drive call)) run)

-- the topology is settled, at line 0
abbrev pub settled : Progress → Progress
settled = going (repeated ENOUGH 0 Advance)

-- what is done after the last line: each call is finished, and then the topology is settled
abbrev pub ended : Progress → Progress
ended run = settled (all_finished LAST_CALL 1 run)

-- the stepped run: each line is done in turn, and then what is left is brought to its end
unfoldable pub run_of : Steps → Progress
run_of script = ended (after_lines script.lines (begin script.config))
