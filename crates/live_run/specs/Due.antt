-- What may come next for a live script, and when a journal was full for it. A past lists events, the newest first.
use Rattle.std.specs.Prelude.{◌≡◌, ℕ, Bool, true, false, ◌⊎◌, List, [], ◌++◌, length, reverse, slice_get, Option, None, Some}
use Rattle.std.specs.Option.{option_map}
use Rattle.grid_event.specs.Histories.{History, passes_limit}
use Rattle.grid_event.specs.declared.command.Command.{Command}
use Rattle.grid_event.specs.declared.command.Command.TheVariants as commands
use Rattle.grid_event.specs.declared.event.Event.{Event}
use Rattle.grid_script.specs.Scripts.{Lives}
use Rattle.grid_script.specs.declared.deed.Deed.{Deed}
use Rattle.grid_script.specs.declared.deed.Deed.TheVariants as deeds
use Rattle.grid_script.specs.declared.member.Member.{Member}
use Rattle.grid_script.specs.declared.member.Member.TheVariants as members
use Rattle.cluster_model.specs.Commands.{chosen}
use Rattle.cluster_model.specs.State.{start}
use Rattle.cluster_model.specs.Step.{state}
use Rattle.live_run.specs.Serving.{changes_in, deeds_by, orders_of, place_of}

-- what a session is to do, as a command at the place where it acts
abbrev pub command_of : ℕ → ℕ → Deed → Command
command_of k node (deeds.Put it) = commands.Put k node it.key it.value None
command_of k node (deeds.Erase key) = commands.Erase k node key
command_of k node (deeds.Call call request) = commands.Call k call node request

-- the next order of a session, where it has one
abbrev pub next_order : Lives → List Event → ℕ → Option Command
next_order script past k =
    option_map (command_of k (place_of script past k)) (slice_get (orders_of script k) (length (deeds_by k past)))

-- a change as a command
abbrev pub change_command : Member → Command
change_command (members.Join node) = commands.Join node
change_command (members.Depart node) = commands.Depart node

-- the next change, where there is one
abbrev pub next_change : Lives → List Event → Option Command
next_change script past = option_map change_command (slice_get script.changes (length (changes_in past)))

-- the command does nothing that a script orders, and lets no time pass
abbrev pub is_inner : Command → Bool
is_inner (commands.Put by_ node key datum lifespan) = false
is_inner (commands.Erase by_ node key) = false
is_inner (commands.Tick ticks) = false
is_inner (commands.Join node) = false
is_inner (commands.Depart node) = false
is_inner (commands.Call by_ call node request) = false
is_inner _ = true

-- what may come next: the next order of a session, the load among them; the next change; and whatever a script doesn't order
abbrev pub IsDue : Lives → List Event → Command → Type 0
IsDue script past command =
    ((k : ℕ) × (next_order script past k ≡ Some command))
    ⊎ ((next_change script past ≡ Some command) ⊎ (is_inner command ≡ true))

-- at some moment the journal was full for what might come next
pub record WasFull (script : Lives) (history : History) : Type 0 where
  pub first : List Event
  pub rest : List Event
  pub parts : history.events ≡ first ++ rest
  pub command : Command
  pub due : IsDue script (reverse first) command
  pub event : Event
  pub happens : chosen (state (start script.config) first) command ≡ Some event
  pub full : passes_limit (record { config = Some script.config; events = first; idle = [] }) event ≡ true
