-- What the table of members holds, in the words of the past. A past lists events, the newest first.
use Rattle.std.specs.Prelude.{◌≡◌, ℕ, ◌<◌, List, length, slice_index_or}
use Rattle.std.specs.FinSet as set
use Rattle.grid_event.specs.Maps.{clock_of}
use Rattle.grid_event.specs.Members.{installed_topology, is_live, newest_topology, was_member}
use Rattle.grid_event.specs.declared.event.Event.{Event}
use Rattle.history_members.specs.Cells.{place_in}
use Rattle.history_members.specs.Dates.{departed_at, moves_of, unread_at}
use Rattle.history_members.specs.declared.members.Members.{Members}

-- each part of the table is what the past says
pub record AreMembersOf (past : List Event) (table : Members) : Type 0 where
  pub ever : (node : ℕ) → set.contains table.ever node ≡ was_member table.config past node
  pub live : (node : ℕ) → set.contains table.live node ≡ is_live table.config past node
  pub installed : (node : ℕ) → slice_index_or table.installed node 1 ≡ installed_topology table.config past node
  pub newest : table.newest ≡ newest_topology table.config past
  pub departed : (node : ℕ) → slice_index_or table.departed node 0 ≡ departed_at past node
  pub segments : length table.unread ≡ table.config.segments
  pub unread : (node segment : ℕ) → segment < table.config.segments → place_in table.unread node segment ≡ unread_at table.config past node segment
  pub clock : table.clock ≡ clock_of past
  pub moves : table.moves ≡ moves_of past
