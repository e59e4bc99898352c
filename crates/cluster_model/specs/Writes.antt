-- Writes, erasures, and the ticks of the clock.
use Rattle.std.specs.Prelude.{ℕ, ◌+◌, Bool, true, false, nat_lt, nat_le, ◌&&◌, List, Option, None, Some}
use Rattle.grid_base.specs.declared.limits.TheConstants.{LAST_CLOCK, LONGEST_LIFESPAN}
use Rattle.grid_base.specs.declared.datum.Datum.{Datum}
use Rattle.grid_base.specs.declared.datum.Datum.TheVariants as data_of
use Rattle.grid_base.specs.declared.stamped.Stamped.{Stamped}
use Rattle.grid_event.specs.declared.store_events.EraseEvent.{EraseEvent}
use Rattle.grid_event.specs.declared.store_events.WriteEvent.{WriteEvent}
use Rattle.pipeline_expr.specs.declared.kind.ValueKind.{ValueKind}
use Rattle.pipeline_expr.specs.declared.kind.ValueKind.TheVariants as kinds
use Rattle.state_transfer.specs.Changes.{changes, ticks}
use Rattle.topology_coord.specs.Coordination.{live_of, lives, some_live, topology_of}
use Rattle.topology_phase.specs.Topologies.{read_owners, write_owners}
use Rattle.cluster_model.specs.State.{Holding, segment_of}

-- the value has the kind
abbrev pub is_of_kind : ValueKind → Datum → Bool
is_of_kind kinds.Int (data_of.Int number) = true
is_of_kind kinds.Text (data_of.Text text) = true
is_of_kind kinds.Flag (data_of.Flag flag) = true
is_of_kind _ _ = false

-- the deadline is none, or above the clock and at most 999,999,999 above it
abbrev pub is_deadline : ℕ → Option ℕ → Bool
is_deadline clock None = true
is_deadline clock (Some until) = nat_lt clock until && nat_le until (clock + LONGEST_LIFESPAN)

-- the segment has a live reader by the topology that the node has installed
abbrev pub has_reader : Holding → ℕ → ℕ → Bool
has_reader holding node segment = some_live holding.coord (read_owners (topology_of holding.coord node) segment)

-- the key has a segment, which has a live reader
abbrev pub reaches : Holding → ℕ → Option ℕ → Bool
reaches holding node None = false
reaches holding node (Some segment) = has_reader holding node segment

-- a key may be changed at a node that is live, where the key's segment has a live reader
abbrev pub can_change : Holding → ℕ → List ℕ → Bool
can_change holding node key = lives holding.coord node && reaches holding node (segment_of holding key)

-- the live writers of a segment by the topology that the node has installed
abbrev pub writers : Holding → ℕ → ℕ → List ℕ
writers holding node segment = live_of holding.coord (write_owners (topology_of holding.coord node) segment)

-- the key has the value, or none, at the live writers of its segment
abbrev pub changed_key : Holding → ℕ → List ℕ → Option Stamped → Option ℕ → Holding
changed_key holding node key stamped None = holding
changed_key holding node key stamped (Some segment) =
    record holding { copying = changes (writers holding node segment) segment key stamped holding.copying }

-- the key may be changed, the value has the kind of the cluster's values, and the deadline can stand
unfoldable pub can_write : Holding → WriteEvent → Bool
can_write holding w =
    can_change holding w.node w.key && (is_of_kind holding.config.values w.value && is_deadline holding.copying.clock w.until)

-- the value stands at the key, with its deadline
unfoldable pub written : Holding → WriteEvent → Holding
written holding w = changed_key holding w.node w.key (Some (record { value = w.value; until = w.until })) (segment_of holding w.key)

-- the key may be changed, whether anything stands at it or not
unfoldable pub can_erase : Holding → EraseEvent → Bool
can_erase holding e = can_change holding e.node e.key

-- nothing stands at the key
unfoldable pub erased : Holding → EraseEvent → Holding
erased holding e = changed_key holding e.node e.key None (segment_of holding e.key)

-- a tick raises the clock by 1 to 999,999,999, to 1,000,000,000 at most
unfoldable pub can_tick : Holding → ℕ → Bool
can_tick holding number =
    nat_le 1 number && (nat_le number LONGEST_LIFESPAN && nat_le (holding.copying.clock + number) LAST_CLOCK)

-- the clock has gone on, and what has expired is gone
unfoldable pub ticked : Holding → ℕ → Holding
ticked holding number = record holding { copying = ticks (holding.copying.clock + number) holding.copying }
