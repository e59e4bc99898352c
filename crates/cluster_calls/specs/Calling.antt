-- What a contract asks of the calls of a cluster and their units beyond the words of the model.
use Rattle.std.specs.Prelude.{ℕ, ◌+◌, ◌<◌, ◌==◌, Bool, false, not, nat_le, ◌&&◌, cond, List, ◌++◌, map, Option, None, Some, is_none, is_some, ◌≡◌, drop, slice_get}
use Rattle.std.specs.List.{filter, list_all, range_with_len}
use Rattle.std.specs.FinMap as map_of
use Rattle.std.specs.FinSet as set_of
use Rattle.std.specs.Ordering.{nat_cmp}
use Rattle.grid_base.specs.declared.entry.Entry.{Entry}
use Rattle.grid_event.specs.declared.call_events.Ask.{Ask}
use Rattle.suspect_retry.specs.Rounds.{closed_at}
use Rattle.topology_phase.specs.Owners.{among}
use Rattle.cluster_model.specs.Commands.{is_unanswered}
use Rattle.cluster_model.specs.Calls.{unit_made}
use Rattle.cluster_model.specs.State.{Call, Calling, Unit, call_of, is_asked, is_open_unit, is_running, with_loss, with_unit}
use Rattle.cluster_model.specs.Topologies.{is_complete}
use Rattle.cluster_calls.specs.Takings.{taken_in}

-- units stand in the order of their numbers, which count from 1
abbrev pub AreNumbered : List Unit → Type 0
AreNumbered units = (i : ℕ) (u : Unit) → slice_get units i ≡ Some u → u.work.id ≡ i + 1

-- there is one, and it passes the test
abbrev pub is_one : {A : Type 0} → (A → Bool) → Option A → Bool
is_one test None = false
is_one test (Some it) = test it

-- the segments from this one on that are incomplete for the call, ascending
abbrev pub incomplete_from : ℕ → ℕ → List Unit → ℕ → List ℕ
incomplete_from from count units call = filter (λ segment. not (is_complete units call segment)) (range_with_len from count)

-- the units of the call's last round
abbrev pub round_units : List Unit → Call → List Unit
round_units units call = filter (λ (unit : Unit). among unit.work.id call.last_round) units

-- the topology with this number isn't older than any at which a unit of the last round was refused or was lost by an installation
abbrev pub caught_up : List Unit → Call → ℕ → Bool
caught_up units call installed = list_all (λ (unit : Unit). nat_le (closed_at unit.work.state) installed) (round_units units call)

-- the unit is open, and its call isn't answered
abbrev pub is_waiting : Calling → Unit → Bool
is_waiting calling unit = is_open_unit unit && is_unanswered (call_of calling unit.work.call)

-- no unit waits whose place is below this one
abbrev pub NoneWaits : Calling → ℕ → Type 0
NoneWaits calling place = (i : ℕ) (u : Unit) → slice_get calling.units i ≡ Some u → i < place → is_waiting calling u ≡ false

-- the units without some of the first ones, none of which waits
pub record IsRest (calling : Calling) (units : List Unit) : Type 0 where
  pub skipped : ℕ
  pub rest : units ≡ drop skipped calling.units
  pub none : NoneWaits calling skipped

-- the unit is asked, and not by a later topology than this one
abbrev pub may_begin : ℕ → Unit → Bool
may_begin at unit = is_asked unit.work.state && nat_le unit.work.asked_at at

-- the unit runs, it hasn't read its last batch, and none flies
abbrev pub may_read : Unit → Bool
may_read unit = is_running unit.work.state && (not unit.work.last && is_none unit.flying)

-- a batch of the unit flies
abbrev pub flies : Unit → Bool
flies unit = is_some unit.flying

-- the unit runs, and it has read its last batch, of which nothing flies
abbrev pub may_end : Unit → Bool
may_end unit = is_running unit.work.state && (unit.work.last && is_none unit.flying)

-- the unit runs at the node, on one of these segments
abbrev pub ceases_at : ℕ → set_of.FinSet nat_cmp → Unit → Bool
ceases_at node segments unit =
    is_running unit.work.state && ((unit.work.node == node) && set_of.contains segments unit.work.segment)

-- a node installs a topology by which it ceases to read these segments: its running units on them are lost
abbrev pub with_installation : ℕ → set_of.FinSet nat_cmp → ℕ → Unit → Unit
with_installation node segments id unit = cond (ceases_at node segments unit) (with_loss (Some id) unit) unit

-- the unit of the number is changed
abbrev pub changes_unit : ℕ → (Unit → Unit) → Calling → Calling
changes_unit number change calling = record calling { units = with_unit number change calling.units }

-- the call of the number is this one
abbrev pub puts_call : ℕ → Call → Calling → Calling
puts_call number call calling = record calling { calls = map_of.insert calling.calls number call }

-- the entries are taken from the segment behind the others, and so many items more are given
abbrev pub with_taken : ℕ → List Entry → ℕ → Call → Call
with_taken segment entries given call =
    record call { taken = call.taken ++ taken_in segment entries; given = call.given + given }

-- one more round was made, of these units
abbrev pub with_round : List ℕ → Call → Call
with_round units call = record call { rounds = call.rounds + 1; last_round = units }

-- a call that is there is changed
abbrev pub with_call : ℕ → (Call → Call) → Option Call → map_of.FinMap nat_cmp Call → map_of.FinMap nat_cmp Call
with_call number change None calls = calls
with_call number change (Some call) calls = map_of.insert calls number (change call)

-- the call of the number, where it is there, is changed
abbrev pub changes_call : ℕ → (Call → Call) → Calling → Calling
changes_call number change calling =
    record calling { calls = with_call number change (map_of.get calling.calls number) calling.calls }

-- the call has made one more round, whose units are asked
abbrev pub round_of : ℕ → ℕ → List Ask → Calling → Calling
round_of number id asks calling = record calling {
  units = calling.units ++ map (unit_made number id) asks;
  calls = with_call number (with_round (map (λ (ask : Ask). ask.unit) asks)) (map_of.get calling.calls number) calling.calls;
}

-- a unit has let its flying batch go, of which the entries were taken by its call and so many items given
abbrev pub taking_of : ℕ → List Entry → ℕ → Option Unit → Calling → Calling
taking_of number entries given None calling = calling
taking_of number entries given (Some unit) calling = record calling {
  units = with_unit number (λ u. record u { flying = None }) calling.units;
  calls = with_call unit.work.call (with_taken unit.work.segment entries given) (map_of.get calling.calls unit.work.call) calling.calls;
}
