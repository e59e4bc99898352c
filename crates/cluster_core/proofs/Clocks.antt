-- The clock of a core never passes its last tick.
use Rattle.std.proofs.Common.{◌≡◌, ℕ, ◌+◌, ◌≤◌, Bool, true, false, cond, not, List, [], ◌∷◌, Option, None, Some, refl, subst, arith}
use Rattle.std.proofs.lemmas.Bool.{and_parts}
use Rattle.grid_base.specs.declared.limits.TheConstants.{LAST_CLOCK}
use Rattle.grid_base.specs.declared.stamped.Stamped.{Stamped}
use Rattle.grid_event.specs.declared.config.Config.{Config}
use Rattle.grid_event.specs.declared.event.Event.{Event}
use Rattle.grid_event.specs.declared.event.Event.TheVariants.{Write, Erase, Tick, Join, Depart, Announce, Install, Copy, Land, Invoke, Round, Begin, Scan, Fetch, Take, Done, Answer}
use Rattle.state_transfer.specs.Copying.{Copying}
use Rattle.state_transfer.specs.Leaving.{closes}
use Rattle.state_transfer.proofs.LeavingLaws.{clock-closes, clock-departs, clock-drops}
use Rattle.state_transfer.proofs.StepLaws.{clock-changes, clock-lands, clock-sends, clock-ticks}
use Rattle.topology_coord.specs.Coordination.{loses}
use Rattle.topology_phase.specs.Owners.{among}
use Rattle.topology_phase.specs.Phases.{same_phase}
use Rattle.topology_phase.specs.Topologies.{write_owners}
use Rattle.topology_phase.specs.declared.phase.Phase.TheVariants.{ReadOld}
use Rattle.cluster_model.specs.Answers.{answered}
use Rattle.cluster_model.specs.Calls.{invoked, rounded}
use Rattle.cluster_model.specs.State.{Holding, State, segment_of, start}
use Rattle.cluster_model.specs.Step.{allowed, changed, runs, state}
use Rattle.cluster_model.specs.Topologies.{announced, departed, installed, joined}
use Rattle.cluster_model.specs.Transfers.{copied, landed}
use Rattle.cluster_model.specs.Units.{begun_unit, ended_unit, fetched, scanned, taken_by}
use Rattle.cluster_model.specs.Writes.{changed_key, erased, ticked, writers, written}
use Rattle.cluster_store.proofs.Rows.{tick_fits}
use Rattle.cluster_core.specs.Insides.{IsCore}
use Rattle.cluster_core.specs.declared.cluster.Core.TheInside.{Inside}

-- a change at a key leaves the clock as it is
key_clock : (st : Holding) (node : ℕ) (key : List ℕ) (stamped : Option Stamped) (segment : Option ℕ) → (changed_key st node key stamped segment).copying.clock ≡ st.copying.clock
key_clock st node key stamped None = refl
key_clock st node key stamped (Some segment) = clock-changes (writers st node segment) segment key stamped st.copying

-- and so does the end of transfers
closed_clock : (b : Bool) (p : Copying) → (cond b p (closes p)).clock ≡ p.clock
closed_clock true p = refl
closed_clock false p = clock-closes p

-- each event keeps the clock within its last tick
clock_on : (st : State) (event : Event) → allowed st event ≡ true → st.holding.copying.clock ≤ LAST_CLOCK → (changed st event).holding.copying.clock ≤ LAST_CLOCK
unfolding written erased ticked joined departed announced installed copied landed invoked rounded begun_unit scanned fetched taken_by ended_unit answered
clock_on st (Write w) may h = omega (arith, h, key_clock st.holding w.node w.key (Some (record { value = w.value; until = w.until })) (segment_of st.holding w.key))
clock_on st (Erase e) may h = omega (arith, h, key_clock st.holding e.node e.key None (segment_of st.holding e.key))
clock_on st (Tick number) may h = omega (arith, tick_fits st.holding number may, clock-ticks (st.holding.copying.clock + number) st.holding.copying)
clock_on st (Join node) may h = h
clock_on st (Depart node) may h = omega (arith, h, clock-departs node (loses st.holding.coord node) st.holding.copying)
clock_on st (Announce topology) may h = omega (arith, h, closed_clock (same_phase topology.phase ReadOld) st.holding.copying)
clock_on st (Install node id) may h = omega (arith, h, clock-drops node (λ segment. not (among node (write_owners st.holding.coord.newest segment))) st.holding.copying)
clock_on st (Copy c) may h = omega (arith, h, clock-sends c.receiver c.segment c.provider c.batch st.holding.copying)
clock_on st (Land receiver segment) may h = omega (arith, h, clock-lands receiver segment st.holding.copying)
clock_on st (Invoke i) may h = h
clock_on st (Round r) may h = h
clock_on st (Begin unit runs) may h = h
clock_on st (Scan s) may h = h
clock_on st (Fetch f) may h = h
clock_on st (Take t) may h = h
clock_on st (Done unit) may h = h
clock_on st (Answer a) may h = h

-- and so does a run
clock_run : (st : State) (events : List Event) → runs st events ≡ true → st.holding.copying.clock ≤ LAST_CLOCK → (state st events).holding.copying.clock ≤ LAST_CLOCK
clock_run st [] is h = h
clock_run st (event ∷ events) is h =
    let parts = and_parts (allowed st event) (runs (changed st event) events) is in
    clock_run (changed st event) events parts.1 (clock_on st event parts.0 h)

-- it begins at 0
at_start : (config : Config) → (start config).holding.copying.clock ≤ LAST_CLOCK
at_start config = omega arith

-- the clock of a core is within its last tick
pub core_clock : (fields : Inside) → IsCore fields → fields.store.copying.clock ≤ LAST_CLOCK
core_clock fields h =
    subst (λ (s : State). s.holding.copying.clock ≤ LAST_CLOCK) h.reached.reaches
    (clock_run (start fields.store.config) h.reached.events h.reached.is_run (at_start fields.store.config))
