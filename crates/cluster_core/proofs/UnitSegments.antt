-- Of which segments units are, and which of them a node ceases to read.
use Rattle.std.proofs.Common.{◌≡◌, ℕ, ◌==◌, ◌<◌, ◌&&◌, nat_lt, not, true, cond, List, [], ◌∷◌, map, Some, refl, ap, subst, ◌∙◌}
use Rattle.std.proofs.lemmas.Bool.{and_parts, lt-ltb}
use Rattle.std.specs.FinSet as set_of
use Rattle.std.specs.List.{AllByRecursion}
use Rattle.std.specs.Ordering.{nat_cmp}
use Rattle.grid_event.specs.Configs.{is_config}
use Rattle.grid_event.specs.declared.config.Config.{Config}
use Rattle.grid_event.specs.declared.event.Event.{Event}
use Rattle.topology_phase.specs.Owners.{among}
use Rattle.topology_phase.specs.Topologies.{read_owners}
use Rattle.cluster_model.specs.State.{Holding, State, Unit, is_running, start, with_loss}
use Rattle.cluster_model.specs.Step.{allowed, changed, runs, state}
use Rattle.cluster_model.specs.Topologies.{ceases}
use Rattle.cluster_calls.specs.Calling.{with_installation}
use Rattle.cluster_laws.proofs.units.StageRuns.{IsTraced, traced_on, traced_start}
use Rattle.cluster_laws.proofs.copies.Starts.{good_config}
use Rattle.cluster_laws.proofs.stuck.StuckKept.{RoomOf, room_kept, room_start}
use Rattle.cluster_core.specs.Runs.{IsReached}

-- each unit is of one of so many segments
abbrev pub AreWithin : ℕ → List Unit → Type 0
AreWithin segments units = AllByRecursion (λ (unit : Unit). unit.work.segment < segments) units

-- each run keeps it
within_run : (config : Config) (past : List Event) (st : State) (events : List Event) → runs st events ≡ true → IsTraced config past st → RoomOf config past st → AreWithin config.segments (state st events).calling.units
within_run config past st [] is traced room = room.segments
within_run config past st (event ∷ events) is traced room =
    let parts = and_parts (allowed st event) (runs (changed st event) events) is in
    within_run config (event ∷ past) (changed st event) events parts.1 (traced_on config past st event parts.0 traced) (room_kept config past st event parts.0 traced.kept traced.units.numbered room)

-- in every cluster that a run leads to units are of its segments
pub units_within : (config : Config) (st : State) → is_config config ≡ true → IsReached config st → AreWithin config.segments st.calling.units
units_within config st good h =
    let limits = good_config config good in
    subst (λ (s : State). AreWithin config.segments s.calling.units) h.reaches
    (within_run config [] (start config) h.events h.is_run (traced_start config good) (room_start config limits.nodes limits.owners))

-- two changes that do the same to each element do the same to the list
map_alike : {A : Type 0} (P : A → Type 0) (f g : A → A) → ((x : A) → P x → f x ≡ g x) → (xs : List A) → AllByRecursion P xs → map f xs ≡ map g xs
map_alike P f g alike [] all = refl
map_alike P f g alike (x ∷ xs) all = λ i. alike x all.0 i ∷ map_alike P f g alike xs all.1 i

-- the segments of the cluster that the node doesn't read by the newest topology
abbrev pub AreUnread : Holding → ℕ → set_of.FinSet nat_cmp → Type 0
AreUnread st node unread =
    (segment : ℕ) → set_of.contains unread segment ≡ (nat_lt segment st.config.segments && not (among node (read_owners st.coord.newest segment)))

-- a unit of the cluster's segments ceases by its segment exactly where the node doesn't read it
ceases_alike : (st : Holding) (node id : ℕ) (unread : set_of.FinSet nat_cmp) → AreUnread st node unread → (unit : Unit) → unit.work.segment < st.config.segments
    → with_installation node unread id unit ≡ cond (ceases st.coord.newest node unit) (with_loss (Some id) unit) unit
ceases_alike st node id unread told unit within =
    let unread_one : set_of.contains unread unit.work.segment ≡ not (among node (read_owners st.coord.newest unit.work.segment)) =
    told unit.work.segment ∙ ap (λ b. b && not (among node (read_owners st.coord.newest unit.work.segment))) (lt-ltb unit.work.segment st.config.segments within) in
    ap (λ b. cond (is_running unit.work.state && ((unit.work.node == node) && b)) (with_loss (Some id) unit) unit) unread_one

-- and so do all units
pub units_cease : (st : Holding) (node id : ℕ) (unread : set_of.FinSet nat_cmp) (units : List Unit) → AreUnread st node unread → AreWithin st.config.segments units
    → map (with_installation node unread id) units ≡ map (λ (unit : Unit). cond (ceases st.coord.newest node unit) (with_loss (Some id) unit) unit) units
units_cease st node id unread units told within =
    map_alike (λ (unit : Unit). unit.work.segment < st.config.segments) (with_installation node unread id) (λ (unit : Unit). cond (ceases st.coord.newest node unit) (with_loss (Some id) unit) unit)
    (ceases_alike st node id unread told) units within
