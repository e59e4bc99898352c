-- Each put of a load has an event, and the load is put one entry after the other.
use Rattle.std.proofs.Common.{◌≡◌, ℕ, zero, suc, ◌<◌, ◌==◌, Bool, true, false, cond, List, [], ◌∷◌, map, take, slice_get, Option, None, Some, is_some, refl, sym, ap, ◌∙◌, arith, inl}
use Rattle.std.proofs.lemmas.Bool.{and_from, lt-ltb}
use Rattle.grid_base.specs.declared.entry.Entry.{Entry}
use Rattle.grid_event.specs.Configs.{is_config}
use Rattle.grid_event.specs.declared.config.Config.{Config}
use Rattle.grid_script.specs.LiveRules.{IsEntryOf, IsLive}
use Rattle.grid_script.specs.Scripts.{Lives}
use Rattle.grid_script.specs.declared.deed.Deed.TheVariants as deed
use Rattle.grid_script.specs.declared.reason.Reason.TheVariants.{KeyUngrouped}
use Rattle.grid_script.specs.declared.reason.Reason.TheVariants as reasons
use Rattle.segment_hash.proofs.SegmentLaws.{segment_below}
use Rattle.segment_hash.specs.Segments.{segment_number}
use Rattle.topology_coord.specs.Coordination.{Coordination, first_coordination, installed_id, lives, some_live}
use Rattle.topology_phase.proofs.Mending.{HasSome, any_of}
use Rattle.topology_phase.specs.Owners.{owners_at}
use Rattle.topology_phase.specs.Topologies.{read_owners}
use Rattle.cluster_laws.proofs.Runs.{always_kept}
use Rattle.cluster_laws.proofs.copies.Starts.{IsGood, good_config}
use Rattle.cluster_laws.proofs.stuck.StuckKept.{RoomOf, room_start}
use Rattle.cluster_model.proofs.Frames.{others_stay}
use Rattle.cluster_model.specs.Commands.{chosen, if_can}
use Rattle.cluster_model.specs.Kept.{IsKept}
use Rattle.cluster_model.specs.State.{State, segment_of, start}
use Rattle.cluster_model.specs.Step.{changed, runs, state}
use Rattle.cluster_model.specs.Writes.{can_change, can_write, has_reader, is_of_kind, reaches}
use Rattle.live_run.specs.Due.{command_of}
use Rattle.live_run.specs.Serving.{load_event, load_events}
use Rattle.live_run.proofs.OrdersGo.{each_at, kinds_alike, needs_true}

-- the load changes nothing that the coordinator knows
same_coord : (n : ℕ) (load : List Entry) (st : State) → (state st (take n (map load_event load))).holding.coord ≡ st.holding.coord
same_coord zero load st = refl
same_coord (suc n) [] st = refl
same_coord (suc n) (it ∷ load) st = same_coord n load (changed st (load_event it)) ∙ others_stay.coord st (load_event it) refl

-- at the start each node reads each segment at some live node
start_reads : (config : Config) → is_config config ≡ true → (node segment : ℕ) → segment < config.segments → has_reader (start config).holding node segment ≡ true
unfolding first_coordination read_owners
start_reads config good node segment within = by_test (installed_id (start config).holding.coord node == (start config).holding.coord.newest.id)
  where
    kept : IsKept config [] (start config)
    kept = always_kept config [] good refl

    room : RoomOf config [] (start config)
    room = room_start config (good_config config good).nodes (good_config config good).owners

    c : Coordination
    c = (start config).holding.coord

    one : HasSome (owners_at c.newest.current segment)
    one = room.owned segment (let all = kept.parts.topologies.all_segments in omega (arith, all, within))

    live : lives c one.0 ≡ true
    live = kept.told.live one.0 ∙ sym (kept.told.member one.0) ∙ kept.parts.topologies.named one.0 segment (inl one.1)

    some : some_live c (owners_at c.newest.current segment) ≡ true
    some = any_of (lives c) (owners_at c.newest.current segment) one.0 live one.1

    by_test : (b : Bool) → some_live c (read_owners (cond b c.newest c.before) segment) ≡ true
    by_test true = some
    by_test false = some

-- the next put of the load has its event
pub puts_go : (script : Lives) (n : ℕ) (it : Entry) → IsLive script → runs (start script.config) (take n (load_events script)) ≡ true → slice_get script.load n ≡ Some it →
    chosen (state (start script.config) (take n (load_events script))) (command_of 0 0 (deed.Put it)) ≡ Some (load_event it)
unfolding chosen can_write
puts_go script n it live run at =
    ap (λ b. if_can b (load_event it))
    (and_from (can_change st.holding 0 it.key) _ (and_from (lives st.holding.coord 0) _ alive (reached (segment_of st.holding it.key) refl some))
    (and_from (is_of_kind st.holding.config.values it.value) true
    (ap (λ (c : Config). is_of_kind c.values it.value) settings ∙ sym (kinds_alike config.values it.value) ∙ needs_true _ reasons.Mistyped rules.1) refl))
  where
    config : Config
    config = script.config

    st : State
    st = state (start config) (take n (load_events script))

    rules : IsEntryOf config it
    rules = each_at (IsEntryOf config) script.load n it live.entries at

    limits : IsGood config
    limits = good_config config live.settings

    settings : st.holding.config ≡ config
    settings = (always_kept config (take n (load_events script)) live.settings run).told.settings

    alive : lives st.holding.coord 0 ≡ true
    alive =
        ap (λ (c : Coordination). lives c 0) (same_coord n script.load (start config))
        ∙ (always_kept config [] live.settings refl).told.live 0 ∙ lt-ltb 0 config.nodes limits.nodes

    some : is_some (segment_of st.holding it.key) ≡ true
    some = ap (λ (c : Config). is_some (segment_number c.partition c.segments it.key)) settings ∙ needs_true _ KeyUngrouped rules.0

    reached : (found : Option ℕ) → segment_of st.holding it.key ≡ found → is_some found ≡ true → reaches st.holding 0 found ≡ true
    reached None e h = absurd (cc)
    reached (Some segment) e h =
        ap (λ (c : Coordination). some_live c (read_owners (cond (installed_id c 0 == c.newest.id) c.newest c.before) segment)) (same_coord n script.load (start config))
        ∙ start_reads config live.settings 0 segment
        (segment_below config.partition config.segments it.key segment limits.segments
        (ap (λ (c : Config). segment_number c.partition c.segments it.key) (sym settings) ∙ e))
