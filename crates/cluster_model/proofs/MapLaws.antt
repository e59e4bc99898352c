-- The cluster's map, key by key.
use Rattle.std.proofs.Common.{◌≡◌, ℕ, ◌+◌, Bool, true, false, not, cond, List, [], ◌∷◌, Option, None, Some, refl, sym, ap, ◌∙◌}
use Rattle.std.specs.FinMap as map_of
use Rattle.std.specs.Ordering.{nat_cmp}
use Rattle.std.proofs.lemmas.Cmp.{nat_list_cmp_total}
use Rattle.std.proofs.lemmas.Map.Lookups.{exact_bytes}
use Rattle.std.specs.Cmp.Lexicographic.{slice_cmp}
use Rattle.grid_base.specs.declared.stamped.Stamped.{Stamped}
use Rattle.grid_event.specs.Maps.{clock_of, entries_of, loses_key, stays}
use Rattle.grid_event.specs.declared.config.Config.{Config}
use Rattle.grid_event.specs.declared.event.Event.{Event}
use Rattle.grid_event.specs.declared.event.Event.TheVariants.{Write, Erase, Tick, Join, Depart, Announce, Install, Copy, Land, Invoke, Round, Begin, Scan, Fetch, Take, Done, Answer}
use Rattle.grid_event.specs.declared.store_events.EraseEvent.{EraseEvent}
use Rattle.grid_event.specs.declared.store_events.WriteEvent.{WriteEvent}
use Rattle.segment_hash.specs.Segments.{segment_number}
use Rattle.cluster_model.specs.Laws.{MapIsKeyByKey, leaves_map, same_key, stands_at}

-- after a write its key has the value and the deadline, and any other key what it had
writes_at : (config : Config) (past : List Event) (w : WriteEvent) (key : List ℕ) →
    stands_at config (Write w ∷ past) key ≡ cond (same_key key w.key) (Some (record { value = w.value; until = w.until })) (stands_at config past key)
unfolding entries_of
writes_at config past w key = map_of.get-insert nat_list_cmp_total (entries_of config past) w.key (record { value = w.value; until = w.until }) key

-- after an erasure its key has nothing, and any other key what it had
erases_at : (config : Config) (past : List Event) (e : EraseEvent) (key : List ℕ) →
    stands_at config (Erase e ∷ past) key ≡ cond (same_key key e.key) None (stands_at config past key)
unfolding entries_of
erases_at config past e key = map_of.get-remove nat_list_cmp_total (entries_of config past) e.key key

-- keeping what isn't lost is leaving out what is
kept_or_gone : (gone : Bool) (found : Option Stamped) → cond (not gone) found None ≡ cond gone None found
kept_or_gone true found = refl
kept_or_gone false found = refl

-- after a departure the keys of the segments that it loses have nothing, and any other key what it had
departs_at : (config : Config) (past : List Event) (node : ℕ) (key : List ℕ) →
    stands_at config (Depart node ∷ past) key
    ≡ cond (loses_key config past node (segment_number config.partition config.segments key)) None (stands_at config past key)
unfolding entries_of
departs_at config past node key =
    map_of.get-retain_keys (entries_of config past)
    (λ k. not (loses_key config past node (segment_number config.partition config.segments k))) key
    (λ x e. ap (λ k. not (loses_key config past node (segment_number config.partition config.segments k))) (sym (exact_bytes key x e)))
    ∙ kept_or_gone (loses_key config past node (segment_number config.partition config.segments key)) (stands_at config past key)

-- after a tick the keys that have expired have nothing, and any other key what it had
ticks_at : (config : Config) (past : List Event) (ticks : ℕ) (key : List ℕ) →
    stands_at config (Tick ticks ∷ past) key ≡ cond (stays (clock_of past + ticks) (stands_at config past key)) (stands_at config past key) None
unfolding entries_of
ticks_at config past ticks key =
    map_of.get-retain_keys (entries_of config past) (λ k. stays (clock_of past + ticks) (map_of.get (entries_of config past) k)) key
    (λ x e. ap (stays (clock_of past + ticks)) (map_of.get_tied nat_list_cmp_total (entries_of config past) key x e))

-- after any other event each key has what it had
others_at : (config : Config) (past : List Event) (event : Event) (key : List ℕ) → leaves_map event ≡ true → stands_at config (event ∷ past) key ≡ stands_at config past key
unfolding entries_of
others_at config past (Write w) key h = absurd (cc)
others_at config past (Erase e) key h = absurd (cc)
others_at config past (Depart node) key h = absurd (cc)
others_at config past (Tick ticks) key h = absurd (cc)
others_at config past (Join node) key h = refl
others_at config past (Announce topology) key h = refl
others_at config past (Install node id) key h = refl
others_at config past (Copy c) key h = refl
others_at config past (Land receiver segment) key h = refl
others_at config past (Invoke i) key h = refl
others_at config past (Round r) key h = refl
others_at config past (Begin unit runs) key h = refl
others_at config past (Scan s) key h = refl
others_at config past (Fetch f) key h = refl
others_at config past (Take t) key h = refl
others_at config past (Done unit) key h = refl
others_at config past (Answer a) key h = refl

-- at the start no key has anything
first_at : (config : Config) (key : List ℕ) → stands_at config [] key ≡ None
unfolding entries_of
first_at config key = map_of.get-empty (slice_cmp nat_cmp) key

-- so the map is told key by key
pub key_by_key : MapIsKeyByKey
key_by_key = record { first = first_at; writes = writes_at; erases = erases_at; departs = departs_at; ticks = ticks_at; others = others_at }
