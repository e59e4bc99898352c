-- Each key of the cluster's map has a segment.
use Rattle.std.proofs.Common.{◌≡◌, ℕ, ◌+◌, Bool, true, false, cond, List, [], ◌∷◌, Option, None, Some, is_none, refl, sym, ap, ◌∙◌}
use Rattle.std.proofs.lemmas.Bool.{and_parts}
use Rattle.grid_base.specs.declared.stamped.Stamped.{Stamped}
use Rattle.grid_event.specs.Maps.{clock_of, loses_key, stays}
use Rattle.grid_event.specs.declared.config.Config.{Config}
use Rattle.grid_event.specs.declared.event.Event.{Event}
use Rattle.grid_event.specs.declared.event.Event.TheVariants.{Write, Erase, Tick, Depart}
use Rattle.segment_hash.specs.Segments.{segment_number}
use Rattle.state_transfer.proofs.CellLaws.{tied_keys}
use Rattle.cluster_model.proofs.MapLaws.{key_by_key}
use Rattle.cluster_model.specs.Laws.{same_key, stands_at}
use Rattle.cluster_model.specs.State.{State}
use Rattle.cluster_model.specs.Step.{allowed}
use Rattle.cluster_model.specs.Writes.{can_change, can_write}
use Rattle.cluster_laws.proofs.copies.Requests.{may_change}

-- a key at which something stands has a segment
abbrev pub KeysKept : Config → List Event → Type 0
KeysKept config past = (key : List ℕ) → is_none (stands_at config past key) ≡ false → is_none (segment_number config.partition config.segments key) ≡ false

-- what is left of what stood
left_of : (b : Bool) (o : Option Stamped) → is_none (cond b o None) ≡ false → is_none o ≡ false
left_of true o h = h
left_of false o h = absurd (cc)

-- what isn't left out stood
left_out : (b : Bool) (o : Option Stamped) → is_none (cond b None o) ≡ false → is_none o ≡ false
left_out true o h = absurd (cc)
left_out false o h = h

-- a write has a key with a segment
written_keys : (config : Config) (past : List Event) (st : State) (w : _) → st.holding.config ≡ config → can_write st.holding w ≡ true → KeysKept config past → KeysKept config (Write w ∷ past)
unfolding can_write
written_keys config past st w settings can h key stands = by_key (same_key key w.key) refl (ap is_none (sym (key_by_key.writes config past w key)) ∙ stands)
  where
    by_key : (b : Bool) → same_key key w.key ≡ b → is_none (cond b (Some (record { value = w.value; until = w.until })) (stands_at config past key)) ≡ false → is_none (segment_number config.partition config.segments key) ≡ false
    by_key true e s =
        let may = may_change st w.node w.key (and_parts (can_change st.holding w.node w.key) _ can).0 in
        let same : key ≡ w.key = tied_keys key w.key e in
        ap (λ k. is_none (segment_number config.partition config.segments k)) same
        ∙ ap (λ (c : Config). is_none (segment_number c.partition c.segments w.key)) (sym settings)
        ∙ ap is_none may.1.has_segment
    by_key false e s = h key s

-- every event that may happen keeps it
pub keys_kept : (config : Config) (past : List Event) (st : State) (event : Event) → st.holding.config ≡ config → allowed st event ≡ true → KeysKept config past → KeysKept config (event ∷ past)
keys_kept config past st (Write w) settings may h = written_keys config past st w settings may h
keys_kept config past st (Erase e) settings may h = λ key s. h key (left_out (same_key key e.key) (stands_at config past key) (ap is_none (sym (key_by_key.erases config past e key)) ∙ s))
keys_kept config past st (Tick ticks) settings may h = λ key s. h key (left_of (stays (clock_of past + ticks) (stands_at config past key)) (stands_at config past key) (ap is_none (sym (key_by_key.ticks config past ticks key)) ∙ s))
keys_kept config past st (Depart node) settings may h = λ key s.
    h key (left_out (loses_key config past node (segment_number config.partition config.segments key)) (stands_at config past key) (ap is_none (sym (key_by_key.departs config past node key)) ∙ s))
keys_kept config past st event settings may h = λ key s. h key (ap is_none (sym (key_by_key.others config past event key refl)) ∙ s)

-- at the start nothing stands
pub keys_first : (config : Config) → KeysKept config []
keys_first config key s = let none = ap is_none (key_by_key.first config key) in absurd (cc)
