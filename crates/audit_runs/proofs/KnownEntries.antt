-- In a run each key at which something stands has a segment, and each value that stands has the kind of the cluster's values; so it
-- is with what stood at some place of a call's span.
use Rattle.std.proofs.Common.{◌⊎◌, inl, inr, ◌≡◌, ℕ, ◌+◌, Bool, true, false, ◌&&◌, cond, List, [], ◌∷◌, Option, None, Some, is_some, unwrap_or, refl, sym, ap, subst, ◌∙◌}
use Rattle.std.proofs.lemmas.Bool.{and_from, and_parts}
use Rattle.std.specs.Bool.{⊤}
use Rattle.std.specs.Option.{option_map}
use Rattle.grid_base.specs.declared.datum.Datum.{Datum}
use Rattle.grid_base.specs.declared.stamped.Stamped.{Stamped}
use Rattle.grid_event.specs.Maps.{clock_of, loses_key, stays, value_at}
use Rattle.grid_event.specs.Spans.{answers, invokes, span_end, up_to_answer}
use Rattle.grid_event.specs.declared.config.Config.{Config}
use Rattle.grid_event.specs.declared.event.Event.{Event}
use Rattle.grid_event.specs.declared.event.Event.TheVariants.{Write, Erase, Tick, Depart}
use Rattle.grid_event.specs.declared.store_events.WriteEvent.{WriteEvent}
use Rattle.segment_hash.specs.Segments.{segment_number}
use Rattle.state_transfer.proofs.CellLaws.{tied_keys}
use Rattle.cluster_model.proofs.MapLaws.{key_by_key}
use Rattle.cluster_model.specs.Evidence.{Held, StoodOnce}
use Rattle.cluster_model.specs.Laws.{same_key, stands_at}
use Rattle.cluster_model.specs.State.{State}
use Rattle.cluster_model.specs.Step.{allowed}
use Rattle.cluster_model.specs.Writes.{can_change, can_write, is_of_kind}
use Rattle.cluster_laws.proofs.copies.Requests.{may_change}

-- the key has a segment
abbrev pub has_segment : Config → List ℕ → Bool
has_segment config key = is_some (segment_number config.partition config.segments key)

-- the key has a segment, and the value has the kind of the cluster's values
abbrev pub is_known : Config → List ℕ → Datum → Bool
is_known config key datum = has_segment config key && is_of_kind config.values datum

-- so it is with what stands at the key
abbrev knows : Config → List ℕ → Option Stamped → Bool
knows config key None = true
knows config key (Some stamped) = is_known config key stamped.value

-- at each key what stands is known
abbrev MapKnown : Config → List Event → Type 0
MapKnown config past = (key : List ℕ) → knows config key (stands_at config past key) ≡ true

-- and so it was at each place of a past
abbrev pub AlwaysKnown : Config → List Event → Type 0
AlwaysKnown config [] = ⊤
AlwaysKnown config (event ∷ past) = MapKnown config (event ∷ past) × AlwaysKnown config past

-- what is left of what is known is known, and so is what isn't left out
left_known : (config : Config) (key : List ℕ) (b : Bool) (o : Option Stamped) → knows config key o ≡ true
    → knows config key (cond b o None) ≡ true
left_known config key true o h = h
left_known config key false o h = refl

kept_known : (config : Config) (key : List ℕ) (b : Bool) (o : Option Stamped) → knows config key o ≡ true
    → knows config key (cond b None o) ≡ true
kept_known config key true o h = refl
kept_known config key false o h = h

-- what may be written is known
pub write_known : (config : Config) (st : State) (w : WriteEvent) → st.holding.config ≡ config → allowed st (Write w) ≡ true
    → is_known config w.key w.value ≡ true
unfolding can_write
write_known config st w settings may =
    let p = and_parts (can_change st.holding w.node w.key) _ may in
    let found = may_change st w.node w.key p.0 in
    let kind = (and_parts (is_of_kind st.holding.config.values w.value) _ p.1).0 in
    and_from (has_segment config w.key) (is_of_kind config.values w.value)
    (ap (λ (c : Config). has_segment c w.key) (sym settings) ∙ ap is_some found.1.has_segment)
    (ap (λ (c : Config). is_of_kind c.values w.value) (sym settings) ∙ kind)

-- each event that may happen keeps it of the map
map_known : (config : Config) (past : List Event) (st : State) (event : Event) → st.holding.config ≡ config → allowed st event ≡ true
    → MapKnown config past → MapKnown config (event ∷ past)
map_known config past st (Write w) settings may h key =
    ap (knows config key) (key_by_key.writes config past w key) ∙ by_key (same_key key w.key) refl
  where
    by_key : (b : Bool) → same_key key w.key ≡ b
        → knows config key (cond b (Some (record { value = w.value; until = w.until })) (stands_at config past key)) ≡ true
    by_key true e = ap (λ k. is_known config k w.value) (tied_keys key w.key e) ∙ write_known config st w settings may
    by_key false e = h key
map_known config past st (Erase e) settings may h key =
    ap (knows config key) (key_by_key.erases config past e key) ∙ kept_known config key (same_key key e.key) (stands_at config past key) (h key)
map_known config past st (Tick ticks) settings may h key =
    ap (knows config key) (key_by_key.ticks config past ticks key)
    ∙ left_known config key (stays (clock_of past + ticks) (stands_at config past key)) (stands_at config past key) (h key)
map_known config past st (Depart node) settings may h key =
    ap (knows config key) (key_by_key.departs config past node key)
    ∙ kept_known config key (loses_key config past node (segment_number config.partition config.segments key)) (stands_at config past key) (h key)
map_known config past st event settings may h key = ap (knows config key) (key_by_key.others config past event key refl) ∙ h key

-- the map at the end of a past
now_known : (config : Config) (past : List Event) → AlwaysKnown config past → MapKnown config past
now_known config [] h key = ap (knows config key) (key_by_key.first config key)
now_known config (event ∷ past) h key = h.0 key

-- each event that may happen keeps it of all places
pub always_known : (config : Config) (past : List Event) (st : State) (event : Event) → st.holding.config ≡ config
    → allowed st event ≡ true → AlwaysKnown config past → AlwaysKnown config (event ∷ past)
always_known config past st event settings may h = (map_known config past st event settings may (now_known config past h), h)

-- a value that is there is known
value_known : (config : Config) (key : List ℕ) (datum : Datum) (o : Option Stamped)
    → option_map (λ (s : Stamped). s.value) o ≡ Some datum → knows config key o ≡ true → is_known config key datum ≡ true
value_known config key datum None is h = absurd (cc)
value_known config key datum (Some stamped) is h = let same : stamped.value ≡ datum = cc in ap (is_known config key) (sym same) ∙ h

-- what stands now is known
pub standing_known : (config : Config) (past : List Event) (key : List ℕ) (datum : Datum) → AlwaysKnown config past
    → value_at config past key ≡ Some datum → is_known config key datum ≡ true
standing_known config past key datum known is = value_known config key datum (stands_at config past key) is (now_known config past known key)

-- what stood at some place since a call was made is known
stood_known : (config : Config) (past : List Event) (call : ℕ) (key : List ℕ) (datum : Datum) → AlwaysKnown config past
    → StoodOnce config past call key datum → is_known config key datum ≡ true
stood_known config [] call key datum known stood = absurd stood
stood_known config (event ∷ past) call key datum known stood = by_place stood (λ rest. stood_known config past call key datum known.1 rest)
  where
    since_invoke : (b : Bool) → cond b ⊥ (StoodOnce config past call key datum)
        → (StoodOnce config past call key datum → is_known config key datum ≡ true) → is_known config key datum ≡ true
    since_invoke true rest before = absurd rest
    since_invoke false rest before = before rest

    by_place : (value_at config (event ∷ past) key ≡ Some datum) ⊎ cond (invokes call event) ⊥ (StoodOnce config past call key datum)
        → (StoodOnce config past call key datum → is_known config key datum ≡ true) → is_known config key datum ≡ true
    by_place (inl is) before = standing_known config (event ∷ past) key datum known is
    by_place (inr rest) before = since_invoke (invokes call event) rest before

-- the end of a call's span is a place of the past
span_known : (config : Config) (past : List Event) (call : ℕ) → AlwaysKnown config past → AlwaysKnown config (span_end past call)
span_known config past call known = by_answer (up_to_answer past call) refl
  where
    up_to : (past found : List Event) → up_to_answer past call ≡ Some found → AlwaysKnown config past → AlwaysKnown config found
    up_to [] found is known = absurd (cc)
    up_to (event ∷ past) found is known = by_event (answers call event) is (λ rest. up_to past found rest known.1)
      where
        by_event : (b : Bool) → cond b (Some (event ∷ past)) (up_to_answer past call) ≡ Some found
            → (up_to_answer past call ≡ Some found → AlwaysKnown config found) → AlwaysKnown config found
        by_event true is before = let same : event ∷ past ≡ found = cc in subst (AlwaysKnown config) same known
        by_event false is before = before is

    by_answer : (o : Option (List Event)) → up_to_answer past call ≡ o → AlwaysKnown config (unwrap_or o past)
    by_answer None is = known
    by_answer (Some found) is = up_to past found is known

-- what is held in a call is known
pub held_known : (config : Config) (past : List Event) (call : ℕ) (key : List ℕ) (datum : Datum) → AlwaysKnown config past
    → Held config past call key datum → is_known config key datum ≡ true
held_known config past call key datum known held = stood_known config (span_end past call) call key datum (span_known config past call known) held
