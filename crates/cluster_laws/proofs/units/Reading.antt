-- What units have read.
use Rattle.std.proofs.Common.{◌≡◌, ℕ, ◌≤◌, ◌==◌, Bool, true, false, ◌||◌, cond, List, [], ◌∷◌, ◌++◌, Some, refl, sym, ap, ◌∙◌, arith, subst}
use Rattle.std.proofs.lemmas.Bool.{and_parts}
use Rattle.container_seg.specs.Scans.{comes_after}
use Rattle.grid_base.specs.Datum.{same_bytes, same_datum, same_entry}
use Rattle.grid_base.specs.declared.datum.Datum.{Datum}
use Rattle.grid_base.specs.declared.entry.Entry.{Entry}
use Rattle.grid_event.specs.Maps.{value_at}
use Rattle.grid_event.specs.UnitHistories.{has_ended}
use Rattle.grid_event.specs.declared.config.Config.{Config}
use Rattle.grid_event.specs.declared.event.Event.{Event}
use Rattle.grid_event.specs.declared.event.Event.TheVariants.{Done}
use Rattle.grid_base.proofs.DatumLemmas.{same_entry-exact, same_entry-itself}
use Rattle.local_publisher.specs.declared.unit_state.UnitState.{UnitState}
use Rattle.local_publisher.specs.declared.unit_state.UnitState.TheVariants.{Asked, Running, Refused, Lost, Ended}
use Rattle.segment_hash.specs.Segments.{segment_number}
use Rattle.cluster_model.specs.Completion.{StoodSinceBegin, begins}
use Rattle.cluster_model.specs.Evidence.{entry_times, times}
use Rattle.cluster_model.specs.State.{is_asked, is_ended, is_running}
use Rattle.cluster_model.specs.Units.{last_key}
use Rattle.cluster_laws.proofs.Lists.{how_many-append, how_many_le}

-- a stage in which a unit reads or has read
abbrev pub reads_in : UnitState → Bool
reads_in stage = is_running stage || is_ended stage

-- what a unit with these fields keeps. It has read nothing while it is asked; no key twice; no key past the last one read; each
-- entry that stood since its begin and isn't past; and nothing that stood is past once the last batch was read
pub record ReadOf (config : Config) (past : List Event) (id segment node : ℕ) (entries : List Entry) (last : Bool) (stage : UnitState) : Type 0 where
  pub told : has_ended past id ≡ is_ended stage
  pub unread : is_asked stage ≡ true → (entries ≡ []) × (last ≡ false)
  pub once : (key : List ℕ) → times key entries ≤ 1
  pub behind : (key : List ℕ) → comes_after node (last_key entries) key ≡ true → times key entries ≡ 0
  pub read : reads_in stage ≡ true → (key : List ℕ) (datum : Datum) → segment_number config.partition config.segments key ≡ Some segment
      → StoodSinceBegin config past id key datum → comes_after node (last_key entries) key ≡ false → entry_times key datum entries ≡ 1
  pub left : reads_in stage ≡ true → last ≡ true → (key : List ℕ) (datum : Datum) → segment_number config.partition config.segments key ≡ Some segment
      → StoodSinceBegin config past id key datum → comes_after node (last_key entries) key ≡ false

-- what stood up to the event stood before it, where the unit began earlier
pub stood_before : (config : Config) (past : List Event) (event : Event) (id : ℕ) (key : List ℕ) (datum : Datum) → begins id event ≡ false →
    StoodSinceBegin config (event ∷ past) id key datum → StoodSinceBegin config past id key datum
stood_before config past event id key datum b s =
    (subst (λ t. cond t (value_at config (event ∷ past) key ≡ Some datum) (StoodSinceBegin config past id key datum × (has_ended past id ≡ false → value_at config (event ∷ past) key ≡ Some datum))) b s).0

-- a unit that hasn't ended by an event hadn't before it
not_ended_before : (event : Event) (past : List Event) (id : ℕ) → has_ended (event ∷ past) id ≡ false → has_ended past id ≡ false
not_ended_before (Done other) past id h = right_false (other == id) (has_ended past id) h
  where
    right_false : (a b : Bool) → (a || b) ≡ false → b ≡ false
    right_false true b h = absurd (cc)
    right_false false b h = h
not_ended_before _ past id h = h

-- what stood before an event that leaves the map at the key, of a unit that hasn't ended, stands
pub stood_now : (config : Config) (past : List Event) (id : ℕ) (key : List ℕ) (datum : Datum) → has_ended past id ≡ false →
    StoodSinceBegin config past id key datum → value_at config past key ≡ Some datum
stood_now config [] id key datum h s = absurd s
stood_now config (event ∷ past) id key datum h s = by_begin (begins id event) s
  where
    by_begin : (b : Bool) → cond b (value_at config (event ∷ past) key ≡ Some datum) (StoodSinceBegin config past id key datum × (has_ended past id ≡ false → value_at config (event ∷ past) key ≡ Some datum)) → value_at config (event ∷ past) key ≡ Some datum
    by_begin true t = t
    by_begin false t = t.1 (not_ended_before event past id h)

-- an event that doesn't begin the unit leaves what it has read, where the unit doesn't come to read by it, nor to be asked
pub carried : (config : Config) (past : List Event) (event : Event) (id segment node : ℕ) (entries : List Entry) (last : Bool) (before after : UnitState) →
    begins id event ≡ false → has_ended (event ∷ past) id ≡ is_ended after →
    (reads_in after ≡ true → reads_in before ≡ true) → (is_asked after ≡ true → is_asked before ≡ true) →
    ReadOf config past id segment node entries last before → ReadOf config (event ∷ past) id segment node entries last after
carried config past event id segment node entries last before after b told reads asked r = record {
  told = told;
  unread = λ a. r.unread (asked a);
  once = r.once;
  behind = r.behind;
  read = λ n key datum s stood. r.read (reads n) key datum s (stood_before config past event id key datum b stood);
  left = λ n l key datum s stood. r.left (reads n) l key datum s (stood_before config past event id key datum b stood);
}

-- a unit that begins has read nothing, and every key is past
pub begun_reading : (config : Config) (past later : List Event) (id segment node : ℕ) (entries : List Entry) (last : Bool) (before after : UnitState) →
    is_asked before ≡ true → is_asked after ≡ false → has_ended later id ≡ is_ended after →
    ReadOf config past id segment node entries last before → ReadOf config later id segment node entries last after
begun_reading config past later id segment node entries last before after a unasked told r =
    let u : (entries ≡ []) × (last ≡ false) = r.unread a in
    record {
      told = told;
      unread = λ asked. absurd (cc);
      once = r.once;
      behind = r.behind;
      read = λ n key datum s stood p. let all : comes_after node (last_key entries) key ≡ true = ap (λ es. comes_after node (last_key es) key) u.0 in absurd (cc);
      left = λ n l. let f = u.1 in absurd (cc);
    }

-- what a batch has of the entries behind those read before, told by look-ups in the cluster's map
pub record BatchOf (config : Config) (past : List Event) (segment node : ℕ) (entries batch : List Entry) (last : Bool) : Type 0 where
  pub fresh : (key : List ℕ) → comes_after node (last_key entries) key ≡ false → times key batch ≡ 0
  pub once : (key : List ℕ) → times key batch ≤ 1
  pub ahead : (key : List ℕ) → comes_after node (last_key (entries ++ batch)) key ≡ true → times key batch ≡ 0
  pub further : (key : List ℕ) → comes_after node (last_key (entries ++ batch)) key ≡ true → comes_after node (last_key entries) key ≡ true
  pub found : (key : List ℕ) (datum : Datum) → segment_number config.partition config.segments key ≡ Some segment → value_at config past key ≡ Some datum
      → comes_after node (last_key entries) key ≡ true → comes_after node (last_key (entries ++ batch)) key ≡ false → entry_times key datum batch ≡ 1
  pub whole : last ≡ true → (key : List ℕ) (datum : Datum) → segment_number config.partition config.segments key ≡ Some segment
      → value_at config past key ≡ Some datum → comes_after node (last_key (entries ++ batch)) key ≡ false

-- an entry is counted at most as often as its key
pub entry_le : (key : List ℕ) (datum : Datum) (entries : List Entry) → entry_times key datum entries ≤ times key entries
entry_le key datum entries = how_many_le (same_entry (record { key = key; value = datum })) (λ (e : Entry). same_bytes e.key key) keys entries
  where
    keys : (e : Entry) → same_entry (record { key = key; value = datum }) e ≡ true → same_bytes e.key key ≡ true
    keys e h =
        let same : record { key = key; value = datum } ≡ e = same_entry-exact (record { key = key; value = datum }) e h in
        let itself = and_parts (same_bytes key key) (same_datum datum datum) (same_entry-itself (record { key = key; value = datum })) in
        ap (λ (x : Entry). same_bytes x.key key) (sym same) ∙ itself.0

-- a unit that runs isn't asked any more, and hasn't ended
running_unasked : (stage : UnitState) → is_running stage ≡ true → is_asked stage ≡ true → ⊥
running_unasked Asked runs asked = cc
running_unasked Running runs asked = cc
running_unasked (Refused at) runs asked = cc
running_unasked (Lost at) runs asked = cc
running_unasked Ended runs asked = cc

-- a unit that runs hasn't ended
running_open : (stage : UnitState) → is_running stage ≡ true → is_ended stage ≡ false
running_open Asked runs = refl
running_open Running runs = refl
running_open (Refused at) runs = refl
running_open (Lost at) runs = refl
running_open Ended runs = absurd (cc)

-- a unit that runs has read one more batch
pub read_more : (config : Config) (past : List Event) (id segment node : ℕ) (entries batch : List Entry) (before last : Bool) (stage : UnitState) →
    is_running stage ≡ true → BatchOf config past segment node entries batch last →
    ReadOf config past id segment node entries before stage → ReadOf config past id segment node (entries ++ batch) last stage
read_more config past id segment node entries batch before last stage runs b r = record {
  told = r.told;
  unread = λ asked. absurd (running_unasked stage runs asked);
  once = λ key. once_more key (comes_after node (last_key entries) key) refl;
  behind = λ key p. (how_many-append _ entries batch ∙ (let x = r.behind key (b.further key p) in let y = b.ahead key p in omega arith));
  read = λ n key datum s stood p. read_one n key datum s stood p (comes_after node (last_key entries) key) refl;
  left = λ n l key datum s stood. b.whole l key datum s (stood_now config past id key datum open_yet stood);
}
  where
    open_yet : has_ended past id ≡ false
    open_yet = r.told ∙ running_open stage runs

    once_more : (key : List ℕ) (p : Bool) → comes_after node (last_key entries) key ≡ p → times key (entries ++ batch) ≤ 1
    once_more key true e = let a = how_many-append (λ (x : Entry). same_bytes x.key key) entries batch in let x = r.behind key e in let y = b.once key in omega arith
    once_more key false e = let a = how_many-append (λ (x : Entry). same_bytes x.key key) entries batch in let x = r.once key in let y = b.fresh key e in omega arith

    read_one : reads_in stage ≡ true → (key : List ℕ) (datum : Datum) → segment_number config.partition config.segments key ≡ Some segment → StoodSinceBegin config past id key datum →
        comes_after node (last_key (entries ++ batch)) key ≡ false → (p : Bool) → comes_after node (last_key entries) key ≡ p → entry_times key datum (entries ++ batch) ≡ 1
    read_one n key datum s stood q true e =
        let a = how_many-append (same_entry (record { key = key; value = datum })) entries batch in
        let x = b.found key datum s (stood_now config past id key datum open_yet stood) e q in
        let y = entry_le key datum entries in let z = r.behind key e in omega arith
    read_one n key datum s stood q false e =
        let a = how_many-append (same_entry (record { key = key; value = datum })) entries batch in
        let x = r.read n key datum s stood e in
        let y = entry_le key datum batch in let z = b.fresh key e in omega arith
