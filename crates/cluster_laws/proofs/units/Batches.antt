-- What a unit reads next, told by look-ups in the cluster's map.
use Rattle.std.proofs.Common.{◌≡◌, ℕ, suc, ◌+◌, ◌-◌, ◌≤◌, Bool, true, false, not, ◌&&◌, cond, List, [], ◌∷◌, ◌++◌, map, length, append-nil, append_assoc, Option, None, Some, refl, sym, ap, ◌∙◌, arith, subst, unwrap_or, slice_get}
use Rattle.std.proofs.lemmas.Bool.{and_parts}
use Rattle.std.proofs.lemmas.Cmp.{nat_list_cmp_total}
use Rattle.std.specs.Cmp.{nat_eq_equiv}
use Rattle.std.specs.FinMap as map_of
use Rattle.std.specs.Option.{is_none, is_some, option_map}
use Rattle.std.specs.Ordering.{eq_by_cmp, is_eq, ordering_reverse}
use Rattle.std.specs.declared.cmp.Ordering.{Ordering}
use Rattle.std.specs.declared.cmp.Ordering.TheVariants.{Less, Equal, Greater}
use Rattle.container_seg.specs.Places.{key_cmp}
use Rattle.container_seg.specs.Scans.{comes_after, next_chunk, plain_entry, without_deadlines}
use Rattle.grid_base.proofs.DatumLemmas.{same_bytes_decides, same_entry-exact, same_entry-itself}
use Rattle.grid_base.specs.Datum.{same_bytes, same_datum, same_entry}
use Rattle.grid_base.specs.Portion.{Portion}
use Rattle.grid_base.specs.declared.datum.Datum.{Datum}
use Rattle.grid_base.specs.declared.datum.Datum.TheVariants.{Flag}
use Rattle.grid_base.specs.declared.entry.Entry.{Entry}
use Rattle.grid_base.specs.declared.stamped.Stamped.{Stamped}
use Rattle.grid_base.specs.declared.stamped_entry.StampedEntry.{StampedEntry}
use Rattle.grid_event.specs.Maps.{entries_of, value_at}
use Rattle.grid_event.specs.declared.config.Config.{Config}
use Rattle.grid_event.specs.declared.event.Event.{Event}
use Rattle.segment_hash.specs.Segments.{segment_number}
use Rattle.state_transfer.proofs.CellLaws.{tied_keys}
use Rattle.state_transfer.proofs.ChunkLaws.{IsChunk, next_is_chunk}
use Rattle.state_transfer.specs.Cells.{Cells}
use Rattle.state_transfer.specs.Chunks.{last_sent}
use Rattle.state_transfer.specs.Copying.{copy_at, part_of}
use Rattle.state_transfer.specs.Faithful.{has_each_once, stamped_in}
use Rattle.cluster_model.specs.Evidence.{entry_times, times}
use Rattle.cluster_model.specs.Told.{contents_of, is_segment}
use Rattle.cluster_model.specs.Units.{last_key}
use Rattle.cluster_laws.proofs.units.Reading.{BatchOf, entry_le}

-- ---- the last key

-- the last key of a longer list is that of what stands behind
last_behind : (x y : Entry) (ys : List Entry) → last_key (x ∷ y ∷ ys) ≡ last_key (y ∷ ys)
last_behind x y ys =
    ap (λ n. option_map (λ (e : Entry). e.key) (slice_get (x ∷ y ∷ ys) n)) (let e : length (x ∷ y ∷ ys) - 1 ≡ suc (length (y ∷ ys) - 1) = omega arith in e)

-- the last key of a list with an entry behind it is that of the entry
last-push : (xs : List Entry) (y : Entry) → last_key (xs ++ y ∷ []) ≡ Some y.key
last-push [] y = refl
last-push (x ∷ []) y = last_behind x y []
last-push (x ∷ z ∷ xs) y = last_behind x z (xs ++ y ∷ []) ∙ last-push (z ∷ xs) y

-- the last key sent of a chunk with an entry doesn't depend on the key before
sent_alone : (e : StampedEntry) (es : List StampedEntry) (a b : Option (List ℕ)) → last_sent (e ∷ es) a ≡ last_sent (e ∷ es) b
sent_alone e [] a b = refl
sent_alone e (f ∷ es) a b = sent_alone f es a b

-- the last key behind a batch is the last key sent of its chunk
pub last_key-append : (xs : List Entry) (es : List StampedEntry) → last_key (xs ++ map plain_entry es) ≡ last_sent es (last_key xs)
last_key-append xs [] = ap last_key (append-nil xs)
last_key-append xs (e ∷ []) = last-push xs (plain_entry e)
last_key-append xs (e ∷ f ∷ es) =
    ap last_key (sym (append_assoc xs (plain_entry e ∷ []) (map plain_entry (f ∷ es))))
    ∙ last_key-append (xs ++ plain_entry e ∷ []) (f ∷ es)
    ∙ sent_alone f es (last_key (xs ++ plain_entry e ∷ [])) (last_key xs)

-- ---- how often a key is in a batch

-- two tests that are passed alike are the same
alike : (a b : Bool) → (a ≡ true → b ≡ true) → (b ≡ true → a ≡ true) → a ≡ b
alike true b f g = sym (f refl)
alike false true f g = g refl
alike false false f g = refl

-- what is its own reverse is equality
own_reverse : (o : Ordering) → o ≡ ordering_reverse o → o ≡ Equal
own_reverse Less h = absurd (cc)
own_reverse Equal h = refl
own_reverse Greater h = absurd (cc)

-- keys have the same bytes exactly where they tie
pub bytes_tie : (x k : List ℕ) → same_bytes x k ≡ eq_by_cmp key_cmp k x
bytes_tie x k =
    alike (same_bytes x k) (eq_by_cmp key_cmp k x)
    (λ h. ap (λ y. eq_by_cmp key_cmp y x) (sym ((same_bytes_decides x k).0 h)) ∙ ap is_eq (own_reverse (key_cmp x x) (nat_list_cmp_total.antisymm x x)))
    (λ h. ap (same_bytes x) (tied_keys k x h) ∙ itself x)
  where
    itself : (x : List ℕ) → same_bytes x x ≡ true
    itself x = (and_parts (same_bytes x x) (same_datum (Flag true) (Flag true)) (same_entry-itself (record { key = x; value = Flag true }))).0

-- how often a key is in a chunk in which no key stands twice: once where it has it, and else not
pub times_in : (es : List StampedEntry) (k : List ℕ) → has_each_once es ≡ true → times k (map plain_entry es) ≡ cond {A = ℕ} (is_some (stamped_in es k)) 1 0
times_in [] k h = refl
times_in (e ∷ es) k h =
    let p : (is_none (stamped_in es e.key) ≡ true) × (has_each_once es ≡ true) = and_parts (is_none (stamped_in es e.key)) (has_each_once es) h in
    ap (λ b. cond {A = ℕ} b 1 0 + times k (map plain_entry es)) (bytes_tie e.key k)
    ∙ by_tie (eq_by_cmp key_cmp k e.key) refl p.0 (times_in es k p.1)
  where
    none_is : (o : Option Stamped) → is_none o ≡ true → is_some o ≡ false
    none_is None h = refl
    none_is (Some x) h = absurd (cc)

    by_tie : (b : Bool) → eq_by_cmp key_cmp k e.key ≡ b → is_none (stamped_in es e.key) ≡ true → times k (map plain_entry es) ≡ cond {A = ℕ} (is_some (stamped_in es k)) 1 0 →
        cond {A = ℕ} b 1 0 + times k (map plain_entry es) ≡ cond {A = ℕ} (is_some (cond b (Some e.stamped) (stamped_in es k))) 1 0
    by_tie true t none rest =
        let gone : is_some (stamped_in es k) ≡ false = ap (λ x. is_some (stamped_in es x)) (tied_keys k e.key t) ∙ none_is (stamped_in es e.key) none in
        let zero : times k (map plain_entry es) ≡ 0 = rest ∙ ap (λ b. cond {A = ℕ} b 1 0) gone in
        omega (arith, zero)
    by_tie false t none rest = let r = rest in omega (arith, rest)

-- an entry that a chunk has at a key is in it once
pub entry_times_in : (es : List StampedEntry) (k : List ℕ) (stamped : Stamped) → has_each_once es ≡ true → stamped_in es k ≡ Some stamped → entry_times k stamped.value (map plain_entry es) ≡ 1
entry_times_in [] k stamped h found = absurd (cc)
entry_times_in (e ∷ es) k stamped h found =
    let p : (is_none (stamped_in es e.key) ≡ true) × (has_each_once es ≡ true) = and_parts (is_none (stamped_in es e.key)) (has_each_once es) h in
    by_tie (eq_by_cmp key_cmp k e.key) refl found (λ there. entry_times_in es k stamped p.1 there)
  where
    either_one : Option Stamped → Stamped
    either_one o = unwrap_or o stamped

    by_tie : (b : Bool) → eq_by_cmp key_cmp k e.key ≡ b → cond b (Some e.stamped) (stamped_in es k) ≡ Some stamped →
        (stamped_in es k ≡ Some stamped → entry_times k stamped.value (map plain_entry es) ≡ 1) →
        entry_times k stamped.value (plain_entry e ∷ map plain_entry es) ≡ 1
    by_tie true t here further =
        let same : e.stamped ≡ stamped = ap either_one here in
        let key_is : k ≡ e.key = tied_keys k e.key t in
        let counted : same_entry (record { key = k; value = stamped.value }) (plain_entry e) ≡ true =
        subst (λ (x : Entry). same_entry x (plain_entry e) ≡ true) (λ i. record { key = sym key_is i; value = (same i).value }) (same_entry-itself (plain_entry e)) in
        let whole = times_in (e ∷ es) k h in
        let most : times k (map plain_entry (e ∷ es)) ≡ 1 = whole ∙ ap (λ b. cond {A = ℕ} (is_some (cond b (Some e.stamped) (stamped_in es k))) 1 0) t in
        let le = entry_le k stamped.value (map plain_entry (e ∷ es)) in
        let first = ap (λ b. cond {A = ℕ} b 1 0) counted in
        omega (arith, most, le, first)
    by_tie false t there further =
        let rest = further there in
        let none : same_entry (record { key = k; value = stamped.value }) (plain_entry e) ≡ false = differs (same_entry (record { key = k; value = stamped.value }) (plain_entry e)) refl in
        let first = ap (λ b. cond {A = ℕ} b 1 0) none in
        omega (arith, rest, first)
      where
        differs : (b : Bool) → same_entry (record { key = k; value = stamped.value }) (plain_entry e) ≡ b → b ≡ false
        differs false x = refl
        differs true x =
            let same : record { key = k; value = stamped.value } ≡ plain_entry e = same_entry-exact (record { key = k; value = stamped.value }) (plain_entry e) x in
            let key_is : k ≡ e.key = ap (λ (y : Entry). y.key) same in
            let ties : eq_by_cmp key_cmp k e.key ≡ true = sym (bytes_tie e.key k) ∙ (same_bytes_decides e.key k).1 (sym key_is) in
            absurd (cc)

-- ---- the batch

-- where a node has exactly the map's part of a segment, what it hands on next is a batch of the map
module _ (config : Config) (past : List Event) (cells : Cells) (segment node most : ℕ) (entries : List Entry) (complete : (key : List ℕ) → copy_at cells node segment key ≡ contents_of config past segment key) where
  -- what the node hands on next of the segment, behind the last key read
  abbrev chunk : Portion StampedEntry
  chunk = next_chunk node (last_key entries) most (part_of cells node segment)

  -- it is the next chunk: exactly what the node holds between two keys
  ic : IsChunk cells node segment (last_key entries) chunk
  ic = next_is_chunk cells node segment (last_key entries) most

  -- what comes behind the last key after the batch comes behind the last key handed on
  behind : (key : List ℕ) → comes_after node (last_key (entries ++ map plain_entry chunk.entries)) key ≡ comes_after node (last_sent chunk.entries (last_key entries)) key
  behind key = ap (λ k. comes_after node k key) (last_key-append entries chunk.entries)

  -- a number that is 1 or 0 by a test is at most 1
  at_most : {n : ℕ} (b : Bool) → n ≡ cond {A = ℕ} b 1 0 → n ≤ 1
  at_most true e = omega (arith, e)
  at_most false e = omega (arith, e)

  -- nothing is chosen where the second test is true
  none_of : (a b : Bool) (o : Option Stamped) → b ≡ true → cond (a && not b) o None ≡ None
  none_of true true o e = refl
  none_of false true o e = refl
  none_of a false o e = absurd (cc)

  -- a key behind the last one handed on isn't in the chunk
  gone : (key : List ℕ) → comes_after node (last_sent chunk.entries (last_key entries)) key ≡ true →
      cond (comes_after node (last_key entries) key && not (comes_after node (last_sent chunk.entries (last_key entries)) key)) (copy_at cells node segment key) None ≡ None
  gone key p = none_of (comes_after node (last_key entries) key) (comes_after node (last_sent chunk.entries (last_key entries)) key) (copy_at cells node segment key) p

  -- what stands in the map at a key of the segment, with its deadline
  stamped_at : (key : List ℕ) (datum : Datum) → segment_number config.partition config.segments key ≡ Some segment → value_at config past key ≡ Some datum →
      (stamped : Stamped) × ((copy_at cells node segment key ≡ Some stamped) × (stamped.value ≡ datum))
  stamped_at key datum s stands = by_map (map_of.get (entries_of config past) key) refl stands
    where
      by_map : (o : Option Stamped) → map_of.get (entries_of config past) key ≡ o → option_map (λ (x : Stamped). x.value) o ≡ Some datum →
          (stamped : Stamped) × ((copy_at cells node segment key ≡ Some stamped) × (stamped.value ≡ datum))
      by_map None e h = absurd (cc)
      by_map (Some stamped) e h = (
        stamped,
        (
          complete key ∙ ap (λ o. cond (is_segment o segment) (map_of.get (entries_of config past) key) None) s ∙ ap (λ b. cond b (map_of.get (entries_of config past) key) None) (nat_eq_equiv.refl segment) ∙ e,
          ap (λ (o : Option Datum). unwrap_or o stamped.value) h,
        ),
      )

  -- an entry of the map between the two last keys is in the batch once
  found_one : (key : List ℕ) (datum : Datum) → segment_number config.partition config.segments key ≡ Some segment → value_at config past key ≡ Some datum →
      comes_after node (last_key entries) key ≡ true → comes_after node (last_sent chunk.entries (last_key entries)) key ≡ false → entry_times key datum (map plain_entry chunk.entries) ≡ 1
  found_one key datum s stands p q =
      let here = stamped_at key datum s stands in
      let there : stamped_in chunk.entries key ≡ Some here.0 =
      ic.given key ∙ (λ i. cond (p i && not (q i)) (copy_at cells node segment key) None) ∙ here.1.0 in
      ap (λ d. entry_times key d (map plain_entry chunk.entries)) (sym here.1.1) ∙ entry_times_in chunk.entries key here.0 ic.once there

  -- after the last batch no entry of the map is behind the last key
  none_left : chunk.last ≡ true → (key : List ℕ) (datum : Datum) → segment_number config.partition config.segments key ≡ Some segment → value_at config past key ≡ Some datum →
      (b : Bool) → comes_after node (last_sent chunk.entries (last_key entries)) key ≡ b → b ≡ false
  none_left last key datum s stands false e = refl
  none_left last key datum s stands true e =
      let here = stamped_at key datum s stands in
      let none = ic.whole last key e in absurd (cc)

  -- so what is handed on is a batch of the map
  pub is_batch : BatchOf config past segment node entries (without_deadlines chunk).entries (without_deadlines chunk).last
  is_batch = record {
    fresh = λ key p. times_in chunk.entries key ic.once ∙ ap (λ o. cond {A = ℕ} (is_some o) 1 0) (ic.given key ∙ ap (λ b. cond (b && not (comes_after node (last_sent chunk.entries (last_key entries)) key)) (copy_at cells node segment key) None) p);
    once = λ key. let t = times_in chunk.entries key ic.once in at_most (is_some (stamped_in chunk.entries key)) t;
    ahead = λ key p. times_in chunk.entries key ic.once ∙ ap (λ o. cond {A = ℕ} (is_some o) 1 0) (ic.given key ∙ gone key (sym (behind key) ∙ p));
    further = λ key p. ic.further key (sym (behind key) ∙ p);
    found = λ key datum s stands p q. found_one key datum s stands p (sym (behind key) ∙ q);
    whole = λ last key datum s stands. behind key ∙ none_left last key datum s stands (comes_after node (last_sent chunk.entries (last_key entries)) key) refl;
  }
