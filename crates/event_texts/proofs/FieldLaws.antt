-- Readings of entries, items, hashes and topologies are exact.
use Rattle.std.proofs.Common.{◌≡◌, ℕ, suc, ◌≤◌, Bool, true, false, ◌&&◌, ◌||◌, ◌==◌, cond, nat_le, nat_lt, List, [], ◌∷◌, ◌++◌, length, map, codes, Option, Some, None, refl, sym, ap, ◌∙◌, subst, arith, append_assoc, true≢false, eqb-true}
use Rattle.std.specs.List.{join_with_byte, list_all}
use Rattle.std.specs.Fmt.{decimal}
use Rattle.std.specs.Option.{unwrap_or}
use Rattle.std.proofs.lemmas.Bool.Decides.{nat_tests}
use Rattle.std.proofs.lemmas.Option.{none-some, same_Some}
use Rattle.grid_base.specs.Key.{is_key}
use Rattle.grid_base.specs.declared.datum.Datum.{Datum}
use Rattle.grid_base.specs.declared.entry.Entry.{Entry}
use Rattle.grid_base.specs.declared.item.Item.{Item}
use Rattle.grid_base.specs.declared.item.Item.TheVariants as items
use Rattle.grid_base.specs.declared.stamped_entry.StampedEntry.{StampedEntry}
use Rattle.pipeline_parse.specs.Grammar.{datum_fits, datum_text}
use Rattle.pipeline_parse.proofs.Full.{calm}
use Rattle.pipeline_parse.proofs.ParseLaws.{both_fit}
use Rattle.pipeline_parse.proofs.WordLaws.{both_true}
use Rattle.topology_phase.specs.Owners.{Hash, among}
use Rattle.topology_phase.specs.Topologies.{Topology, has_few, makes_topology}
use Rattle.topology_phase.specs.declared.phase.Phase.{Phase}
use Rattle.topology_phase.specs.declared.phase.Phase.TheVariants.{NoRebalance, ReadOld, ReadAll, ReadNew}
use Rattle.event_texts.specs.Fits.{all_fit, entry_fits, hash_fits, is_no_hash, is_u32, is_u8, item_fits, none_barred, owners_fit, pending_fits, stamped_entry_fits, topology_fits, until_fits}
use Rattle.event_texts.specs.Reading.{Reading, after, begins_number, behind, by_word, choice, counted_in, datum, hash_in, item, made, more, no_bar, number, number_in, owners, pending_in, phase_in, plain_entry, stamped_entry, topology_in, topology_of}
use Rattle.event_texts.specs.Topologies.{hash_text, owners_text, pending_text, phase_text, topology_text}
use Rattle.event_texts.specs.Words.{counted_text, each_behind, entry_text, item_text, stamped_entry_text, until_text}
use Rattle.event_texts.proofs.Joining.{joined_from_first}
use Rattle.event_texts.proofs.ReadLaws.{Law, Sound, Told, after_found, as_law, at_end, behind_law, behind_sound, choice_sound, counted_law, just_behind, made_behind, made_law, more_full, more_sound, none_in_way, nothing_sound, other_byte, other_missed, pair_law}
use Rattle.event_texts.proofs.NumberLaws.{datum_law, datum_other, end_is_calm, end_is_other, key_law, number_begins, number_in_law, number_law, until_law}

-- a blank comes next behind a word that it begins
pub blank_law : {A : Type 0} {ends : List ℕ → Bool} {text : A → List ℕ} {fits : A → Bool} {r : List ℕ → Reading A} → Law ends text fits r → Law ends (λ x. 32 ∷ text x) fits (behind (32 ∷ []) r)
blank_law law = behind_law (32 ∷ []) law

-- a value behind a blank, up to the end of the word
pub datum_in_law : Law calm (λ d. 32 ∷ datum_text d) datum_fits (behind (32 ∷ []) datum)
datum_in_law = blank_law datum_law

-- an entry
pub entry_law : Law calm entry_text entry_fits plain_entry
unfolding plain_entry
entry_law =
    made_law {fits = λ (p : List ℕ × Datum). is_key p.0 && datum_fits p.1} (λ (p : List ℕ × Datum). record { key = p.0; value = p.1 }) (λ (e : Entry). (e.key, e.value)) entry_text entry_fits (λ e. refl) (λ p. refl) (λ p. refl)
    (pair_law key_law datum_in_law (λ d y e. refl))

-- a value and its deadline
pub tilde_is_calm : (o : Option ℕ) (y : List ℕ) → at_end y ≡ true → calm (until_text o ++ y) ≡ true
tilde_is_calm None y e = end_is_calm y e
tilde_is_calm (Some n) y e = refl

-- entries with deadlines are read exactly
pub stamped_entry_law : Law at_end stamped_entry_text stamped_entry_fits stamped_entry
unfolding stamped_entry
stamped_entry_law =
    made_law {fits = λ (p : List ℕ × (Datum × Option ℕ)). is_key p.0 && (datum_fits p.1.0 && until_fits p.1.1)}
    (λ (p : List ℕ × (Datum × Option ℕ)). record { key = p.0; stamped = record { value = p.1.0; until = p.1.1 } }) (λ (e : StampedEntry). (e.key, (e.stamped.value, e.stamped.until)))
    stamped_entry_text stamped_entry_fits (λ e. refl) (λ p. refl) (λ p. refl)
    (pair_law key_law (pair_law datum_in_law until_law tilde_is_calm) (λ d y e. refl))

-- an item
pub item_law : Law calm item_text item_fits item
unfolding item
item_law = record {
  sound =
      choice_sound (64 ∷ []) item_text item_fits (made_behind (64 ∷ []) items.Entry item_text item_fits (λ e. refl) (λ e. refl) entry_law)
      (made_behind [] items.Datum item_text item_fits (λ d. refl) (λ d. refl) datum_law);
  full = whole;
}
  where
    whole : (i : Item) (y : List ℕ) → item_fits i ≡ true → calm y ≡ true → choice (64 ∷ []) (made items.Entry plain_entry) (made items.Datum datum) (item_text i ++ y) ≡ Some (i, y)
    whole (items.Entry e) y keeps ended = ap (λ o. after o (λ e rest. Some (items.Entry e, rest))) (entry_law.full e y keeps ended)
    whole (items.Datum d) y keeps ended =
        ap (λ o. by_word o (made items.Entry plain_entry) (made items.Datum datum (datum_text d ++ y))) (other_missed 64 [] (datum_text d ++ y) (datum_other 64 refl refl refl d y keeps ended)).1
        ∙ ap (λ o. after o (λ d rest. Some (items.Datum d, rest))) (datum_law.full d y keeps ended)

-- what is read exactly before a calm text is so before an end
narrow : {A : Type 0} {text : A → List ℕ} {fits : A → Bool} {r : List ℕ → Reading A} → Law calm text fits r → Law at_end text fits r
narrow {A} {text} {fits} {r} law = as_law at_end text fits end_is_calm (λ a. refl) (λ a. refl) law

-- counts are read exactly
count_law : Law calm (λ n. 32 ∷ decimal n) (λ n. nat_le n 18446744073709551615) (number_in 18446744073709551615)
count_law = number_in_law 18446744073709551615 (omega arith) (omega arith)

-- entries, entries with their deadlines, and items
pub entries_law : Law at_end (λ l. 32 ∷ counted_text entry_text l) (all_fit entry_fits) (counted_in plain_entry)
entries_law = counted_law entry_text entry_fits plain_entry (narrow entry_law) calm end_is_calm count_law

-- lists of entries with deadlines are read exactly
pub stamped_entries_law : Law at_end (λ l. 32 ∷ counted_text stamped_entry_text l) (all_fit stamped_entry_fits) (counted_in stamped_entry)
stamped_entries_law = counted_law stamped_entry_text stamped_entry_fits stamped_entry stamped_entry_law calm end_is_calm count_law

-- so are lists of items
pub items_law : Law at_end (λ l. 32 ∷ counted_text item_text l) (all_fit item_fits) (counted_in item)
items_law = counted_law item_text item_fits item (narrow item_law) calm end_is_calm count_law

-- nothing is left, or a blank or a semicolon comes next
abbrev pub row_ends : List ℕ → Bool
row_ends [] = true
row_ends (b ∷ s) = b == 32 || b == 59

-- the end of a row is a blank or a semicolon
row_end_by : (P : ℕ → Type 0) → P 32 → P 59 → (b : ℕ) → (b == 32 || b == 59) ≡ true → P b
row_end_by P blank semicolon b e = go (b == 32) refl (b == 59) refl
  where
    go : (t : Bool) → (b == 32) ≡ t → (u : Bool) → (b == 59) ≡ u → P b
    go true f u g = subst P (sym (eqb-true b 32 f)) blank
    go false f true g = subst P (sym (eqb-true b 59 g)) semicolon
    go false f false g = absurd (true≢false (sym e ∙ ap (λ t. t || (b == 59)) f ∙ g))

-- either ends a number
row_end_is_calm : (y : List ℕ) → row_ends y ≡ true → calm y ≡ true
row_end_is_calm [] e = refl
row_end_is_calm (b ∷ y) e = row_end_by (λ c. calm (c ∷ y) ≡ true) refl refl b e

-- neither is a comma
row_end_no_comma : (y : List ℕ) → row_ends y ≡ true → other_byte 44 y ≡ true
row_end_no_comma [] e = refl
row_end_no_comma (b ∷ y) e = row_end_by (λ c. other_byte 44 (c ∷ y) ≡ true) refl refl b e

-- neither begins a number
row_end_no_digit : (y : List ℕ) → row_ends y ≡ true → begins_number y ≡ false
row_end_no_digit [] e = refl
row_end_no_digit (b ∷ y) e = row_end_by (λ c. begins_number (c ∷ y) ≡ false) refl refl b e

-- the end of a text ends a row
end_is_row_end : (y : List ℕ) → at_end y ≡ true → row_ends y ≡ true
end_is_row_end [] e = refl
end_is_row_end (b ∷ y) e = ap (λ c. c == 32 || c == 59) (eqb-true b 32 e)

-- nodes are read exactly
node_law : Law calm decimal is_u8 (number 255)
node_law = number_law 255 (omega arith) (omega arith)

-- a number that is at most another tests so
le_to : (m n : ℕ) → m ≤ n → nat_le m n ≡ true
le_to m n e = grind (arith, nat_tests)

-- and one that tests so is
le_from : (m n : ℕ) → nat_le m n ≡ true → m ≤ n
le_from m n e = grind (arith, nat_tests)

-- a comma ends a number
comma_is_calm : (s : List ℕ) → calm (44 ∷ s) ≡ true
comma_is_calm s = refl

-- the owners of a segment
pub owners_law : Law row_ends owners_text owners_fit owners
owners_law = record { sound = λ s p e. from s p (begins_number s) e; full = whole }
  where
    next : ℕ → List ℕ → Reading (List ℕ)
    next n rest = more 44 (number 255) among 3 (n ∷ []) rest

    from : (s : List ℕ) (p : List ℕ × List ℕ) (t : Bool) → cond t (after (number 255 s) next) (Some ([], s)) ≡ Some p → Told owners_text owners_fit s p
    from s p false e = subst (Told owners_text owners_fit s) (same_Some ([], s) p e) (refl, refl)
    from s p true e =
        let f = after_found (number 255 s) next p e in
        let l = node_law.sound s f.0 f.1 in
        let h = more_sound 44 decimal is_u8 among (number 255) calm node_law comma_is_calm 3 (f.0.0 ∷ []) f.0.1 p f.2 in
        let few = h.few in (
          l.0 ∙ ap (λ z. decimal f.0.0 ++ z) h.whole ∙ sym (append_assoc (decimal f.0.0) (each_behind 44 (map decimal h.list)) p.1)
              ∙ ap (λ z. z ++ p.1) (sym (joined_from_first 44 (decimal f.0.0) (map decimal h.list)))
              ∙ ap (λ list. owners_text list ++ p.1) (sym h.all),
          ap owners_fit h.all ∙ both_fit (nat_le (suc (length h.list)) 4) (none_barred among (f.0.0 ∷ []) h.list && (is_u8 f.0.0 && list_all is_u8 h.list)) (le_to (suc (length h.list)) 4 (omega arith))
              (both_fit (none_barred among (f.0.0 ∷ []) h.list) (is_u8 f.0.0 && list_all is_u8 h.list) h.passes (both_fit (is_u8 f.0.0) (list_all is_u8 h.list) l.1 h.keeps)),
        )

    calm_list : (list : List ℕ) (y : List ℕ) → row_ends y ≡ true → calm (each_behind 44 (map decimal list) ++ y) ≡ true
    calm_list [] y e = row_end_is_calm y e
    calm_list (n ∷ list) y e = refl

    whole : (list : List ℕ) (y : List ℕ) → owners_fit list ≡ true → row_ends y ≡ true → owners (owners_text list ++ y) ≡ Some (list, y)
    whole [] y keeps ended = ap (λ t. cond t (after (number 255 y) next) (Some ([], y))) (row_end_no_digit y ended)
    whole (n ∷ list) y keeps ended =
        let h = both_true (nat_le (suc (length list)) 4) (none_barred among (n ∷ []) list && (is_u8 n && list_all is_u8 list)) keeps in
        let g = both_true (none_barred among (n ∷ []) list) (is_u8 n && list_all is_u8 list) h.1 in
        let k = both_true (is_u8 n) (list_all is_u8 list) g.1 in
        let few = le_from (suc (length list)) 4 h.0 in
        let low = le_from n 255 k.0 in
        let rest = each_behind 44 (map decimal list) in
        ap (λ z. owners (z ++ y)) (joined_from_first 44 (decimal n) (map decimal list))
        ∙ ap owners (append_assoc (decimal n) rest y)
        ∙ ap (λ t. cond t (after (number 255 (decimal n ++ (rest ++ y))) next) (Some ([], decimal n ++ (rest ++ y)))) (number_begins 255 n (rest ++ y) (omega arith) low)
        ∙ ap (λ r. after r next) (node_law.full n (rest ++ y) k.0 (calm_list list y ended))
        ∙ more_full 44 decimal is_u8 among (number 255) calm node_law comma_is_calm list (n ∷ []) 3 y (omega arith) k.1 g.0 (row_end_is_calm y ended) (row_end_no_comma y ended)

-- a semicolon ends a row
semicolon_ends : (s : List ℕ) → row_ends (59 ∷ s) ≡ true
semicolon_ends s = refl

-- a hash behind a blank
pub hash_in_law : Law at_end (λ h. 32 ∷ hash_text h) hash_fits hash_in
unfolding hash_in hash_text
hash_in_law = blank_law (record { sound = from; full = whole })
  where
    next : List ℕ → List ℕ → Reading Hash
    next row rest = more 59 owners no_bar 255 (row ∷ []) rest

    from : Sound (λ h. join_with_byte 59 (map owners_text h)) hash_fits (λ s. after (owners s) next)
    from s p e =
        let f = after_found (owners s) next p e in
        let l = owners_law.sound s f.0 f.1 in
        let h = more_sound 59 owners_text owners_fit no_bar owners row_ends owners_law semicolon_ends 255 (f.0.0 ∷ []) f.0.1 p f.2 in
        let few = h.few in (
          l.0 ∙ ap (λ z. owners_text f.0.0 ++ z) h.whole ∙ sym (append_assoc (owners_text f.0.0) (each_behind 59 (map owners_text h.list)) p.1)
              ∙ ap (λ z. z ++ p.1) (sym (joined_from_first 59 (owners_text f.0.0) (map owners_text h.list)))
              ∙ ap (λ list. join_with_byte 59 (map owners_text list) ++ p.1) (sym h.all),
          ap hash_fits h.all ∙ both_fit (nat_lt 0 (suc (length h.list))) (nat_le (suc (length h.list)) 256 && (owners_fit f.0.0 && list_all owners_fit h.list)) (some (length h.list))
              (both_fit (nat_le (suc (length h.list)) 256) (owners_fit f.0.0 && list_all owners_fit h.list) (le_to (suc (length h.list)) 256 (omega arith)) (both_fit (owners_fit f.0.0) (list_all owners_fit h.list) l.1 h.keeps)),
        )
      where
        some : (n : ℕ) → nat_lt 0 (suc n) ≡ true
        some n = grind (arith, nat_tests)

    row_list : (list : Hash) (y : List ℕ) → at_end y ≡ true → row_ends (each_behind 59 (map owners_text list) ++ y) ≡ true
    row_list [] y e = end_is_row_end y e
    row_list (row ∷ list) y e = refl

    whole : (hash : Hash) (y : List ℕ) → hash_fits hash ≡ true → at_end y ≡ true → after (owners (join_with_byte 59 (map owners_text hash) ++ y)) next ≡ Some (hash, y)
    whole [] y keeps ended = absurd (true≢false (sym keeps))
    whole (row ∷ list) y keeps ended =
        let h = both_true (nat_lt 0 (suc (length list))) (nat_le (suc (length list)) 256 && (owners_fit row && list_all owners_fit list)) keeps in
        let g = both_true (nat_le (suc (length list)) 256) (owners_fit row && list_all owners_fit list) h.1 in
        let k = both_true (owners_fit row) (list_all owners_fit list) g.1 in
        let few = le_from (suc (length list)) 256 g.0 in
        let rest = each_behind 59 (map owners_text list) in
        ap (λ z. after (owners (z ++ y)) next) (joined_from_first 59 (owners_text row) (map owners_text list))
        ∙ ap (λ z. after (owners z) next) (append_assoc (owners_text row) rest y)
        ∙ ap (λ r. after r next) (owners_law.full row (rest ++ y) k.0 (row_list list y ended))
        ∙ more_full 59 owners_text owners_fit no_bar owners row_ends owners_law semicolon_ends list (row ∷ []) 255 y (omega arith) k.1 (none_in_way (row ∷ []) list) (end_is_row_end y ended) (end_is_other 59 refl y ended)

-- all fit
abbrev pub any : {A : Type 0} → A → Bool
any a = true

-- a phase behind a blank
pub phase_in_law : Law at_end (λ phase. 32 ∷ phase_text phase) any phase_in
unfolding phase_in
phase_in_law = record {
  sound =
      behind_sound (32 ∷ []) phase_text any
      (choice_sound (codes "NO_REBALANCE") phase_text any (just_behind (codes "NO_REBALANCE") NoRebalance phase_text any refl refl)
      (choice_sound (codes "READ_OLD_WRITE_ALL") phase_text any (just_behind (codes "READ_OLD_WRITE_ALL") ReadOld phase_text any refl refl)
      (choice_sound (codes "READ_ALL_WRITE_ALL") phase_text any (just_behind (codes "READ_ALL_WRITE_ALL") ReadAll phase_text any refl refl)
      (choice_sound (codes "READ_NEW_WRITE_ALL") phase_text any (just_behind (codes "READ_NEW_WRITE_ALL") ReadNew phase_text any refl refl) (nothing_sound phase_text any)))));
  full = each;
}
  where
    each : (phase : Phase) (y : List ℕ) → any phase ≡ true → at_end y ≡ true → phase_in (32 ∷ phase_text phase ++ y) ≡ Some (phase, y)
    each NoRebalance y keeps ended = refl
    each ReadOld y keeps ended = refl
    each ReadAll y keeps ended = refl
    each ReadNew y keeps ended = refl

-- the pending hash of a phase, as it is kept
kept : Phase → Hash → Option Hash
kept NoRebalance pending = None
kept ReadOld pending = Some pending
kept ReadAll pending = Some pending
kept ReadNew pending = Some pending

-- a hash whose segments fit has few owners
fits_few : (hash : Hash) → list_all owners_fit hash ≡ true → has_few hash ≡ true
fits_few [] e = refl
fits_few (row ∷ hash) e =
    let h = both_true (owners_fit row) (list_all owners_fit hash) e in
    let g = both_true (nat_le (length row) 4) (none_barred among [] row && list_all is_u8 row) h.0 in
    both_fit (nat_le (length row) 4) (has_few hash) g.0 (fits_few hash h.1)

-- the parts of a hash that fits
record Whole (hash : Hash) : Type 0 where
  pub some : nat_lt 0 (length hash) ≡ true
  pub few : has_few hash ≡ true

-- a hash that fits has segments, and few owners of each
whole_hash : (hash : Hash) → hash_fits hash ≡ true → Whole hash
whole_hash hash e =
    let h = both_true (nat_lt 0 (length hash)) (nat_le (length hash) 256 && list_all owners_fit hash) e in
    let g = both_true (nat_le (length hash) 256) (list_all owners_fit hash) h.1 in
    record { some = h.0; few = fits_few hash g.1 }

-- in a rebalance both hashes are whole and of one length
in_rebalance : (current pending : Hash) → hash_fits current ≡ true → (hash_fits pending && (length pending == length current)) ≡ true
    → ((nat_lt 0 (length current) && has_few current) && ((length pending == length current) && has_few pending)) ≡ true
in_rebalance current pending e f =
    let w = whole_hash current e in
    let h = both_true (hash_fits pending) (length pending == length current) f in
    let v = whole_hash pending h.0 in
    both_fit (nat_lt 0 (length current) && has_few current) ((length pending == length current) && has_few pending) (both_fit (nat_lt 0 (length current)) (has_few current) w.some w.few)
    (both_fit (length pending == length current) (has_few pending) h.1 v.few)

-- what fits makes a topology
makes : (phase : Phase) (current pending : Hash) → hash_fits current ≡ true → pending_fits phase current pending ≡ true → makes_topology phase current (kept phase pending) ≡ true
unfolding kept
makes NoRebalance current pending e f = let w = whole_hash current e in both_fit (nat_lt 0 (length current)) (has_few current) w.some w.few
makes ReadOld current pending e f = in_rebalance current pending e f
makes ReadAll current pending e f = in_rebalance current pending e f
makes ReadNew current pending e f = in_rebalance current pending e f

-- the pending hash is kept and found again
kept_again : (phase : Phase) (current pending : Hash) → pending_fits phase current pending ≡ true → unwrap_or (kept phase pending) [] ≡ pending
unfolding kept
kept_again NoRebalance current [] e = refl
kept_again NoRebalance current (row ∷ pending) e = absurd (true≢false (sym e))
kept_again ReadOld current pending e = refl
kept_again ReadAll current pending e = refl
kept_again ReadNew current pending e = refl

-- a pending hash is read as it is written
some_full : (current pending : Hash) (y : List ℕ) → (hash_fits pending && (length pending == length current)) ≡ true → at_end y ≡ true → made Some hash_in ((32 ∷ hash_text pending) ++ y) ≡ Some (Some pending, y)
some_full current pending y e ended =
    let h = both_true (hash_fits pending) (length pending == length current) e in
    ap (λ o. after o (λ a rest. Some (Some a, rest))) (hash_in_law.full pending y h.0 ended)

-- the pending hash is read
pending_full : (phase : Phase) (current pending : Hash) (y : List ℕ) → pending_fits phase current pending ≡ true → at_end y ≡ true
    → pending_in phase (pending_text phase pending ++ y) ≡ Some (kept phase pending, y)
unfolding kept
pending_full NoRebalance current pending y e ended = refl
pending_full ReadOld current pending y e ended = some_full current pending y e ended
pending_full ReadAll current pending y e ended = some_full current pending y e ended
pending_full ReadNew current pending y e ended = some_full current pending y e ended

-- and what is read as one is its text
some_sound : (current : Hash) (s : List ℕ) (p : Option Hash × List ℕ) → made Some hash_in s ≡ Some p → makes_topology ReadOld current p.0 ≡ true
    → (s ≡ (32 ∷ hash_text (unwrap_or p.0 [])) ++ p.1) × ((hash_fits (unwrap_or p.0 []) && (length (unwrap_or p.0 []) == length current)) ≡ true)
some_sound current s p e m =
    let f = after_found (hash_in s) (λ a rest. Some (Some a, rest)) p e in
    let l = hash_in_law.sound s f.0 f.1 in
    subst
    (λ (q : Option Hash × List ℕ). makes_topology ReadOld current q.0 ≡ true
    → (s ≡ (32 ∷ hash_text (unwrap_or q.0 [])) ++ q.1) × ((hash_fits (unwrap_or q.0 []) && (length (unwrap_or q.0 []) == length current)) ≡ true))
    (same_Some (Some f.0.0, f.0.1) p f.2)
    (λ n.
    let h = both_true (nat_lt 0 (length current) && has_few current) ((length f.0.0 == length current) && has_few f.0.0) n in
    let g = both_true (length f.0.0 == length current) (has_few f.0.0) h.1 in
    (l.0, both_fit (hash_fits f.0.0) (length f.0.0 == length current) l.1 g.0))
    m

-- the pending hash that was read stands in front, and makes a topology with the current one
pending_sound : (phase : Phase) (current : Hash) (s : List ℕ) (p : Option Hash × List ℕ) → pending_in phase s ≡ Some p → makes_topology phase current p.0 ≡ true
    → (s ≡ pending_text phase (unwrap_or p.0 []) ++ p.1) × (pending_fits phase current (unwrap_or p.0 []) ≡ true)
pending_sound NoRebalance current s p e m = subst (λ (q : Option Hash × List ℕ). (s ≡ q.1) × (is_no_hash (unwrap_or q.0 []) ≡ true)) (same_Some (None, s) p e) (refl, refl)
pending_sound ReadOld current s p e m = some_sound current s p e m
pending_sound ReadAll current s p e m = some_sound current s p e m
pending_sound ReadNew current s p e m = some_sound current s p e m

-- the topology of these parts is made where they make one
made_topology : (id : ℕ) (phase : Phase) (current : Hash) (pending : Option Hash) (s : List ℕ) (p : Topology × List ℕ) → topology_of id phase current pending s ≡ Some p
    → (makes_topology phase current pending ≡ true) × ((record { id = id; phase = phase; current = current; pending = unwrap_or pending [] }, s) ≡ p)
made_topology id phase current pending s p e = go (makes_topology phase current pending) refl e
  where
    go : (t : Bool) → makes_topology phase current pending ≡ t → cond t (Some (record { id = id; phase = phase; current = current; pending = unwrap_or pending [] }, s)) None ≡ Some p
        → (makes_topology phase current pending ≡ true) × ((record { id = id; phase = phase; current = current; pending = unwrap_or pending [] }, s) ≡ p)
    go true f g = (f, same_Some _ p g)
    go false f g = absurd (none-some p g)

-- numbers of topologies are read exactly
id_law : Law calm (λ n. 32 ∷ decimal n) is_u32 (number_in 4294967295)
id_law = number_in_law 4294967295 (omega arith) (omega arith)

-- a topology behind a blank
pub topology_in_law : Law at_end (λ t. 32 ∷ topology_text t) topology_fits topology_in
unfolding topology_in topology_text
topology_in_law = record { sound = from; full = whole }
  where
    from : Sound (λ t. 32 ∷ topology_text t) topology_fits topology_in
    from s p e =
        let f = after_found (number_in 4294967295 s) _ p e in
        let g = after_found (phase_in f.0.1) _ p f.2 in
        let h = after_found (hash_in g.0.1) _ p g.2 in
        let k = after_found (pending_in g.0.0 h.0.1) _ p h.2 in
        let m = made_topology f.0.0 g.0.0 h.0.0 k.0.0 k.0.1 p k.2 in
        let a = id_law.sound s f.0 f.1 in
        let b = phase_in_law.sound f.0.1 g.0 g.1 in
        let c = hash_in_law.sound g.0.1 h.0 h.1 in
        let d = pending_sound g.0.0 h.0.0 h.0.1 k.0 k.1 m.0 in
        subst (Told (λ t. 32 ∷ topology_text t) topology_fits s) m.1 (
          a.0
              ∙ ap (λ z. 32 ∷ (decimal f.0.0 ++ z)) (
              b.0
              ∙ ap (λ z. 32 ∷ (phase_text g.0.0 ++ z)) (c.0 ∙ ap (λ z. 32 ∷ (hash_text h.0.0 ++ z)) d.0)
              )
              ∙ joined (decimal f.0.0) (phase_text g.0.0) (hash_text h.0.0) (pending_text g.0.0 (unwrap_or k.0.0 [])) k.0.1,
          both_fit (is_u32 f.0.0) (hash_fits h.0.0 && pending_fits g.0.0 h.0.0 (unwrap_or k.0.0 [])) a.1
              (both_fit (hash_fits h.0.0) (pending_fits g.0.0 h.0.0 (unwrap_or k.0.0 [])) c.1 d.1),
        )
      where
        joined : (a b c d y : List ℕ) → 32 ∷ (a ++ (32 ∷ (b ++ (32 ∷ (c ++ (d ++ y)))))) ≡ 32 ∷ ((a ++ (32 ∷ (b ++ (32 ∷ (c ++ d))))) ++ y)
        joined a b c d y = simp append_assoc refl

    whole : (t : Topology) (y : List ℕ) → topology_fits t ≡ true → at_end y ≡ true → topology_in ((32 ∷ topology_text t) ++ y) ≡ Some (t, y)
    whole t y keeps ended =
        let h = both_true (is_u32 t.id) (hash_fits t.current && pending_fits t.phase t.current t.pending) keeps in
        let g = both_true (hash_fits t.current) (pending_fits t.phase t.current t.pending) h.1 in
        let tail = pending_text t.phase t.pending ++ y in
        ap topology_in (sym (joined (decimal t.id) (phase_text t.phase) (hash_text t.current) (pending_text t.phase t.pending) y))
        ∙ ap (λ r. after r (λ id rest. after (phase_in rest) (λ phase rest. after (hash_in rest) (λ current rest. after (pending_in phase rest) (λ pending rest. topology_of id phase current pending rest)))))
        (id_law.full t.id (32 ∷ (phase_text t.phase ++ (32 ∷ (hash_text t.current ++ tail)))) h.0 refl)
        ∙ ap (λ r. after r (λ phase rest. after (hash_in rest) (λ current rest. after (pending_in phase rest) (λ pending rest. topology_of t.id phase current pending rest))))
        (phase_in_law.full t.phase (32 ∷ (hash_text t.current ++ tail)) refl refl)
        ∙ ap (λ r. after r (λ current rest. after (pending_in t.phase rest) (λ pending rest. topology_of t.id t.phase current pending rest)))
        (hash_in_law.full t.current tail g.0 (ends_pending t.phase t.pending y ended))
        ∙ ap (λ r. after r (λ pending rest. topology_of t.id t.phase t.current pending rest)) (pending_full t.phase t.current t.pending y g.1 ended)
        ∙ ap (λ b. cond b (Some (record { id = t.id; phase = t.phase; current = t.current; pending = unwrap_or (kept t.phase t.pending) [] }, y)) None) (makes t.phase t.current t.pending g.0 g.1)
        ∙ ap (λ q. Some (record { id = t.id; phase = t.phase; current = t.current; pending = q }, y)) (kept_again t.phase t.current t.pending g.1)
      where
        joined : (a b c d y : List ℕ) → 32 ∷ (a ++ (32 ∷ (b ++ (32 ∷ (c ++ (d ++ y)))))) ≡ (32 ∷ (a ++ (32 ∷ (b ++ (32 ∷ (c ++ d)))))) ++ y
        joined a b c d y = simp append_assoc refl

        ends_pending : (phase : Phase) (pending : Hash) (y : List ℕ) → at_end y ≡ true → at_end (pending_text phase pending ++ y) ≡ true
        ends_pending NoRebalance pending y e = e
        ends_pending ReadOld pending y e = refl
        ends_pending ReadAll pending y e = refl
        ends_pending ReadNew pending y e = refl
