-- What a container has, by look-ups, and how its changes show.
use Rattle.std.proofs.Common.{◌≡◌, ◌≢◌, ℕ, suc, zero, ◌+◌, ◌<◌, ◌≤◌, Bool, true, false, cond, not, ◌&&◌, ◌==◌, T, List, [], ◌∷◌, ◌++◌, map, length, set, Option, Some, None, arith, refl, sym, ap, ◌∙◌, inl, inr}
use Rattle.std.proofs.lemmas.Bool.{cases_Bool, cases_eq, cases_lt, ne_eqb, eq-eqb, lt-ltb, le-ltb}
use Rattle.std.proofs.lemmas.List.{get_or-set_same, get_or-set_other, get_or_past}
use Rattle.std.specs.Cmp.{unsigned_tied, Equal-is}
use Rattle.std.specs.Cmp.Lexicographic.{nat_list_cmp_total}
use Rattle.std.specs.declared.cmp.Ordering.{Ordering}
use Rattle.std.specs.declared.cmp.Ordering.TheVariants.{Less, Equal, Greater}
use Rattle.std.specs.FinMap as maps
use Rattle.std.specs.FinMap.Entries.{same_entries, below_all}
use Rattle.std.specs.Ordering.{nat_cmp, eq_by_cmp, is_eq, is_lt, ordering_then}
use Rattle.grid_base.specs.declared.stamped.Stamped.{Stamped}
use Rattle.container_seg.specs.Places.{Place, place_cmp, key_cmp}
use Rattle.container_seg.specs.Lifespans.{outlasts, is_fresh, left, fresh}
use Rattle.container_seg.specs.Contents.{Copies, place, in_segment, part, part_entries}
use Rattle.container_seg.specs.Stored.{Part, part_at, stored_from, stored, left_of}
use Rattle.container_seg.proofs.Trees.{exact_keys}
use Rattle.container_seg.proofs.PlaceLaws.{place_total, places_tie, exact_places}

-- ---- look-ups

-- the first that there is of two
abbrev or_else : Option Stamped → Option Stamped → Option Stamped
or_else None second = second
or_else (Some v) second = Some v

-- what there is, or else nothing
or_none : (o : Option Stamped) → or_else o None ≡ o
or_none None = refl
or_none (Some v) = refl

-- what is found in two lists is what is found in the first, or else in the second
find_append : (q : Place) (es fs : List (Place × Stamped)) → maps.find place_cmp q (es ++ fs) ≡ or_else (maps.find place_cmp q es) (maps.find place_cmp q fs)
find_append q [] fs = refl
find_append q (e ∷ es) fs = elim (eq_by_cmp place_cmp q e.0) as (λ b. cond b (Some e.1) (maps.find place_cmp q (es ++ fs)) ≡ or_else (cond b (Some e.1) (maps.find place_cmp q es)) (maps.find place_cmp q fs)) [
  | true ↦ refl
  | false ↦ find_append q es fs
]

-- a place is found by its segment, and then by its key
placed_step : (r : Ordering) (b : Bool) (v : Stamped) (o : Option Stamped) (q : Ordering) → b ≡ is_eq q → cond (is_eq (ordering_then r q)) (Some v) (cond (is_eq r) o None) ≡ cond (is_eq r) (cond b (Some v) o) None
placed_step Less b v o q e = refl
placed_step Equal b v o q e = ap (λ t. cond t (Some v) o) (sym e)
placed_step Greater b v o q e = refl

-- what is chosen either way is the same
either_way : (b : Bool) (o : Option Stamped) → o ≡ cond b o o
either_way true o = refl
either_way false o = refl

-- a place is found in a part of a segment exactly where it is of that segment and the key is there
find_placed : (n t : ℕ) (j : List ℕ) (row : List (List ℕ × Stamped)) → maps.find place_cmp (place t j) (map (λ e. (place n e.0, e.1)) row) ≡ cond (is_eq (nat_cmp t n)) (maps.find key_cmp j row) None
find_placed n t j [] = either_way (is_eq (nat_cmp t n)) None
find_placed n t j (e ∷ row) =
    ap (cond (eq_by_cmp place_cmp (place t j) (place n e.0)) (Some e.1)) (find_placed n t j row)
    ∙ placed_step (nat_cmp t n) (eq_by_cmp key_cmp j e.0) e.1 (maps.find key_cmp j row) (key_cmp j e.0) refl

-- numbers that differ don't tie
tie_no : (t n : ℕ) → t ≢ n → is_eq (nat_cmp t n) ≡ false
tie_no t n h = unsigned_tied t n ∙ ne_eqb t n h

-- equal numbers tie
tie_yes : (t n : ℕ) → t ≡ n → is_eq (nat_cmp t n) ≡ true
tie_yes t n h = unsigned_tied t n ∙ eq-eqb t n h

-- nothing is stored of a segment before the first
stored_below : (n t : ℕ) (j : List ℕ) (parts : List Part) → t < n → maps.find place_cmp (place t j) (stored_from n parts) ≡ None
unfolding stored_from
stored_below n t j [] h = refl
stored_below n t j (p ∷ parts) h =
    let differ : t ≢ n = omega arith in
    find_append (place t j) (map (λ e. (place n e.0, e.1)) (maps.entries p)) (stored_from (suc n) parts)
    ∙ (λ i. or_else ((find_placed n t j (maps.entries p) ∙ ap (λ b. cond b (maps.find key_cmp j (maps.entries p)) None) (tie_no t n differ)) i) (stored_below (suc n) t j parts (omega arith) i))

-- what is stored of a segment is what its part has
stored_at : (n t i : ℕ) (j : List ℕ) (parts : List Part) → t ≡ n + i → maps.find place_cmp (place t j) (stored_from n parts) ≡ maps.get (part_at parts i) j
unfolding stored_from
stored_at n t i j [] e = sym (maps.get-empty key_cmp j)
stored_at n t zero j (p ∷ parts) e =
    let same : t ≡ n = omega arith in
    find_append (place t j) (map (λ e. (place n e.0, e.1)) (maps.entries p)) (stored_from (suc n) parts)
    ∙ (λ i. or_else ((find_placed n t j (maps.entries p) ∙ ap (λ b. cond b (maps.find key_cmp j (maps.entries p)) None) (tie_yes t n same)) i) (stored_below (suc n) t j parts (omega arith) i))
    ∙ or_none (maps.find key_cmp j (maps.entries p))
    ∙ sym (maps.get-entries p j)
stored_at n t (suc k) j (p ∷ parts) e =
    let differ : t ≢ n = omega arith in
    find_append (place t j) (map (λ e. (place n e.0, e.1)) (maps.entries p)) (stored_from (suc n) parts)
    ∙ (λ i. or_else ((find_placed n t j (maps.entries p) ∙ ap (λ b. cond b (maps.find key_cmp j (maps.entries p)) None) (tie_no t n differ)) i) (stored_at (suc n) t k j parts (omega arith) i))

-- the stored value at a place is that of the key in the segment's part
pub get-stored : (parts : List Part) (t : ℕ) (j : List ℕ) → maps.get (stored parts) (place t j) ≡ maps.get (part_at parts t) j
unfolding stored
get-stored parts t j = maps.get-from_entries place_total (stored_from 0 parts) (place t j) ∙ stored_at 0 t t j parts (omega arith)

-- and what is left of it, where it hasn't expired
pub get-left_of : (clock : ℕ) (parts : List Part) (t : ℕ) (j : List ℕ) → maps.get (left_of clock parts) (place t j) ≡ left clock (maps.get (part_at parts t) j)
unfolding left_of
get-left_of clock parts t j =
    maps.get-retain_keys (stored parts) (λ p. is_fresh clock (maps.get (stored parts) p)) (place t j) (λ x e. ap (is_fresh clock) (maps.get_tied place_total (stored parts) (place t j) x e))
    ∙ ap (left clock) (get-stored parts t j)

-- containers that have the same left are the same
same_left : (m n : Copies) → ((t : ℕ) (j : List ℕ) → maps.get m (place t j) ≡ maps.get n (place t j)) → m ≡ n
same_left m n h = maps.same_map place_total exact_places m n (λ q. h q.segment q.key)

-- ---- changes of one part

-- after a part is set, its segment has it and any other segment what it had
part_set : (parts : List Part) (s t : ℕ) (p : Part) → s < length parts → part_at (set parts s p) t ≡ cond (is_eq (nat_cmp t s)) p (part_at parts t)
part_set parts s t p h = elim (cases_eq t s) [
  | inl same ↦ ap (part_at (set parts s p)) same ∙ get_or-set_same parts s p maps.empty h ∙ ap (λ b. cond b p (part_at parts t)) (sym (tie_yes t s same))
  | inr differ ↦ get_or-set_other parts s t p maps.empty differ ∙ ap (λ b. cond b p (part_at parts t)) (sym (tie_no t s differ))
]

-- what is left at a place after one part has changed
left_set : (clock : ℕ) (parts : List Part) (s : ℕ) (p : Part) → s < length parts → (t : ℕ) (j : List ℕ)
    → maps.get (left_of clock (set parts s p)) (place t j) ≡ cond (is_eq (nat_cmp t s)) (left clock (maps.get p j)) (maps.get (left_of clock parts) (place t j))
left_set clock parts s p h t j =
    get-left_of clock (set parts s p) t j
    ∙ ap (λ q. left clock (maps.get q j)) (part_set parts s t p h)
    ∙ elim (is_eq (nat_cmp t s)) as (λ b. left clock (maps.get (cond b p (part_at parts t)) j) ≡ cond b (left clock (maps.get p j)) (maps.get (left_of clock parts) (place t j))) [
      | true ↦ refl
      | false ↦ sym (get-left_of clock parts t j)
    ]

-- what is left of a choice is the choice of what is left
left_chosen : (clock : ℕ) (b : Bool) (v o : Option Stamped) → left clock v ≡ v → left clock (cond b v o) ≡ cond b v (left clock o)
left_chosen clock true v o h = h
left_chosen clock false v o h = refl

-- a part that is changed at one key: the container is changed at that place
module _ (clock : ℕ) (parts : List Part) (s : ℕ) (k : List ℕ) (h : s < length parts) where
  -- a part that is changed at one key changes the container at that place
  changed_at : (p : Part) (v : Option Stamped) → left clock v ≡ v → ((j : List ℕ) → maps.get p j ≡ cond (eq_by_cmp key_cmp j k) v (maps.get (part_at parts s) j)) → (t : ℕ) (j : List ℕ)
      → maps.get (left_of clock (set parts s p)) (place t j) ≡ cond (eq_by_cmp place_cmp (place t j) (place s k)) v (maps.get (left_of clock parts) (place t j))
  changed_at p v stays changed t j =
      left_set clock parts s p h t j
      ∙ elim (cases_eq t s) [
        | inl same ↦ ap (λ b. cond b (left clock (maps.get p j)) (maps.get (left_of clock parts) (place t j))) (tie_yes t s same)
            ∙ ap (left clock) (changed j)
            ∙ left_chosen clock (eq_by_cmp key_cmp j k) v (maps.get (part_at parts s) j) stays
            ∙ ap (cond (eq_by_cmp key_cmp j k) v) (ap (λ u. left clock (maps.get (part_at parts u) j)) (sym same) ∙ sym (get-left_of clock parts t j))
            ∙ ap (λ b. cond b v (maps.get (left_of clock parts) (place t j))) (sym (places_tie t s j k ∙ ap (λ b. b && eq_by_cmp key_cmp j k) (tie_yes t s same)))
        | inr differ ↦ ap (λ b. cond b (left clock (maps.get p j)) (maps.get (left_of clock parts) (place t j))) (tie_no t s differ)
            ∙ ap (λ b. cond b v (maps.get (left_of clock parts) (place t j))) (sym (places_tie t s j k ∙ ap (λ b. b && eq_by_cmp key_cmp j k) (tie_no t s differ)))
      ]

  -- a value is put
  pub left_insert : (v : Stamped) → outlasts clock v.until ≡ true → left_of clock (set parts s (maps.insert (part_at parts s) k v)) ≡ maps.insert (left_of clock parts) (place s k) v
  left_insert v lasts = same_left _ _ (λ t j.
      changed_at (maps.insert (part_at parts s) k v) (Some v) (ap (λ b. cond b (Some v) None) lasts) (λ i. maps.get-insert nat_list_cmp_total (part_at parts s) k v i) t j
      ∙ sym (maps.get-insert place_total (left_of clock parts) (place s k) v (place t j)))

  -- a key is taken out
  pub left_remove : left_of clock (set parts s (maps.remove (part_at parts s) k)) ≡ maps.remove (left_of clock parts) (place s k)
  left_remove = same_left _ _ (λ t j.
      changed_at (maps.remove (part_at parts s) k) None refl (λ i. maps.get-remove nat_list_cmp_total (part_at parts s) k i) t j
      ∙ sym (maps.get-remove place_total (left_of clock parts) (place s k) (place t j)))

-- what a test takes away is what its opposite keeps
dropped_step : (b : Bool) (o : Option Stamped) → cond b None o ≡ cond (not b) o None
dropped_step true o = refl
dropped_step false o = refl

-- a part is emptied
pub left_dropped : (clock : ℕ) (parts : List Part) (s : ℕ) → s < length parts → left_of clock (set parts s maps.empty) ≡ maps.retain_keys (left_of clock parts) (λ p. not (p.segment == s))
left_dropped clock parts s h = same_left _ _ (λ t j.
    left_set clock parts s maps.empty h t j
    ∙ (λ i. cond (unsigned_tied t s i) (left clock (maps.get-empty key_cmp j i)) (maps.get (left_of clock parts) (place t j)))
    ∙ dropped_step (t == s) (maps.get (left_of clock parts) (place t j))
    ∙ sym (maps.get-retain_keys (left_of clock parts) (λ p. not (p.segment == s)) (place t j) (λ x e. ap (λ (p : Place). not (p.segment == s)) (sym (exact_places (place t j) x e)))))

-- where there is no such part, nothing is dropped
pub left_past : (clock : ℕ) (parts : List Part) (s : ℕ) (k : List ℕ) → length parts ≤ s → maps.get (left_of clock parts) (place s k) ≡ None
left_past clock parts s k h = get-left_of clock parts s k ∙ ap (λ p. left clock (maps.get p k)) (get_or_past parts s maps.empty h) ∙ ap (left clock) (maps.get-empty key_cmp k)

-- dropping a segment behind the last changes nothing
pub left_dropped_past : (clock : ℕ) (parts : List Part) (s : ℕ) → length parts ≤ s → left_of clock parts ≡ maps.retain_keys (left_of clock parts) (λ p. not (p.segment == s))
left_dropped_past clock parts s h = same_left _ _ (λ t j.
    kept t j ∙ sym (maps.get-retain_keys (left_of clock parts) (λ p. not (p.segment == s)) (place t j) (λ x e. ap (λ (p : Place). not (p.segment == s)) (sym (exact_places (place t j) x e)))))
  where
    kept : (t : ℕ) (j : List ℕ) → maps.get (left_of clock parts) (place t j) ≡ cond (not (t == s)) (maps.get (left_of clock parts) (place t j)) None
    kept t j = elim (cases_eq t s) [
      | inl same ↦ left_past clock parts t j (omega (arith, same, h)) ∙ ap (λ b. cond (not b) (maps.get (left_of clock parts) (place t j)) None) (sym (eq-eqb t s same))
      | inr differ ↦ ap (λ b. cond (not b) (maps.get (left_of clock parts) (place t j)) None) (sym (ne_eqb t s differ))
    ]

-- a part is freed of what has expired
pub left_purged : (clock : ℕ) (parts : List Part) (s : ℕ) (p : Part) → s < length parts → ((q : List ℕ) → left clock (maps.get p q) ≡ left clock (maps.get (part_at parts s) q)) → left_of clock (set parts s p) ≡ left_of clock parts
left_purged clock parts s p h same = same_left _ _ (λ t j.
    left_set clock parts s p h t j
    ∙ elim (cases_eq t s) [
      | inl here ↦ ap (λ b. cond b (left clock (maps.get p j)) (maps.get (left_of clock parts) (place t j))) (tie_yes t s here) ∙ same j ∙ ap (λ u. left clock (maps.get (part_at parts u) j)) (sym here) ∙ sym (get-left_of clock parts t j)
      | inr differ ↦ ap (λ b. cond b (left clock (maps.get p j)) (maps.get (left_of clock parts) (place t j))) (tie_no t s differ)
    ])

-- parts that are the same by look-up have the same left
pub left_alike : (clock : ℕ) (parts more : List Part) → ((t : ℕ) → part_at more t ≡ part_at parts t) → left_of clock more ≡ left_of clock parts
left_alike clock parts more alike = same_left _ _ (λ t j. get-left_of clock more t j ∙ ap (λ p. left clock (maps.get p j)) (alike t) ∙ sym (get-left_of clock parts t j))

-- where there is no part, nothing is left
pub left_none : (clock : ℕ) → left_of clock [] ≡ maps.empty
left_none clock = same_left _ _ (λ t j. get-left_of clock [] t j ∙ ap (left clock) (maps.get-empty key_cmp j) ∙ sym (maps.get-empty place_cmp (place t j)))

-- what a later clock leaves of what an earlier one left is what it leaves of all
left_later : (clock later : ℕ) (o : Option Stamped) → clock ≤ later → left later (left clock o) ≡ left later o
left_later clock later None h = refl
left_later clock later (Some v) h = lasts v.until refl
  where
    lasts : (u : Option ℕ) → v.until ≡ u → left later (cond (outlasts clock v.until) (Some v) None) ≡ left later (Some v)
    lasts None e = ap (λ w. left later (cond (outlasts clock w) (Some v) None)) e
    lasts (Some until) e = elim (cases_lt clock until) [
      | inl above ↦ ap (λ w. left later (cond (outlasts clock w) (Some v) None)) e ∙ ap (λ b. left later (cond b (Some v) None)) (lt-ltb clock until above)
      | inr below ↦ ap (λ w. left later (cond (outlasts clock w) (Some v) None)) e ∙ ap (λ b. left later (cond b (Some v) None)) (le-ltb clock until below)
          ∙ sym (ap (λ w. cond (outlasts later w) (Some v) None) e ∙ ap (λ b. cond b (Some v) None) (le-ltb later until (omega (arith, below, h))))
    ]

-- the clock is raised
pub left_ticked : (clock later : ℕ) (parts : List Part) → clock ≤ later → left_of later parts ≡ maps.retain_keys (left_of clock parts) (λ p. is_fresh later (maps.get (left_of clock parts) p))
left_ticked clock later parts h = same_left _ _ (λ t j.
    get-left_of later parts t j
    ∙ sym (left_later clock later (maps.get (part_at parts t) j) h)
    ∙ ap (left later) (sym (get-left_of clock parts t j))
    ∙ sym (maps.get-retain_keys (left_of clock parts) (λ p. is_fresh later (maps.get (left_of clock parts) p)) (place t j) (λ x e. ap (is_fresh later) (maps.get_tied place_total (left_of clock parts) (place t j) x e))))

-- one more part without entries
pub part_push : (parts : List Part) (t : ℕ) → part_at (parts ++ maps.empty ∷ []) t ≡ part_at parts t
part_push [] zero = refl
part_push [] (suc t) = refl
part_push (p ∷ parts) zero = refl
part_push (p ∷ parts) (suc t) = part_push parts t

-- to take out a key that isn't there changes nothing
pub left_removed_past : (clock : ℕ) (parts : List Part) (s : ℕ) (k : List ℕ) → length parts ≤ s → left_of clock parts ≡ maps.remove (left_of clock parts) (place s k)
left_removed_past clock parts s k h = same_left _ _ (λ t j.
    elim (cases_Bool (eq_by_cmp place_cmp (place t j) (place s k))) [
      | inl ties ↦ sym (maps.get_tied place_total (left_of clock parts) (place t j) (place s k) ((Equal-is (place_cmp (place t j) (place s k))).0 ties)) ∙ left_past clock parts s k h
          ∙ ap (λ b. cond b None (maps.get (left_of clock parts) (place t j))) (sym ties)
      | inr apart ↦ ap (λ b. cond b None (maps.get (left_of clock parts) (place t j))) (sym apart)
    ] ∙ sym (maps.get-remove place_total (left_of clock parts) (place s k) (place t j)))

-- ---- the entries of one segment, in order

-- a key is found in a segment as its place is found in the container
find_in_segment : (s : ℕ) (k : List ℕ) (es : List (Place × Stamped)) → maps.find key_cmp k (in_segment s es) ≡ maps.find place_cmp (place s k) es
find_in_segment s k [] = refl
find_in_segment s k (e ∷ es) = elim (cases_eq e.0.segment s) [
  | inl same ↦ ap (λ b. maps.find key_cmp k (cond b ((e.0.key, e.1) ∷ in_segment s es) (in_segment s es))) (eq-eqb e.0.segment s same)
      ∙ (λ i. cond (eq_by_cmp key_cmp k e.0.key) (Some e.1) (find_in_segment s k es i))
      ∙ ap (λ b. cond b (Some e.1) (maps.find place_cmp (place s k) es)) (sym (places_tie s e.0.segment k e.0.key ∙ ap (λ b. b && eq_by_cmp key_cmp k e.0.key) (tie_yes s e.0.segment (sym same))))
  | inr differ ↦ ap (λ b. maps.find key_cmp k (cond b ((e.0.key, e.1) ∷ in_segment s es) (in_segment s es))) (ne_eqb e.0.segment s differ)
      ∙ find_in_segment s k es
      ∙ ap (λ b. cond b (Some e.1) (maps.find place_cmp (place s k) es)) (sym (places_tie s e.0.segment k e.0.key ∙ ap (λ b. b && eq_by_cmp key_cmp k e.0.key) (tie_no s e.0.segment (λ e. differ (sym e)))))
]

-- a segment's finite map has what the container has there
pub get-part : (m : Copies) (s : ℕ) (k : List ℕ) → maps.get (part m s) k ≡ maps.get m (place s k)
get-part m s k = maps.get-from_entries nat_list_cmp_total (in_segment s (maps.entries m)) k ∙ find_in_segment s k (maps.entries m) ∙ sym (maps.get-entries m (place s k))

-- what holds of two tests holds of both together
both_T : (a b : Bool) → T a → T b → T (a && b)
both_T true b p q = q
both_T false b p q = p

-- and of both together holds of the first
first_T : (a b : Bool) → T (a && b) → T a
first_T true b p = tt
first_T false b p = p

-- and of the second
second_T : (a b : Bool) → T (a && b) → T b
second_T true b p = p
second_T false b p = absurd p

-- what is less doesn't tie
less_not_tied : (r : Ordering) → T (is_lt r) → is_eq r ≡ false
less_not_tied Less h = refl
less_not_tied Equal h = absurd h
less_not_tied Greater h = refl

-- a key below all keys isn't found
none_below : (k : List ℕ) (es : List (List ℕ × Stamped)) → T (below_all key_cmp k es) → maps.find key_cmp k es ≡ None
none_below k [] h = refl
none_below k (e ∷ es) h =
    ap (λ b. cond b (Some e.1) (maps.find key_cmp k es)) (less_not_tied (key_cmp k e.0) (first_T (is_lt (key_cmp k e.0)) (below_all key_cmp k es) h))
    ∙ none_below k es (second_T (is_lt (key_cmp k e.0)) (below_all key_cmp k es) h)

-- a key below all keys is below those that haven't expired
below_fresh : (clock : ℕ) (k : List ℕ) (es : List (List ℕ × Stamped)) → T (below_all key_cmp k es) → T (below_all key_cmp k (fresh clock es))
below_fresh clock k [] h = tt
below_fresh clock k (e ∷ es) h =
    let rest = below_fresh clock k es (second_T (is_lt (key_cmp k e.0)) (below_all key_cmp k es) h) in
    elim (outlasts clock e.1.until) as (λ b. T (below_all key_cmp k (cond b (e ∷ fresh clock es) (fresh clock es)))) [
      | true ↦ both_T (is_lt (key_cmp k e.0)) (below_all key_cmp k (fresh clock es)) (first_T (is_lt (key_cmp k e.0)) (below_all key_cmp k es) h) rest
      | false ↦ rest
    ]

-- what hasn't expired of a sorted list is sorted
sorted_fresh : (clock : ℕ) (es : List (List ℕ × Stamped)) → T (maps.is_sorted key_cmp es) → T (maps.is_sorted key_cmp (fresh clock es))
sorted_fresh clock [] h = tt
sorted_fresh clock (e ∷ es) h =
    let rest = sorted_fresh clock es (second_T (below_all key_cmp e.0 es) (maps.is_sorted key_cmp es) h) in
    elim (outlasts clock e.1.until) as (λ b. T (maps.is_sorted key_cmp (cond b (e ∷ fresh clock es) (fresh clock es)))) [
      | true ↦ both_T (below_all key_cmp e.0 (fresh clock es)) (maps.is_sorted key_cmp (fresh clock es)) (below_fresh clock e.0 es (first_T (below_all key_cmp e.0 es) (maps.is_sorted key_cmp es) h)) rest
      | false ↦ rest
    ]

-- what is found of those that haven't expired is what is left of what is found
find_fresh : (clock : ℕ) (k : List ℕ) (es : List (List ℕ × Stamped)) → T (maps.is_sorted key_cmp es) → maps.find key_cmp k (fresh clock es) ≡ left clock (maps.find key_cmp k es)
find_fresh clock k [] h = refl
find_fresh clock k (e ∷ es) h =
    let later = find_fresh clock k es (second_T (below_all key_cmp e.0 es) (maps.is_sorted key_cmp es) h) in
    elim (eq_by_cmp key_cmp k e.0) as (λ t. eq_by_cmp key_cmp k e.0 ≡ t → maps.find key_cmp k (cond (outlasts clock e.1.until) (e ∷ fresh clock es) (fresh clock es)) ≡ left clock (cond t (Some e.1) (maps.find key_cmp k es))) [
      | true ↦ λ ties.
          let here : k ≡ e.0 = exact_keys k e.0 ((Equal-is (key_cmp k e.0)).0 ties) in
          let none : maps.find key_cmp k (fresh clock es) ≡ None =
          ap (λ q. maps.find key_cmp q (fresh clock es)) here ∙ none_below e.0 (fresh clock es) (below_fresh clock e.0 es (first_T (below_all key_cmp e.0 es) (maps.is_sorted key_cmp es) h)) in
          elim (outlasts clock e.1.until) as (λ b. maps.find key_cmp k (cond b (e ∷ fresh clock es) (fresh clock es)) ≡ cond b (Some e.1) None) [
            | true ↦ ap (λ t. cond t (Some e.1) (maps.find key_cmp k (fresh clock es))) ties
            | false ↦ none
          ]
      | false ↦ λ apart.
          elim (outlasts clock e.1.until) as (λ b. maps.find key_cmp k (cond b (e ∷ fresh clock es) (fresh clock es)) ≡ left clock (maps.find key_cmp k es)) [
            | true ↦ ap (λ t. cond t (Some e.1) (maps.find key_cmp k (fresh clock es))) apart ∙ later
            | false ↦ later
          ]
    ] refl

-- the entries of a segment are the stored ones that haven't expired
pub part_entries-left_of : (clock : ℕ) (parts : List Part) (s : ℕ) → part_entries (left_of clock parts) s ≡ fresh clock (maps.entries (part_at parts s))
unfolding part_entries
part_entries-left_of clock parts s =
    same_entries key_cmp nat_list_cmp_total exact_keys (maps.entries (part (left_of clock parts) s)) (fresh clock (maps.entries (part_at parts s)))
    (maps.entries_sorted (part (left_of clock parts) s)) (sorted_fresh clock (maps.entries (part_at parts s)) (maps.entries_sorted (part_at parts s)))
    (λ k. sym (maps.get-entries (part (left_of clock parts) s) k)
    ∙ get-part (left_of clock parts) s k
    ∙ get-left_of clock parts s k
    ∙ ap (left clock) (maps.get-entries (part_at parts s) k)
    ∙ sym (find_fresh clock k (maps.entries (part_at parts s)) (maps.entries_sorted (part_at parts s))))

-- ---- the entries of a segment, copied one after another

-- a part with these entries put into it in turn
abbrev pub with_all : List (List ℕ × Stamped) → Part → Part
with_all [] m = m
with_all (e ∷ es) m = with_all es (maps.insert m e.0 e.1)

-- a key that stands in front stands nowhere else
front_first : (e : List ℕ × Stamped) (es : List (List ℕ × Stamped)) (q : List ℕ) (o : Option Stamped) → T (below_all key_cmp e.0 es)
    → or_else (maps.find key_cmp q es) (cond (eq_by_cmp key_cmp q e.0) (Some e.1) o) ≡ or_else (cond (eq_by_cmp key_cmp q e.0) (Some e.1) (maps.find key_cmp q es)) o
front_first e es q o h = elim (eq_by_cmp key_cmp q e.0) as (λ b. eq_by_cmp key_cmp q e.0 ≡ b → or_else (maps.find key_cmp q es) (cond b (Some e.1) o) ≡ or_else (cond b (Some e.1) (maps.find key_cmp q es)) o) [
  | true ↦ λ ties. ap (λ u. or_else u (Some e.1)) (ap (λ k. maps.find key_cmp k es) (exact_keys q e.0 ((Equal-is (key_cmp q e.0)).0 ties)) ∙ none_below e.0 es h)
  | false ↦ λ apart. refl
] refl

-- what it then has: these entries, and what it had beside them
get-with_all : (es : List (List ℕ × Stamped)) (m : Part) (q : List ℕ) → T (maps.is_sorted key_cmp es) → maps.get (with_all es m) q ≡ or_else (maps.find key_cmp q es) (maps.get m q)
get-with_all [] m q h = refl
get-with_all (e ∷ es) m q h =
    get-with_all es (maps.insert m e.0 e.1) q (second_T (below_all key_cmp e.0 es) (maps.is_sorted key_cmp es) h)
    ∙ ap (or_else (maps.find key_cmp q es)) (maps.get-insert nat_list_cmp_total m e.0 e.1 q)
    ∙ front_first e es q (maps.get m q) (first_T (below_all key_cmp e.0 es) (maps.is_sorted key_cmp es) h)

-- all entries of a part, put in turn into an empty one, make that part
pub with_all-empty : (m : Part) → with_all (maps.entries m) maps.empty ≡ m
with_all-empty m = maps.same_map nat_list_cmp_total exact_keys _ _ (λ q.
    get-with_all (maps.entries m) maps.empty q (maps.entries_sorted m)
    ∙ ap (or_else (maps.find key_cmp q (maps.entries m))) (maps.get-empty key_cmp q)
    ∙ or_none (maps.find key_cmp q (maps.entries m))
    ∙ sym (maps.get-entries m q))
