-- An ordered map of std seen as a finite map.
use Rattle.std.proofs.Common.{◌≡◌, ℕ, Bool, true, false, cond, not, ◌&&◌, T, List, [], ◌∷◌, Some, None, Result, Ok, Err, OnErr, refl, sym, ap, subst, ◌∙◌}
use Rattle.std.proofs.lemmas.Cmp.{eq_by_cmp_equiv}
use Rattle.std.specs.BTreeMap.{is_at}
use Rattle.std.specs.BTreeMap.Range.{entries_between}
use Rattle.std.specs.declared.ops.Bound.TheVariants.{Excluded, Unbounded}
use Rattle.std.specs.declared.cmp.Ordering.{Ordering}
use Rattle.std.specs.declared.cmp.Ordering.TheVariants.{Less, Equal, Greater}
use Rattle.std.specs.FinMap.Entries.{same_entries, below_all}
use Rattle.std.specs.List.{AllByRecursion, filter}
use Rattle.std.specs.List.Sorted.{IsStrictlySortedBy}
use Rattle.std.specs.Cmp.Lexicographic.{nat_list_cmp_total}
use Rattle.std.specs.FinMap as map
use Rattle.std.specs.FinMap.{IsAntisymmetric, nat_cmp-IsAntisymmetric, slice_cmp-IsAntisymmetric}
use Rattle.std.specs.Map.{lookup, keys_of}
use Rattle.std.specs.Ordering.{eq_by_cmp, is_lt, is_gt, is_le}
use Rattle.container_seg.specs.Places.{key_cmp}

-- keys that tie are equal
pub exact_keys : IsAntisymmetric key_cmp
exact_keys = slice_cmp-IsAntisymmetric nat_cmp-IsAntisymmetric

module _ {X : Type 0} where
  -- a look-up in the map is one in the tree
  lookup_find : (es : List (List ℕ × X)) (q : List ℕ) → map.find key_cmp q es ≡ lookup (is_at (key_cmp q)) es
  lookup_find [] q = refl
  lookup_find (e ∷ es) q = ap (cond (eq_by_cmp key_cmp q e.0) (Some e.1)) (lookup_find es q)

  -- what the map has is what the tree has
  pub get_tree : (es : List (List ℕ × X)) (q : List ℕ) → map.get (map.from_entries {R = key_cmp} es) q ≡ lookup (is_at (key_cmp q)) es
  get_tree es q = map.get-from_entries nat_list_cmp_total es q ∙ lookup_find es q

  -- a tree without entries is the empty map
  pub tree_empty : (es : List (List ℕ × X)) → es ≡ [] → map.from_entries {R = key_cmp} es ≡ map.empty
  tree_empty es e = ap (λ fs. map.from_entries {R = key_cmp} fs) e

  -- a tree that is changed at one key
  pub tree_insert : (es fs : List (List ℕ × X)) (k : List ℕ) (v : X)
      → ((q : List ℕ) → lookup (is_at (key_cmp q)) fs ≡ cond (is_at (key_cmp k) q) (Some v) (lookup (is_at (key_cmp q)) es))
      → map.from_entries {R = key_cmp} fs ≡ map.insert (map.from_entries es) k v
  tree_insert es fs k v changed = map.same_map nat_list_cmp_total exact_keys _ _ (λ q.
      get_tree fs q
      ∙ changed q
      ∙ (λ i. cond ((eq_by_cmp_equiv nat_list_cmp_total).symm k q i) (Some v) (sym (get_tree es q) i))
      ∙ sym (map.get-insert nat_list_cmp_total (map.from_entries es) k v q))

  -- a tree from which one key is taken
  pub tree_remove : (es fs : List (List ℕ × X)) (k : List ℕ)
      → ((q : List ℕ) → lookup (is_at (key_cmp q)) fs ≡ cond (is_at (key_cmp k) q) None (lookup (is_at (key_cmp q)) es))
      → map.from_entries {R = key_cmp} fs ≡ map.remove (map.from_entries es) k
  tree_remove es fs k changed = map.same_map nat_list_cmp_total exact_keys _ _ (λ q.
      get_tree fs q
      ∙ changed q
      ∙ (λ i. cond ((eq_by_cmp_equiv nat_list_cmp_total).symm k q i) None (sym (get_tree es q) i))
      ∙ sym (map.get-remove nat_list_cmp_total (map.from_entries es) k q))

-- what holds holds where there is an error
pub on_err : {V E A : Type 0} (r : Result V E) → A → OnErr r A
on_err (Ok v) a = tt
on_err (Err e) a = a

-- what holds of two tests holds of both together
both_T : (a b : Bool) → T a → T b → T (a && b)
both_T true b p q = q
both_T false b p q = p

-- a key that is less than each key is below all
below_from : {X : Type 0} (k : List ℕ) (es : List (List ℕ × X)) → AllByRecursion (λ q. key_cmp k q ≡ Less) (keys_of es) → T (below_all key_cmp k es)
below_from k [] h = tt
below_from k (e ∷ es) h = both_T (is_lt (key_cmp k e.0)) (below_all key_cmp k es) (subst (λ r. T (is_lt r)) (sym h.0) tt) (below_from k es h.1)

-- keys in order are in order as a finite map has them
pub sorted_tree : {X : Type 0} (es : List (List ℕ × X)) → IsStrictlySortedBy key_cmp (keys_of es) → T (map.is_sorted key_cmp es)
unfolding IsStrictlySortedBy
sorted_tree [] h = tt
sorted_tree (e ∷ es) h = both_T (below_all key_cmp e.0 es) (map.is_sorted key_cmp es) (below_from e.0 es h.0) (sorted_tree es h.1)

-- the entries of a tree are those of the finite map
pub entries_tree : {X : Type 0} (es : List (List ℕ × X)) → IsStrictlySortedBy key_cmp (keys_of es) → map.entries (map.from_entries {R = key_cmp} es) ≡ es
entries_tree es h =
    same_entries key_cmp nat_list_cmp_total exact_keys (map.entries (map.from_entries {R = key_cmp} es)) es (map.entries_sorted (map.from_entries {R = key_cmp} es)) (sorted_tree es h)
    (λ q. sym (map.get-entries (map.from_entries {R = key_cmp} es) q) ∙ map.get-from_entries nat_list_cmp_total es q)

-- what is so, and true, is so
and_true : (b : Bool) → (b && true) ≡ b
and_true true = refl
and_true false = refl

-- what isn't at most is greater
above_not_le : (r : Ordering) → not (is_le r) ≡ is_gt r
above_not_le Less = refl
above_not_le Equal = refl
above_not_le Greater = refl

-- each entry passes a test that always does
pub filter_all : {X : Type 0} (es : List X) → filter (λ _. true) es ≡ es
filter_all [] = refl
filter_all (e ∷ es) = ap (λ fs. e ∷ fs) (filter_all es)

module _ {X : Type 0} (es : List (List ℕ × X)) (m : map.FinMap key_cmp X) (is : map.from_entries es ≡ m) (sorted : IsStrictlySortedBy key_cmp (keys_of es)) where
  -- the entries of the tree are those of the map
  entries_of : es ≡ map.entries m
  entries_of = sym (entries_tree es sorted) ∙ ap map.entries is

  -- the entries above a key
  pub range_above : (k : List ℕ) → entries_between key_cmp (Excluded k) Unbounded es ≡ filter (λ e. is_lt (key_cmp k e.0)) (map.entries m)
  range_above k = (λ i. filter (λ e. and_true (is_lt (key_cmp k e.0)) i) (entries_of i))

  -- the entries below a key
  pub range_below : (k : List ℕ) → entries_between key_cmp Unbounded (Excluded k) es ≡ filter (λ e. is_gt (key_cmp k e.0)) (map.entries m)
  range_below k = (λ i. filter (λ e. above_not_le (key_cmp k e.0) i) (entries_of i))

  -- all entries
  pub range_all : entries_between key_cmp Unbounded Unbounded es ≡ map.entries m
  range_all = filter_all es ∙ entries_of
