-- Finite maps of which only the keys of some values stay.
use Rattle.std.proofs.Common.{◌≡◌, ℕ, ◌≤◌, ◌+◌, ◌-◌, Bool, true, false, cond, if◌then◌else◌, ◌&&◌, List, [], ◌∷◌, length, Option, Some, None, refl, sym, ap, ◌∙◌, arith}
use Rattle.std.specs.Cmp.{IsTotalOrder}
use Rattle.std.specs.declared.cmp.Ordering.{Ordering}
use Rattle.std.specs.declared.cmp.Ordering.TheVariants.{Less}
use Rattle.std.specs.FinMap as map
use Rattle.std.specs.FinMap.{IsAntisymmetric}
use Rattle.std.specs.List.{AllByRecursion, filter}
use Rattle.std.specs.List.Sorted.{IsStrictlySortedBy}
use Rattle.std.specs.Map.{keys_of}
use Rattle.std.specs.Ordering.{eq_by_cmp}
use Rattle.grid_journal.proofs.Trees.{len_tree, tree_values}

-- a choice between the same and the same
either_way : {A : Type 0} (b : Bool) (a : A) → cond b a a ≡ a
either_way true a = refl
either_way false a = refl

-- what passes stays where it is set
set_kept : {X : Type 0} (test : Option X → Bool) (v : X) (b : Bool) (found : Option X) → test (Some v) ≡ true
    → cond (test (cond b (Some v) found)) (cond b (Some v) found) None ≡ cond b (Some v) (cond (test found) found None)
set_kept test v true found passes = ap (λ a. cond a (Some v) None) passes
set_kept test v false found passes = refl

-- what is taken out is out
taken_kept : {X : Type 0} (test : Option X → Bool) (b : Bool) (found : Option X)
    → cond (test (cond b None found)) (cond b None found) None ≡ cond b None (cond (test found) found None)
taken_kept test true found = either_way (test None) None
taken_kept test false found = refl

-- two tests may be made in either order
both_kept : {X : Type 0} (test : Option X → Bool) (b : Bool) (found : Option X)
    → cond (test (cond b found None)) (cond b found None) None ≡ cond b (cond (test found) found None) None
both_kept test true found = refl
both_kept test false found = either_way (test None) None

-- what passes the first of two tests is left to the second
two_passed : {X : Type 0} (v : X) (a b : Bool) (test : Option X → Bool) → test (Some v) ≡ b → cond (a && b) (Some v) None ≡ cond (test (cond a (Some v) None)) (cond a (Some v) None) None
two_passed v true b test e = ap (λ c. cond c (Some v) None) (sym e)
two_passed v false b test e = sym (either_way (test None) None)

-- a test that is two tests
two_kept : {X : Type 0} (first next both : Option X → Bool) → ((v : X) → both (Some v) ≡ (first (Some v) && next (Some v))) → (found : Option X)
    → cond (both found) found None ≡ cond (next (cond (first found) found None)) (cond (first found) found None) None
two_kept first next both same None =
    either_way (both None) None
    ∙ sym (ap (λ found. cond (next found) found None) (either_way (first None) None) ∙ either_way (next None) None)
two_kept first next both same (Some v) = ap (λ c. cond c (Some v) None) (same v) ∙ two_passed v (first (Some v)) (next (Some v)) next refl

-- each passes a test that always does
all_passed : {X : Type 0} (test : Option X → Bool) → ((v : X) → test (Some v) ≡ true) → (found : Option X) → cond (test found) found None ≡ found
all_passed test passes None = either_way (test None) None
all_passed test passes (Some v) = ap (λ b. cond b (Some v) None) (passes v)

-- one entry more or none makes one more at most
length_chosen : {E : Type 0} (b : Bool) (e : E) (kept : List E) (n : ℕ) → length kept ≤ n → length (if b then e ∷ kept else kept) ≤ n + 1
length_chosen true e kept n h = omega arith
length_chosen false e kept n h = omega arith

-- as many entries at most stay as there are
length_kept : {E : Type 0} (test : E → Bool) (es : List E) → length (filter test es) ≤ length es
length_kept test [] = omega arith
length_kept test (e ∷ es) =
    let one = length_chosen (test e) e (filter test es) (length es) (length_kept test es) in
    omega arith

-- entries that are left: those that stay and those that don't
-- before the first entry none is left out
pub at_first : {E : Type 0} (test : E → Bool) (es left : List E) (count : ℕ) → left ≡ es → count ≡ length es → count + length (filter test left) ≡ length (filter test es) + length left
at_first test es left count same all =
    let kept = ap (λ fs. length (filter test fs)) same in
    let long = ap length same in
    omega arith

-- where an entry doesn't stay, one at least is counted
pub some_left : {E : Type 0} (test : E → Bool) (e : E) (es left : List E) (count all : ℕ) → left ≡ e ∷ es → test e ≡ false
    → count + length (filter test left) ≡ all + length left → 1 ≤ count
some_left test e es left count all step gone whole =
    let short = length_kept test es in
    let kept = ap (λ fs. length (filter test fs)) step in
    let long = ap length step in
    let same = ap (λ b. length (if b then e ∷ filter test es else filter test es)) gone in
    omega arith

-- an entry that doesn't stay is left out of the count
pub one_gone : {E : Type 0} (test : E → Bool) (e : E) (es left : List E) (count all : ℕ) → left ≡ e ∷ es → test e ≡ false
    → count + length (filter test left) ≡ all + length left → count - 1 + length (filter test es) ≡ all + length es
one_gone test e es left count all step gone whole =
    let short = length_kept test es in
    let kept = ap (λ fs. length (filter test fs)) step in
    let long = ap length step in
    let same = ap (λ b. length (if b then e ∷ filter test es else filter test es)) gone in
    omega arith

-- behind the last entry the count is that of those that stay
pub at_last : {E : Type 0} (test : E → Bool) (left : List E) (count all : ℕ) → left ≡ [] → count + length (filter test left) ≡ all + length left → count ≡ all
at_last test left count all end whole =
    let kept = ap (λ fs. length (filter test fs)) end in
    let long = ap length end in
    omega arith

module _ {K X : Type 0} {R : K → K → Ordering} (total : IsTotalOrder R) (exact : IsAntisymmetric R) where
  -- the keys whose values pass a test
  abbrev pub kept_by : (Option X → Bool) → map.FinMap R X → map.FinMap R X
  kept_by test m = map.retain_keys m (λ key. test (map.get m key))

  -- what stands at a key of these
  get_kept : (test : Option X → Bool) (m : map.FinMap R X) (q : K) → map.get (kept_by test m) q ≡ cond (test (map.get m q)) (map.get m q) None
  get_kept test m q = map.get-retain_keys m (λ key. test (map.get m key)) q (λ x ties. ap test (map.get_tied total m q x ties))

  -- a key is set whose value passes
  pub insert_kept : (test : Option X → Bool) (m : map.FinMap R X) (k : K) (v : X) → test (Some v) ≡ true → kept_by test (map.insert m k v) ≡ map.insert (kept_by test m) k v
  insert_kept test m k v passes = map.same_map total exact _ _ (λ q.
      get_kept test (map.insert m k v) q
      ∙ ap (λ found. cond (test found) found None) (map.get-insert total m k v q)
      ∙ set_kept test v (eq_by_cmp R q k) (map.get m q) passes
      ∙ ap (cond (eq_by_cmp R q k) (Some v)) (sym (get_kept test m q))
      ∙ sym (map.get-insert total (kept_by test m) k v q))

  -- a key is taken out
  pub remove_kept : (test : Option X → Bool) (m : map.FinMap R X) (k : K) → kept_by test (map.remove m k) ≡ map.remove (kept_by test m) k
  remove_kept test m k = map.same_map total exact _ _ (λ q.
      get_kept test (map.remove m k) q
      ∙ ap (λ found. cond (test found) found None) (map.get-remove total m k q)
      ∙ taken_kept test (eq_by_cmp R q k) (map.get m q)
      ∙ ap (cond (eq_by_cmp R q k) None) (sym (get_kept test m q))
      ∙ sym (map.get-remove total (kept_by test m) k q))

  -- some keys are taken out
  pub retain_kept : (test : Option X → Bool) (m : map.FinMap R X) (keep : K → Bool) → kept_by test (map.retain_keys m keep) ≡ map.retain_keys (kept_by test m) keep
  retain_kept test m keep = map.same_map total exact _ _ (λ q.
      get_kept test (map.retain_keys m keep) q
      ∙ ap (λ found. cond (test found) found None) (map.get-retain_keys m keep q (λ x ties. ap keep (sym (exact q x ties))))
      ∙ both_kept test (keep q) (map.get m q)
      ∙ ap (λ found. cond (keep q) found None) (sym (get_kept test m q))
      ∙ sym (map.get-retain_keys (kept_by test m) keep q (λ x ties. ap keep (sym (exact q x ties)))))

  -- two tests are one test
  pub twice_kept : (first next both : Option X → Bool) → ((v : X) → both (Some v) ≡ (first (Some v) && next (Some v))) → (m : map.FinMap R X)
      → kept_by both m ≡ kept_by next (kept_by first m)
  twice_kept first next both same m = map.same_map total exact _ _ (λ q.
      get_kept both m q
      ∙ two_kept first next both same (map.get m q)
      ∙ ap (λ found. cond (next found) found None) (sym (get_kept first m q))
      ∙ sym (get_kept next (kept_by first m) q))

  -- no key stays out of none
  pub empty_kept : (test : Option X → Bool) → kept_by test map.empty ≡ map.empty
  empty_kept test = map.same_map total exact _ _ (λ q.
      get_kept test map.empty q
      ∙ ap (λ found. cond (test found) found None) (map.get-empty R q)
      ∙ either_way (test None) None
      ∙ sym (map.get-empty R q))

  -- each key stays whose value passes
  pub all_kept : (test : Option X → Bool) → ((v : X) → test (Some v) ≡ true) → (m : map.FinMap R X) → kept_by test m ≡ m
  all_kept test passes m = map.same_map total exact _ _ (λ q. get_kept test m q ∙ all_passed test passes (map.get m q))

  -- a key that is below others is below them with one more or without it
  below_chosen : (k : K) (b : Bool) (e : K × X) (es : List (K × X)) → R k e.0 ≡ Less → AllByRecursion (λ q. R k q ≡ Less) (keys_of es)
      → AllByRecursion (λ q. R k q ≡ Less) (keys_of (if b then e ∷ es else es))
  below_chosen k true e es first others = (first, others)
  below_chosen k false e es first others = others

  -- a key that is below others is below those of them whose entries pass
  below_kept : (test : K × X → Bool) (k : K) (es : List (K × X)) → AllByRecursion (λ q. R k q ≡ Less) (keys_of es)
      → AllByRecursion (λ q. R k q ≡ Less) (keys_of (filter test es))
  below_kept test k [] h = h
  below_kept test k (e ∷ es) h = below_chosen k (test e) e (filter test es) h.0 (below_kept test k es h.1)

  -- keys in order are in order with one more before them or without it
  sorted_chosen : (b : Bool) (e : K × X) (es : List (K × X)) → AllByRecursion (λ q. R e.0 q ≡ Less) (keys_of es) → IsStrictlySortedBy R (keys_of es)
      → IsStrictlySortedBy R (keys_of (if b then e ∷ es else es))
  unfolding IsStrictlySortedBy
  sorted_chosen true e es first others = (first, others)
  sorted_chosen false e es first others = others

  -- keys in order stay in order where some entries are left out
  sorted_kept : (test : K × X → Bool) (es : List (K × X)) → IsStrictlySortedBy R (keys_of es) → IsStrictlySortedBy R (keys_of (filter test es))
  unfolding IsStrictlySortedBy
  sorted_kept test [] h = h
  sorted_kept test (e ∷ es) h = sorted_chosen (test e) e (filter test es) (below_kept test e.0 es h.0) (sorted_kept test es h.1)

  -- as many keys stay as entries of the tree have a value that passes
  pub len_kept : (es : List (K × X)) (keep : X → Bool) (test : Option X → Bool) → IsStrictlySortedBy R (keys_of es) → test None ≡ false
      → ((v : X) → test (Some v) ≡ keep v) → length (filter (λ e. keep e.1) es) ≡ map.len (kept_by test (map.from_entries {R = R} es))
  len_kept es keep test sorted none some =
      len_tree total exact (filter (λ e. keep e.1) es) (sorted_kept (λ e. keep e.1) es sorted)
      ∙ ap map.len (tree_values total exact es (filter (λ e. keep e.1) es) keep test sorted none some refl)
