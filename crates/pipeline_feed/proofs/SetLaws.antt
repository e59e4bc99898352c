-- An ordered set of std seen as a finite set, and what becomes of a set to which elements are put and from which they are taken.
use Rattle.std.proofs.Common.{◌≡◌, ℕ, zero, suc, Bool, true, false, cond, not, ◌&&◌, ◌||◌, List, [], ◌∷◌, ◌++◌, take, refl, sym, ◌∙◌, ap, true≢false}
use Rattle.std.proofs.lemmas.Cmp.{eq_by_cmp_equiv}
use Rattle.std.proofs.lemmas.List.Folds.{list_any-append}
use Rattle.std.specs.BTreeMap.{is_at}
use Rattle.std.specs.BTreeSet.{BTreeSet, contains}
use Rattle.std.specs.Cmp.{Equal-is, first_so, second_so}
use Rattle.std.specs.FinSet as set
use Rattle.std.specs.List.{list_any, list_all}
use Rattle.std.specs.Ordering.{eq_by_cmp}
use Rattle.grid_base.specs.declared.item.Item.{Item}
use Rattle.pipeline_eval.specs.Seen.{item_cmp}
use Rattle.pipeline_feed.specs.Fed.{Elements}
use Rattle.pipeline_feed.proofs.ElementOrder.{item_total, item_exact}

-- the finite set has what the ordered set has
pub tree_has : (s : BTreeSet Item) (q : Item) → set.contains (set.from_list {R = item_cmp} s.keys) q ≡ contains item_cmp s q
tree_has s q = set.contains-from_list item_total s.keys q

-- two sets with the same elements are equal
pub same : (s t : Elements) → ((q : Item) → set.contains s q ≡ set.contains t q) → s ≡ t
same = set.same_set item_total item_exact

-- two tests that agree count alike
same_or : (a b c : Bool) → a ≡ b → cond a true c ≡ (b || c)
same_or true true c e = refl
same_or true false c e = absurd (true≢false e)
same_or false true c e = absurd (true≢false (sym e))
same_or false false c e = refl

-- a choice of no where a test is true is the opposite of the test, and the rest
same_unless : (a b c : Bool) → a ≡ b → cond a false c ≡ (not b && c)
same_unless true true c e = refl
same_unless true false c e = absurd (true≢false e)
same_unless false true c e = absurd (true≢false (sym e))
same_unless false false c e = refl

-- an element is put into the ordered set
pub tree_insert : (s n : BTreeSet Item) (x : Item) → ((q : Item) → contains item_cmp n q ≡ cond (is_at (item_cmp x) q) true (contains item_cmp s q))
    → set.from_list {R = item_cmp} n.keys ≡ set.insert (set.from_list s.keys) x
tree_insert s n x changed = same _ _ (λ q.
    tree_has n q
    ∙ changed q
    ∙ same_or (is_at (item_cmp x) q) (eq_by_cmp item_cmp q x) (contains item_cmp s q) ((eq_by_cmp_equiv item_total).symm x q)
    ∙ ap (λ b. eq_by_cmp item_cmp q x || b) (sym (tree_has s q))
    ∙ sym (set.contains-insert item_total (set.from_list s.keys) x q))

-- an element is taken from the ordered set
pub tree_remove : (s n : BTreeSet Item) (x : Item) → ((q : Item) → contains item_cmp n q ≡ cond (is_at (item_cmp x) q) false (contains item_cmp s q))
    → set.from_list {R = item_cmp} n.keys ≡ set.remove (set.from_list s.keys) x
tree_remove s n x changed = same _ _ (λ q.
    tree_has n q
    ∙ changed q
    ∙ same_unless (is_at (item_cmp x) q) (eq_by_cmp item_cmp q x) (contains item_cmp s q) ((eq_by_cmp_equiv item_total).symm x q)
    ∙ ap (λ b. not (eq_by_cmp item_cmp q x) && b) (sym (tree_has s q))
    ∙ sym (set.contains-remove item_total (set.from_list s.keys) x q))

-- whether one of the elements is equal to q
abbrev pub among : List Item → Item → Bool
among xs q = list_any (eq_by_cmp item_cmp q) xs

-- what a set has to which elements were put
pub union_has : (s : Elements) (xs : List Item) (q : Item) → set.contains (set.union s (set.from_list xs)) q ≡ (set.contains s q || among xs q)
union_has s xs q = set.contains-union item_total s (set.from_list xs) q ∙ ap (λ b. set.contains s q || b) (set.contains-from_list item_total xs q)

-- what a set has from which elements were taken
difference_has : (s : Elements) (xs : List Item) (q : Item) → set.contains (set.difference s (set.from_list xs)) q ≡ (set.contains s q && not (among xs q))
difference_has s xs q = set.contains-difference item_total s (set.from_list xs) q ∙ ap (λ b. set.contains s q && not b) (set.contains-from_list item_total xs q)

-- what is false adds nothing, and what is true takes nothing away
or_false : (a : Bool) → a ≡ (a || false)
or_false true = refl
or_false false = refl

-- what is so is so, and true
and_true : (a : Bool) → a ≡ (a && true)
and_true true = refl
and_true false = refl

-- no elements are put into a set
pub union_none : (s : Elements) → s ≡ set.union s (set.from_list [])
union_none s = same _ _ (λ q. or_false (set.contains s q) ∙ sym (union_has s [] q))

-- one element more is put into it
pub union_more : (s t n : Elements) (xs : List Item) (x : Item) → t ≡ set.union s (set.from_list xs) → n ≡ set.insert t x → n ≡ set.union s (set.from_list (xs ++ x ∷ []))
union_more s t n xs x so_far put = put ∙ ap (λ u. set.insert u x) so_far ∙ same _ _ (λ q.
    set.contains-insert item_total (set.union s (set.from_list xs)) x q
    ∙ ap (λ b. eq_by_cmp item_cmp q x || b) (union_has s xs q)
    ∙ turned (eq_by_cmp item_cmp q x) (set.contains s q) (among xs q)
    ∙ ap (λ b. set.contains s q || b) (sym (list_any-append (eq_by_cmp item_cmp q) xs (x ∷ [])))
    ∙ sym (union_has s (xs ++ x ∷ []) q))
  where
    turned : (a b c : Bool) → (a || (b || c)) ≡ (b || (c || (a || false)))
    turned true true c = refl
    turned true false true = refl
    turned true false false = refl
    turned false b true = refl
    turned false true false = refl
    turned false false false = refl

-- no elements are taken from a set
pub difference_none : (s : Elements) → s ≡ set.difference s (set.from_list [])
difference_none s = same _ _ (λ q. and_true (set.contains s q) ∙ sym (difference_has s [] q))

-- one element more is taken from it
pub difference_more : (s t n : Elements) (xs : List Item) (x : Item) → t ≡ set.difference s (set.from_list xs) → n ≡ set.remove t x → n ≡ set.difference s (set.from_list (xs ++ x ∷ []))
difference_more s t n xs x so_far taken = taken ∙ ap (λ u. set.remove u x) so_far ∙ same _ _ (λ q.
    set.contains-remove item_total (set.difference s (set.from_list xs)) x q
    ∙ ap (λ b. not (eq_by_cmp item_cmp q x) && b) (difference_has s xs q)
    ∙ gathered (eq_by_cmp item_cmp q x) (set.contains s q) (among xs q)
    ∙ ap (λ b. set.contains s q && not b) (sym (list_any-append (eq_by_cmp item_cmp q) xs (x ∷ [])))
    ∙ sym (difference_has s (xs ++ x ∷ []) q))
  where
    gathered : (a b c : Bool) → (not a && (b && not c)) ≡ (b && not (c || (a || false)))
    gathered true true true = refl
    gathered true true false = refl
    gathered true false c = refl
    gathered false true true = refl
    gathered false true false = refl
    gathered false false c = refl

-- none of the elements is in the set
abbrev pub lacks_all : Elements → List Item → Bool
lacks_all s xs = list_all (λ x. not (set.contains s x)) xs

-- so an element that is equal to one of them isn't in it
lacks : (s : Elements) (xs : List Item) (q : Item) → lacks_all s xs ≡ true → among xs q ≡ true → set.contains s q ≡ false
lacks s [] q none one = absurd (true≢false (sym one))
lacks s (x ∷ xs) q none one =
    let first : not (set.contains s x) ≡ true = first_so (not (set.contains s x)) (lacks_all s xs) none in
    elim (eq_by_cmp item_cmp q x) as (λ b. eq_by_cmp item_cmp q x ≡ b → (b || among xs q) ≡ true → set.contains s q ≡ false) [
      | true ↦ λ ties _. sym (set.contains_tied item_total s q x ((Equal-is (item_cmp q x)).0 ties)) ∙ not_true (set.contains s x) first
      | false ↦ λ _ later. lacks s xs q (second_so (not (set.contains s x)) (lacks_all s xs) none) later
    ] refl one
  where
    not_true : (b : Bool) → not b ≡ true → b ≡ false
    not_true true e = absurd (true≢false (sym e))
    not_true false e = refl

-- what is put into a set that has none of it can be taken out again
pub undone : (s t : Elements) (xs : List Item) → lacks_all s xs ≡ true → t ≡ set.union s (set.from_list xs) → set.difference t (set.from_list xs) ≡ s
undone s t xs none put = ap (λ u. set.difference u (set.from_list xs)) put ∙ same _ _ (λ q.
    difference_has (set.union s (set.from_list xs)) xs q
    ∙ ap (λ b. b && not (among xs q)) (union_has s xs q)
    ∙ by (set.contains s q) (among xs q) (lacks s xs q none))
  where
    by : (a b : Bool) → (b ≡ true → a ≡ false) → ((a || b) && not b) ≡ a
    by true true h = absurd (true≢false (h refl))
    by true false h = refl
    by false true h = refl
    by false false h = refl

-- where a set has none of some elements, it has none of the first of them
pub lacks_front : (s : Elements) (xs : List Item) (i : ℕ) → lacks_all s xs ≡ true → lacks_all s (take i xs) ≡ true
lacks_front s xs zero none = refl
lacks_front s [] (suc i) none = refl
lacks_front s (x ∷ xs) (suc i) none =
    let rest : lacks_all s (take i xs) ≡ true = lacks_front s xs i (second_so (not (set.contains s x)) (lacks_all s xs) none) in
    (λ j. first_so (not (set.contains s x)) (lacks_all s xs) none j && rest j)
