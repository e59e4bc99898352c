-- What ends, `distinct` and `words` make of lists that are joined.
use Rattle.std.proofs.Common.{◌≡◌, ℕ, ◌+ℤ◌, Bool, true, false, cond, ◌||◌, List, [], ◌∷◌, ◌++◌, Some, refl, sym, ◌∙◌, ap, arith, take, get_or, length, ◌<◌, ◌+◌}
use Rattle.std.proofs.lemmas.List.{take_more}
use Rattle.std.proofs.lemmas.Int.{ints}
use Rattle.std.specs.Prelude.{not}
use Rattle.std.specs.Int.{w64}
use Rattle.std.specs.List.{filter, list_any}
use Rattle.std.proofs.lemmas.Int.{int_wrap-add_left, int_wrap-add_right}
use Rattle.std.proofs.lemmas.List.Elements.{filter-append}
use Rattle.grid_base.specs.Datum.{same_item}
use Rattle.grid_base.specs.declared.item.Item.{Item}
use Rattle.pipeline_eval.specs.Values.{number_of, wrapped}
use Rattle.pipeline_eval.specs.Evaluation.{datum_of}
use Rattle.pipeline_eval.specs.Lists.{distinct, total, lesser, greater, least, greatest}
use Rattle.pipeline_eval.proofs.OrderLemmas.{lesser-assoc, greater-assoc}

-- the sum of two lists joined
pub total-append : (xs ys : List Item) → total (xs ++ ys) ≡ total xs +ℤ total ys
total-append [] ys = omega (arith, ints)
total-append (x ∷ xs) ys = omega (arith, ints, total-append xs ys)

-- the sum of two lists joined, modulo 2^64
pub wrapped-total-append : (xs ys : List Item) → wrapped (total (xs ++ ys)) ≡ wrapped (wrapped (total xs) +ℤ wrapped (total ys))
wrapped-total-append xs ys =
    ap wrapped (total-append xs ys) ∙ sym (int_wrap-add_left w64 (total xs) (total ys)) ∙ sym (int_wrap-add_right w64 (wrapped (total xs)) (total ys))

-- the sum with one more element
pub total_more : (xs : List Item) (x : Item) → wrapped (wrapped (total xs) +ℤ number_of (datum_of x)) ≡ wrapped (total (xs ++ x ∷ []))
total_more xs x =
    let one : total (x ∷ []) ≡ number_of (datum_of x) = omega (arith, ints) in
    int_wrap-add_left w64 (total xs) (number_of (datum_of x)) ∙ ap (λ n. wrapped (total xs +ℤ n)) (sym one) ∙ ap wrapped (sym (total-append xs (x ∷ [])))

-- the least of two lists joined
pub least-append : (xs ys : List Item) → least (xs ++ ys) ≡ lesser (least xs) (least ys)
least-append [] ys = refl
least-append (x ∷ xs) ys = ap (lesser (Some (datum_of x))) (least-append xs ys) ∙ sym (lesser-assoc (Some (datum_of x)) (least xs) (least ys))

-- the greatest of two lists joined
pub greatest-append : (xs ys : List Item) → greatest (xs ++ ys) ≡ greater (greatest xs) (greatest ys)
greatest-append [] ys = refl
greatest-append (x ∷ xs) ys = ap (greater (Some (datum_of x))) (greatest-append xs ys) ∙ sym (greater-assoc (Some (datum_of x)) (greatest xs) (greatest ys))

-- `distinct` goes on with a longer list
pub distinct_grows : (xs ys : List Item) → (more : List Item) × (distinct (xs ++ ys) ≡ distinct xs ++ more)
distinct_grows [] ys = (distinct ys, refl)
distinct_grows (x ∷ xs) ys =
    let rest = distinct_grows xs ys in
    (filter (λ y. not (same_item x y)) rest.0, ap (λ zs. x ∷ filter (λ y. not (same_item x y)) zs) rest.1 ∙ ap (λ zs. x ∷ zs) (filter-append (λ y. not (same_item x y)) (distinct xs) rest.0))

-- an item, unless it was seen
abbrev if_new : Bool → Item → List Item
if_new seen x = cond seen [] (x ∷ [])

-- a new item is left out where it is the same as another
filter_if_new : (b : Bool) (x y : Item) → filter (λ z. not (same_item y z)) (if_new b x) ≡ if_new (same_item y x || b) x
filter_if_new true x y = by (same_item y x)
  where
    by : (c : Bool) → filter (λ z. not (same_item y z)) [] ≡ if_new (c || true) x
    by true = refl
    by false = refl
filter_if_new false x y = by (same_item y x)
  where
    by : (c : Bool) → cond (not c) (x ∷ []) [] ≡ if_new (c || false) x
    by true = refl
    by false = refl

-- one more element is kept where none of those before is equal
pub distinct_more : (xs : List Item) (x : Item) → distinct (xs ++ x ∷ []) ≡ distinct xs ++ (cond (list_any (λ y. same_item y x) xs) [] (x ∷ []))
distinct_more [] x = refl
distinct_more (y ∷ xs) x =
    ap (λ zs. y ∷ filter (λ z. not (same_item y z)) zs) (distinct_more xs x)
    ∙ ap (λ zs. y ∷ zs) (filter-append (λ z. not (same_item y z)) (distinct xs) (if_new (list_any (λ y. same_item y x) xs) x))
    ∙ ap (λ zs. y ∷ (filter (λ z. not (same_item y z)) (distinct xs) ++ zs)) (filter_if_new (list_any (λ y. same_item y x) xs) x y)

-- a list as far as a loop has come, with one more element
pub taken : {X : Type 0} (xs : List X) (i : ℕ) (x : X) → i < length xs → x ≡ get_or xs i x → take (i + 1) xs ≡ take i xs ++ x ∷ []
taken xs i x h e = take_more xs i x h ∙ ap (λ y. take i xs ++ y ∷ []) (sym e)

-- the least with one more element
pub least_more : (xs : List Item) (x : Item) → lesser (least xs) (Some (datum_of x)) ≡ least (xs ++ x ∷ [])
least_more xs x = sym (least-append xs (x ∷ []))

-- the greatest with one more element
pub greatest_more : (xs : List Item) (x : Item) → greater (greatest xs) (Some (datum_of x)) ≡ greatest (xs ++ x ∷ [])
greatest_more xs x = sym (greatest-append xs (x ∷ []))
