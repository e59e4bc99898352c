-- The first of a list that there is, and what all of a list have, from a place on.
use Rattle.std.proofs.Common.{◌≡◌, ℕ, suc, zero, ◌+◌, ◌<◌, ◌≤◌, ◌==◌, Bool, true, false, cond, ◌&&◌, ◌||◌, List, [], ◌∷◌, ◌++◌, map, drop, length, get_or, Option, None, Some, is_some, inl, inr, refl, sym, ap, ◌∙◌, arith}
use Rattle.std.proofs.Math.Seq.{drop-cons}
use Rattle.std.proofs.Math.ListN.{drop_of_length-le}
use Rattle.std.proofs.lemmas.Bool.{cases_eq, cases_lt, ne_eqb}
use Rattle.std.proofs.lemmas.List.FromFn.{get_or-range_with_len, length-range_with_len}
use Rattle.std.specs.List.{find, flat_map, list_all, list_any, range_with_len}
use Rattle.grid_event.specs.declared.event.Event.{Event}
use Rattle.topology_coord.specs.Coordination.{live_nodes}
use Rattle.cluster_model.specs.Commands.{destinations, first_some, or_else}
use Rattle.cluster_model.specs.State.{Holding, segments_of}

-- from a place on a list goes on with what stands there
from_place : (xs : List ℕ) (i x : ℕ) → i < length xs → get_or xs i 0 ≡ x → drop i xs ≡ x ∷ drop (i + 1) xs
from_place xs i x within there = let next : suc i ≡ i + 1 = omega arith in drop-cons xs i 0 within ∙ (λ j. there j ∷ drop (next j) xs)

-- of the rest of a list the first that there is
found_here : (o rest : Option Event) → is_some o ≡ true → o ≡ or_else o rest
found_here None rest e = absurd (cc)
found_here (Some event) rest e = refl

-- where the first has no event, the rest decides
passed_here : (o rest : Option Event) → is_some o ≡ false → or_else o rest ≡ rest
passed_here None rest e = refl
passed_here (Some event) rest e = absurd (cc)

module _ (f : ℕ → Option Event) (xs : List ℕ) where
  -- it is that of the place, where there is one
  pub some_here : (i x : ℕ) → i < length xs → get_or xs i 0 ≡ x → (o : Option Event) → o ≡ f x → is_some o ≡ true → o ≡ first_some f (drop i xs)
  some_here i x within there o is some =
      found_here o (first_some f (drop (i + 1) xs)) some
      ∙ ap (λ e. or_else e (first_some f (drop (i + 1) xs))) is
      ∙ ap (first_some f) (sym (from_place xs i x within there))

  -- else it is that of the places behind
  pub none_here : (i x : ℕ) → i < length xs → get_or xs i 0 ≡ x → (o : Option Event) → o ≡ f x → is_some o ≡ false → first_some f (drop i xs) ≡ first_some f (drop (i + 1) xs)
  none_here i x within there o is none =
      ap (first_some f) (from_place xs i x within there)
      ∙ ap (λ e. or_else e (first_some f (drop (i + 1) xs))) (sym is)
      ∙ passed_here o (first_some f (drop (i + 1) xs)) none

  -- past the end there is none
  pub none_left : (i : ℕ) → length xs ≤ i → first_some f (drop i xs) ≡ None
  none_left i past = ap (first_some f) (drop_of_length-le xs past)

module _ (p : ℕ → Bool) (xs : List ℕ) where
  -- the first that passes is that at the place, where that passes
  pub find_here : (i x : ℕ) → i < length xs → get_or xs i 0 ≡ x → p x ≡ true → find p (drop i xs) ≡ Some x
  find_here i x within there passes = ap (find p) (from_place xs i x within there) ∙ ap (λ b. cond b (Some x) (find p (drop (i + 1) xs))) passes

  pub find_on : (i x : ℕ) → i < length xs → get_or xs i 0 ≡ x → p x ≡ false → find p (drop i xs) ≡ find p (drop (i + 1) xs)
  find_on i x within there fails = ap (find p) (from_place xs i x within there) ∙ ap (λ b. cond b (Some x) (find p (drop (i + 1) xs))) fails

  pub find_none : (i : ℕ) → length xs ≤ i → find p (drop i xs) ≡ None
  find_none i past = ap (find p) (drop_of_length-le xs past)

  -- all pass where that at the place does, and all behind
  pub all_here : (i x : ℕ) → i < length xs → get_or xs i 0 ≡ x → p x ≡ false → list_all p (drop i xs) ≡ false
  all_here i x within there fails = ap (list_all p) (from_place xs i x within there) ∙ ap (λ b. b && list_all p (drop (i + 1) xs)) fails

  pub all_on : (i x : ℕ) → i < length xs → get_or xs i 0 ≡ x → p x ≡ true → list_all p (drop i xs) ≡ list_all p (drop (i + 1) xs)
  all_on i x within there passes = ap (list_all p) (from_place xs i x within there) ∙ ap (λ b. b && list_all p (drop (i + 1) xs)) passes

  pub all_left : (i : ℕ) → length xs ≤ i → list_all p (drop i xs) ≡ true
  all_left i past = ap (list_all p) (drop_of_length-le xs past)

-- where not all behind a place pass, not all pass
all_fail : (p : ℕ → Bool) (xs : List ℕ) (i : ℕ) → list_all p (drop i xs) ≡ false → list_all p xs ≡ false
all_fail p xs zero h = h
all_fail p [] (suc i) h = h
all_fail p (x ∷ xs) (suc i) h = ap (λ b. p x && b) (all_fail p xs i h) ∙ and_false (p x)
  where
    and_false : (b : Bool) → (b && false) ≡ false
    and_false true = refl
    and_false false = refl

-- ---- the numbers from 0 on

-- at each place of a row stands its number
row_at : (n i : ℕ) → i < n → get_or (range_with_len 0 n) i 0 ≡ i
row_at n i within = let from_zero : 0 + i ≡ i = omega arith in get_or-range_with_len 0 n i 0 within ∙ from_zero

-- and a smaller number is a place of it
row_within : (n i : ℕ) → i < n → i < length (range_with_len 0 n)
row_within n i within = omega (arith, length-range_with_len 0 n)

module _ (f : ℕ → Option Event) (n : ℕ) where
  pub row_here : (i : ℕ) → i < n → (o : Option Event) → o ≡ f i → is_some o ≡ true → o ≡ first_some f (drop i (range_with_len 0 n))
  row_here i within = some_here f (range_with_len 0 n) i i (row_within n i within) (row_at n i within)

  pub row_none : (i : ℕ) → i < n → (o : Option Event) → o ≡ f i → is_some o ≡ false → first_some f (drop i (range_with_len 0 n)) ≡ first_some f (drop (i + 1) (range_with_len 0 n))
  row_none i within = none_here f (range_with_len 0 n) i i (row_within n i within) (row_at n i within)

  pub row_left : (i : ℕ) → n ≤ i → first_some f (drop i (range_with_len 0 n)) ≡ None
  row_left i past = none_left f (range_with_len 0 n) i (omega (arith, length-range_with_len 0 n))

  -- where those before a place have none, it is that from the place on
  pub row_from : (i : ℕ) → i ≤ n → ((k : ℕ) → k < i → f k ≡ None) → first_some f (range_with_len 0 n) ≡ first_some f (drop i (range_with_len 0 n))
  row_from zero within none = refl
  row_from (suc i) within none =
      let next : i + 1 ≡ suc i = omega arith in
      row_from i (omega (arith, within)) (λ k before. none k (omega (arith, before)))
      ∙ row_none i (omega (arith, within)) (f i) refl (ap is_some (none i (omega arith)))
      ∙ ap (λ j. first_some f (drop j (range_with_len 0 n))) next

  -- so it is from a place past the end
  pub row_start : (i : ℕ) → ((k : ℕ) → k < i → k < n → f k ≡ None) → first_some f (drop i (range_with_len 0 n)) ≡ first_some f (range_with_len 0 n)
  row_start i none = elim (cases_lt i n) [
    | inl within ↦ sym (row_from i (omega (arith, within)) (λ k before. none k before (omega (arith, before, within))))
    | inr past ↦ row_left i (omega (arith, past)) ∙ sym (row_from n (omega arith) (λ k before. none k (omega (arith, before, past)) before) ∙ row_left n (omega arith))
  ]

  -- where none has one, there is none
  pub row_without : ((k : ℕ) → k < n → f k ≡ None) → first_some f (range_with_len 0 n) ≡ None
  row_without none = row_from n (omega arith) none ∙ row_left n (omega arith)

  -- and where but one has none, it is that of the one
  pub row_only : (i : ℕ) → i < n → ((k : ℕ) → (k == i) ≡ false → f k ≡ None) → first_some f (range_with_len 0 n) ≡ f i
  row_only i within none = by_one (f i) refl
    where
      by_one : (o : Option Event) → o ≡ f i → first_some f (range_with_len 0 n) ≡ o
      by_one (Some event) is = row_from i (omega (arith, within)) (λ k before. none k (ne_eqb k i (omega (arith, before)))) ∙ sym (row_here i within (Some event) is refl)
      by_one None is = row_without (λ k before. elim (cases_eq k i) [
        | inl same ↦ ap f same ∙ sym is
        | inr differ ↦ none k (ne_eqb k i differ)
      ])

module _ (p : ℕ → Bool) (n : ℕ) where
  pub row_fails : (i : ℕ) → i < n → p i ≡ false → list_all p (drop i (range_with_len 0 n)) ≡ false
  row_fails i within = all_here p (range_with_len 0 n) i i (row_within n i within) (row_at n i within)

  pub row_passes : (i : ℕ) → i < n → p i ≡ true → list_all p (drop i (range_with_len 0 n)) ≡ list_all p (drop (i + 1) (range_with_len 0 n))
  row_passes i within = all_on p (range_with_len 0 n) i i (row_within n i within) (row_at n i within)

  pub row_all : (i : ℕ) → n ≤ i → list_all p (drop i (range_with_len 0 n)) ≡ true
  row_all i past = all_left p (range_with_len 0 n) i (omega (arith, length-range_with_len 0 n))

-- there is a first that passes where some do
pub found_any : (p : ℕ → Bool) (xs : List ℕ) → is_some (find p xs) ≡ list_any p xs
found_any p [] = refl
found_any p (x ∷ xs) = elim (p x) as (λ b. is_some (cond b (Some x) (find p xs)) ≡ (b || list_any p xs)) [
  | true ↦ refl
  | false ↦ found_any p xs
]

-- the first of three events doesn't depend on how they are grouped
or_else-group : (a b c : Option Event) → or_else (or_else a b) c ≡ or_else a (or_else b c)
or_else-group None b c = refl
or_else-group (Some event) b c = refl

-- the first event of two lists is that of the first, or else of the second
some_append : {A : Type 0} (f : A → Option Event) (xs ys : List A) → first_some f (xs ++ ys) ≡ or_else (first_some f xs) (first_some f ys)
some_append f [] ys = refl
some_append f (x ∷ xs) ys = ap (or_else (f x)) (some_append f xs ys) ∙ sym (or_else-group (f x) (first_some f xs) (first_some f ys))

-- the first event over a mapped list is the first of the list
some_map : {A : Type 0} (f : A → Option Event) (g : ℕ → A) (xs : List ℕ) → first_some f (map g xs) ≡ first_some (λ x. f (g x)) xs
some_map f g [] = refl
some_map f g (x ∷ xs) = ap (or_else (f (g x))) (some_map f g xs)

-- the first over pairs is the first over nodes, then over segments
some_within : (f : ℕ → ℕ → Option Event) (segments nodes : List ℕ) →
    first_some (λ (d : ℕ × ℕ). f d.0 d.1) (flat_map (λ node. map (λ segment. (node, segment)) segments) nodes) ≡ first_some (λ node. first_some (f node) segments) nodes
some_within f segments [] = refl
some_within f segments (node ∷ nodes) =
    some_append (λ (d : ℕ × ℕ). f d.0 d.1) (map (λ segment. (node, segment)) segments) (flat_map (λ node. map (λ segment. (node, segment)) segments) nodes)
    ∙ (λ i. or_else (some_map (λ (d : ℕ × ℕ). f d.0 d.1) (λ segment. (node, segment)) segments i) (some_within f segments nodes i))

-- the first of the receivers and segments is the first segment of the first receiver
pub some_destination : (st : Holding) (f : ℕ → ℕ → Option Event) → first_some (λ (d : ℕ × ℕ). f d.0 d.1) (destinations st) ≡ first_some (λ node. first_some (f node) (segments_of st)) (live_nodes st.coord)
some_destination st f = some_within f (segments_of st) (live_nodes st.coord)

-- where one number fails, not all pass
pub row_lacks : (p : ℕ → Bool) (n i : ℕ) → i < n → p i ≡ false → list_all p (range_with_len 0 n) ≡ false
row_lacks p n i within fails = all_fail p (range_with_len 0 n) i (row_fails p n i within fails)
