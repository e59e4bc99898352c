-- Lists whose elements are changed, and lists that grow: what is counted and found in them.
use Rattle.std.proofs.Common.{◌≡◌, ◌≢◌, ◌⊎◌, inl, inr, ℕ, zero, suc, ◌+◌, ◌≤◌, ◌<◌, Bool, true, false, cond, ◌||◌, ◌==◌, List, [], ◌∷◌, ◌++◌, map, filter, length, reverse, Option, Some, None, refl, sym, ap, ◌∙◌, arith}
use Rattle.std.proofs.lemmas.Bool.Decides.{nat_tests}
use Rattle.std.proofs.lemmas.List.{reverse-append}
use Rattle.std.specs.List.{find, list_any, range_with_len}
use Rattle.std.specs.Option.{option_map}
use Rattle.std.specs.Prelude.{slice_get, slice_set}

-- two successes with one value
pub same_some : {X : Type 0} (x y : X) → Some x ≡ Some y → x ≡ y
same_some x y h = cc

-- what is there isn't none
pub not_some : {X : Type 0} {P : Type 0} (x : X) → None ≡ Some x → P
not_some x h = absurd (cc)

-- either of three tests passes however they are grouped
or_grouped : (a b c : Bool) → (a || (b || c)) ≡ ((a || b) || c)
or_grouped true b c = refl
or_grouped false b c = refl

-- one of two tests passes where the second does
or_true : (b : Bool) → (b || true) ≡ true
or_true true = refl
or_true false = refl

-- equal tests choose the same
pub cond_same : {A : Type 0} (b c : Bool) (x y : A) → b ≡ c → cond b x y ≡ cond c x y
cond_same b c x y h = ap (λ t. cond t x y) h

-- one where the test is passed
abbrev pub one : Bool → ℕ
one true = 1
one false = 0

-- a test or one that fails is the test
or_false : (a b : Bool) → b ≡ false → (a || b) ≡ a
or_false true b h = refl
or_false false b h = h

-- either of three tests passes in another order
or_swapped : (a b c : Bool) → (a || (b || c)) ≡ (b || (a || c))
or_swapped true true c = refl
or_swapped true false c = refl
or_swapped false true c = refl
or_swapped false false c = refl

module _ {X : Type 0} where
  -- how many elements pass the test, one after another
  abbrev pub count : (X → Bool) → List X → ℕ
  count p [] = 0
  count p (x ∷ xs) = one (p x) + count p xs

  counted : (p : X → Bool) (x : X) (xs : List X) (b : Bool) → length (filter p xs) ≡ count p xs → length (cond b (x ∷ filter p xs) (filter p xs)) ≡ one b + count p xs
  counted p x xs true h = omega (arith, h)
  counted p x xs false h = omega (arith, h)

  -- they are those that are kept of a list
  pub length-filter : (p : X → Bool) (xs : List X) → length (filter p xs) ≡ count p xs
  length-filter p [] = refl
  length-filter p (x ∷ xs) = counted p x xs (p x) (length-filter p xs)

  -- another element in the place of one counts in its stead
  pub count-set : (p : X → Bool) (xs : List X) (i : ℕ) (x y : X) → slice_get xs i ≡ Some x → count p (slice_set xs i y) + one (p x) ≡ count p xs + one (p y)
  count-set p [] i x y h = not_some x h
  count-set p (z ∷ xs) zero x y h =
      let same : one (p z) ≡ one (p x) = ap (λ w. one (p w)) (same_some z x h) in
      omega (arith, same)
  count-set p (z ∷ xs) (suc i) x y h = omega (arith, count-set p xs i x y h)

  -- elements of two lists count together
  pub count-append : (p : X → Bool) (xs ys : List X) → count p (xs ++ ys) ≡ count p xs + count p ys
  count-append p [] ys = omega arith
  count-append p (x ∷ xs) ys = omega (arith, count-append p xs ys)

  -- no element counts where none passes
  pub count_none : (p : X → Bool) (xs : List X) → ((i : ℕ) (x : X) → slice_get xs i ≡ Some x → p x ≡ false) → count p xs ≡ 0
  count_none p [] h = refl
  count_none p (x ∷ xs) h =
      let here : one (p x) ≡ 0 = ap (λ b. one b) (h 0 x refl) in
      omega (arith, here, count_none p xs (λ j y e. h (suc j) y e))

  -- one that passes counts
  pub count_some : (p : X → Bool) (xs : List X) (i : ℕ) (x : X) → slice_get xs i ≡ Some x → p x ≡ true → 0 < count p xs
  count_some p [] i x e h = not_some x e
  count_some p (z ∷ xs) zero x e h =
      let here : one (p z) ≡ 1 = ap (λ b. one b) (ap p (same_some z x e) ∙ h) in
      omega (arith, here)
  count_some p (z ∷ xs) (suc i) x e h = omega (arith, count_some p xs i x e h)

  -- every element counts where each passes
  pub count_every : (p : X → Bool) (xs : List X) → ((i : ℕ) (x : X) → slice_get xs i ≡ Some x → p x ≡ true) → count p xs ≡ length xs
  count_every p [] h = refl
  count_every p (x ∷ xs) h =
      let here : one (p x) ≡ 1 = ap (λ b. one b) (h 0 x refl) in
      omega (arith, here, count_every p xs (λ j y e. h (suc j) y e))

  -- an element that is as good as the one in whose place it comes
  pub any-set_same : (p : X → Bool) (xs : List X) (i : ℕ) (x y : X) → slice_get xs i ≡ Some x → p y ≡ p x → list_any p (slice_set xs i y) ≡ list_any p xs
  any-set_same p [] i x y h e = refl
  any-set_same p (z ∷ xs) zero x y h e = ap (λ b. b || list_any p xs) (e ∙ ap p (sym (same_some z x h)))
  any-set_same p (z ∷ xs) (suc i) x y h e = ap (λ b. p z || b) (any-set_same p xs i x y h e)

  -- an element in the place of one that doesn't pass
  pub any-set_more : (p : X → Bool) (xs : List X) (i : ℕ) (x y : X) → slice_get xs i ≡ Some x → p x ≡ false → list_any p (slice_set xs i y) ≡ (p y || list_any p xs)
  any-set_more p [] i x y h e = not_some x h
  any-set_more p (z ∷ xs) zero x y h e = ap (λ b. p y || (b || list_any p xs)) (sym (ap p (same_some z x h) ∙ e))
  any-set_more p (z ∷ xs) (suc i) x y h e = ap (λ b. p z || b) (any-set_more p xs i x y h e) ∙ or_swapped (p z) (p y) (list_any p xs)

  -- one of two lists passes
  pub any-append : (p : X → Bool) (xs ys : List X) → list_any p (xs ++ ys) ≡ (list_any p xs || list_any p ys)
  any-append p [] ys = refl
  any-append p (x ∷ xs) ys = ap (λ b. p x || b) (any-append p xs ys) ∙ or_grouped (p x) (list_any p xs) (list_any p ys)

  -- none passes
  pub any_none : (p : X → Bool) (xs : List X) → ((i : ℕ) (x : X) → slice_get xs i ≡ Some x → p x ≡ false) → list_any p xs ≡ false
  any_none p [] h = refl
  any_none p (x ∷ xs) h = λ i. h 0 x refl i || any_none p xs (λ j y e. h (suc j) y e) i

  -- one that passes
  pub any_at : (p : X → Bool) (xs : List X) (i : ℕ) (x : X) → slice_get xs i ≡ Some x → p x ≡ true → list_any p xs ≡ true
  any_at p [] i x e h = not_some x e
  any_at p (z ∷ xs) zero x e h = ap (λ b. b || list_any p xs) (ap p (same_some z x e) ∙ h)
  any_at p (z ∷ xs) (suc i) x e h = ap (λ b. p z || b) (any_at p xs i x e h) ∙ or_true (p z)

  -- what stands at a place once an element stands at another place, or at this one
  pub set_cases : (xs : List X) (i j : ℕ) (y z : X) → slice_get (slice_set xs i y) j ≡ Some z → ((j ≡ i) × (z ≡ y)) ⊎ ((j ≢ i) × (slice_get xs j ≡ Some z))
  set_cases [] i j y z h = not_some z h
  set_cases (x ∷ xs) zero zero y z h = inl (refl, sym (same_some y z h))
  set_cases (x ∷ xs) zero (suc j) y z h = inr ((λ e. absurd (omega (arith, e))), h)
  set_cases (x ∷ xs) (suc i) zero y z h = inr ((λ e. absurd (omega (arith, e))), h)
  set_cases (x ∷ xs) (suc i) (suc j) y z h = elim (set_cases xs i j y z h) [
    | inl e ↦ inl (ap suc e.0, e.1)
    | inr e ↦ inr ((λ same. e.0 (omega (arith, same))), e.1)
  ]

  -- what stands at a place of two lists
  pub append_cases : (xs ys : List X) (j : ℕ) (z : X) → slice_get (xs ++ ys) j ≡ Some z → (slice_get xs j ≡ Some z) ⊎ ((k : ℕ) × (j ≡ length xs + k) × (slice_get ys k ≡ Some z))
  append_cases [] ys j z h = inr (j, omega arith, h)
  append_cases (x ∷ xs) ys zero z h = inl h
  append_cases (x ∷ xs) ys (suc j) z h = elim (append_cases xs ys j z h) [
    | inl e ↦ inl e
    | inr e ↦ inr (e.0, omega (arith, e.1), e.2)
  ]

  -- where the first that passes stands
  pub find_at : (p : X → Bool) (xs : List X) (i : ℕ) (x : X) → slice_get xs i ≡ Some x → p x ≡ true → ((j : ℕ) (z : X) → slice_get xs j ≡ Some z → p z ≡ true → j ≡ i) → find p xs ≡ Some x
  find_at p [] i x e h only = not_some x e
  find_at p (z ∷ xs) zero x e h only = ap (λ b. cond b (Some z) (find p xs)) (ap p (same_some z x e) ∙ h) ∙ e
  find_at p (z ∷ xs) (suc i) x e h only =
      elim (p z) as (λ b. p z ≡ b → cond b (Some z) (find p xs) ≡ Some x) [
        | true ↦ λ here. absurd (omega (arith, only 0 z refl here))
        | false ↦ λ other. find_at p xs i x e h (λ j w f g. omega (arith, only (suc j) w f g))
      ] refl

  -- none is found where none passes
  pub find_none : (p : X → Bool) (xs : List X) → ((i : ℕ) (x : X) → slice_get xs i ≡ Some x → p x ≡ false) → find p xs ≡ None
  find_none p [] h = refl
  find_none p (x ∷ xs) h = λ i. cond (h 0 x refl i) (Some x) (find_none p xs (λ j y e. h (suc j) y e) i)

  -- what is found stands somewhere and passes
  pub find_place : (p : X → Bool) (xs : List X) (x : X) → find p xs ≡ Some x → (i : ℕ) × (slice_get xs i ≡ Some x) × (p x ≡ true)
  find_place p [] x h = not_some x h
  find_place p (z ∷ xs) x h =
      elim (p z) as (λ b. p z ≡ b → cond b (Some z) (find p xs) ≡ Some x → (i : ℕ) × (slice_get (z ∷ xs) i ≡ Some x) × (p x ≡ true)) [
        | true ↦ λ here e. (0, e, ap p (sym (same_some z x e)) ∙ here)
        | false ↦ λ other e. let rest = find_place p xs x e in (suc rest.0, rest.1, rest.2)
      ] refl h

  -- a function that leaves all but one element as they are
  pub map_one : (f : X → X) (xs : List X) (i : ℕ) (x : X) → slice_get xs i ≡ Some x → ((j : ℕ) (z : X) → slice_get xs j ≡ Some z → j ≢ i → f z ≡ z) → map f xs ≡ slice_set xs i (f x)
  map_one f [] i x e h = not_some x e
  map_one f (z ∷ xs) zero x e h = λ i. f (same_some z x e i) ∷ map_same xs (λ j y g. h (suc j) y g (λ eq. absurd (omega (arith, eq)))) i
    where
      map_same : (ys : List X) → ((j : ℕ) (y : X) → slice_get ys j ≡ Some y → f y ≡ y) → map f ys ≡ ys
      map_same [] g = refl
      map_same (y ∷ ys) g = λ i. g 0 y refl i ∷ map_same ys (λ j w k. g (suc j) w k) i
  map_one f (z ∷ xs) (suc i) x e h = λ k. h 0 z refl (λ eq. absurd (omega (arith, eq))) k ∷ map_one f xs i x e (λ j y g other. h (suc j) y g (λ eq. other (omega (arith, eq)))) k

  -- an element that stands where it stood
  pub set_same : (xs : List X) (i : ℕ) (x : X) → slice_get xs i ≡ Some x → slice_set xs i x ≡ xs
  set_same [] i x h = refl
  set_same (z ∷ xs) zero x h = ap (λ y. y ∷ xs) (sym (same_some z x h))
  set_same (z ∷ xs) (suc i) x h = ap (λ ys. z ∷ ys) (set_same xs i x h)

  -- the last one of a list comes first from behind
  pub find_last : (p : X → Bool) (xs : List X) (y : X) → find p (reverse (xs ++ y ∷ [])) ≡ cond (p y) (Some y) (find p (reverse xs))
  find_last p xs y = ap (find p) (reverse-append xs (y ∷ []))

  -- what stands where an element was put
  pub get-set_at : (xs : List X) (i : ℕ) (y : X) → i < length xs → slice_get (slice_set xs i y) i ≡ Some y
  get-set_at [] i y l = absurd (omega arith)
  get-set_at (x ∷ xs) zero y l = refl
  get-set_at (x ∷ xs) (suc i) y l = get-set_at xs i y (omega (arith, l))

  -- and elsewhere
  pub get-set_other : (xs : List X) (i j : ℕ) (y : X) → j ≢ i → slice_get (slice_set xs i y) j ≡ slice_get xs j
  get-set_other [] i j y apart = refl
  get-set_other (x ∷ xs) zero zero y apart = absurd (apart refl)
  get-set_other (x ∷ xs) zero (suc j) y apart = refl
  get-set_other (x ∷ xs) (suc i) zero y apart = refl
  get-set_other (x ∷ xs) (suc i) (suc j) y apart = get-set_other xs i j y (λ e. apart (ap suc e))

  -- a place within a list has an element
  pub get_within : (xs : List X) (i : ℕ) → i < length xs → (x : X) × (slice_get xs i ≡ Some x)
  get_within [] i h = absurd (omega arith)
  get_within (x ∷ xs) zero h = (x, refl)
  get_within (x ∷ xs) (suc i) h = get_within xs i (omega (arith, h))

  -- an element stands within the list
  pub within_get : (xs : List X) (i : ℕ) (x : X) → slice_get xs i ≡ Some x → i < length xs
  within_get [] i x h = not_some x h
  within_get (z ∷ xs) zero x h = omega arith
  within_get (z ∷ xs) (suc i) x h = omega (arith, within_get xs i x h)

-- a list through a function
module _ {X Y : Type 0} (f : X → Y) where
  pub get-map : (xs : List X) (i : ℕ) → slice_get (map f xs) i ≡ option_map f (slice_get xs i)
  get-map [] i = refl
  get-map (x ∷ xs) zero = refl
  get-map (x ∷ xs) (suc i) = get-map xs i

  found_map : (p : Y → Bool) (x : X) (o : Option Y) (q : Option X) (b : Bool) → o ≡ option_map f q → cond b (Some (f x)) o ≡ option_map f (cond b (Some x) q)
  found_map p x o q true h = refl
  found_map p x o q false h = h

  pub find-map : (p : Y → Bool) (xs : List X) → find p (map f xs) ≡ option_map f (find (λ x. p (f x)) xs)
  find-map p [] = refl
  find-map p (x ∷ xs) = found_map p x (find p (map f xs)) (find (λ y. p (f y)) xs) (p (f x)) (find-map p xs)

  pub set-map : (xs : List X) (i : ℕ) (y : X) → map f (slice_set xs i y) ≡ slice_set (map f xs) i (f y)
  set-map [] i y = refl
  set-map (x ∷ xs) zero y = refl
  set-map (x ∷ xs) (suc i) y = ap (λ ys. f x ∷ ys) (set-map xs i y)

-- tests on the numbers of a range count alike where they agree there
pub count-range_same : (p q : ℕ → Bool) (a n : ℕ) → ((t : ℕ) → a ≤ t → p t ≡ q t) → count p (range_with_len a n) ≡ count q (range_with_len a n)
count-range_same p q a zero h = refl
count-range_same p q a (suc n) h = λ i. one (h a (omega arith) i) + count-range_same p q (a + 1) n (λ t l. h t (omega (arith, l))) i

-- a number of a range that passes no longer
pub count-range_less : (p q : ℕ → Bool) (s a n : ℕ) → a ≤ s → s < a + n → p s ≡ true → q s ≡ false → ((t : ℕ) → t ≢ s → q t ≡ p t) → count q (range_with_len a n) + 1 ≡ count p (range_with_len a n)
count-range_less p q s a zero low high was gone others = absurd (omega arith)
count-range_less p q s a (suc n) low high was gone others =
    elim (a == s) as (λ e. (a == s) ≡ e → count q (range_with_len a (suc n)) + 1 ≡ count p (range_with_len a (suc n))) [
      | true ↦ λ e.
          let same : a ≡ s = grind (arith, nat_tests) in
          let had : one (p a) ≡ 1 = ap (λ b. one b) (ap p same ∙ was) in
          let none : one (q a) ≡ 0 = ap (λ b. one b) (ap q same ∙ gone) in
          let rest = count-range_same q p (a + 1) n (λ t l. others t (λ eq. absurd (omega (arith, eq, l, same)))) in
          omega (arith, had, none, rest)
      | false ↦ λ e.
          let apart : a ≢ s = λ eq. absurd (grind (arith, nat_tests)) in
          let here : one (q a) ≡ one (p a) = ap (λ b. one b) (others a apart) in
          let above : a + 1 ≤ s = omega (arith, apart, low) in
          omega (arith, here, count-range_less p q s (a + 1) n above (omega (arith, high)) was gone others)
    ] refl
