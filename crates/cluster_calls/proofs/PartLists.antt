-- Lists of which an element is changed: which of them pass a test, and lists through a function.
use Rattle.std.proofs.Common.{◌≡◌, ◌≢◌, ℕ, zero, suc, ◌+◌, ◌≤◌, ◌<◌, Bool, true, false, cond, List, [], ◌∷◌, ◌++◌, map, filter, take, replicate, Some, refl, sym, ap, ◌∙◌, arith, add-one}
use Rattle.std.specs.List.{range_with_len}
use Rattle.std.specs.Prelude.{slice_get, slice_set, slice_index_or}
use Rattle.cluster_calls.proofs.ListLaws.{not_some, same_some}

-- nothing of a list passes
pub filter_none : {X : Type 0} (p : X → Bool) (xs : List X) → ((i : ℕ) (x : X) → slice_get xs i ≡ Some x → p x ≡ false) → filter p xs ≡ []
filter_none p [] h = refl
filter_none p (x ∷ xs) h = λ i. cond (h 0 x refl i) (x ∷ filter_none p xs (λ j y e. h (suc j) y e) i) (filter_none p xs (λ j y e. h (suc j) y e) i)

-- an element that doesn't pass comes in the place of one that didn't
pub filter-set_out : {X : Type 0} (p : X → Bool) (xs : List X) (i : ℕ) (x y : X) → slice_get xs i ≡ Some x → p x ≡ false → p y ≡ false → filter p (slice_set xs i y) ≡ filter p xs
filter-set_out p [] i x y h was is = refl
filter-set_out p (z ∷ xs) zero x y h was is =
    ap (λ b. cond b (y ∷ filter p xs) (filter p xs)) is ∙ sym (ap (λ b. cond b (z ∷ filter p xs) (filter p xs)) (ap p (same_some z x h) ∙ was))
filter-set_out p (z ∷ xs) (suc i) x y h was is = ap (λ ys. cond (p z) (z ∷ ys) ys) (filter-set_out p xs i x y h was is)

-- an element behind a list stands behind it with or without one in front
pushed : {X : Type 0} (b : Bool) (z y : X) (xs : List X) → cond b (z ∷ (xs ++ y ∷ [])) (xs ++ y ∷ []) ≡ cond b (z ∷ xs) xs ++ y ∷ []
pushed true z y xs = refl
pushed false z y xs = refl

-- an element that passes comes in the place of one that didn't, and none behind it passes: it is the last that passes
pub filter-set_last : {X : Type 0} (p : X → Bool) (xs : List X) (i : ℕ) (x y : X) → slice_get xs i ≡ Some x → p x ≡ false → p y ≡ true
    → ((j : ℕ) (z : X) → slice_get xs j ≡ Some z → i < j → p z ≡ false) → filter p (slice_set xs i y) ≡ filter p xs ++ y ∷ []
filter-set_last p [] i x y h was is later = not_some x h
filter-set_last p (z ∷ xs) zero x y h was is later =
    let none : filter p xs ≡ [] = filter_none p xs (λ j w g. later (suc j) w g (omega arith)) in
    ap (λ b. cond b (y ∷ filter p xs) (filter p xs)) is
    ∙ ap (λ ys. y ∷ ys) none
    ∙ sym (ap (λ ys. ys ++ y ∷ []) (ap (λ b. cond b (z ∷ filter p xs) (filter p xs)) (ap p (same_some z x h) ∙ was) ∙ none))
filter-set_last p (z ∷ xs) (suc i) x y h was is later =
    ap (λ ys. cond (p z) (z ∷ ys) ys) (filter-set_last p xs i x y h was is (λ j w g l. later (suc j) w g (omega (arith, l))))
    ∙ pushed (p z) z y (filter p xs)

-- none of further elements passes
pub filter-more_out : {X : Type 0} (p : X → Bool) (xs ys : List X) → ((i : ℕ) (y : X) → slice_get ys i ≡ Some y → p y ≡ false) → filter p (xs ++ ys) ≡ filter p xs
filter-more_out p [] ys h = filter_none p ys h
filter-more_out p (x ∷ xs) ys h = ap (λ zs. cond (p x) (x ∷ zs) zs) (filter-more_out p xs ys h)

-- functions that agree on a list
pub map_alike : {X Y : Type 0} (f g : X → Y) → ((x : X) → f x ≡ g x) → (xs : List X) → map f xs ≡ map g xs
map_alike f g same [] = refl
map_alike f g same (x ∷ xs) = λ i. same x i ∷ map_alike f g same xs i

-- functions that agree from a number on
pub map-range_alike : {Y : Type 0} (f g : ℕ → Y) (a n : ℕ) → ((t : ℕ) → a ≤ t → f t ≡ g t) → map f (range_with_len a n) ≡ map g (range_with_len a n)
map-range_alike f g a zero same = refl
map-range_alike f g a (suc n) same = λ i. same a (omega arith) i ∷ map-range_alike f g (a + 1) n (λ t l. same t (omega (arith, l))) i

-- a function that differs at one number of a range
pub map-range_set : {Y : Type 0} (f g : ℕ → Y) (s k a n : ℕ) → a + k ≡ s → ((t : ℕ) → t ≢ s → f t ≡ g t) → slice_set (map f (range_with_len a n)) k (g s) ≡ map g (range_with_len a n)
map-range_set f g s k a zero at same = refl
map-range_set f g s zero a (suc n) at same =
    let here : s ≡ a = omega (arith, at) in
    λ i. g (here i) ∷ map-range_alike f g (a + 1) n (λ t l. same t (λ e. absurd (omega (arith, e, l, here)))) i
map-range_set f g s (suc k) a (suc n) at same =
    λ i. same a (λ e. absurd (omega (arith, e, at))) i ∷ map-range_set f g s k (a + 1) n (omega (arith, at)) same i

-- nothing for each number of a range
pub replicated_range : {Y : Type 0} (f : ℕ → Y) (y : Y) (a n : ℕ) → ((t : ℕ) → f t ≡ y) → replicate n y ≡ map f (range_with_len a n)
replicated_range f y a zero same = refl
replicated_range f y a (suc n) same = λ i. sym (same a) i ∷ replicated_range f y (a + 1) n same i

-- what a function gives for a number of a range
pub index-map_range : {Y : Type 0} (f : ℕ → Y) (y : Y) (s k a n : ℕ) → a + k ≡ s → k < n → slice_index_or (map f (range_with_len a n)) k y ≡ f s
index-map_range f y s k a zero at l = absurd (omega arith)
index-map_range f y s zero a (suc n) at l = let here : a ≡ s = omega (arith, at) in ap f here
index-map_range f y s (suc k) a (suc n) at l = index-map_range f y s k (a + 1) n (omega (arith, at)) (omega (arith, l))

-- the first elements through a function, with one more
map-take_suc : {X Y : Type 0} (f : X → Y) (xs : List X) (k : ℕ) (x : X) → slice_get xs k ≡ Some x → map f (take k xs) ++ f x ∷ [] ≡ map f (take (suc k) xs)
map-take_suc f [] k x at = not_some x at
map-take_suc f (z ∷ xs) zero x at = ap (λ y. f y ∷ []) (sym (same_some z x at))
map-take_suc f (z ∷ xs) (suc k) x at = ap (λ ys. f z ∷ ys) (map-take_suc f xs k x at)

-- one more of the first elements through a function
pub map-take_more : {X Y : Type 0} (f : X → Y) (xs : List X) (k : ℕ) (x : X) → slice_get xs k ≡ Some x → map f (take k xs) ++ f x ∷ [] ≡ map f (take (k + 1) xs)
map-take_more f xs k x at = map-take_suc f xs k x at ∙ ap (λ n. map f (take n xs)) (sym (add-one k))
