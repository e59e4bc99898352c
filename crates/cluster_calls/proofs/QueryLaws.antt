-- What is asked of the calls, by their tallies.
use Rattle.std.proofs.Common.{◌≡◌, ◌⊎◌, inl, inr, ℕ, zero, suc, ◌+◌, ◌-◌, ◌≤◌, ◌<◌, Bool, true, false, cond, not, ◌&&◌, ◌||◌, ◌==◌, nat_lt, List, [], ◌∷◌, ◌++◌, map, length, reverse, Option, Some, None, is_some, refl, sym, ap, ◌∙◌, arith}
use Rattle.std.proofs.lemmas.Bool.Decides.{nat_tests}
use Rattle.std.proofs.lemmas.List.{reverse-append}
use Rattle.std.specs.FinMap as map_of
use Rattle.std.specs.List.{find, list_all, list_any, range_with_len}
use Rattle.std.proofs.lemmas.Option.{slice_get_past, slice_get_read}
use Rattle.std.specs.Borrow.{Bor}
use Rattle.std.specs.Option.{option_copied, option_map}
use Rattle.std.specs.Prelude.{IfSome, slice_get, slice_index_or, slice_set}
use Rattle.cluster_model.specs.Answers.{first_of}
use Rattle.cluster_model.specs.State.{Calling, Unit, is_ended, is_of, is_on, unit_in}
use Rattle.cluster_model.specs.Topologies.{is_complete}
use Rattle.cluster_model.specs.Units.{read_by}
use Rattle.grid_event.specs.declared.call_events.Ask.{Ask}
use Rattle.cluster_model.specs.Commands.{newest_in}
use Rattle.cluster_model.specs.Calls.{unit_made}
use Rattle.cluster_calls.specs.Calling.{AreNumbered, incomplete_from, is_one}
use Rattle.cluster_calls.specs.Insides.{AreRight}
use Rattle.cluster_calls.specs.Rows.{Rows}
use Rattle.cluster_calls.specs.Tallies.{number_of}
use Rattle.cluster_calls.proofs.ListLaws.{any_none, count, find_at, find_none, find_place, not_some, one, set_same}
use Rattle.cluster_calls.proofs.RightLaws.{and_none, and_none_right}
use Rattle.cluster_calls.proofs.RoundLaws.{no_unit}
use Rattle.cluster_calls.proofs.RowTables.{equal}
use Rattle.cluster_calls.proofs.UnitLaws.{has_done}

-- no unit has the number 0
pub find_zero : (units : List Unit) → AreNumbered units → unit_in units 0 ≡ None
find_zero units numbers = find_none (λ (u : Unit). u.work.id == 0) units (λ i u at. let id = numbers i u at in grind (arith, nat_tests))

-- the unit of a number stands at the place before it
one_place : (n i j m : ℕ) → 1 ≤ n → m ≡ j + 1 → (m == n) ≡ true → j ≡ n - 1
one_place n i j m l e tie = let same = equal m n tie in omega (arith, same, e, l)

-- what stands at the place before a number is the unit of the number
found : (units : List Unit) (n : ℕ) (o : Option Unit) → AreNumbered units → 1 ≤ n → slice_get units (n - 1) ≡ o → unit_in units n ≡ o
found units n None numbers l at =
    find_none (λ (u : Unit). u.work.id == n) units (λ i u here.
    elim (u.work.id == n) as (λ b. (u.work.id == n) ≡ b → b ≡ false) [
      | true ↦ λ tie. not_some u (sym at ∙ ap (slice_get units) (sym (one_place n i i u.work.id l (numbers i u here) tie)) ∙ here)
      | false ↦ λ apart. refl
    ] refl)
found units n (Some u) numbers l at =
    find_at (λ (x : Unit). x.work.id == n) units (n - 1) u at
    (let id = numbers (n - 1) u at in let same : u.work.id ≡ n = omega (arith, id, l) in grind (arith, nat_tests))
    (λ j z g tie. one_place n j j z.work.id l (numbers j z g) tie)

-- a unit stands at its place
pub find_unit : (units : List Unit) (n : ℕ) → AreNumbered units → 1 ≤ n → unit_in units n ≡ slice_get units (n - 1)
find_unit units n numbers l = found units n (slice_get units (n - 1)) numbers l refl

-- one of a list passes exactly where not none of it is counted
counted : {X : Type 0} (p : X → Bool) (x : X) (xs : List X) (b : Bool) → list_any p xs ≡ not (count p xs == 0) → (b || list_any p xs) ≡ not ((one b + count p xs) == 0)
counted p x xs true h = grind (arith, nat_tests)
counted p x xs false h = let same : 0 + count p xs ≡ count p xs = omega arith in h ∙ ap (λ n. not (n == 0)) (sym same)

-- one passes where not none counts
pub any_counted : {X : Type 0} (p : X → Bool) (xs : List X) → list_any p xs ≡ not (count p xs == 0)
any_counted p [] = refl
any_counted p (x ∷ xs) = counted p x xs (p x) (any_counted p xs)

-- all of a list pass exactly where none that fails is counted
none_counted : {X : Type 0} (f : X → Bool) (x : X) (xs : List X) (b : Bool) → list_all f xs ≡ (count (λ y. not (f y)) xs == 0) → (b && list_all f xs) ≡ ((one (not b) + count (λ y. not (f y)) xs) == 0)
none_counted f x xs true h = let same : 0 + count (λ y. not (f y)) xs ≡ count (λ y. not (f y)) xs = omega arith in h ∙ ap (λ n. n == 0) (sym same)
none_counted f x xs false h = grind (arith, nat_tests)

-- all pass where none counts that doesn't
pub all_counted : {X : Type 0} (f : X → Bool) (xs : List X) → list_all f xs ≡ (count (λ y. not (f y)) xs == 0)
all_counted f [] = refl
all_counted f (x ∷ xs) = none_counted f x xs (f x) (all_counted f xs)

-- all pass by tests that agree
pub all_agree : {X : Type 0} (f g : X → Bool) (xs : List X) → ((x : X) → f x ≡ g x) → list_all f xs ≡ list_all g xs
all_agree f g [] h = refl
all_agree f g (x ∷ xs) h = λ i. h x i && all_agree f g xs h i

-- where none passes, all pass where there is none
pub all_none : (f : ℕ → Bool) (a n : ℕ) → ((s : ℕ) → f s ≡ false) → list_all f (range_with_len a n) ≡ (n == 0)
all_none f a zero h = refl
all_none f a (suc n) h = ap (λ b. b && list_all f (range_with_len (a + 1) n)) (h a) ∙ grind (arith, nat_tests)

-- no segment is complete for a call that isn't there
pub none_complete : (segments : ℕ) (units : List Unit) (rows : Rows) (n : ℕ) → AreRight segments units rows → map_of.get rows n ≡ None → (s : ℕ) → is_complete units n s ≡ false
none_complete segments units rows n right absent s =
    any_none (has_done n s) units (λ i u at.
    and_none (is_on n s u) (is_ended u.work.state) (and_none (is_of n u) (u.work.segment == s) (no_unit segments units rows n right absent i u at)))

-- a segment below a bound isn't one past it
apart_of : (m n s : ℕ) → s < m → m ≤ n → (s == n) ≡ false
apart_of m n s l h = grind (arith, nat_tests)

-- nor a segment that there isn't
pub no_segment : (segments : ℕ) (units : List Unit) (rows : Rows) (n s : ℕ) → AreRight segments units rows → segments ≤ s → (i : ℕ) (u : Unit) → slice_get units i ≡ Some u → is_on n s u ≡ false
no_segment segments units rows n s right past i u at = and_none_right (is_of n u) (u.work.segment == s) (apart_of segments s u.work.segment (right.placed i u at).within past)

-- no segment past the last is complete
pub past_complete : (segments : ℕ) (units : List Unit) (rows : Rows) (n s : ℕ) → AreRight segments units rows → segments ≤ s → is_complete units n s ≡ false
past_complete segments units rows n s right past =
    any_none (has_done n s) units (λ i u at. and_none (is_on n s u) (is_ended u.work.state) (no_segment segments units rows n s right past i u at))

-- the first of what is incomplete from a segment on
pub first_here : (units : List Unit) (n a m : ℕ) → a < m → is_complete units n a ≡ false → first_of (incomplete_from a (m - a) units n) ≡ Some a
first_here units n a m l h =
    let more : m - a ≡ suc (m - (a + 1)) = omega (arith, l) in
    ap (λ k. first_of (incomplete_from a k units n)) more
    ∙ ap (λ b. first_of (cond (not b) (a ∷ incomplete_from (a + 1) (m - (a + 1)) units n) (incomplete_from (a + 1) (m - (a + 1)) units n))) h

-- a complete segment isn't the first incomplete one
pub first_later : (units : List Unit) (n a m : ℕ) → a < m → is_complete units n a ≡ true → first_of (incomplete_from a (m - a) units n) ≡ first_of (incomplete_from (a + 1) (m - (a + 1)) units n)
first_later units n a m l h =
    let more : m - a ≡ suc (m - (a + 1)) = omega (arith, l) in
    ap (λ k. first_of (incomplete_from a k units n)) more
    ∙ ap (λ b. first_of (cond (not b) (a ∷ incomplete_from (a + 1) (m - (a + 1)) units n) (incomplete_from (a + 1) (m - (a + 1)) units n))) h

-- past the last segment none is incomplete
pub first_none : (units : List Unit) (n a m : ℕ) → m ≤ a → first_of (incomplete_from a (m - a) units n) ≡ None
first_none units n a m l = let none : m - a ≡ 0 = omega (arith, l) in ap (λ k. first_of (incomplete_from a k units n)) none

-- what is found in two lists is found in one of them
two_found : {X : Type 0} (p : X → Bool) (xs ys : List X) (x : X) → find p (xs ++ ys) ≡ Some x → (find p xs ≡ Some x) ⊎ (find p ys ≡ Some x)
two_found p [] ys x h = inr h
two_found p (z ∷ xs) ys x h =
    elim (p z) as (λ b. cond b (Some z) (find p (xs ++ ys)) ≡ Some x → (cond b (Some z) (find p xs) ≡ Some x) ⊎ (find p ys ≡ Some x)) [
      | true ↦ λ k. inl k
      | false ↦ λ k. two_found p xs ys x k
    ] h

-- what is found from behind stands somewhere
pub found_behind : {X : Type 0} (p : X → Bool) (xs : List X) (x : X) → find p (reverse xs) ≡ Some x → (j : ℕ) × (slice_get xs j ≡ Some x)
found_behind p [] x h = not_some x h
found_behind p (z ∷ xs) x h =
    elim (two_found p (reverse xs) (z ∷ []) x (sym (ap (find p) (reverse-append (z ∷ []) xs)) ∙ h)) [
      | inl e ↦ let rest = found_behind p xs x e in (suc rest.0, rest.1)
      | inr e ↦ let place = find_place p (z ∷ []) x e in (0, only_one place.0 place.1)
    ]
  where
    only_one : (i : ℕ) → slice_get (z ∷ []) i ≡ Some x → Some z ≡ Some x
    only_one zero g = g
    only_one (suc i) g = not_some x g

-- the newest unit of a call on a segment is found by its number
newest_by : (units : List Unit) (n s : ℕ) (o : Option Unit) → AreNumbered units → newest_in units n s ≡ o → unit_in units (number_of o) ≡ o
newest_by units n s None numbers is = find_zero units numbers
newest_by units n s (Some u) numbers is =
    let place = found_behind (is_on n s) units u is in
    let id = numbers place.0 u place.1 in
    find_unit units u.work.id numbers (omega (arith, id))
    ∙ (let same : u.work.id - 1 ≡ place.0 = omega (arith, id) in ap (slice_get units) same ∙ place.1)

-- the unit with the number of the newest one is the newest one
pub find_newest : (units : List Unit) (n s : ℕ) → AreNumbered units → unit_in units (number_of (newest_in units n s)) ≡ newest_in units n s
find_newest units n s numbers = newest_by units n s (newest_in units n s) numbers refl

-- a unit that isn't changed
pub unchanged_at : (x : Calling) (place : ℕ) (u : Unit) (f : Unit → Unit) → slice_get x.units place ≡ Some u → f u ≡ u → x ≡ record x { units = slice_set x.units place (f u) }
unchanged_at x place u f at same = ap (λ (us : List Unit). record x { units = us }) (sym (ap (slice_set x.units place) same ∙ set_same x.units place u at))

-- units that were just asked have read nothing
pub read_by-asked : (units : List Unit) (number id : ℕ) (asks : List Ask) → read_by (units ++ map (unit_made number id) asks) ≡ read_by units
read_by-asked [] number id [] = refl
read_by-asked [] number id (ask ∷ asks) = let rest = read_by-asked [] number id asks in omega (arith, rest)
read_by-asked (u ∷ units) number id asks = ap (λ n. length u.work.entries + n) (read_by-asked units number id asks)

-- none counts where none passes
pub none_counts : {X : Type 0} (p : X → Bool) (xs : List X) → list_any p xs ≡ false → count p xs ≡ 0
none_counts p xs h = let e : not (count p xs == 0) ≡ false = sym (any_counted p xs) ∙ h in grind (arith, nat_tests)

-- what a look-up finds is what stands there
pub looked : {X : Type 0} (o : Option (Bor X)) (xs : List X) (i : ℕ) → (is_some o ≡ nat_lt i (length xs)) × IfSome o (λ x. x.now ≡ slice_index_or xs i x.now) → option_copied o ≡ slice_get xs i
looked None xs i h = let past : length xs ≤ i = let e = h.0 in grind (arith, nat_tests) in sym (slice_get_past xs i past)
looked (Some x) xs i h = let inside : i < length xs = let e = h.0 in grind (arith, nat_tests) in sym (slice_get_read xs (length xs) i x.now refl inside h.1)

-- what is nothing through a function is nothing
pub none_mapped : {A B : Type 0} (f : A → B) (o : Option A) → option_map f o ≡ None → o ≡ None
none_mapped f None h = refl
none_mapped f (Some x) h = absurd (cc)

-- what passes is there
pub one_is_there : {A B : Type 0} (test : B → Bool) (f : A → B) (o : Option A) → is_one test (option_map f o) ≡ true → is_some o ≡ true
one_is_there test f None h = absurd (cc)
one_is_there test f (Some x) h = refl
