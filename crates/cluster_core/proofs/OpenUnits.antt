-- The open units of a call, and which units are found by their own numbers.
use Rattle.std.proofs.Common.{◌≡◌, ℕ, ◌<◌, Bool, true, false, cond, ◌&&◌, List, [], ◌∷◌, drop, filter, length, get_or, Some, refl, sym, ap, subst}
use Rattle.std.proofs.lemmas.List.Elements.{All-append, All-cons, All-drop, All-filter, All-head, All-nil, All-tail}
use Rattle.std.proofs.lemmas.Option.{slice_get-get_or}
use Rattle.std.specs.List.{All, flat_map, range_with_len}
use Rattle.cluster_model.specs.Commands.{open_units}
use Rattle.cluster_model.specs.State.{State, Unit, is_on, is_open_unit, unit_in}
use Rattle.cluster_calls.specs.Calling.{AreNumbered}
use Rattle.cluster_core.specs.Insides.{IsCore, state_of}
use Rattle.cluster_core.specs.declared.cluster.Core.TheInside.{Inside}
use Rattle.cluster_core.proofs.UnitPlaces.{found_by_number}

-- a unit is found by its own number
abbrev pub IsFound : List Unit → Unit → Type 0
IsFound units u = unit_in units u.work.id ≡ Some u

-- units in the order of their numbers are
pub numbered_found : (units : List Unit) → AreNumbered units → All (IsFound units) units
numbered_found units numbers = λ k d within. found_by_number units k (get_or units k d) numbers (slice_get-get_or units k d within)

-- and so is one that stands in them at a place, where some of the first ones are left out
pub unit_found : (units : List Unit) → AreNumbered units → (n : ℕ) (xs : List Unit) → xs ≡ drop n units → (i : ℕ) (u : Unit) → i < length xs → u ≡ get_or xs i u → IsFound units u
unit_found units numbers n xs are i u within at =
    subst (IsFound units) (sym at) (subst (λ (us : List Unit). All (IsFound units) us) (sym are) (All-drop (IsFound units) n units (numbered_found units numbers)) i u within)

-- what holds of each element of several lists
all_flat : {A : Type 0} (P : Unit → Type 0) (f : A → List Unit) (keys : List A) → ((key : A) → All P (f key)) → All P (flat_map f keys)
all_flat P f [] h = All-nil P
all_flat P f (key ∷ keys) h = All-append P (f key) (flat_map f keys) (h key) (all_flat P f keys h)

-- what holds of those that pass a test
passing_one : (P : Unit → Type 0) (p : Unit → Bool) (x : Unit) (xs : List Unit) (b : Bool) → p x ≡ b → All P (cond b (x ∷ filter p xs) (filter p xs))
    → (All P (filter p xs) → All (λ u. p u ≡ true → P u) xs) → All (λ u. p u ≡ true → P u) (x ∷ xs)
passing_one P p x xs true e h rest = All-cons (λ u. p u ≡ true → P u) x xs (λ t. All-head P x (filter p xs) h) (rest (All-tail P x (filter p xs) h))
passing_one P p x xs false e h rest = All-cons (λ u. p u ≡ true → P u) x xs (λ t. absurd (cc)) (rest h)

-- what holds of those that pass holds of each, where it passes
all_passing : (P : Unit → Type 0) (p : Unit → Bool) (xs : List Unit) → All P (filter p xs) → All (λ u. p u ≡ true → P u) xs
all_passing P p [] h = All-nil (λ u. p u ≡ true → P u)
all_passing P p (x ∷ xs) h = passing_one P p x xs (p x) refl h (all_passing P p xs)

-- the open units of a list that are the open ones of a call are found by their own numbers
pub open_found : (units : List Unit) (call segments : ℕ) (xs : List Unit) → AreNumbered units
    → filter is_open_unit xs ≡ flat_map (λ segment. filter (λ unit. is_on call segment unit && is_open_unit unit) units) (range_with_len 0 segments)
    → (i : ℕ) (u : Unit) → i < length xs → u ≡ get_or xs i u → is_open_unit u ≡ true → IsFound units u
open_found units call segments xs numbers are i u within at =
    let open_ones : All (IsFound units) (flat_map (λ segment. filter (λ unit. is_on call segment unit && is_open_unit unit) units) (range_with_len 0 segments)) =
    all_flat (IsFound units) (λ segment. filter (λ unit. is_on call segment unit && is_open_unit unit) units) (range_with_len 0 segments)
    (λ segment. All-filter (λ unit. is_on call segment unit && is_open_unit unit) (IsFound units) units (numbered_found units numbers)) in
    let found : All (IsFound units) (filter is_open_unit xs) = subst (All (IsFound units)) (sym are) open_ones in
    subst (λ (x : Unit). is_open_unit x ≡ true → IsFound units x) (sym at) (all_passing (IsFound units) is_open_unit xs found i u within)

-- the open units of a call in a core
pub core_opens : (fields : Inside) (st : State) (call : ℕ) → IsCore fields → state_of fields ≡ st → open_units fields.calls call ≡ open_units st.calling call
core_opens fields st call h view = ap (λ (s : State). open_units s.calling call) view
