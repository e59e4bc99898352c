-- The asks of a round have the numbers from one on, and a table with units behind it has those of the front as before.
use Rattle.std.proofs.Common.{◌≡◌, ◌≢◌, ℕ, zero, suc, ◌+◌, ◌<◌, ◌≤◌, ◌==◌, Bool, true, false, ◌||◌, if◌then◌else◌, List, [], ◌∷◌, ◌++◌, length, map, None, Some, is_some, slice_get, refl, sym, ap, ◌∙◌, arith}
use Rattle.std.proofs.lemmas.Bool.{and_parts, eq-eqb, eqb-true, ne_eqb}
use Rattle.std.specs.List.{list_all, list_any}
use Rattle.grid_event.specs.declared.call_events.Ask.{Ask}
use Rattle.audit_clauses.specs.Shapes.{are_numbered}
use Rattle.history_units.specs.Asks.{ask_in}
use Rattle.history_units.specs.Rows.{unit_in}
use Rattle.history_units.specs.declared.unit.Unit.{Unit}

-- an ask for the unit is there where one is found
pub some_ask : (asks : List Ask) (number : ℕ) → list_any (λ (ask : Ask). ask.unit == number) asks ≡ is_some (ask_in asks number)
some_ask [] number = refl
some_ask (ask ∷ asks) number = by_test (ask.unit == number) (some_ask asks number)
  where
    by_test : (b : Bool) → list_any (λ (other : Ask). other.unit == number) asks ≡ is_some (ask_in asks number)
        → (b || list_any (λ (other : Ask). other.unit == number) asks) ≡ is_some (if b then Some ask else ask_in asks number)
    by_test true h = refl
    by_test false h = h

-- the one that is found is for the unit
pub own_ask : (asks : List Ask) (number : ℕ) (ask : Ask) → ask_in asks number ≡ Some ask → ask.unit ≡ number
own_ask [] number ask found = absurd (cc)
own_ask (first ∷ asks) number ask found = by_test (first.unit == number) refl found (own_ask asks number ask)
  where
    by_test : (b : Bool) → (first.unit == number) ≡ b → (if b then Some first else ask_in asks number) ≡ Some ask → (ask_in asks number ≡ Some ask → ask.unit ≡ number) → ask.unit ≡ number
    by_test true e h rest = let same : first ≡ ask = cc in ap (λ (a : Ask). a.unit) (sym same) ∙ eqb-true first.unit number e
    by_test false e h rest = rest h

-- of asks that have the numbers from one on, those that are found stand at their places
pub numbered_at : (number : ℕ) (asks : List Ask) → are_numbered number asks ≡ true → (row : ℕ) → ask_in asks (number + row) ≡ slice_get asks row
numbered_at number [] h row = refl
numbered_at number (ask ∷ asks) h zero =
    let first = eqb-true ask.unit number (and_parts (ask.unit == number) _ h).0 in
    ap (λ b. if b then Some ask else ask_in asks (number + 0)) (eq-eqb ask.unit (number + 0) (omega (arith, first)))
numbered_at number (ask ∷ asks) h (suc row) =
    let first = eqb-true ask.unit number (and_parts (ask.unit == number) _ h).0 in
    let differ : ask.unit ≢ number + suc row = omega (arith, first) in
    let later : number + suc row ≡ (number + 1) + row = omega arith in
    ap (λ b. if b then Some ask else ask_in asks (number + suc row)) (ne_eqb ask.unit (number + suc row) differ)
    ∙ ap (ask_in asks) later
    ∙ numbered_at (number + 1) asks (and_parts (ask.unit == number) _ h).1 row

-- and none is found below
pub numbered_from : (number : ℕ) (asks : List Ask) → are_numbered number asks ≡ true → (below : ℕ) → below < number → ask_in asks below ≡ None
numbered_from number [] h below lt = refl
numbered_from number (ask ∷ asks) h below lt =
    let first = eqb-true ask.unit number (and_parts (ask.unit == number) _ h).0 in
    let differ : ask.unit ≢ below = omega (arith, first) in
    ap (λ b. if b then Some ask else ask_in asks below) (ne_eqb ask.unit below differ)
    ∙ numbered_from (number + 1) asks (and_parts (ask.unit == number) _ h).1 below (omega arith)

-- the front of a longer list, and its rear
get_front : {A : Type 0} (front rear : List A) (row : ℕ) → row < length front → slice_get (front ++ rear) row ≡ slice_get front row
get_front [] rear row lt = absurd (omega arith)
get_front (x ∷ front) rear zero lt = refl
get_front (x ∷ front) rear (suc row) lt = get_front front rear row (omega arith)

pub get_rear : {A : Type 0} (front rear : List A) (row : ℕ) → slice_get (front ++ rear) (length front + row) ≡ slice_get rear row
get_rear [] rear row = let e : 0 + row ≡ row = omega arith in ap (slice_get rear) e
get_rear (x ∷ front) rear row =
    let e : suc (length front) + row ≡ suc (length front + row) = omega arith in
    ap (slice_get (x ∷ front ++ rear)) e ∙ get_rear front rear row

pub unit_front : (units more : List Unit) (number : ℕ) → number ≤ length units → unit_in (units ++ more) number ≡ unit_in units number
unit_front units more zero le = refl
unit_front units more (suc row) le = get_front units more row (omega arith)

-- what all of a list pass passes each
pub passes_at : {A B : Type 0} (test : B → Bool) (f : A → B) (xs : List A) (row : ℕ) (x : A) → list_all test (map f xs) ≡ true → slice_get xs row ≡ Some x → test (f x) ≡ true
passes_at test f [] row x all at = absurd (cc)
passes_at test f (y ∷ xs) zero x all at = let same : y ≡ x = cc in ap (λ z. test (f z)) (sym same) ∙ (and_parts (test (f y)) _ all).0
passes_at test f (y ∷ xs) (suc row) x all at = passes_at test f xs row x (and_parts (test (f y)) _ all).1 at
