-- How the index changes with one set.
use Rattle.std.proofs.Common.{◌≡◌, ℕ, Bool, true, false, cond, not, ◌&&◌, ◌||◌, List, refl, sym, ◌∙◌, ap, Some, None, Option, nat_cmp, Result, Ok, Err, OnErr}
use Rattle.std.proofs.lemmas.Bool.Decides.{nat_tests}
use Rattle.std.proofs.Common.{arith}
use Rattle.std.specs.BTreeMap.{is_at}
use Rattle.std.specs.BTreeSet.{BTreeSet, contains}
use Rattle.std.specs.Cmp.{both_tied, unsigned_ties, unsigned_tied, first_so, second_so}
use Rattle.std.specs.Map.{lookup}
use Rattle.std.specs.Option.{option_map_or}
use Rattle.std.specs.Prelude.{◌==◌}
use Rattle.loss_listener.specs.declared.place.Place.{Place}
use Rattle.loss_listener.specs.Index.{set_has, index_has, list_has, IsIndexed}
use Rattle.loss_listener.specs.Places.{place_cmp}
use Rattle.loss_listener.specs.Registered.{is_place}

-- places tie exactly where their nodes and their segments are equal
tied_place : (a b : Place) → is_at (place_cmp a) b ≡ is_place a.node a.segment b
tied_place a b = sym (both_tied (a.node == b.node) (a.segment == b.segment) (nat_cmp a.node b.node) (nat_cmp a.segment b.segment) (unsigned_ties a.node b.node) (unsigned_ties a.segment b.segment))

-- numbers that pass the test are equal
equal : (a b : ℕ) → (a == b) ≡ true → a ≡ b
equal a b h = grind (arith, nat_tests)

-- a place is the one of its node and its segment alone
place_is : (a b : Place) → is_place a.node a.segment b ≡ true → a ≡ b
place_is a b h =
    let node : a.node ≡ b.node = equal _ _ (first_so (a.node == b.node) (a.segment == b.segment) h) in
    let segment : a.segment ≡ b.segment = equal _ _ (second_so (a.node == b.node) (a.segment == b.segment) h) in
    λ i. record { node = node i; segment = segment i }

-- one place is another in either order
place_flipped : (a b : Place) → is_place a.node a.segment b ≡ is_place b.node b.segment a
place_flipped a b = λ i. flip a.node b.node i && flip a.segment b.segment i
  where
    flip : (m n : ℕ) → (m == n) ≡ (n == m)
    flip m n = grind (arith, nat_tests)

-- the sets of an index where one place has this set, and all others are as before
abbrev pub PutsSet : List (Place × BTreeSet ℕ) → List (Place × BTreeSet ℕ) → Place → BTreeSet ℕ → Type 0
PutsSet before after place units = (q : Place) → lookup (is_at (place_cmp q)) after ≡ cond (is_at (place_cmp place) q) (Some units) (lookup (is_at (place_cmp q)) before)

-- what the index has then: at that place what the set has, and elsewhere what it had
put_has : (before after : List (Place × BTreeSet ℕ)) (place : Place) (units : BTreeSet ℕ) → PutsSet before after place units → (p : Place) (u : ℕ) →
    index_has after p u ≡ cond (is_place place.node place.segment p) (contains nat_cmp units u) (index_has before p u)
put_has before after place units puts p u =
    ap (λ o. set_has o u) (puts p)
    ∙ chosen (is_at (place_cmp place) p)
    ∙ ap (λ b. cond b (contains nat_cmp units u) (index_has before p u)) (tied_place place p)
  where
    chosen : (b : Bool) → set_has (cond b (Some units) (lookup (is_at (place_cmp p)) before)) u ≡ cond b (contains nat_cmp units u) (index_has before p u)
    chosen true = refl
    chosen false = refl

-- a unit that comes into the set of a place is at the place
pub index_has-added : (before after : List (Place × BTreeSet ℕ)) (place : Place) (unit : ℕ) (had units : BTreeSet ℕ) → PutsSet before after place units →
    ((u : ℕ) → contains nat_cmp had u ≡ index_has before place u) → ((u : ℕ) → contains nat_cmp units u ≡ cond (is_at (nat_cmp unit) u) true (contains nat_cmp had u)) → (p : Place) (u : ℕ) →
    index_has after p u ≡ ((is_place place.node place.segment p && (unit == u)) || index_has before p u)
index_has-added before after place unit had units puts held adds p u =
    put_has before after place units puts p u
    ∙ elim (is_place place.node place.segment p) as (λ b. is_place place.node place.segment p ≡ b → cond b (contains nat_cmp units u) (index_has before p u) ≡ ((b && (unit == u)) || index_has before p u)) [
      | true ↦ λ e.
          adds u
          ∙ ap (λ b. cond b true (contains nat_cmp had u)) (unsigned_tied unit u)
          ∙ either (unit == u) (contains nat_cmp had u)
          ∙ ap (λ b. (unit == u) || b) (held u ∙ ap (λ q. index_has before q u) (place_is place p e))
      | false ↦ λ e. refl
    ] refl
  where
    either : (a b : Bool) → cond a true b ≡ (a || b)
    either true b = refl
    either false b = refl

-- a unit that leaves the set of a place is no longer at the place
pub index_has-taken : (before after : List (Place × BTreeSet ℕ)) (place : Place) (unit : ℕ) (had units : BTreeSet ℕ) → PutsSet before after place units →
    ((u : ℕ) → contains nat_cmp had u ≡ index_has before place u) → ((u : ℕ) → contains nat_cmp units u ≡ cond (is_at (nat_cmp unit) u) false (contains nat_cmp had u)) → (p : Place) (u : ℕ) →
    index_has after p u ≡ (index_has before p u && not (is_place place.node place.segment p && (unit == u)))
index_has-taken before after place unit had units puts held takes p u =
    put_has before after place units puts p u
    ∙ elim (is_place place.node place.segment p) as (λ b. is_place place.node place.segment p ≡ b → cond b (contains nat_cmp units u) (index_has before p u) ≡ (index_has before p u && not (b && (unit == u)))) [
      | true ↦ λ e.
          takes u
          ∙ ap (λ b. cond b false (contains nat_cmp had u)) (unsigned_tied unit u)
          ∙ without (unit == u) (contains nat_cmp had u)
          ∙ ap (λ b. b && not (unit == u)) (held u ∙ ap (λ q. index_has before q u) (place_is place p e))
      | false ↦ λ e. kept (index_has before p u)
    ] refl
  where
    without : (a b : Bool) → cond a false b ≡ (b && not a)
    without true true = refl
    without true false = refl
    without false true = refl
    without false false = refl

    kept : (b : Bool) → b ≡ (b && true)
    kept true = refl
    kept false = refl

-- a set that keeps its units changes nothing
pub index_has-same : (before after : List (Place × BTreeSet ℕ)) (place : Place) (units : BTreeSet ℕ) → PutsSet before after place units →
    ((u : ℕ) → contains nat_cmp units u ≡ index_has before place u) → (p : Place) (u : ℕ) → index_has after p u ≡ index_has before p u
index_has-same before after place units puts held p u =
    put_has before after place units puts p u
    ∙ elim (is_place place.node place.segment p) as (λ b. is_place place.node place.segment p ≡ b → cond b (contains nat_cmp units u) (index_has before p u) ≡ index_has before p u) [
      | true ↦ λ e. held u ∙ ap (λ q. index_has before q u) (place_is place p e)
      | false ↦ λ e. refl
    ] refl

-- the list of places where one unit has this place, or none, and all others have theirs
abbrev pub PutsPlace : List (ℕ × Place) → List (ℕ × Place) → ℕ → Option Place → Type 0
PutsPlace before after unit place = (q : ℕ) → lookup (is_at (nat_cmp q)) after ≡ cond (is_at (nat_cmp unit) q) place (lookup (is_at (nat_cmp q)) before)

-- what the list has then
list_put : (before after : List (ℕ × Place)) (unit : ℕ) (place : Option Place) → PutsPlace before after unit place → (p : Place) (u : ℕ) →
    list_has after p u ≡ cond (unit == u) (option_map_or (is_place p.node p.segment) place false) (list_has before p u)
list_put before after unit place puts p u =
    ap (λ o. option_map_or (is_place p.node p.segment) o false) (puts u)
    ∙ chosen (is_at (nat_cmp unit) u)
    ∙ ap (λ b. cond b (option_map_or (is_place p.node p.segment) place false) (list_has before p u)) (unsigned_tied unit u)
  where
    chosen : (b : Bool) → option_map_or (is_place p.node p.segment) (cond b place (lookup (is_at (nat_cmp u)) before)) false ≡ cond b (option_map_or (is_place p.node p.segment) place false) (list_has before p u)
    chosen true = refl
    chosen false = refl

-- a new unit is indexed where list and index take it in
pub IsIndexed-added : (units more : List (ℕ × Place)) (index after : List (Place × BTreeSet ℕ)) (unit : ℕ) (place : Place) → IsIndexed units index →
    lookup (is_at (nat_cmp unit)) units ≡ None → PutsPlace units more unit (Some place) →
    ((p : Place) (u : ℕ) → index_has after p u ≡ ((is_place place.node place.segment p && (unit == u)) || index_has index p u)) → IsIndexed more after
IsIndexed-added units more index after unit place all fresh puts adds p u =
    adds p u
    ∙ ap (λ b. (is_place place.node place.segment p && (unit == u)) || b) (all p u)
    ∙ elim (unit == u) as (λ b. (unit == u) ≡ b → ((is_place place.node place.segment p && b) || list_has units p u) ≡ cond b (is_place p.node p.segment place) (list_has units p u)) [
      | true ↦ λ e.
          let none : list_has units p u ≡ false = ap (λ o. option_map_or (is_place p.node p.segment) o false) (ap (λ n. lookup (is_at (nat_cmp n)) units) (sym (equal unit u e)) ∙ fresh) in
          (λ i. (is_place place.node place.segment p && true) || none i) ∙ alone (is_place place.node place.segment p) ∙ place_flipped place p
      | false ↦ λ e. other (is_place place.node place.segment p) (list_has units p u)
    ] refl
    ∙ sym (list_put units more unit (Some place) puts p u)
  where
    alone : (b : Bool) → ((b && true) || false) ≡ b
    alone true = refl
    alone false = refl

    other : (a b : Bool) → ((a && false) || b) ≡ b
    other true b = refl
    other false b = refl

-- the others are indexed still where list and index let a unit go
pub IsIndexed-removed : (units fewer : List (ℕ × Place)) (index after : List (Place × BTreeSet ℕ)) (unit : ℕ) (place : Place) → IsIndexed units index →
    lookup (is_at (nat_cmp unit)) units ≡ Some place → PutsPlace units fewer unit None →
    ((p : Place) (u : ℕ) → index_has after p u ≡ (index_has index p u && not (is_place place.node place.segment p && (unit == u)))) → IsIndexed fewer after
IsIndexed-removed units fewer index after unit place all there puts takes p u =
    takes p u
    ∙ ap (λ b. b && not (is_place place.node place.segment p && (unit == u))) (all p u)
    ∙ elim (unit == u) as (λ b. (unit == u) ≡ b → (list_has units p u && not (is_place place.node place.segment p && b)) ≡ cond b false (list_has units p u)) [
      | true ↦ λ e.
          let here : list_has units p u ≡ is_place place.node place.segment p =
          ap (λ o. option_map_or (is_place p.node p.segment) o false) (ap (λ n. lookup (is_at (nat_cmp n)) units) (sym (equal unit u e)) ∙ there) ∙ place_flipped p place in
          (λ i. here i && not (is_place place.node place.segment p && true)) ∙ apart (is_place place.node place.segment p)
      | false ↦ λ e. other (list_has units p u) (is_place place.node place.segment p)
    ] refl
    ∙ sym (list_put units fewer unit None puts p u)
  where
    apart : (b : Bool) → (b && not (b && true)) ≡ false
    apart true = refl
    apart false = refl

    other : (a b : Bool) → (a && not (b && false)) ≡ a
    other true true = refl
    other true false = refl
    other false b = refl

-- list and index that say what they said are as before
pub IsIndexed-same : (units same : List (ℕ × Place)) (index after : List (Place × BTreeSet ℕ)) → IsIndexed units index →
    ((q : ℕ) → lookup (is_at (nat_cmp q)) same ≡ lookup (is_at (nat_cmp q)) units) → ((p : Place) (u : ℕ) → index_has after p u ≡ index_has index p u) → IsIndexed same after
IsIndexed-same units same index after all alike has p u =
    has p u ∙ all p u ∙ ap (λ o. option_map_or (is_place p.node p.segment) o false) (sym (alike u))

-- a unit that came and went leaves the list as it was
pub went_again : (units more same : List (ℕ × Place)) (unit : ℕ) (place : Option Place) → lookup (is_at (nat_cmp unit)) units ≡ None →
    PutsPlace units more unit place → PutsPlace more same unit None → (q : ℕ) → lookup (is_at (nat_cmp q)) same ≡ lookup (is_at (nat_cmp q)) units
went_again units more same unit place fresh puts takes q =
    takes q
    ∙ ap (cond (is_at (nat_cmp unit) q) None) (puts q)
    ∙ elim (is_at (nat_cmp unit) q) as (λ b. is_at (nat_cmp unit) q ≡ b → cond b None (cond b place (lookup (is_at (nat_cmp q)) units)) ≡ lookup (is_at (nat_cmp q)) units) [
      | true ↦ λ e. sym (ap (λ n. lookup (is_at (nat_cmp n)) units) (sym (equal unit q (sym (unsigned_tied unit q) ∙ e))) ∙ fresh)
      | false ↦ λ e. refl
    ] refl

-- what holds in any case holds where there is an error
pub OnErr-all : {T E P : Type 0} (r : Result T E) → P → OnErr r P
OnErr-all (Ok x) p = tt
OnErr-all (Err e) p = p
