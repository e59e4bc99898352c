-- Which segments are noted as lost.
use Rattle.std.proofs.Common.{◌≡◌, ℕ, ◌<◌, ◌+◌, Bool, true, false, cond, not, ◌&&◌, ◌||◌, ◌==◌, List, [], ◌∷◌, filter, nat_lt, ◌≤◌, refl, sym, ap, ◌∙◌, arith}
use Rattle.std.proofs.lemmas.Bool.Decides.{nat_tests}
use Rattle.std.specs.Cmp.{nat_cmp_total}
use Rattle.std.specs.FinMap.{nat_cmp-IsAntisymmetric}
use Rattle.std.specs.FinSet as set_of
use Rattle.std.specs.List.{list_any}
use Rattle.std.specs.Ordering.{nat_cmp, eq_by_cmp}
use Rattle.topology_phase.specs.Owners.{among}
use Rattle.cluster_model.specs.Topologies.{all_noted}
use Rattle.cluster_calls.proofs.RowTables.{tied}

-- numbers are compared either way round
flipped : (x y : ℕ) → (x == y) ≡ (y == x)
flipped x y = grind (arith, nat_tests)

-- either of three tests passes however they are grouped
or_grouped : (a b c : Bool) → (a || (b || c)) ≡ ((a || b) || c)
or_grouped true b c = refl
or_grouped false b c = refl

-- a segment is in the set then where it is one of those noted, or was before
pub contains-all_noted : (segments : List ℕ) (set : set_of.FinSet nat_cmp) (s : ℕ) → set_of.contains (all_noted segments set) s ≡ (among s segments || set_of.contains set s)
contains-all_noted [] set s = refl
contains-all_noted (t ∷ segments) set s =
    set_of.contains-insert nat_cmp_total (all_noted segments set) t s
    ∙ (λ i. (tied s t ∙ flipped s t) i || contains-all_noted segments set s i)
    ∙ or_grouped (t == s) (among s segments) (set_of.contains set s)

-- a segment is among others where it ties with one
any_tied : (s : ℕ) (segments : List ℕ) → list_any (eq_by_cmp nat_cmp s) segments ≡ among s segments
any_tied s [] = refl
any_tied s (t ∷ segments) = λ i. (tied s t ∙ flipped s t) i || any_tied s segments i

-- where a set of segments has the elements of a list
pub in_items : (set : set_of.FinSet nat_cmp) (s : ℕ) → set_of.contains set s ≡ among s (set_of.items set)
in_items set s = set_of.contains-items set s ∙ any_tied s (set_of.items set)

-- numbers that test as equal are equal
equal : (x y : ℕ) → (x == y) ≡ true → x ≡ y
equal x y h = grind (arith, nat_tests)

-- a test and one that passes, together, are the test
and_true : (b : Bool) → (b && true) ≡ b
and_true true = refl
and_true false = refl

-- a test and one that fails, together, fail
and_false : (b : Bool) → (b && false) ≡ false
and_false true = refl
and_false false = refl

-- a test that fails, fails with another
dropped : (b c : Bool) → (b && true) ≡ false → (b && c) ≡ false
dropped true c h = absurd (cc)
dropped false c h = refl

-- the segment itself passes what it is asked
passed_here : (p : ℕ → Bool) (s t : ℕ) (rest : Bool) (b : Bool) → p t ≡ b → (t == s) ≡ true → (p s && (true || rest)) ≡ b
passed_here p s t rest b is e =
    and_true (p s) ∙ ap p (sym (equal t s e)) ∙ is

-- a segment is among those that pass a test where it is among all and passes it
pub among-filter : (p : ℕ → Bool) (s : ℕ) (segments : List ℕ) → among s (filter p segments) ≡ (p s && among s segments)
among-filter p s [] = sym (and_false (p s))
among-filter p s (t ∷ segments) =
    elim (p t) as (λ b. p t ≡ b → among s (cond b (t ∷ filter p segments) (filter p segments)) ≡ (p s && ((t == s) || among s segments))) [
      | true ↦ λ is.
          elim (t == s) as (λ e. (t == s) ≡ e → (e || among s (filter p segments)) ≡ (p s && (e || among s segments))) [
            | true ↦ λ here. sym (passed_here p s t (among s segments) true is here)
            | false ↦ λ other. among-filter p s segments
          ] refl
      | false ↦ λ is.
          elim (t == s) as (λ e. (t == s) ≡ e → among s (filter p segments) ≡ (p s && (e || among s segments))) [
            | true ↦ λ here. among-filter p s segments ∙ dropped (p s) (among s segments) (passed_here p s t true false is here) ∙ sym (passed_here p s t (among s segments) false is here)
            | false ↦ λ other. among-filter p s segments
          ] refl
    ] refl

-- two notes of the same segments are equal
pub same_notes : (ms ns : List ℕ) (set : set_of.FinSet nat_cmp) → ((s : ℕ) → among s ms ≡ among s ns) → all_noted ms set ≡ all_noted ns set
same_notes ms ns set alike = set_of.same_set nat_cmp_total nat_cmp-IsAntisymmetric _ _ (λ s.
    contains-all_noted ms set s ∙ ap (λ b. b || set_of.contains set s) (alike s) ∙ sym (contains-all_noted ns set s))

-- a test that implies another needn't ask for it
within : (l a b : Bool) → (l ≡ false → a ≡ false) → (l && (a && b)) ≡ (b && a)
within true true true h = refl
within true true false h = refl
within true false true h = refl
within true false false h = refl
within false true b h = absurd (let e = h refl in cc)
within false false true h = refl
within false false false h = refl

-- a segment more is noted, or none
noted_by : (b : Bool) (set : set_of.FinSet nat_cmp) (n s : ℕ) → set_of.contains (cond b (set_of.insert set n) set) s ≡ ((b && (s == n)) || set_of.contains set s)
noted_by true set n s = set_of.contains-insert nat_cmp_total set n s ∙ ap (λ e. e || set_of.contains set s) (tied s n)
noted_by false set n s = refl

-- what is noted up to a segment, with the next one
step : (f : ℕ → Bool) (n s : ℕ) (o : Bool) → ((f n && (s == n)) || ((nat_lt s n && f s) || o)) ≡ ((nat_lt s (n + 1) && f s) || o)
step f n s o =
    elim (s == n) as (λ e. (s == n) ≡ e → ((f n && e) || ((nat_lt s n && f s) || o)) ≡ ((nat_lt s (n + 1) && f s) || o)) [
      | true ↦ λ e.
          let same : s ≡ n = equal s n e in
          let before : nat_lt s n ≡ false = grind (arith, nat_tests) in
          let after : nat_lt s (n + 1) ≡ true = grind (arith, nat_tests) in
          (λ i. (and_true (f (sym same i)) i) || ((before i && f s) || o)) ∙ (λ i. (sym after i && f s) || o)
      | false ↦ λ e.
          let alike : nat_lt s n ≡ nat_lt s (n + 1) = grind (arith, nat_tests) in
          (λ i. and_false (f n) i || ((alike i && f s) || o))
    ] refl

-- one more segment is noted where it is to be
pub noted_more : (f : ℕ → Bool) (n s : ℕ) (was set after : set_of.FinSet nat_cmp)
    → set_of.contains set s ≡ ((nat_lt s n && f s) || set_of.contains was s) → after ≡ cond (f n) (set_of.insert set n) set
    → set_of.contains after s ≡ ((nat_lt s (n + 1) && f s) || set_of.contains was s)
noted_more f n s was set after h is =
    ap (λ x. set_of.contains x s) is
    ∙ noted_by (f n) set n s
    ∙ ap (λ b. (f n && (s == n)) || b) h
    ∙ step f n s (set_of.contains was s)

-- segments before the first lost one aren't noted
pub noted_none : (n s : ℕ) (lost was : set_of.FinSet nat_cmp) (b : Bool) → ((k : ℕ) → k < n → set_of.contains lost k ≡ false)
    → set_of.contains was s ≡ ((nat_lt s n && (set_of.contains lost s && b)) || set_of.contains was s)
noted_none n s lost was b none =
    elim (nat_lt s n) as (λ e. nat_lt s n ≡ e → set_of.contains was s ≡ ((e && (set_of.contains lost s && b)) || set_of.contains was s)) [
      | true ↦ λ e. let below : s < n = grind (arith, nat_tests) in ap (λ x. (x && b) || set_of.contains was s) (sym (none s below))
      | false ↦ λ e. refl
    ] refl

-- all segments are noted that are to be
pub noted_all : (complete lost was after : set_of.FinSet nat_cmp) (n : ℕ) → ((k : ℕ) → n ≤ k → set_of.contains lost k ≡ false)
    → ((s : ℕ) → set_of.contains after s ≡ ((nat_lt s n && (set_of.contains lost s && not (set_of.contains complete s))) || set_of.contains was s))
    → after ≡ all_noted (filter (λ s. not (set_of.contains complete s)) (set_of.items lost)) was
noted_all complete lost was after n none h = set_of.same_set nat_cmp_total nat_cmp-IsAntisymmetric _ _ (λ s.
    h s
    ∙ ap (λ b. b || set_of.contains was s) (within (nat_lt s n) (set_of.contains lost s) (not (set_of.contains complete s)) (λ e. let past : n ≤ s = grind (arith, nat_tests) in none s past))
    ∙ sym (contains-all_noted _ was s ∙ ap (λ b. b || set_of.contains was s) (among-filter (λ t. not (set_of.contains complete t)) s (set_of.items lost) ∙ ap (λ b. not (set_of.contains complete s) && b) (sym (in_items lost s)))))

-- where nothing is lost, nothing is noted
pub none_noted : (complete lost was : set_of.FinSet nat_cmp) → ((k : ℕ) → set_of.contains lost k ≡ false)
    → was ≡ all_noted (filter (λ s. not (set_of.contains complete s)) (set_of.items lost)) was
none_noted complete lost was none = noted_all complete lost was was 0 (λ k l. none k) (λ s. noted_none 0 s lost was _ (λ k l. none k))
