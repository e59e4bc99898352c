-- The first nodes, before all events.
use Rattle.std.proofs.Common.{◌≡◌, ◌≢◌, ℕ, suc, zero, ◌+◌, ◌<◌, ◌≤◌, ◌||◌, nat_lt, true, false, inl, inr, refl, sym, ap, ◌∙◌, arith}
use Rattle.std.proofs.lemmas.Bool.{cases_eq, cases_lt, eq-eqb, le-ltb, lt-ltb, ne_eqb}
use Rattle.std.specs.FinSet as set
use Rattle.std.specs.List.{range_with_len}
use Rattle.std.specs.Ordering.{nat_cmp}
use Rattle.topology_phase.specs.Owners.{among}

-- a number of a row is in it
within_row : (a n q : ℕ) → a ≤ q → q < a + n → among q (range_with_len a n) ≡ true
within_row a zero q from below = absurd (omega arith)
within_row a (suc n) q from below = elim (cases_eq a q) [
  | inl same ↦ ap (λ b. b || among q (range_with_len (a + 1) n)) (eq-eqb a q same)
  | inr differ ↦ (λ i. ne_eqb a q differ i || within_row (a + 1) n q (omega (arith, differ)) (omega arith) i)
]

-- and one past it isn't
past_row : (a n q : ℕ) → a + n ≤ q → among q (range_with_len a n) ≡ false
past_row a zero q past = refl
past_row a (suc n) q past =
    let differ : a ≢ q = omega arith in
    (λ i. ne_eqb a q differ i || past_row (a + 1) n q (omega arith) i)

-- the set of the first nodes has the numbers below a bound
pub first_in : (nodes q : ℕ) → set.contains (set.from_list {R = nat_cmp} (range_with_len 0 nodes)) q ≡ nat_lt q nodes
first_in nodes q =
    set.contains-from_list_nat (range_with_len 0 nodes) q
    ∙ elim (cases_lt q nodes) [
      | inl below ↦ within_row 0 nodes q (omega arith) (omega (arith, below)) ∙ sym (lt-ltb q nodes below)
      | inr past ↦ past_row 0 nodes q (omega (arith, past)) ∙ sym (le-ltb q nodes past)
    ]
