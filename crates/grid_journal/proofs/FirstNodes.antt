-- The set of the first nodes.
use Rattle.std.proofs.Common.{◌≡◌, ℕ, zero, suc, ◌+◌, ◌≤◌, ◌<◌, ◌==◌, Bool, true, false, cond, ◌||◌, nat_lt, List, [], ◌∷◌, ◌++◌, refl, sym, ap, ◌∙◌, arith}
use Rattle.std.proofs.lemmas.Bool.Decides.{nat_tests}
use Rattle.std.proofs.lemmas.List.{append-nil}
use Rattle.std.specs.Cmp.{nat_cmp_total, unsigned_tied}
use Rattle.std.specs.FinSet as set
use Rattle.std.specs.List.{filter, range_with_len}
use Rattle.grid_base.specs.Nodes.{Nodes}
use Rattle.topology_phase.specs.Owners.{members}
use Rattle.topology_phase.proofs.OwnerLists.{filter_range_more}

-- a number below the next bound is the last one or below this bound
below_more : (q n : ℕ) → ((q == n) || nat_lt q n) ≡ nat_lt q (n + 1)
below_more q n = grind (arith, nat_tests)

-- one node more is in
pub more_nodes : (nodes : Nodes) (n : ℕ) → ((q : ℕ) → set.contains nodes q ≡ nat_lt q n) → (q : ℕ) → set.contains (set.insert nodes n) q ≡ nat_lt q (n + 1)
more_nodes nodes n so_far q =
    set.contains-insert nat_cmp_total nodes n q
    ∙ (λ i. unsigned_tied q n i || so_far q i)
    ∙ below_more q n

-- a filter that a whole row passes leaves the row
taken_row : (p : ℕ → Bool) (k : ℕ) → ((q : ℕ) → q < k → p q ≡ true) → filter p (range_with_len 0 k) ≡ range_with_len 0 k
taken_row p zero all = refl
taken_row p (suc k) all =
    let more : suc k ≡ k + 1 = omega arith in
    ap (λ n. filter p (range_with_len 0 n)) more
    ∙ filter_range_more p k
    ∙ (λ i. taken_row p k (λ q lt. all q (omega arith)) i ++ cond (all k (omega arith) i) (k ∷ []) [])
    ∙ sym (filter_range_more (λ _. true) k ∙ ap (λ xs. xs ++ k ∷ []) (every (range_with_len 0 k)))
    ∙ every (range_with_len 0 (k + 1))
    ∙ ap (range_with_len 0) (sym more)
  where
    every : (xs : List ℕ) → filter (λ _. true) xs ≡ xs
    every [] = refl
    every (x ∷ xs) = ap (λ ys. x ∷ ys) (every xs)

-- one that its rear fails leaves the filtered front
left_row : (p : ℕ → Bool) (n d : ℕ) → ((q : ℕ) → n ≤ q → p q ≡ false) → filter p (range_with_len 0 (n + d)) ≡ filter p (range_with_len 0 n)
left_row p n zero none =
    let same : n + 0 ≡ n = omega arith in
    ap (λ k. filter p (range_with_len 0 k)) same
left_row p n (suc d) none =
    let more : n + suc d ≡ (n + d) + 1 = omega arith in
    ap (λ k. filter p (range_with_len 0 k)) more
    ∙ filter_range_more p (n + d)
    ∙ (λ i. left_row p n d none i ++ cond (none (n + d) (omega arith) i) ((n + d) ∷ []) [])
    ∙ append-nil (filter p (range_with_len 0 n))

-- a number that is less tests as less
below : (q n : ℕ) → q < n → nat_lt q n ≡ true
below q n lt = grind (arith, nat_tests)

-- one that isn't doesn't
above : (q n : ℕ) → n ≤ q → nat_lt q n ≡ false
above q n le = grind (arith, nat_tests)

-- a set of the numbers below one has them in a row
pub members_below : (nodes : Nodes) (n d : ℕ) → n + d ≡ 16 → ((q : ℕ) → set.contains nodes q ≡ nat_lt q n) → members nodes ≡ range_with_len 0 n
unfolding members
members_below nodes n d few so_far =
    (λ i. filter (λ q. so_far q i) (range_with_len 0 (sym few i)))
    ∙ left_row (λ q. nat_lt q n) n d (λ q le. above q n le)
    ∙ taken_row (λ q. nat_lt q n) n (λ q lt. below q n lt)
