-- Sets of nodes, and how flags tell which nodes are in one.
use Rattle.std.specs.Prelude.{◌≡◌, ℕ, suc, zero, ◌+◌, ◌<◌, Bool, true, false, ◌||◌, cond, List, [], ◌∷◌, length}
use Rattle.std.proofs.Common.{get_or, refl, ◌∙◌, ap, arith}
use Rattle.std.proofs.lemmas.Bool.Decides.{nat_tests}
use Rattle.std.specs.Cmp.{nat_cmp_total}
use Rattle.std.specs.FinSet as set
use Rattle.std.specs.Ordering.{nat_cmp, eq_by_cmp}

-- a set of nodes, by their numbers
abbrev pub Nodes : Type 0
Nodes = set.FinSet nat_cmp

-- the set of the nodes whose flag is up, where the first flag is that of node n
unfoldable pub flagged : ℕ → List Bool → Nodes
flagged n [] = set.empty
flagged n (up ∷ flags) = cond up (set.insert (flagged (suc n) flags) n) (flagged (suc n) flags)

-- the flags of so many nodes from node n on
unfoldable pub flags_of : ℕ → ℕ → Nodes → List Bool
flags_of n zero nodes = []
flags_of n (suc more) nodes = set.contains nodes n ∷ flags_of (suc n) more nodes

-- two different numbers don't tie
pub apart : (x y : ℕ) → (x ≡ y → ⊥) → eq_by_cmp nat_cmp x y ≡ false
apart x y n = grind (arith, nat_tests)

-- a number ties with itself
pub alike : (x : ℕ) → eq_by_cmp nat_cmp x x ≡ true
alike x = grind (arith, nat_tests)

-- no node before the first flag is in the set
pub contains-flagged_before : (n : ℕ) (flags : List Bool) (q : ℕ) → q < n → set.contains (flagged n flags) q ≡ false
unfolding flagged
contains-flagged_before n [] q h = set.contains-empty nat_cmp q
contains-flagged_before n (true ∷ flags) q h =
    let other : q ≡ n → ⊥ = omega arith in
    set.contains-insert nat_cmp_total (flagged (suc n) flags) n q
    ∙ (λ i. apart q n other i || contains-flagged_before (suc n) flags q (omega arith) i)
contains-flagged_before n (false ∷ flags) q h = contains-flagged_before (suc n) flags q (omega arith)

-- a node is in the set exactly where its flag is up
contains-flagged_from : (n : ℕ) (flags : List Bool) (k q : ℕ) → q ≡ n + k → set.contains (flagged n flags) q ≡ get_or flags k false
unfolding flagged
contains-flagged_from n [] k q e = set.contains-empty nat_cmp q
contains-flagged_from n (true ∷ flags) zero q e =
    let here : q ≡ n = omega arith in
    set.contains-insert nat_cmp_total (flagged (suc n) flags) n q
    ∙ ap (λ b. b || set.contains (flagged (suc n) flags) q) (ap (λ x. eq_by_cmp nat_cmp x n) here ∙ alike n)
contains-flagged_from n (false ∷ flags) zero q e = contains-flagged_before (suc n) flags q (omega arith)
contains-flagged_from n (true ∷ flags) (suc k) q e =
    let other : q ≡ n → ⊥ = omega arith in
    set.contains-insert nat_cmp_total (flagged (suc n) flags) n q
    ∙ (λ i. apart q n other i || contains-flagged_from (suc n) flags k q (omega arith) i)
contains-flagged_from n (false ∷ flags) (suc k) q e = contains-flagged_from (suc n) flags k q (omega arith)

-- a node is in the set exactly where its flag is up
pub contains-flagged : (flags : List Bool) (q : ℕ) → set.contains (flagged 0 flags) q ≡ get_or flags q false
contains-flagged flags q = contains-flagged_from 0 flags q q (omega arith)

-- the flags of a set are those that it was made of
pub flags_of-tells : (n : ℕ) (flags : List Bool) (nodes : Nodes) → ((k : ℕ) → set.contains nodes (n + k) ≡ get_or flags k false) → flags_of n (length flags) nodes ≡ flags
unfolding flags_of
flags_of-tells n [] nodes h = refl
flags_of-tells n (up ∷ flags) nodes h =
    let first : set.contains nodes n ≡ up = ap (set.contains nodes) (omega arith) ∙ h 0 in
    let rest : flags_of (suc n) (length flags) nodes ≡ flags =
    flags_of-tells (suc n) flags nodes (λ k. ap (set.contains nodes) (omega arith) ∙ h (suc k)) in
    λ i. first i ∷ rest i
