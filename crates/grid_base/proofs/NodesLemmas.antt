-- The set of the nodes whose flags are up, as flags change.
use Rattle.std.proofs.Common.{◌≡◌, ℕ, suc, zero, ◌+◌, ◌<◌, ◌≤◌, Bool, true, false, ◌||◌, ◌&&◌, not, cond, List, [], ◌∷◌, length, get_or, set, refl, sym, ◌∙◌, ap, inl, inr, arith, add-zero, add_comm}
use Rattle.std.proofs.Math.ListN.{get_or-eq_default}
use Rattle.std.proofs.lemmas.Bool.{cases_eq, cases_lt}
use Rattle.std.proofs.lemmas.List.{get_or-set_same, get_or-set_other}
use Rattle.std.proofs.lemmas.List.Sums.{sum_by-cons}
use Rattle.std.specs.Cmp.{nat_cmp_total}
use Rattle.std.specs.FinMap.{nat_cmp-IsAntisymmetric}
use Rattle.std.specs.FinSet as sets
use Rattle.std.specs.List.{count_by}
use Rattle.std.specs.Ordering.{nat_cmp, eq_by_cmp}
use Rattle.grid_base.specs.Nodes.{flagged, apart, alike, contains-flagged_before, contains-flagged}

-- a flag that goes up puts its node in
pub flagged-set_true : (flags : List Bool) (n : ℕ) → n < length flags → flagged 0 (set flags n true) ≡ sets.insert (flagged 0 flags) n
flagged-set_true flags n h =
    sets.same_set nat_cmp_total nat_cmp-IsAntisymmetric _ _
    (λ q. contains-flagged (set flags n true) q
    ∙ elim (cases_eq q n) [
      | inl e ↦ ap (λ x. get_or (set flags n true) x false) e
          ∙ get_or-set_same flags n true false h
          ∙ sym (ap (λ b. b || get_or flags q false) (ap (λ x. eq_by_cmp nat_cmp x n) e ∙ alike n))
      | inr other ↦ get_or-set_other flags n q true false other
          ∙ sym (ap (λ b. b || get_or flags q false) (apart q n other))
    ]
    ∙ sym (sets.contains-insert nat_cmp_total (flagged 0 flags) n q ∙ ap (λ b. eq_by_cmp nat_cmp q n || b) (contains-flagged flags q)))

-- a flag that went down is down
get_or-set_false : (flags : List Bool) (n : ℕ) → get_or (set flags n false) n false ≡ false
get_or-set_false [] n = refl
get_or-set_false (up ∷ flags) zero = refl
get_or-set_false (up ∷ flags) (suc n) = get_or-set_false flags n

-- there is nothing to write behind the last flag
set-beyond : (flags : List Bool) (n : ℕ) → length flags ≤ n → set flags n false ≡ flags
set-beyond [] n h = refl
set-beyond (up ∷ flags) zero h = absurd (omega arith)
set-beyond (up ∷ flags) (suc n) h = ap (λ ys. up ∷ ys) (set-beyond flags n (omega arith))

-- a flag that goes down takes its node out
pub flagged-set_false : (flags : List Bool) (n : ℕ) → flagged 0 (set flags n false) ≡ sets.remove (flagged 0 flags) n
flagged-set_false flags n =
    sets.same_set nat_cmp_total nat_cmp-IsAntisymmetric _ _
    (λ q. contains-flagged (set flags n false) q
    ∙ elim (cases_eq q n) [
      | inl e ↦ ap (λ x. get_or (set flags n false) x false) e
          ∙ get_or-set_false flags n
          ∙ sym (ap (λ b. not b && get_or flags q false) (ap (λ x. eq_by_cmp nat_cmp x n) e ∙ alike n))
      | inr other ↦ get_or-set_other flags n q false false other
          ∙ sym (ap (λ b. not b && get_or flags q false) (apart q n other))
    ]
    ∙ sym (sets.contains-remove nat_cmp_total (flagged 0 flags) n q ∙ ap (λ b. not (eq_by_cmp nat_cmp q n) && b) (contains-flagged flags q)))

-- a node that has no flag needn't be taken out
pub flagged-beyond : (flags : List Bool) (n : ℕ) → length flags ≤ n → flagged 0 flags ≡ sets.remove (flagged 0 flags) n
flagged-beyond flags n h = ap (flagged 0) (sym (set-beyond flags n h)) ∙ flagged-set_false flags n

-- one flag more, up or down
count-cons : (up : Bool) (flags : List Bool) → count_by (λ b. b) flags + cond up 1 0 ≡ count_by (λ b. b) (up ∷ flags)
count-cons up flags = add_comm _ _ ∙ sym (sum_by-cons (λ b. cond b 1 0) up flags)

-- a set has as many nodes as flags are up
pub len-flagged : (n : ℕ) (flags : List Bool) → sets.len (flagged n flags) ≡ count_by (λ up. up) flags
unfolding flagged
len-flagged n [] = sets.len-empty nat_cmp
len-flagged n (true ∷ flags) =
    let new : sets.contains (flagged (suc n) flags) n ≡ false = contains-flagged_before (suc n) flags n (omega arith) in
    sets.len-insert nat_cmp_total (flagged (suc n) flags) n
    ∙ ap (λ b. cond b (sets.len (flagged (suc n) flags)) (sets.len (flagged (suc n) flags) + 1)) new
    ∙ ap (λ (k : ℕ). k + 1) (len-flagged (suc n) flags)
    ∙ count-cons true flags
len-flagged n (false ∷ flags) =
    len-flagged (suc n) flags ∙ sym (add-zero (count_by (λ up. up) flags)) ∙ count-cons false flags

-- a set whose flags are all down is empty
pub flagged-empty : (flags : List Bool) (n : ℕ) → length flags ≤ n → ((q : ℕ) → q < n → get_or flags q false ≡ false) → flagged 0 flags ≡ sets.empty
flagged-empty flags n short down =
    sets.same_set nat_cmp_total nat_cmp-IsAntisymmetric _ _
    (λ q. contains-flagged flags q
    ∙ elim (cases_lt q n) [
      | inl h ↦ down q h
      | inr h ↦ get_or-eq_default flags false (omega arith)
    ]
    ∙ sym (sets.contains-empty nat_cmp q))
