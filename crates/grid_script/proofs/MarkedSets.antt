-- What a set has that is held as one mark a number, and how a mark changes it.
use Rattle.std.proofs.Common.{◌≡◌, ◌≢◌, ℕ, suc, zero, ◌+◌, ◌<◌, ◌≤◌, Bool, true, false, cond, ◌||◌, List, [], ◌∷◌, length, get_or, set, arith, refl, sym, ap, ◌∙◌}
use Rattle.std.proofs.lemmas.Bool.{ne_eqb, eq-eqb, cases_eq}
use Rattle.std.proofs.Common.{inl, inr}
use Rattle.std.proofs.lemmas.List.{get_or-set_same, get_or-set_other}
use Rattle.std.specs.Ordering.{nat_cmp, eq_by_cmp}
use Rattle.std.specs.Cmp.{unsigned_tied, nat_cmp_total}
use Rattle.std.specs.FinSet as sets
use Rattle.std.specs.FinSet.{nat_cmp-IsAntisymmetric}
use Rattle.grid_script.specs.Marked.{marked_from}

-- two numbers that differ don't tie
pub apart : (a b : ℕ) → a ≢ b → eq_by_cmp nat_cmp a b ≡ false
apart a b h = unsigned_tied a b ∙ ne_eqb a b h

-- two numbers that are equal tie
pub together : (a b : ℕ) → a ≡ b → eq_by_cmp nat_cmp a b ≡ true
together a b h = unsigned_tied a b ∙ eq-eqb a b h

-- a set has no number below that of its first mark
none_below : (n : ℕ) (marks : List Bool) (q : ℕ) → q < n → sets.contains (marked_from n marks) q ≡ false
none_below n [] q h = sets.contains-empty nat_cmp q
none_below n (false ∷ marks) q h = none_below (suc n) marks q (omega arith)
none_below n (true ∷ marks) q h =
    let differ : q ≢ n = omega arith in
    sets.contains-insert nat_cmp_total (marked_from (suc n) marks) n q ∙ ap (λ b. b || sets.contains (marked_from (suc n) marks) q) (apart q n differ) ∙ none_below (suc n) marks q (omega arith)

-- whether a set has a number is the mark of that number
has_mark : (n : ℕ) (marks : List Bool) (j q : ℕ) → q ≡ n + j → sets.contains (marked_from n marks) q ≡ get_or marks j false
has_mark n [] j q e = sets.contains-empty nat_cmp q
has_mark n (false ∷ marks) zero q e = none_below (suc n) marks q (omega arith)
has_mark n (false ∷ marks) (suc j) q e = has_mark (suc n) marks j q (omega arith)
has_mark n (true ∷ marks) zero q e =
    let same : q ≡ n = omega arith in
    sets.contains-insert nat_cmp_total (marked_from (suc n) marks) n q ∙ ap (λ b. b || sets.contains (marked_from (suc n) marks) q) (together q n same)
has_mark n (true ∷ marks) (suc j) q e =
    let differ : q ≢ n = omega arith in
    sets.contains-insert nat_cmp_total (marked_from (suc n) marks) n q ∙ ap (λ b. b || sets.contains (marked_from (suc n) marks) q) (apart q n differ) ∙ has_mark (suc n) marks j q (omega arith)

-- whether a set has a number is the mark of that number, where the first mark is that of 0
pub contains-marked : (marks : List Bool) (q : ℕ) → sets.contains (marked_from 0 marks) q ≡ get_or marks q false
contains-marked marks q = has_mark 0 marks q q (omega arith)

-- one mark, once it is set to b
marked_at : (marks : List Bool) (k : ℕ) (b : Bool) (q : ℕ) → k < length marks → get_or (set marks k b) q false ≡ cond (eq_by_cmp nat_cmp q k) b (get_or marks q false)
marked_at marks k b q h = elim (cases_eq q k) [
  | inl same ↦ ap (λ j. get_or (set marks k b) j false) same ∙ get_or-set_same marks k b false h ∙ ap (λ t. cond t b (get_or marks q false)) (sym (together q k same))
  | inr differ ↦ get_or-set_other marks k q b false differ ∙ ap (λ t. cond t b (get_or marks q false)) (sym (apart q k differ))
]

-- a choice between true and a test is either
chosen_or : (t x : Bool) → cond t true x ≡ (t || x)
chosen_or true x = refl
chosen_or false x = refl

-- a mark that is set puts its number into the set
pub marked-add : (marks : List Bool) (k : ℕ) → k < length marks → marked_from 0 (set marks k true) ≡ sets.insert (marked_from 0 marks) k
marked-add marks k h =
    sets.same_set nat_cmp_total nat_cmp-IsAntisymmetric _ _
    (λ q. contains-marked (set marks k true) q ∙ marked_at marks k true q h ∙ chosen_or (eq_by_cmp nat_cmp q k) (get_or marks q false) ∙ ap (λ x. eq_by_cmp nat_cmp q k || x) (sym (contains-marked marks q)) ∙ sym (sets.contains-insert nat_cmp_total (marked_from 0 marks) k q))

-- the same of a set that is known to be held so
pub mark_of : (marks : List Bool) (s : sets.FinSet nat_cmp) (q : ℕ) → marked_from 0 marks ≡ s → sets.contains s q ≡ get_or marks q false
mark_of marks s q e = ap (λ t. sets.contains t q) (sym e) ∙ contains-marked marks q
