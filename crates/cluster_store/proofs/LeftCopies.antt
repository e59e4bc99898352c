-- Copies and transfers that leave segment by segment.
use Rattle.std.proofs.Common.{◌≡◌, ℕ, ◌+◌, ◌≤◌, ◌==◌, Bool, true, false, cond, not, ◌&&◌, ◌||◌, nat_lt, List, Option, None, refl, sym, ap, ◌∙◌, inl, inr, arith}
use Rattle.std.proofs.lemmas.Bool.{and_from, cases_eq, cases_lt, eq-eqb, eqb-true, lt-ltb, ne_eqb}
use Rattle.std.proofs.lemmas.Bool.Decides.{nat_tests}
use Rattle.std.specs.FinMap as map_of
use Rattle.grid_base.specs.declared.stamped.Stamped.{Stamped}
use Rattle.state_transfer.specs.Cells.{Cells}
use Rattle.state_transfer.specs.Copying.{Copying, Transfers, copy_at, transfer_to}
use Rattle.state_transfer.specs.Leaving.{drops, forgets}
use Rattle.state_transfer.proofs.CellLaws.{cells_total, destinations_total, exact_cells, exact_destinations}
use Rattle.state_transfer.proofs.LeavingLaws.{copy-drops, copy-forgets, transfer-drops, transfer-forgets}

-- cells with the same copies are the same
same_cells : (a b : Cells) → ((q t : ℕ) (j : List ℕ) → copy_at a q t j ≡ copy_at b q t j) → a ≡ b
same_cells a b h = map_of.same_map cells_total exact_cells a b (λ cell. h cell.node cell.segment cell.key)

-- so are transfers that are the same at each receiver and segment
same_transfers : (a b : Transfers) → ((r s : ℕ) → transfer_to a r s ≡ transfer_to b r s) → a ≡ b
same_transfers a b h = map_of.same_map destinations_total exact_destinations a b (λ d. h d.receiver d.segment)

-- two with the same clock, copies and transfers are the same
same_copying : (a b : Copying) → a.clock ≡ b.clock → ((q t : ℕ) (j : List ℕ) → copy_at a.cells q t j ≡ copy_at b.cells q t j) → ((r s : ℕ) → transfer_to a.transfers r s ≡ transfer_to b.transfers r s) → a ≡ b
same_copying a b clock cells transfers =
    let same = same_cells a.cells b.cells cells in
    let others = same_transfers a.transfers b.transfers transfers in
    λ i. record { clock = clock i; cells = same i; transfers = others i }

-- forgetting leaves the clock
clock_forgotten : (p : ℕ → Bool) (c : Copying) → (forgets p c).clock ≡ c.clock
unfolding forgets
clock_forgotten p c = refl

-- and so does dropping
clock_dropped : (node : ℕ) (p : ℕ → Bool) (c : Copying) → (drops node p c).clock ≡ c.clock
unfolding drops
clock_dropped node p c = refl

-- what isn't to leave stays
stays : {A : Type 0} (b : Bool) (o : Option A) → b ≡ false → cond (not b) o None ≡ o
stays true o e = absurd (cc)
stays false o e = refl

-- what leaves for one of two reasons leaves for either
twice : {A : Type 0} (a b : Bool) (o : Option A) → cond (not b) (cond (not a) o None) None ≡ cond (not (a || b)) o None
twice true true o = refl
twice true false o = refl
twice false b o = refl

-- where no segment passes, nothing is forgotten
pub forgets_none : (p : ℕ → Bool) (c : Copying) → ((s : ℕ) → p s ≡ false) → forgets p c ≡ c
forgets_none p c none =
    same_copying (forgets p c) c (clock_forgotten p c) (λ q t j. copy-forgets p c q t j ∙ stays (p t) (copy_at c.cells q t j) (none t))
    (λ r s. transfer-forgets p c r s ∙ stays (p s) (transfer_to c.transfers r s) (none s))

-- segments are forgotten one after another
forgets_more : (p q r : ℕ → Bool) (c : Copying) → ((s : ℕ) → (p s || q s) ≡ r s) → forgets q (forgets p c) ≡ forgets r c
forgets_more p q r c both =
    same_copying (forgets q (forgets p c)) (forgets r c)
    (clock_forgotten q (forgets p c) ∙ clock_forgotten p c ∙ sym (clock_forgotten r c))
    (λ n t j.
    copy-forgets q (forgets p c) n t j
    ∙ ap (λ o. cond (not (q t)) o None) (copy-forgets p c n t j)
    ∙ twice (p t) (q t) (copy_at c.cells n t j)
    ∙ ap (λ b. cond (not b) (copy_at c.cells n t j) None) (both t)
    ∙ sym (copy-forgets r c n t j))
    (λ n s.
    transfer-forgets q (forgets p c) n s
    ∙ ap (λ o. cond (not (q s)) o None) (transfer-forgets p c n s)
    ∙ twice (p s) (q s) (transfer_to c.transfers n s)
    ∙ ap (λ b. cond (not b) (transfer_to c.transfers n s) None) (both s)
    ∙ sym (transfer-forgets r c n s))

-- the same is forgotten of the same segments
pub forgets_alike : (p q : ℕ → Bool) (c : Copying) → ((s : ℕ) → p s ≡ q s) → forgets p c ≡ forgets q c
forgets_alike p q c same = ap (λ f. forgets f c) (λ i s. same s i)

-- nothing is dropped of no segment
drops_none : (node : ℕ) (p : ℕ → Bool) (c : Copying) → ((s : ℕ) → p s ≡ false) → drops node p c ≡ c
drops_none node p c none =
    same_copying (drops node p c) c (clock_dropped node p c)
    (λ q t j. copy-drops node p c q t j ∙ stays ((q == node) && p t) (copy_at c.cells q t j) (ap (λ b. (q == node) && b) (none t) ∙ no_more (q == node)))
    (λ r s. ap (λ (ts : Transfers). transfer_to ts r s) (transfer-drops node p c))
  where
    no_more : (b : Bool) → (b && false) ≡ false
    no_more true = refl
    no_more false = refl

-- a test joined with either of two is joined with one of them
either_of : (n a b : Bool) → ((n && a) || (n && b)) ≡ (n && (a || b))
either_of true a b = refl
either_of false a b = refl

-- what is dropped of one set of segments, then of another, is dropped of both
drops_more : (node : ℕ) (p q r : ℕ → Bool) (c : Copying) → ((s : ℕ) → (p s || q s) ≡ r s) → drops node q (drops node p c) ≡ drops node r c
drops_more node p q r c both =
    same_copying (drops node q (drops node p c)) (drops node r c)
    (clock_dropped node q (drops node p c) ∙ clock_dropped node p c ∙ sym (clock_dropped node r c))
    (λ n t j.
    copy-drops node q (drops node p c) n t j
    ∙ ap (λ o. cond (not ((n == node) && q t)) o None) (copy-drops node p c n t j)
    ∙ twice ((n == node) && p t) ((n == node) && q t) (copy_at c.cells n t j)
    ∙ ap (λ b. cond (not b) (copy_at c.cells n t j) None) (either_of (n == node) (p t) (q t) ∙ ap (λ b. (n == node) && b) (both t))
    ∙ sym (copy-drops node r c n t j))
    (λ n s.
    ap (λ (ts : Transfers). transfer_to ts n s) (transfer-drops node q (drops node p c) ∙ transfer-drops node p c ∙ sym (transfer-drops node r c)))

-- a test of the numbers below a bound
abbrev pub below : ℕ → (ℕ → Bool) → ℕ → Bool
below n p s = nat_lt s n && p s

-- no segment is below 0
none_below : (p : ℕ → Bool) (s : ℕ) → below 0 p s ≡ false
none_below p s = ap (λ b. b && p s) (past s)
  where
    past : (s : ℕ) → nat_lt s 0 ≡ false
    past s = grind (arith, nat_tests)

-- the next number is within the next bound
within_next : (s n : ℕ) → s ≡ n → nat_lt s (n + 1) ≡ true
within_next s n same = grind (arith, nat_tests)

-- another number is within the next bound where it was within this one
within_other : (s n : ℕ) → (s ≡ n → ⊥) → nat_lt s n ≡ nat_lt s (n + 1)
within_other s n differ = grind (arith, nat_tests)

-- one of two tests passes where the second does
or_true : (b : Bool) → (b || true) ≡ true
or_true true = refl
or_true false = refl

-- a test or one that fails is the test
or_none : (b : Bool) → (b || false) ≡ b
or_none true = refl
or_none false = refl

-- a test and one that fails, together, fail
and_none : (b : Bool) → (b && false) ≡ false
and_none true = refl
and_none false = refl

-- with one number more, where that passes
below_one : (p : ℕ → Bool) (n s : ℕ) → p n ≡ true → (below n p s || (s == n)) ≡ below (n + 1) p s
below_one p n s passes = elim (cases_eq s n) [
  | inl same ↦
      ap (λ b. below n p s || b) (eq-eqb s n same)
      ∙ or_true (below n p s)
      ∙ sym (and_from (nat_lt s (n + 1)) (p s) (within_next s n same) (ap p same ∙ passes))
  | inr differ ↦ ap (λ b. below n p s || b) (ne_eqb s n differ) ∙ or_none (below n p s) ∙ ap (λ b. b && p s) (within_other s n differ)
]

-- and where it fails
below_skip : (p : ℕ → Bool) (n s : ℕ) → p n ≡ false → below n p s ≡ below (n + 1) p s
below_skip p n s fails = elim (cases_eq s n) [
  | inl same ↦
      let no_more : p s ≡ false = ap p same ∙ fails in
      ap (λ b. nat_lt s n && b) no_more ∙ and_none (nat_lt s n) ∙ sym (ap (λ b. nat_lt s (n + 1) && b) no_more ∙ and_none (nat_lt s (n + 1)))
  | inr differ ↦ ap (λ b. b && p s) (within_other s n differ)
]

-- all below a bound are all where none from the bound on passes
all_below : (p : ℕ → Bool) (n s : ℕ) → ((k : ℕ) → n ≤ k → p k ≡ false) → below n p s ≡ p s
all_below p n s none = elim (cases_lt s n) [
  | inl within ↦ ap (λ b. b && p s) (lt-ltb s n within)
  | inr past ↦ ap (λ b. nat_lt s n && b) (none s past) ∙ and_none (nat_lt s n) ∙ sym (none s past)
]

-- ---- the segments of a set that are forgotten so far

-- before the first segment nothing is forgotten
pub forgets_first : (p : ℕ → Bool) (c : Copying) → c ≡ forgets (below 0 p) c
forgets_first p c = sym (forgets_none (below 0 p) c (none_below p))

-- a segment that is to be forgotten is the next one forgotten
pub forgets_next : (p : ℕ → Bool) (n : ℕ) (c : Copying) → p n ≡ true → forgets (λ s. s == n) (forgets (below n p) c) ≡ forgets (below (n + 1) p) c
forgets_next p n c passes = forgets_more (below n p) (λ s. s == n) (below (n + 1) p) c (λ s. below_one p n s passes)

-- one that isn't is passed over
pub forgets_skip : (p : ℕ → Bool) (n : ℕ) (c : Copying) → p n ≡ false → forgets (below n p) c ≡ forgets (below (n + 1) p) c
forgets_skip p n c fails = forgets_alike (below n p) (below (n + 1) p) c (λ s. below_skip p n s fails)

-- behind the last segment all is forgotten that is to be
pub forgets_all : (p : ℕ → Bool) (n : ℕ) (c : Copying) → ((k : ℕ) → n ≤ k → p k ≡ false) → forgets (below n p) c ≡ forgets p c
forgets_all p n c none = forgets_alike (below n p) p c (λ s. all_below p n s none)

-- ---- the segments that a node drops so far

-- before the first segment nothing is dropped
pub drops_first : (node : ℕ) (p : ℕ → Bool) (c : Copying) → c ≡ drops node (below 0 p) c
drops_first node p c = sym (drops_none node (below 0 p) c (none_below p))

-- a segment that is to be dropped is the next one dropped
pub drops_next : (node : ℕ) (p : ℕ → Bool) (n : ℕ) (c : Copying) → p n ≡ true → drops node (λ s. s == n) (drops node (below n p) c) ≡ drops node (below (n + 1) p) c
drops_next node p n c passes = drops_more node (below n p) (λ s. s == n) (below (n + 1) p) c (λ s. below_one p n s passes)

-- one that isn't is passed over
pub drops_skip : (node : ℕ) (p : ℕ → Bool) (n : ℕ) (c : Copying) → p n ≡ false → drops node (below n p) c ≡ drops node (below (n + 1) p) c
drops_skip node p n c fails = ap (λ f. drops node f c) (λ i s. below_skip p n s fails i)

-- where the node has no copies from a bound on, only those below it are dropped
pub drops_within : (node : ℕ) (p : ℕ → Bool) (n : ℕ) (c : Copying) → ((s : ℕ) (j : List ℕ) → n ≤ s → copy_at c.cells node s j ≡ None) → drops node (below n p) c ≡ drops node p c
drops_within node p n c none =
    same_copying (drops node (below n p) c) (drops node p c) (clock_dropped node (below n p) c ∙ sym (clock_dropped node p c))
    (λ q t j.
    copy-drops node (below n p) c q t j
    ∙ elim (cases_lt t n) [
      | inl within ↦ ap (λ b. cond (not ((q == node) && (b && p t))) (copy_at c.cells q t j) None) (lt-ltb t n within)
      | inr past ↦ either_way (q == node) (below n p t) (p t) (copy_at c.cells q t j) (λ same. ap (λ m. copy_at c.cells m t j) (eqb-true q node same) ∙ none t j past)
    ]
    ∙ sym (copy-drops node p c q t j))
    (λ r s. ap (λ (ts : Transfers). transfer_to ts r s) (transfer-drops node (below n p) c ∙ sym (transfer-drops node p c)))
  where
    both_none : (b : Bool) → cond {A = Option Stamped} (not b) None None ≡ None
    both_none true = refl
    both_none false = refl

    either_way : (a b d : Bool) (o : Option Stamped) → (a ≡ true → o ≡ None) → cond (not (a && b)) o None ≡ cond (not (a && d)) o None
    either_way true b d o none = ap (λ x. cond (not b) x None) (none refl) ∙ both_none b ∙ sym (ap (λ x. cond (not d) x None) (none refl) ∙ both_none d)
    either_way false b d o none = refl
