-- What leaves, and what stays.
use Rattle.std.proofs.Common.{◌≡◌, ℕ, Bool, true, false, cond, not, ◌&&◌, ◌==◌, List, Option, None, refl, ap, ◌∙◌}
use Rattle.grid_base.specs.declared.stamped.Stamped.{Stamped}
use Rattle.state_transfer.specs.Cells.{Cells}
use Rattle.state_transfer.specs.Copying.{Copying, Transfer, Transfers, copy_at, transfer_to}
use Rattle.state_transfer.specs.Leaving.{cancels, closes, drops, forgets, outlives, restarts}
use Rattle.state_transfer.proofs.CellLaws.{copy-kept, transfer-kept, transfer-none}

-- a node drops its copies of some segments
pub copy-drops : (node : ℕ) (test : ℕ → Bool) (p : Copying) (q t : ℕ) (j : List ℕ) → copy_at (drops node test p).cells q t j ≡ cond (not ((q == node) && test t)) (copy_at p.cells q t j) None
unfolding drops
copy-drops node test p q t j = copy-kept p.cells (λ c. not ((c.node == node) && test c.segment)) q t j

-- no transfer goes with a drop
pub transfer-drops : (node : ℕ) (test : ℕ → Bool) (p : Copying) → (drops node test p).transfers ≡ p.transfers
unfolding drops
transfer-drops node test p = refl

-- some segments are forgotten
pub copy-forgets : (test : ℕ → Bool) (p : Copying) (q t : ℕ) (j : List ℕ) → copy_at (forgets test p).cells q t j ≡ cond (not (test t)) (copy_at p.cells q t j) None
unfolding forgets
copy-forgets test p q t j = copy-kept p.cells (λ c. not (test c.segment)) q t j

-- with the transfers of them
pub transfer-forgets : (test : ℕ → Bool) (p : Copying) (r s : ℕ) → transfer_to (forgets test p).transfers r s ≡ cond (not (test s)) (transfer_to p.transfers r s) None
unfolding forgets
transfer-forgets test p r s = transfer-kept p.transfers (λ d. not (test d.segment)) r s

-- what stays of a transfer where a node departs: nothing where the node receives, or provides what hasn't ended
abbrev pub remains : ℕ → ℕ → Option Transfer → Option Transfer
remains node receiver found = cond (outlives node (cond (not (receiver == node)) found None)) (cond (not (receiver == node)) found None) None

-- which transfers are there once those to a node are cancelled
transfer-cancels : (node : ℕ) (p : Copying) (r s : ℕ) → transfer_to (cancels node p).transfers r s ≡ cond (not (r == node)) (transfer_to p.transfers r s) None
unfolding cancels
transfer-cancels node p r s = transfer-kept p.transfers (λ d. not (d.receiver == node)) r s

-- which transfers are there once a provider has restarted
transfer-restarts : (node : ℕ) (p : Copying) (r s : ℕ) → transfer_to (restarts node p).transfers r s ≡ cond (outlives node (transfer_to p.transfers r s)) (transfer_to p.transfers r s) None
unfolding restarts
transfer-restarts node p r s = transfer-kept p.transfers (λ d. outlives node (transfer_to p.transfers d.receiver d.segment)) r s

-- both leave copies as they are
cells-restarts : (node : ℕ) (p : Copying) → (restarts node (cancels node p)).cells ≡ p.cells
unfolding restarts cancels
cells-restarts node p = refl

-- what two tests in turn take away
all_twice : (a b : Bool) (o : Option Stamped) → cond (not (a && true)) (cond (not b) o None) None ≡ cond (not a && not b) o None
all_twice true b o = refl
all_twice false b o = refl

-- a node departs, and some segments are forgotten
pub copy-departs : (node : ℕ) (test : ℕ → Bool) (p : Copying) (q t : ℕ) (j : List ℕ)
    → copy_at (drops node (λ _. true) (forgets test (restarts node (cancels node p)))).cells q t j ≡ cond (not (q == node) && not (test t)) (copy_at p.cells q t j) None
copy-departs node test p q t j =
    copy-drops node (λ _. true) (forgets test (restarts node (cancels node p))) q t j
    ∙ ap (λ o. cond (not ((q == node) && true)) o None) (copy-forgets test (restarts node (cancels node p)) q t j ∙ ap (λ (cells : Cells). cond (not (test t)) (copy_at cells q t j) None) (cells-restarts node p))
    ∙ all_twice (q == node) (test t) (copy_at p.cells q t j)

-- of the transfers, those to and from the node and those of the segments go, but for the ended ones that it provided
pub transfer-departs : (node : ℕ) (test : ℕ → Bool) (p : Copying) (r s : ℕ)
    → transfer_to (drops node (λ _. true) (forgets test (restarts node (cancels node p)))).transfers r s ≡ cond (not (test s)) (remains node r (transfer_to p.transfers r s)) None
transfer-departs node test p r s =
    ap (λ (ts : Transfers). transfer_to ts r s) (transfer-drops node (λ _. true) (forgets test (restarts node (cancels node p))))
    ∙ transfer-forgets test (restarts node (cancels node p)) r s
    ∙ ap (λ o. cond (not (test s)) o None) (transfer-restarts node (cancels node p) r s ∙ ap (λ o. cond (outlives node o) o None) (transfer-cancels node p r s))

-- the clock stays
pub clock-departs : (node : ℕ) (test : ℕ → Bool) (p : Copying) → (drops node (λ _. true) (forgets test (restarts node (cancels node p)))).clock ≡ p.clock
unfolding drops forgets restarts cancels
clock-departs node test p = refl

-- all transfers go
pub cells-closes : (p : Copying) → (closes p).cells ≡ p.cells
unfolding closes
cells-closes p = refl

-- where all transfers go, none is there
pub transfer-closes : (p : Copying) (r s : ℕ) → transfer_to (closes p).transfers r s ≡ None
unfolding closes
transfer-closes p r s = transfer-none r s

-- a drop leaves the clock as it is
pub clock-drops : (node : ℕ) (test : ℕ → Bool) (p : Copying) → (drops node test p).clock ≡ p.clock
unfolding drops
clock-drops node test p = refl

-- and so does closing
pub clock-closes : (p : Copying) → (closes p).clock ≡ p.clock
unfolding closes
clock-closes p = refl
