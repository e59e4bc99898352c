use Rattle.std.proofs.Common.{ℕ, ◌≤◌, length, subst, sym}
use Rattle.topology_phase.specs.Owners.{joined, owners_at}
use Rattle.hash_factory.proofs.Made.{union_short}
use Rattle.spare_calls.proofs.hashes.united.Goals as goal

pub union-requires-clause-few : goal.union-requires-clause-few
union-requires-clause-few c = λ s.
    subst (λ (n : ℕ). n ≤ 8) (λ i. length (joined (owners_at (sym c.in_ok-first.ensures i) s) (owners_at (sym c.in_ok-second.ensures i) s)))
    (union_short c.args.first c.args.second c.requires.few c.requires.few_more s)
