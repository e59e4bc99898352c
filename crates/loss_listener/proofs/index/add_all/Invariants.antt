use Rattle.std.proofs.Common.{◌≡◌, ℕ, ◌||◌, nat_cmp}
use Rattle.std.specs.BTreeMap.{is_at}
use Rattle.std.specs.BTreeSet.{contains}
use Rattle.std.specs.List.{list_any}
use Rattle.loss_listener.specs.Index.{lent_has}
use Rattle.loss_listener.proofs.index.add_all.Given as goal

abbrev pub invariant-loop-unit : goal.invariant-loop-unit
invariant-loop-unit l = (u : ℕ) → (contains nat_cmp l.found u || list_any (is_at (nat_cmp u)) l.unit-iterator) ≡ (contains nat_cmp l.fn.found u || lent_has l.units u)
