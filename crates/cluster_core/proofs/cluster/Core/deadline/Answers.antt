-- The clock and the longest lifespan fit together.
use Rattle.std.proofs.Common.{◌≡◌, ◌≤◌, ℕ, false, nat_lt, ap, sym, ◌∙◌, arith}
use Rattle.std.proofs.lemmas.Bool.Decides.{nat_tests}
use Rattle.grid_base.specs.declared.limits.TheConstants.{LAST_CLOCK, LONGEST_LIFESPAN}
use Rattle.cluster_core.specs.Lifespans.{is_longer}
use Rattle.cluster_core.proofs.Clocks.{core_clock}
use Rattle.cluster_core.proofs.cluster.Core.deadline.Goals as goal

-- a lifespan that isn't longer than the longest
within_longest : (ticks : ℕ) → nat_lt LONGEST_LIFESPAN ticks ≡ false → ticks ≤ LONGEST_LIFESPAN
within_longest ticks h = grind (arith, nat_tests)

pub overflow_add-result : goal.overflow_add-result
overflow_add-result c =
    let short : c.in-Some.ticks ≤ LONGEST_LIFESPAN = within_longest c.in-Some.ticks (sym (ap is_longer c.in-Some.is) ∙ c.requires) in
    let clock : c.self.inside.store.copying.clock ≤ LAST_CLOCK = core_clock c.self.inside c.self.invariant in
    omega (arith, short, clock, c.clock.ensures)
