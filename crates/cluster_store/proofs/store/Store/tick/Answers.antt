-- The clock has gone on.
use Rattle.std.proofs.Common.{◌≡◌, ◌≤◌, ◌+◌, ap, arith}
use Rattle.grid_base.specs.declared.limits.TheConstants.{LAST_CLOCK}
use Rattle.cluster_model.specs.State.{Holding}
use Rattle.cluster_store.proofs.Rows.{tick_fits, tick_row}
use Rattle.cluster_store.proofs.store.Store.tick.Goals as goal

pub overflow_add-clock : goal.overflow_add-clock
overflow_add-clock c =
    let fits : c.args.self.now.copying.clock + c.args.ticks ≤ LAST_CLOCK = tick_fits c.args.self.now c.args.ticks c.requires in
    let clock : c.self.inside.copies.copying.clock ≡ c.args.self.now.copying.clock = ap (λ (st : Holding). st.copying.clock) c.self.view_is in
    omega (arith, fits, clock, c.clock.ensures)

pub invariant_of-self : goal.invariant_of-self
invariant_of-self c =
    (tick_row c.self.inside c.args.self.now c.args.ticks (c.clock.result + c.args.ticks) c.tick.new.self c.self.invariant c.self.view_is c.requires (ap (λ n. n + c.args.ticks) c.clock.ensures) c.tick.ensures).store

pub returns : goal.returns
returns c =
    (tick_row c.self.inside c.args.self.now c.args.ticks (c.clock.result + c.args.ticks) c.tick.new.self c.self.invariant c.self.view_is c.requires (ap (λ n. n + c.args.ticks) c.clock.ensures) c.tick.ensures).seen
