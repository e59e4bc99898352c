-- The segments are looked at in their order.
use Rattle.std.proofs.Common.{◌≤◌, ◌<◌, arith, ap, sym, ◌∙◌}
use Rattle.cluster_model.specs.State.{Holding}
use Rattle.cluster_store.specs.Receivers.{is_copied}
use Rattle.cluster_store.proofs.Searches.{row_all, row_fails, row_passes}
use Rattle.cluster_store.proofs.store.Store.all_copied.Goals as goal

pub returns-then-not-is_copied : goal.returns-then-not-is_copied
returns-then-not-is_copied c =
    let st = c.args.self.now in
    let within : c.loop-number.number < st.config.segments = omega (arith, c.loop-number-test.true, ap (λ (x : Holding). x.config.segments) c.self.view_is) in
    sym (row_fails (is_copied st) st.config.segments c.loop-number.number within (ap (is_copied st) (sym c.new.ensures) ∙ sym c.if-not-is_copied.ensures)) ∙ c.loop-number.invariant

pub loop-number-preserved : goal.loop-number-preserved
loop-number-preserved c =
    let st = c.args.self.now in
    let within : c.loop-number.number < st.config.segments = omega (arith, c.loop-number-test.true, ap (λ (x : Holding). x.config.segments) c.self.view_is) in
    sym (row_passes (is_copied st) st.config.segments c.loop-number.number within (ap (is_copied st) (sym c.new.ensures) ∙ sym c.if-not-is_copied.ensures)) ∙ c.loop-number.invariant

pub returns : goal.returns
returns c =
    let st = c.args.self.now in
    let past : st.config.segments ≤ c.loop-number.number = omega (arith, c.loop-number-test.false, ap (λ (x : Holding). x.config.segments) c.self.view_is) in
    sym (row_all (is_copied st) st.config.segments c.loop-number.number past) ∙ c.loop-number.invariant
