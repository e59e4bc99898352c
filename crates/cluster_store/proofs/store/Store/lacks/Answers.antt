-- One segment whose receivers lack copies is enough.
use Rattle.std.proofs.Common.{◌≡◌, ◌<◌, Bool, true, false, not, arith, ap, sym, ◌∙◌, refl}
use Rattle.cluster_model.specs.State.{Holding}
use Rattle.cluster_store.specs.Receivers.{is_copied}
use Rattle.cluster_store.proofs.Searches.{row_lacks}
use Rattle.cluster_store.proofs.store.Store.lacks.Goals as goal

-- a test fails whose negation passes
fails : (b : Bool) → not b ≡ true → b ≡ false
fails true e = sym e
fails false e = refl

pub returns-then-number-self : goal.returns-then-number-self
returns-then-number-self c lacks =
    let st = c.args.self.now in
    let within : c.args.segment < st.config.segments = omega (arith, c.number.ensures, c.if-number-self.true, ap (λ (x : Holding). x.config.segments) c.self.view_is) in
    row_lacks (is_copied st) st.config.segments c.args.segment within (sym c.is_copied.ensures ∙ fails c.is_copied.result lacks)
