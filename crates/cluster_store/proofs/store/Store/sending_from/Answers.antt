-- The segments are looked at in their order.
use Rattle.std.proofs.Common.{◌≡◌, ℕ, Option, Some, None, false, is_some, inl, inr, arith, ap, refl, sym, ◌∙◌}
use Rattle.std.proofs.lemmas.Bool.{cases_eq}
use Rattle.cluster_store.specs.Sending.{sender}
use Rattle.cluster_store.proofs.store.Store.sending_from.Goals as goal

none_of : (found : Option ℕ) → is_some found ≡ false → found ≡ None
none_of None e = refl
none_of (Some q) e = absurd (cc)

pub loop-number-init : goal.loop-number-init
loop-number-init c s from before = absurd (omega (arith, from, before))

pub loop-number-preserved : goal.loop-number-preserved
loop-number-preserved c s from before = elim (cases_eq s c.loop-number.number) [
  | inl same ↦
      ap (sender c.args.self.now c.args.receiver) (same ∙ sym c.new.ensures)
      ∙ none_of (sender c.args.self.now c.args.receiver c.new.result) (sym (c.if-is_some.ensures ∙ ap is_some c.sender.ensures))
  | inr differ ↦ c.loop-number.invariant s from (omega (arith, before, differ))
]

pub returns-then-is_some : goal.returns-then-is_some
returns-then-is_some c s from before = c.loop-number.invariant s from before

pub returns : goal.returns
returns c s from before = c.loop-number.invariant s from (omega (arith, before, c.loop-number-test.false))
