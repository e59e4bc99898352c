use Rattle.std.proofs.Common.{sym, ◌∙◌, ap}
use Rattle.seen_keys.specs.Passed.{has_passed}
use Rattle.seen_keys.proofs.PlaceLemmas.{with_key-known}
use Rattle.seen_keys.proofs.seen.Seen.pass.Goals as goal

pub returns-then-holds-clause-ok : goal.returns-then-holds-clause-ok
returns-then-holds-clause-ok c =
    sym
    (with_key-known c.args.self.now c.args.segment c.args.key.now
    (ap (λ p. has_passed p c.args.segment c.args.key.now) (sym c.self.view_is) ∙ sym c.holds.ensures ∙ c.if-holds.true))
