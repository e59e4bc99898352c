use Rattle.std.proofs.Common.{◌≤◌, ap, arith, ◌∙◌}
use Rattle.std.specs.FinMap as map
use Rattle.container_seg.specs.Contents.{Contents}
use Rattle.container_seg.specs.Lifespans.{is_fresh}
use Rattle.container_seg.proofs.StoredLaws as laws
use Rattle.container_seg.proofs.container.Container.tick.Goals as goal

pub returns : goal.returns
returns c =
    let clock = c.self.inside.clock in
    let parts = c.self.inside.segments.items in
    let later = c.args.clock in
    let rises : clock ≤ later = omega (arith, ap (λ (x : Contents). x.clock) c.self.view_is, c.requires) in
    (λ i. record { node = c.self.inside.node; clock = later; entries = (c.purge.ensures ∙ laws.left_ticked clock later parts rises) i })
    ∙ ap (λ (x : Contents). record { node = x.node; clock = later; entries = map.retain_keys x.entries (λ p. is_fresh later (map.get x.entries p)) }) c.self.view_is
