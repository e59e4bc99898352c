use Rattle.std.proofs.Common.{◌≡◌, ◌<◌, ◌≤◌, ◌==◌, not, length, sym, ap, arith, ◌∙◌}
use Rattle.std.specs.FinMap as map
use Rattle.container_seg.specs.Contents.{Contents}
use Rattle.container_seg.specs.Stored.{left_of}
use Rattle.container_seg.proofs.StoredLaws as laws
use Rattle.container_seg.proofs.container.Container.drop_segment.Goals as goal

pub returns-then-at-len : goal.returns-then-at-len
returns-then-at-len c =
    let clock = c.self.inside.clock in
    let parts = c.self.inside.segments.items in
    let past : length parts ≤ c.args.segment = omega arith in
    sym c.self.view_is
    ∙ (λ i. record { node = c.self.inside.node; clock = clock; entries = laws.left_dropped_past clock parts c.args.segment past i })
    ∙ ap (λ (x : Contents). record { node = x.node; clock = x.clock; entries = map.retain_keys x.entries (λ p. not (p.segment == c.args.segment)) }) c.self.view_is

pub returns : goal.returns
returns c =
    let clock = c.self.inside.clock in
    let parts = c.self.inside.segments.items in
    let at : c.from-at.result ≡ c.args.segment = c.from-at.ensures ∙ c.number.ensures in
    let within : c.from-at.result < length parts = omega arith in
    let dropped = ap (left_of clock) c.clear_in.ensures ∙ laws.left_dropped clock parts c.from-at.result within ∙ ap (λ s. map.retain_keys (left_of clock parts) (λ p. not (p.segment == s))) at in
    (λ i. record { node = c.self.inside.node; clock = clock; entries = dropped i })
    ∙ ap (λ (x : Contents). record { node = x.node; clock = x.clock; entries = map.retain_keys x.entries (λ p. not (p.segment == c.args.segment)) }) c.self.view_is
