use Rattle.std.proofs.Common.{◌≡◌, ◌<◌, ◌≤◌, length, sym, ap, arith, ◌∙◌}
use Rattle.std.specs.FinMap as map
use Rattle.container_seg.specs.Contents.{Contents, place}
use Rattle.container_seg.specs.Lifespans.{left}
use Rattle.container_seg.specs.Stored.{part_at, left_of}
use Rattle.container_seg.proofs.StoredLaws as laws
use Rattle.container_seg.proofs.container.Container.remove.Goals as goal

pub returns-then-at-len-clause-before : goal.returns-then-at-len-clause-before
returns-then-at-len-clause-before c =
    let past : length c.self.inside.segments.items ≤ c.args.segment = omega arith in
    sym (laws.left_past c.self.inside.clock c.self.inside.segments.items c.args.segment c.args.key.now past)
    ∙ ap (λ (x : Contents). map.get x.entries (place c.args.segment c.args.key.now)) c.self.view_is

pub returns-then-at-len-clause-rest : goal.returns-then-at-len-clause-rest
returns-then-at-len-clause-rest c =
    let clock = c.self.inside.clock in
    let parts = c.self.inside.segments.items in
    let past : length parts ≤ c.args.segment = omega arith in
    sym c.self.view_is
    ∙ (λ i. record { node = c.self.inside.node; clock = clock; entries = laws.left_removed_past clock parts c.args.segment c.args.key.now past i })
    ∙ ap (λ (x : Contents). record { node = x.node; clock = x.clock; entries = map.remove x.entries (place c.args.segment c.args.key.now) }) c.self.view_is

pub returns-clause-before : goal.returns-clause-before
returns-clause-before c =
    let clock = c.self.inside.clock in
    let parts = c.self.inside.segments.items in
    let at : c.from-at.result ≡ c.args.segment = c.from-at.ensures ∙ c.number.ensures in
    c.left.ensures
    ∙ ap (left clock) c.remove_in-before.ensures.before
    ∙ ap (λ s. left clock (map.get (part_at parts s) c.args.key.now)) at
    ∙ sym (laws.get-left_of clock parts c.args.segment c.args.key.now)
    ∙ ap (λ (x : Contents). map.get x.entries (place c.args.segment c.args.key.now)) c.self.view_is

pub returns-clause-rest : goal.returns-clause-rest
returns-clause-rest c =
    let clock = c.self.inside.clock in
    let parts = c.self.inside.segments.items in
    let at : c.from-at.result ≡ c.args.segment = c.from-at.ensures ∙ c.number.ensures in
    let within : c.from-at.result < length parts = omega arith in
    let removed = ap (left_of clock) c.remove_in-before.ensures.rest ∙ laws.left_remove clock parts c.from-at.result c.args.key.now within ∙ ap (λ s. map.remove (left_of clock parts) (place s c.args.key.now)) at in
    (λ i. record { node = c.self.inside.node; clock = clock; entries = removed i })
    ∙ ap (λ (x : Contents). record { node = x.node; clock = x.clock; entries = map.remove x.entries (place c.args.segment c.args.key.now) }) c.self.view_is
