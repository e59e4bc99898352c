use Rattle.std.proofs.Common.{◌≡◌, ◌<◌, ◌≤◌, length, sym, ap, arith, ◌∙◌}
use Rattle.std.proofs.lemmas.List.{get_or_default}
use Rattle.std.specs.FinMap as map
use Rattle.container_seg.specs.Contents.{Contents, place}
use Rattle.container_seg.specs.Lifespans.{left}
use Rattle.container_seg.specs.Stored.{part_at}
use Rattle.container_seg.proofs.StoredLaws as laws
use Rattle.container_seg.proofs.container.Container.get.Goals as goal

pub returns-then-at-len : goal.returns-then-at-len
returns-then-at-len c =
    let past : length c.self.inside.segments.items ≤ c.args.segment = omega arith in
    sym (laws.left_past c.self.inside.clock c.self.inside.segments.items c.args.segment c.args.key.now past)
    ∙ ap (λ (x : Contents). map.get x.entries (place c.args.segment c.args.key.now)) c.self.view_is

pub returns : goal.returns
returns c =
    let clock = c.self.inside.clock in
    let parts = c.self.inside.segments.items in
    let at : c.from-at.result ≡ c.args.segment = c.from-at.ensures ∙ c.number.ensures in
    let within : c.from-at.result < length parts = omega arith in
    let here : c.index.result.now ≡ part_at parts c.args.segment =
    c.index.ensures ∙ get_or_default parts c.from-at.result c.index.result.now map.empty within ∙ ap (part_at parts) at in
    c.fresh.ensures
    ∙ ap (λ p. left clock (map.get p c.args.key.now)) here
    ∙ sym (laws.get-left_of clock parts c.args.segment c.args.key.now)
    ∙ ap (λ (x : Contents). map.get x.entries (place c.args.segment c.args.key.now)) c.self.view_is
