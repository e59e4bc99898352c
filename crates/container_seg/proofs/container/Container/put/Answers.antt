use Rattle.std.proofs.Common.{◌≡◌, ◌<◌, true, length, sym, ap, arith, ◌∙◌}
use Rattle.std.specs.FinMap as map
use Rattle.container_seg.specs.Contents.{Contents, place}
use Rattle.container_seg.specs.Lifespans.{left, outlasts}
use Rattle.container_seg.specs.Places.{key_cmp}
use Rattle.container_seg.specs.Stored.{part_at, left_of}
use Rattle.container_seg.proofs.Trees.{on_err}
use Rattle.container_seg.proofs.StoredLaws as laws
use Rattle.container_seg.proofs.container.Container.put.Goals as goal

pub returns-in_err-grow-clause-err : goal.returns-in_err-grow-clause-err
returns-in_err-grow-clause-err c =
    let clock = c.self.inside.clock in
    let parts = c.self.inside.segments.items in
    on_err c.from_residual.result
    ((λ i. record { node = c.self.inside.node; clock = clock; entries = laws.left_alike clock parts c.grow.new.segments.items c.in_err-grow.ensures.alike i }) ∙ c.self.view_is)

pub returns-in_err-grow-clause-absent : goal.returns-in_err-grow-clause-absent
returns-in_err-grow-clause-absent c =
    let clock = c.self.inside.clock in
    let parts = c.self.inside.segments.items in
    let at : c.from-at.result ≡ c.args.segment = c.from-at.ensures ∙ c.number.ensures in
    on_err c.from_residual.result
    (ap (λ (x : Contents). map.get x.entries (place c.args.segment c.args.key)) (sym c.self.view_is)
    ∙ laws.get-left_of clock parts c.args.segment c.args.key
    ∙ ap (λ p. left clock (map.get p c.args.key)) (ap (part_at parts) (sym at) ∙ c.in_err-grow.ensures.err)
    ∙ ap (left clock) (map.get-empty key_cmp c.args.key))

pub returns-in_err-before-clause-err : goal.returns-in_err-before-clause-err
returns-in_err-before-clause-err c =
    let clock = c.self.inside.clock in
    let parts = c.self.inside.segments.items in
    let same = ap (left_of clock) c.in_err-before.ensures.err ∙ laws.left_alike clock parts c.grow.new.segments.items c.in_ok-grow.ensures.alike in
    on_err c.from_residual-in_err-before.result ((λ i. record { node = c.self.inside.node; clock = clock; entries = same i }) ∙ c.self.view_is)

pub returns-in_err-before-clause-absent : goal.returns-in_err-before-clause-absent
returns-in_err-before-clause-absent c =
    let clock = c.self.inside.clock in
    let parts = c.self.inside.segments.items in
    let at : c.from-at.result ≡ c.args.segment = c.from-at.ensures ∙ c.number.ensures in
    on_err c.from_residual-in_err-before.result
    (ap (λ (x : Contents). map.get x.entries (place c.args.segment c.args.key)) (sym c.self.view_is)
    ∙ laws.get-left_of clock parts c.args.segment c.args.key
    ∙ ap (λ p. left clock (map.get p c.args.key)) (ap (part_at parts) (sym at) ∙ sym (c.in_ok-grow.ensures.alike c.from-at.result))
    ∙ ap (left clock) c.in_err-before.ensures.absent)

pub returns-clause-before : goal.returns-clause-before
returns-clause-before c =
    let clock = c.self.inside.clock in
    let parts = c.self.inside.segments.items in
    let at : c.from-at.result ≡ c.args.segment = c.from-at.ensures ∙ c.number.ensures in
    c.left.ensures
    ∙ ap (left clock) c.in_ok-before.ensures.before
    ∙ ap (λ p. left clock (map.get p c.args.key)) (c.in_ok-grow.ensures.alike c.from-at.result ∙ ap (part_at parts) at)
    ∙ sym (laws.get-left_of clock parts c.args.segment c.args.key)
    ∙ ap (λ (x : Contents). map.get x.entries (place c.args.segment c.args.key)) c.self.view_is

pub returns-clause-ok : goal.returns-clause-ok
returns-clause-ok c =
    let clock = c.self.inside.clock in
    let parts = c.self.inside.segments.items in
    let grown = c.grow.new.segments.items in
    let at : c.from-at.result ≡ c.args.segment = c.from-at.ensures ∙ c.number.ensures in
    let within : c.from-at.result < length grown = omega (arith, c.in_ok-grow.ensures.ok) in
    let lasts : outlasts clock c.args.stamped.until ≡ true = ap (λ (x : Contents). outlasts x.clock c.args.stamped.until) c.self.view_is ∙ c.requires in
    let put = ap (left_of clock) c.in_ok-before.ensures.ok
    ∙ laws.left_insert clock grown c.from-at.result c.args.key within c.args.stamped lasts
    ∙ (λ i. map.insert (laws.left_alike clock parts grown c.in_ok-grow.ensures.alike i) (place (at i) c.args.key) c.args.stamped) in
    (λ i. record { node = c.self.inside.node; clock = clock; entries = put i })
    ∙ ap (λ (x : Contents). record { node = x.node; clock = x.clock; entries = map.insert x.entries (place c.args.segment c.args.key) c.args.stamped }) c.self.view_is
