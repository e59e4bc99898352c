use Rattle.std.proofs.Common.{◌≡◌, cond, ◌&&◌, ◌==◌, Some, None, sym, subst, ap, ◌∙◌, arith}
use Rattle.std.specs.FinSet as set_of
use Rattle.std.specs.Prelude.{slice_get, slice_set}
use Rattle.cluster_model.specs.State.{Calling, Unit, is_open_unit, is_running, with_loss}
use Rattle.cluster_calls.specs.Calling.{is_one, with_installation}
use Rattle.cluster_calls.specs.Parts.{booking_in}
use Rattle.cluster_calls.proofs.CallsLaws.{read_unit, running_open}
use Rattle.cluster_calls.proofs.ListLaws.{get_within}
use Rattle.cluster_calls.proofs.QueryLaws.{unchanged_at}
use Rattle.cluster_calls.proofs.calls.Calls.cease_one.Goals as goal

pub returns-then-not-is_running : goal.returns-then-not-is_running
returns-then-not-is_running c = λ u g.
    let at : slice_get c.self.inside.units.items c.args.place ≡ Some u = subst (λ (x : Calling). slice_get x.units c.args.place ≡ Some u) (sym c.self.view_is) g in
    let is = read_unit c.self.inside.units.items c.args.place u c.index-unit.result.now at c.index-unit.ensures in
    unchanged_at c.args.self.now c.args.place u (with_installation c.args.node c.args.segments.now c.args.id) g
    (ap (λ b. cond (b && ((u.work.node == c.args.node) && set_of.contains c.args.segments.now u.work.segment)) (with_loss (Some c.args.id) u) u)
    (sym (c.if-not-is_running.ensures ∙ ap (λ (v : Unit). is_running v.work.state) is)))

pub returns-then-not-is_at : goal.returns-then-not-is_at
returns-then-not-is_at c = λ u g.
    let at : slice_get c.self.inside.units.items c.args.place ≡ Some u = subst (λ (x : Calling). slice_get x.units c.args.place ≡ Some u) (sym c.self.view_is) g in
    let is = read_unit c.self.inside.units.items c.args.place u c.index-unit.result.now at c.index-unit.ensures in
    unchanged_at c.args.self.now c.args.place u (with_installation c.args.node c.args.segments.now c.args.id) g
    (ap (λ b. cond (b && ((u.work.node == c.args.node) && set_of.contains c.args.segments.now u.work.segment)) (with_loss (Some c.args.id) u) u)
    (sym (c.if-not-is_running.ensures ∙ ap (λ (v : Unit). is_running v.work.state) is))
    ∙ ap (λ b. cond (b && set_of.contains c.args.segments.now u.work.segment) (with_loss (Some c.args.id) u) u)
    (sym (c.if-not-is_at.ensures ∙ ap (λ (v : Unit). v.work.node == c.args.node) is)))

pub has-requires : goal.has-requires
has-requires c =
    let h = get_within c.args.self.now.units c.args.place c.requires.place in
    let at : slice_get c.self.inside.units.items c.args.place ≡ Some h.0 = subst (λ (x : Calling). slice_get x.units c.args.place ≡ Some h.0) (sym c.self.view_is) h.1 in
    let is = read_unit c.self.inside.units.items c.args.place h.0 c.index-unit.result.now at c.index-unit.ensures in
    let same = c.segment.ensures ∙ ap (λ (v : Unit). v.work.segment) is in
    omega (arith, same, (c.self.invariant.right.placed c.args.place h.0 at).within, c.self.invariant.few_segments)

pub returns-then-not-has : goal.returns-then-not-has
returns-then-not-has c = λ u g.
    let at : slice_get c.self.inside.units.items c.args.place ≡ Some u = subst (λ (x : Calling). slice_get x.units c.args.place ≡ Some u) (sym c.self.view_is) g in
    let is = read_unit c.self.inside.units.items c.args.place u c.index-unit.result.now at c.index-unit.ensures in
    unchanged_at c.args.self.now c.args.place u (with_installation c.args.node c.args.segments.now c.args.id) g
    (ap (λ b. cond (b && ((u.work.node == c.args.node) && set_of.contains c.args.segments.now u.work.segment)) (with_loss (Some c.args.id) u) u)
    (sym (c.if-not-is_running.ensures ∙ ap (λ (v : Unit). is_running v.work.state) is))
    ∙ ap (λ b. cond (b && set_of.contains c.args.segments.now u.work.segment) (with_loss (Some c.args.id) u) u)
    (sym (c.if-not-is_at.ensures ∙ ap (λ (v : Unit). v.work.node == c.args.node) is))
    ∙ ap (λ b. cond b (with_loss (Some c.args.id) u) u)
    (sym (c.if-not-has.ensures ∙ ap (set_of.contains c.args.segments.now) (c.segment.ensures ∙ ap (λ (v : Unit). v.work.segment) is))))

pub lose-requires-clause-open : goal.lose-requires-clause-open
lose-requires-clause-open c =
    let h = get_within c.args.self.now.units c.args.place c.requires.place in
    let at : slice_get c.self.inside.units.items c.args.place ≡ Some h.0 = subst (λ (x : Calling). slice_get x.units c.args.place ≡ Some h.0) (sym c.self.view_is) h.1 in
    let is = read_unit c.self.inside.units.items c.args.place h.0 c.index-unit.result.now at c.index-unit.ensures in
    ap (is_one is_open_unit) h.1 ∙ running_open h.0.work.state (sym (c.if-not-is_running.ensures ∙ ap (λ (v : Unit). is_running v.work.state) is))

pub lose-requires-clause-part : goal.lose-requires-clause-part
lose-requires-clause-part c = λ u g.
    let at : slice_get c.self.inside.units.items c.args.place ≡ Some u = subst (λ (x : Calling). slice_get x.units c.args.place ≡ Some u) (sym c.self.view_is) g in
    let is = read_unit c.self.inside.units.items c.args.place u c.index-unit.result.now at c.index-unit.ensures in
    c.requires.part u g
    ∙ ap (λ b. cond (b && ((u.work.node == c.args.node) && set_of.contains c.args.segments.now u.work.segment)) (booking_in c.args.self.now (with_loss (Some c.args.id) u)) None)
    (sym (c.if-not-is_running.ensures ∙ ap (λ (v : Unit). is_running v.work.state) is))
    ∙ ap (λ b. cond (b && set_of.contains c.args.segments.now u.work.segment) (booking_in c.args.self.now (with_loss (Some c.args.id) u)) None)
    (sym (c.if-not-is_at.ensures ∙ ap (λ (v : Unit). v.work.node == c.args.node) is))
    ∙ ap (λ b. cond b (booking_in c.args.self.now (with_loss (Some c.args.id) u)) None)
    (sym (c.if-not-has.ensures ∙ ap (set_of.contains c.args.segments.now) (c.segment.ensures ∙ ap (λ (v : Unit). v.work.segment) is)))

pub returns : goal.returns
returns c = λ u g.
    let at : slice_get c.self.inside.units.items c.args.place ≡ Some u = subst (λ (x : Calling). slice_get x.units c.args.place ≡ Some u) (sym c.self.view_is) g in
    let is = read_unit c.self.inside.units.items c.args.place u c.index-unit.result.now at c.index-unit.ensures in
    c.lose.ensures u g
    ∙ ap (λ (v : Unit). record c.args.self.now { units = slice_set c.args.self.now.units c.args.place v })
    (sym (ap (λ b. cond (b && ((u.work.node == c.args.node) && set_of.contains c.args.segments.now u.work.segment)) (with_loss (Some c.args.id) u) u)
    (sym (c.if-not-is_running.ensures ∙ ap (λ (v : Unit). is_running v.work.state) is))
    ∙ ap (λ b. cond (b && set_of.contains c.args.segments.now u.work.segment) (with_loss (Some c.args.id) u) u)
    (sym (c.if-not-is_at.ensures ∙ ap (λ (v : Unit). v.work.node == c.args.node) is))
    ∙ ap (λ b. cond b (with_loss (Some c.args.id) u) u)
    (sym (c.if-not-has.ensures ∙ ap (set_of.contains c.args.segments.now) (c.segment.ensures ∙ ap (λ (v : Unit). v.work.segment) is)))))
