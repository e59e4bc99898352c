use Rattle.std.proofs.Common.{◌≡◌, cond, ◌&&◌, ◌==◌, Some, None, sym, subst, ap, ◌∙◌, arith}
use Rattle.std.proofs.lemmas.Result.{IfOk-weaker}
use Rattle.std.specs.FinSet as set_of
use Rattle.std.specs.Prelude.{slice_get}
use Rattle.cluster_model.specs.State.{Calling, Unit, is_running, with_loss}
use Rattle.cluster_calls.specs.Parts.{booking_in}
use Rattle.cluster_calls.proofs.CallsLaws.{read_unit}
use Rattle.cluster_calls.proofs.ListLaws.{get_within}
use Rattle.cluster_calls.proofs.calls.Calls.ceasing.Goals as goal

pub returns-then-not-is_running : goal.returns-then-not-is_running
returns-then-not-is_running c = λ u g.
    let at : slice_get c.self.inside.units.items c.args.place ≡ Some u = subst (λ (x : Calling). slice_get x.units c.args.place ≡ Some u) (sym c.self.view_is) g in
    let is = read_unit c.self.inside.units.items c.args.place u c.index-unit.result.now at c.index-unit.ensures in
    ap (λ b. cond (b && ((u.work.node == c.args.node) && set_of.contains c.args.segments.now u.work.segment)) (booking_in c.args.self.now (with_loss (Some c.args.id) u)) None)
    (c.if-not-is_running.ensures ∙ ap (λ (v : Unit). is_running v.work.state) is)

pub returns-then-not-is_at : goal.returns-then-not-is_at
returns-then-not-is_at c = λ u g.
    let at : slice_get c.self.inside.units.items c.args.place ≡ Some u = subst (λ (x : Calling). slice_get x.units c.args.place ≡ Some u) (sym c.self.view_is) g in
    let is = read_unit c.self.inside.units.items c.args.place u c.index-unit.result.now at c.index-unit.ensures in
    ap (λ b. cond (b && set_of.contains c.args.segments.now u.work.segment) (booking_in c.args.self.now (with_loss (Some c.args.id) u)) None)
    (c.if-not-is_at.ensures ∙ ap (λ (v : Unit). v.work.node == c.args.node) is)
    ∙ ap (λ b. cond (b && ((u.work.node == c.args.node) && set_of.contains c.args.segments.now u.work.segment)) (booking_in c.args.self.now (with_loss (Some c.args.id) u)) None)
    (c.if-not-is_running.ensures ∙ ap (λ (v : Unit). is_running v.work.state) is)

pub has-requires : goal.has-requires
has-requires c =
    let h = get_within c.args.self.now.units c.args.place c.requires in
    let at : slice_get c.self.inside.units.items c.args.place ≡ Some h.0 = subst (λ (x : Calling). slice_get x.units c.args.place ≡ Some h.0) (sym c.self.view_is) h.1 in
    let is = read_unit c.self.inside.units.items c.args.place h.0 c.index-unit.result.now at c.index-unit.ensures in
    let same = c.segment.ensures ∙ ap (λ (v : Unit). v.work.segment) is in
    omega (arith, same, (c.self.invariant.right.placed c.args.place h.0 at).within, c.self.invariant.few_segments)

pub returns-then-not-has : goal.returns-then-not-has
returns-then-not-has c = λ u g.
    let at : slice_get c.self.inside.units.items c.args.place ≡ Some u = subst (λ (x : Calling). slice_get x.units c.args.place ≡ Some u) (sym c.self.view_is) g in
    let is = read_unit c.self.inside.units.items c.args.place u c.index-unit.result.now at c.index-unit.ensures in
    ap (λ b. cond b (booking_in c.args.self.now (with_loss (Some c.args.id) u)) None)
    (c.if-not-has.ensures ∙ ap (set_of.contains c.args.segments.now) (c.segment.ensures ∙ ap (λ (v : Unit). v.work.segment) is))
    ∙ ap (λ b. cond (b && set_of.contains c.args.segments.now u.work.segment) (booking_in c.args.self.now (with_loss (Some c.args.id) u)) None)
    (c.if-not-is_at.ensures ∙ ap (λ (v : Unit). v.work.node == c.args.node) is)
    ∙ ap (λ b. cond (b && ((u.work.node == c.args.node) && set_of.contains c.args.segments.now u.work.segment)) (booking_in c.args.self.now (with_loss (Some c.args.id) u)) None)
    (c.if-not-is_running.ensures ∙ ap (λ (v : Unit). is_running v.work.state) is)

pub returns : goal.returns
returns c =
    IfOk-weaker c.loss.result _ _ (λ made made_is u g.
    let at : slice_get c.self.inside.units.items c.args.place ≡ Some u = subst (λ (x : Calling). slice_get x.units c.args.place ≡ Some u) (sym c.self.view_is) g in
    let is = read_unit c.self.inside.units.items c.args.place u c.index-unit.result.now at c.index-unit.ensures in
    made_is u g
    ∙ ap (λ b. cond b (booking_in c.args.self.now (with_loss (Some c.args.id) u)) None)
    (c.if-not-has.ensures ∙ ap (set_of.contains c.args.segments.now) (c.segment.ensures ∙ ap (λ (v : Unit). v.work.segment) is))
    ∙ ap (λ b. cond (b && set_of.contains c.args.segments.now u.work.segment) (booking_in c.args.self.now (with_loss (Some c.args.id) u)) None)
    (c.if-not-is_at.ensures ∙ ap (λ (v : Unit). v.work.node == c.args.node) is)
    ∙ ap (λ b. cond (b && ((u.work.node == c.args.node) && set_of.contains c.args.segments.now u.work.segment)) (booking_in c.args.self.now (with_loss (Some c.args.id) u)) None)
    (c.if-not-is_running.ensures ∙ ap (λ (v : Unit). is_running v.work.state) is))
    c.loss.ensures
