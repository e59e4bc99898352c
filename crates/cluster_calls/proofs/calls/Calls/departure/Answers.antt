use Rattle.std.proofs.Common.{◌≡◌, cond, ◌&&◌, ◌==◌, Some, None, sym, subst, ap, ◌∙◌}
use Rattle.std.proofs.lemmas.Result.{IfOk-weaker}
use Rattle.std.specs.Prelude.{slice_get}
use Rattle.cluster_model.specs.State.{Calling, Unit, is_open_unit, with_loss}
use Rattle.cluster_calls.specs.Parts.{booking_in}
use Rattle.cluster_calls.proofs.CallsLaws.{read_unit}
use Rattle.cluster_calls.proofs.calls.Calls.departure.Goals as goal

pub returns-then-not-is_open : goal.returns-then-not-is_open
returns-then-not-is_open c = λ u g.
    let at : slice_get c.self.inside.units.items c.args.place ≡ Some u = subst (λ (x : Calling). slice_get x.units c.args.place ≡ Some u) (sym c.self.view_is) g in
    let is = read_unit c.self.inside.units.items c.args.place u c.index-unit.result.now at c.index-unit.ensures in
    ap (λ b. cond (b && (u.work.node == c.args.node)) (booking_in c.args.self.now (with_loss None u)) None) (c.if-not-is_open.ensures ∙ ap is_open_unit is)

pub returns-then-not-is_at : goal.returns-then-not-is_at
returns-then-not-is_at c = λ u g.
    let at : slice_get c.self.inside.units.items c.args.place ≡ Some u = subst (λ (x : Calling). slice_get x.units c.args.place ≡ Some u) (sym c.self.view_is) g in
    let is = read_unit c.self.inside.units.items c.args.place u c.index-unit.result.now at c.index-unit.ensures in
    ap (λ b. cond b (booking_in c.args.self.now (with_loss None u)) None) (c.if-not-is_at.ensures ∙ ap (λ (v : Unit). v.work.node == c.args.node) is)
    ∙ ap (λ b. cond (b && (u.work.node == c.args.node)) (booking_in c.args.self.now (with_loss None u)) None) (c.if-not-is_open.ensures ∙ ap is_open_unit is)

pub returns : goal.returns
returns c =
    IfOk-weaker c.loss.result _ _ (λ made made_is u g.
    let at : slice_get c.self.inside.units.items c.args.place ≡ Some u = subst (λ (x : Calling). slice_get x.units c.args.place ≡ Some u) (sym c.self.view_is) g in
    let is = read_unit c.self.inside.units.items c.args.place u c.index-unit.result.now at c.index-unit.ensures in
    made_is u g
    ∙ ap (λ b. cond b (booking_in c.args.self.now (with_loss None u)) None) (c.if-not-is_at.ensures ∙ ap (λ (v : Unit). v.work.node == c.args.node) is)
    ∙ ap (λ b. cond (b && (u.work.node == c.args.node)) (booking_in c.args.self.now (with_loss None u)) None) (c.if-not-is_open.ensures ∙ ap is_open_unit is))
    c.loss.ensures
