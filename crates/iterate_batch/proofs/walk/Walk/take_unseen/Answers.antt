use Rattle.std.proofs.Common.{◌∙◌, ap, sym}
use Rattle.std.specs.FinMap as map_of
use Rattle.iterate_batch.proofs.FlyingLaws.{taken-none}
use Rattle.iterate_batch.proofs.walk.Walk.take_unseen.Goals as goal

pub returns-in_default-clause-ok : goal.returns-in_default-clause-ok
returns-in_default-clause-ok c =
    sym (taken-none c.args.self.now c.args.unit (ap (λ walk. map_of.get walk.flying c.args.unit) (sym c.self.view_is) ∙ sym c.in_default.ensures))
