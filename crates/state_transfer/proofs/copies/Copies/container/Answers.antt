use Rattle.std.proofs.Common.{ap, ◌∙◌}
use Rattle.state_transfer.specs.Copying.{Stores, copy_at}
use Rattle.state_transfer.proofs.PartLaws.{parts_are}
use Rattle.state_transfer.proofs.SlotLaws.{some_weaker}
use Rattle.state_transfer.proofs.copies.Copies.container.Goals as goal

pub returns-clause-parts : goal.returns-clause-parts
returns-clause-parts c =
    some_weaker c.get.result _ _
    (λ b copies s. parts_are c.args.self.now.copying.cells b.now.entries c.args.node s (λ k. copies s k ∙ ap (λ (x : Stores). copy_at x.copying.cells c.args.node s k) c.self.view_is))
    c.get.ensures.copies
