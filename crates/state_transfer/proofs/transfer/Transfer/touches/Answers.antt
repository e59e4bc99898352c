use Rattle.std.proofs.Common.{sym, ap, ◌∙◌}
use Rattle.std.specs.FinSet as set
use Rattle.state_transfer.specs.Copying.{Transfer}
use Rattle.state_transfer.proofs.LyingLaws.{contains_tree}
use Rattle.state_transfer.proofs.transfer.Transfer.touches.Goals as goal

pub returns : goal.returns
returns c =
    c.contains.ensures
    ∙ sym (contains_tree c.self.inside.touched.keys c.args.key.now)
    ∙ ap (λ (x : Transfer). set.contains x.touched c.args.key.now) c.self.view_is
