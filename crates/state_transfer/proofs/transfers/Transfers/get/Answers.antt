use Rattle.std.proofs.Common.{sym, ap, ◌∙◌}
use Rattle.std.specs.FinMap as map
use Rattle.state_transfer.specs.Copying.{Transfers}
use Rattle.state_transfer.proofs.TransferTrees.{get_rows}
use Rattle.state_transfer.proofs.transfers.Transfers.get.Goals as goal

pub returns : goal.returns
returns c = c.get.ensures.value ∙ sym (get_rows c.self.inside.tree.entries c.args.to) ∙ ap (λ (x : Transfers). map.get x c.args.to) c.self.view_is
