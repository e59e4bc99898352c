use Rattle.std.proofs.Common.{◌==◌, not, rules, ap, ◌∙◌}
use Rattle.std.proofs.lemmas.Map.Made.{filter_same_pairs}
use Rattle.std.specs.FinMap as map
use Rattle.state_transfer.specs.Cells.{Destination}
use Rattle.state_transfer.specs.Copying.{Transfer, Transfers}
use Rattle.state_transfer.proofs.TransferTrees.{rows_kept}
use Rattle.state_transfer.proofs.transfers.Transfers.forget.Goals as goal

pub returns : goal.returns
returns c =
    rows_kept c.self.inside.tree.entries c.retain.new.self.entries (λ to. not (to.segment == c.args.segment))
    (filter_same_pairs _ (λ (e : Destination × Transfer). not (e.0.segment == c.args.segment)) _ (λ k v b w f' t. search rules) c.self.inside.tree.entries c.retain.new.self.entries c.retain.ensures.filtered)
    ∙ ap (λ (x : Transfers). map.retain_keys x (λ to. not (to.segment == c.args.segment))) c.self.view_is
