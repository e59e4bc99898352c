use Rattle.std.proofs.Common.{Some, rules, ap, ◌∙◌}
use Rattle.std.proofs.lemmas.Map.Keys.{IsDistinct-from_sorted}
use Rattle.std.proofs.lemmas.Map.Made.{filter_same_pairs}
use Rattle.std.specs.FinMap as map
use Rattle.state_transfer.specs.Cells.{Destination, destination_cmp}
use Rattle.state_transfer.specs.Copying.{Transfer, Transfers}
use Rattle.state_transfer.specs.Leaving.{outlives}
use Rattle.state_transfer.proofs.TransferTrees.{rows_outlive}
use Rattle.state_transfer.proofs.transfers.Transfers.restart.Goals as goal

pub returns : goal.returns
returns c =
    rows_outlive c.self.inside.tree.entries c.retain.new.self.entries c.args.provider
    (IsDistinct-from_sorted destination_cmp _ c.retain.ensures.was_ordered)
    (filter_same_pairs _ (λ (e : Destination × Transfer). outlives c.args.provider (Some e.1)) _ (λ k v b w f' t. search rules) c.self.inside.tree.entries c.retain.new.self.entries c.retain.ensures.filtered)
    ∙ ap (λ (x : Transfers). map.retain_keys x (λ to. outlives c.args.provider (map.get x to))) c.self.view_is
