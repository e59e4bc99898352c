use Rattle.std.proofs.Common.{rules, ap, ◌∙◌}
use Rattle.std.proofs.lemmas.Map.Made.{map_same_pairs}
use Rattle.std.specs.Option.{option_map}
use Rattle.state_transfer.specs.Changes.{unexpired}
use Rattle.state_transfer.specs.Copying.{Transfer, each_changed}
use Rattle.state_transfer.proofs.TransferTrees.{rows_mapped}
use Rattle.state_transfer.proofs.transfers.Transfers.tick.Goals as goal

pub returns : goal.returns
returns c =
    let g : Transfer → Transfer = λ t. record t { flying = option_map (unexpired c.args.clock) t.flying } in
    rows_mapped c.self.inside.tree.entries c.retain.new.self.entries g
    (map_same_pairs _ g _ (λ k v b w f' t. search rules) c.self.inside.tree.entries c.retain.new.self.entries c.retain.ensures.filtered)
    ∙ ap (each_changed (λ to t. g t)) c.self.view_is
