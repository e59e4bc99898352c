use Rattle.std.proofs.Common.{◌==◌, ◌&&◌, not}
use Rattle.state_transfer.proofs.SlotLaws.{all_kept}
use Rattle.state_transfer.proofs.holders.Holders.drop_unless.Goals as goal

pub returns-else-not-kept : goal.returns-else-not-kept
returns-else-not-kept c = λ i. record {
  nodes = c.args.self.now.nodes;
  clock = c.args.self.now.clock;
  cells = all_kept c.args.self.now.cells c.args.kept (λ cell. not ((cell.node == c.args.node) && (cell.segment == c.args.segment))) c.if-not-kept.false i;
}
