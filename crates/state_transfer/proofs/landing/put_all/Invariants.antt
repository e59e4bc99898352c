use Rattle.std.proofs.Common.{◌≡◌, ◌≤◌, drop, length, reverse}
use Rattle.state_transfer.specs.Chunks.{landed_in}
use Rattle.state_transfer.specs.Landing.{TakesBack}
use Rattle.state_transfer.proofs.landing.put_all.Given as goal

abbrev pub invariant-loop-left : goal.invariant-loop-left
invariant-loop-left l = record {
  nodes : l.holders.nodes ≡ l.fn.holders.nodes;
  clock : l.holders.clock ≡ l.fn.holders.clock;
  fits : l.left ≤ length l.entries;
  so_far : l.holders.cells ≡ landed_in l.to.receiver l.to.segment l.transfer.touched (drop l.left l.entries) l.fn.holders.cells;
  steps : TakesBack l.to.receiver l.to.segment l.fn.holders.clock (reverse l.steps.items) l.holders.cells l.fn.holders.cells;
}

abbrev pub decreases-loop-left : goal.decreases-loop-left
decreases-loop-left l = l.left
