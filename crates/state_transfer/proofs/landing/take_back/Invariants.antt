use Rattle.std.proofs.Common.{◌≡◌, length, reverse}
use Rattle.state_transfer.specs.Cells.{Cells}
use Rattle.state_transfer.specs.Landing.{TakesBack}
use Rattle.state_transfer.proofs.landing.take_back.Given as goal

abbrev pub invariant-loop-key : goal.invariant-loop-key
invariant-loop-key l = record {
  nodes : l.holders.nodes ≡ l.fn.holders.nodes;
  clock : l.holders.clock ≡ l.fn.holders.clock;
  back : (first : Cells) → TakesBack l.to.receiver l.to.segment l.fn.holders.clock (reverse l.fn.steps.items) l.fn.holders.cells first
      → TakesBack l.to.receiver l.to.segment l.fn.holders.clock (reverse l.steps.items) l.holders.cells first;
}

abbrev pub decreases-loop-key : goal.decreases-loop-key
decreases-loop-key l = length l.steps.items
