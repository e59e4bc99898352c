use Rattle.std.proofs.Common.{◌≡◌, List, ◌++◌}
use Rattle.grid_script.specs.declared.order.Order.{Order}
use Rattle.grid_script.specs.Generating.{step_orders, numbered, state_after}
use Rattle.grid_script.proofs.generator.add_steps.Given as goal

-- the state behind the draws so far, and the lines so far
abbrev pub invariant-loop-number : goal.invariant-loop-number
invariant-loop-number l = record {
  state : l.state ≡ state_after l.start l.number;
  lines : (before : List Order) → l.fn.lines ≡ numbered 8 before → l.lines ≡ numbered 8 (before ++ step_orders l.start l.number);
}
