use Rattle.std.proofs.Common.{◌≡◌, ◌++◌, map, drop}
use Rattle.grid_journal.specs.Rebalances.{load_text}
use Rattle.event_texts.specs.Words.{each_behind}
use Rattle.grid_journal.proofs.rebalances.add_other_loads.Given as goal

-- what stands there and the text of the nodes left are the whole
abbrev pub invariant-loop-node : goal.invariant-loop-node
invariant-loop-node l =
    l.out.list ++ each_behind 44 (map (load_text l.hash l.after) (drop l.node-index l.nodes)) ≡ l.initial.out.list ++ each_behind 44 (map (load_text l.hash l.after) l.nodes)
