use Rattle.std.proofs.Common.{◌++◌, ap, ◌∙◌}
use Rattle.grid_journal.specs.Rebalances.{load_text}
use Rattle.event_texts.proofs.Joining.{row_whole}
use Rattle.grid_journal.proofs.rebalances.add_loads.Goals as goal

pub returns : goal.returns
returns c =
    row_whole 44 (load_text c.args.hash.now c.args.after.now) c.args.nodes.now c.in-Some.first.now c.in-Some.others.now _ _ _ c.in-Some.ensures.cases.0 c.in_ok-add_load.ensures c.in_ok-add_other_loads.ensures
