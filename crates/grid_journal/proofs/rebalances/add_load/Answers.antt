use Rattle.std.proofs.Common.{ap, ◌∙◌}
use Rattle.hash_factory.specs.Least.{load}
use Rattle.grid_journal.proofs.RebalanceLines.{load_placed}
use Rattle.grid_journal.proofs.rebalances.add_load.Goals as goal

pub returns : goal.returns
returns c =
    load_placed c.args.hash.now c.args.after.now c.args.out.now.list _ _ _ _ _ c.args.node _ _ _
    c.from.ensures
    (c.from-2.ensures ∙ c.load.ensures.load ∙ ap (load c.args.hash.now) c.new-id.ensures)
    (c.from-3.ensures ∙ c.load-2.ensures.load ∙ ap (load c.args.after.now) c.new-id.ensures)
    c.in_ok-add_number.ensures c.in_ok-push.ensures.ok c.in_ok-add_number-2.ensures c.in_ok-push-2.ensures.ok c.in_ok-add_number-3.ensures
