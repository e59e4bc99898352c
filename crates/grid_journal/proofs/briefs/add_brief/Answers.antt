use Rattle.std.proofs.Common.{reverse, ◌++◌, ap, ◌∙◌}
use Rattle.grid_journal.specs.Reports.{config_text, line}
use Rattle.grid_journal.proofs.Telling.{placed_more, told_text}
use Rattle.grid_journal.proofs.briefs.add_brief.Goals as goal

pub returns : goal.returns
returns c =
    placed_more c.args.out.now.list (config_text c.args.config.now) _ _ _ _ _ _ _ _ c.in_ok-add_config.ensures c.in_ok-push.ensures.ok c.in_ok-add_calls.ensures c.in_ok-add_rebalances.ensures c.in_ok-add_ends.ensures
    ∙ ap (λ rest. c.args.out.now.list ++ (line (config_text c.args.config.now) ++ rest))
    (told_text c.args.config.now (reverse c.args.journal.now.history.events) c.in_ok-standing.standing c.in_ok-standing.ensures)
