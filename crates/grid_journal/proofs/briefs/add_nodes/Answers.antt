use Rattle.std.proofs.Common.{◌++◌, ap, ◌∙◌}
use Rattle.std.specs.Fmt.{decimal}
use Rattle.event_texts.proofs.Joining.{row_whole}
use Rattle.grid_journal.proofs.briefs.add_nodes.Goals as goal

pub returns : goal.returns
returns c =
    row_whole 44 decimal c.args.nodes.now c.in-Some.first.now c.in-Some.others.now _ _ _ c.in-Some.ensures.cases.0 (c.in_ok-add_number.ensures ∙ ap (λ node. c.args.out.now.list ++ decimal node) c.from.ensures) c.in_ok-add_other_nodes.ensures
