use Rattle.std.proofs.Common.{reverse, ◌++◌, ap, ◌∙◌}
use Rattle.grid_journal.proofs.Telling.{json_line, told_json}
use Rattle.grid_journal.proofs.json_briefs.add_json.Goals as goal

pub returns : goal.returns
returns c =
    let past = reverse c.args.journal.now.history.events in
    json_line c.args.config.now past _ _ _ _ _
    (c.in_ok-told.ensures ∙ told_json c.args.config.now past c.in_ok-standing.standing c.in_ok-standing.ensures)
    c.in_ok-text.ensures.text
    (c.in_ok-extend.ensures.ok ∙ ap (λ text. c.args.out.now.list ++ text) c.as_bytes.ensures.value)
    c.in_ok-push.ensures.ok
