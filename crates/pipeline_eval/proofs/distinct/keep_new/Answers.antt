use Rattle.pipeline_eval.proofs.SeenLemmas.{keeps_new, keeps_old}
use Rattle.pipeline_eval.proofs.distinct.keep_new.Goals as goal

pub returns-in_ok-push : goal.returns-in_ok-push
returns-in_ok-push c =
    λ done keeps.
    keeps_new c.args.seen.now c.insert.new.self c.args.kept.now.items c.push.new.self.items done c.args.item c.in_ok-copy.copy c.in_ok-insert.field-0 c.in_ok-copy.ensures c.if-branch.true
    c.in_ok-insert.ensures.added c.in_ok-insert.ensures.updates c.in_ok-push.ensures.items keeps

pub returns-else-branch : goal.returns-else-branch
returns-else-branch c =
    λ done keeps.
    keeps_old c.args.seen.now c.insert.new.self c.args.kept.now.items done c.args.item c.in_ok-copy.copy c.in_ok-insert.field-0 c.in_ok-copy.ensures c.if-branch.false
    c.in_ok-insert.ensures.added c.in_ok-insert.ensures.updates keeps
