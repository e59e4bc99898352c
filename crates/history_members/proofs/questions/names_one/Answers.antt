use Rattle.std.proofs.Common.{sym, ◌∙◌}
use Rattle.std.specs.FinSet as set
use Rattle.history_members.proofs.Owners.{any_at}
use Rattle.history_members.proofs.questions.names_one.Goals as goal

pub returns-then-has : goal.returns-then-has
returns-then-has c =
    sym (any_at (set.contains c.args.nodes.now) c.args.owners.now c.loop-place.place c.in-Some.owner (sym c.get.ensures ∙ c.in-Some.is) (sym c.has.ensures ∙ c.if-has.true))
