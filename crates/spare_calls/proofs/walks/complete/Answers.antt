use Rattle.spare_calls.proofs.WalkLaws.{none_clear}
use Rattle.spare_calls.proofs.walks.complete.Goals as goal

pub complete-requires-clause-clear : goal.complete-requires-clause-clear
complete-requires-clause-clear c = none_clear c.args.walk.now c.args.segment c.requires.idle
