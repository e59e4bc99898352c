use Rattle.std.proofs.Common.{rules, ◌∙◌}
use Rattle.std.specs.FinSet as set_of
use Rattle.live_run.proofs.Placing.{skip_first}
use Rattle.live_run.proofs.places.least_of.Goals as goal

pub loop-number-preserved : goal.loop-number-preserved
loop-number-preserved c =
    skip_first (set_of.contains c.args.nodes.now) c.loop-number.number c.loop-number-test.true (search rules) ∙ c.loop-number.invariant
