use Rattle.std.proofs.Common.{ap, ◌∙◌}
use Rattle.std.specs.FinMap as map
use Rattle.seen_keys.proofs.PassedLaws.{distinct_one}
use Rattle.iterate_batch.specs.Walks.{Walking}
use Rattle.spare_calls.proofs.WalkLaws.{none_flies, only_one}
use Rattle.spare_calls.proofs.walks.fetch_one.Goals as goal

pub fetch-requires-clause-none : goal.fetch-requires-clause-none
fetch-requires-clause-none c = none_flies c.args.walk.now c.args.unit c.requires.idle

pub fetch-requires-clause-distinct : goal.fetch-requires-clause-distinct
fetch-requires-clause-distinct c = distinct_one _ _ _ c.new-entries.ensures c.in_ok-push.ensures.ok

pub returns-clause-only : goal.returns-clause-only
returns-clause-only c = ap (λ (walk : Walking). map.remove walk.flying c.args.unit) c.in_ok-fetch.ensures.ok ∙ only_one c.args.walk.now.flying c.args.unit _ c.requires.idle
