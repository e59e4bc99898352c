use Rattle.seen_keys.proofs.PassedLaws.{distinct_one}
use Rattle.seen_keys.proofs.tests.a_key_passes_once_until_its_segment_is_complete.Goals as goal

pub pass_all-requires : goal.pass_all-requires
pass_all-requires g c = distinct_one _ _ _ c.new-batch.ensures c.in_ok-push.ensures.ok

pub pass_all-requires-2 : goal.pass_all-requires-2
pass_all-requires-2 g c = distinct_one _ _ _ c.new-batch.ensures c.in_ok-push.ensures.ok
