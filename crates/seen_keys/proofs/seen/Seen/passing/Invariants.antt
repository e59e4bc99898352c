use Rattle.std.proofs.Common.{◌≡◌, take}
use Rattle.seen_keys.specs.Passed.{passing}
use Rattle.seen_keys.proofs.seen.Seen.passing.Given as goal

abbrev pub invariant-loop-entry : goal.invariant-loop-entry
invariant-loop-entry l = l.entries.list ≡ passing l.self l.segment (take l.entry-index l.batch.list)
