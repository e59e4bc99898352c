use Rattle.std.proofs.Common.{sym, subst}
use Rattle.state_transfer.specs.Calls.{AreSound}
use Rattle.state_transfer.proofs.SoundLaws.{sound_none}
use Rattle.state_transfer.proofs.copies.Copies.new.Goals as goal

pub invariant_of-result : goal.invariant_of-result
invariant_of-result c = subst (AreSound c.new.result.nodes c.new.result.clock) (sym c.new-2.ensures) (sound_none c.new.result.nodes c.new.result.clock)
