use Rattle.state_transfer.proofs.FaithfulTransferLaws as laws
use Rattle.state_transfer.proofs.faithful.ended_transfers_are_equal.Goals as goal

pub returns : goal.returns
returns c = laws.ended_are_equal
