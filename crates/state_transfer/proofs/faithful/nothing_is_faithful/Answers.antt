use Rattle.state_transfer.proofs.FaithfulTransferLaws as laws
use Rattle.state_transfer.proofs.faithful.nothing_is_faithful.Goals as goal

pub returns : goal.returns
returns c = laws.nothing_is_faithful
