use Rattle.state_transfer.proofs.FaithfulTransferLaws as laws
use Rattle.state_transfer.proofs.faithful.joins_stay_faithful.Goals as goal

pub returns : goal.returns
returns c = laws.joins_stay
