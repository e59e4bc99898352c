use Rattle.state_transfer.proofs.FaithfulTransferLaws as laws
use Rattle.state_transfer.proofs.faithful.writes_stay_faithful.Goals as goal

pub returns : goal.returns
returns c = laws.writes_stay
