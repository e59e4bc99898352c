use Rattle.state_transfer.proofs.FaithfulTransferLaws as laws
use Rattle.state_transfer.proofs.faithful.what_leaves_stays_faithful.Goals as goal

pub returns : goal.returns
returns c = record { restarts = laws.restarts_stay; cancels = laws.cancels_stay; forgotten = laws.forgotten_stay; closed = laws.closed_stay }
