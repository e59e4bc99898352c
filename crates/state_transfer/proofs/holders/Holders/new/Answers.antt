use Rattle.std.proofs.Common.{ap, ◌∙◌}
use Rattle.state_transfer.specs.Slots.{held, nodes_in}
use Rattle.state_transfer.proofs.SlotLaws as laws
use Rattle.state_transfer.proofs.holders.Holders.new.Goals as goal

pub returns : goal.returns
returns c = λ i. record { nodes = (ap nodes_in c.new.ensures.items ∙ laws.nodes_none) i; clock = 0; cells = (ap held c.new.ensures.items ∙ laws.held_none) i }
