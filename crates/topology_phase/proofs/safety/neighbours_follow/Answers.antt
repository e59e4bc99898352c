use Rattle.topology_phase.specs.Owners.{members}
use Rattle.topology_phase.proofs.NeighbourLaws as laws
use Rattle.topology_phase.proofs.safety.neighbours_follow.Goals as goal

pub returns : goal.returns
returns c = laws.neighbours_follow (members c.args.live.now) c.args.a.now c.args.b.now c.requires.some c.requires.follows c.requires.owned
