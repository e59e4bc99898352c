use Rattle.std.proofs.Common.{ap, ◌∙◌}
use Rattle.container_seg.specs.Stored.{left_of}
use Rattle.container_seg.proofs.StoredLaws as laws
use Rattle.container_seg.proofs.container.Container.new.Goals as goal

pub returns-clause-empty : goal.returns-clause-empty
returns-clause-empty c = λ i. record { node = c.args.node; clock = 0; entries = (ap (left_of 0) c.new.ensures.items ∙ laws.left_none 0) i }
