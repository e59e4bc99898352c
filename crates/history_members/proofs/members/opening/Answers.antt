use Rattle.std.proofs.Common.{ap, ◌∙◌}
use Rattle.hash_factory.specs.Formulas.{created}
use Rattle.std.specs.List.{range_with_len}
use Rattle.topology_coord.proofs.FirstNodes.{whole_first}
use Rattle.history_members.proofs.Shaped.{few_owners, some_segment}
use Rattle.history_members.proofs.members.opening.Goals as goal

pub new-requires-2-clause-kept : goal.new-requires-2-clause-kept
new-requires-2-clause-kept c =
    let config = c.args.config.now in
    let hash = c.in_ok-hash.ensures ∙ ap (λ nodes. created nodes config.segments config.owners) c.requires.first in
    whole_first c.new.result (range_with_len 0 config.nodes) config.segments config.owners c.in_ok-hash.hash hash (some_segment config c.requires.limits) (few_owners config c.requires.limits)
