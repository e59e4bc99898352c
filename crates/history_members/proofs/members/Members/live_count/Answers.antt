use Rattle.std.proofs.Common.{length, ap, ◌∙◌}
use Rattle.std.specs.List.{filter, range_with_len}
use Rattle.topology_phase.specs.Owners.{members}
use Rattle.history_members.proofs.members.Members.live_count.Goals as goal

pub returns : goal.returns
unfolding members
returns g c = c.len.ensures.len ∙ ap length c.new.ensures ∙ (λ i. length (filter (λ q. c.requires.live q i) (range_with_len 0 16)))
