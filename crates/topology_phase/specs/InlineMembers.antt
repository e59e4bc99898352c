-- How the nodes of a set lie in place: sixteen nodes, of which the first ones are those of the set.
use Rattle.std.specs.Prelude.{◌≡◌, ◌≤◌, length}
use Rattle.topology_phase.specs.declared.members.Members.TheInside.{Inside}

-- there are sixteen places, and no more nodes
pub record IsInlineMembers (a : Inside) : Type 0 where
  pub fits : a.len ≤ 16
  pub whole : length a.nodes ≡ 16
