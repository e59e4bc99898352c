-- Nothing but units has changed; to lose all that cease comes to the same as before; and this is still to be lost.
use Rattle.std.proofs.Common.{◌≡◌, Some, map}
use Rattle.cluster_calls.specs.Calling.{ceases_at}
use Rattle.cluster_calls.proofs.LosingLaws.{AreLosing, lost_where}
use Rattle.cluster_calls.proofs.calls.Calls.cease_each.Given as goal

abbrev pub invariant-loop-index : goal.invariant-loop-index
invariant-loop-index l =
    record {
      rest : l.self ≡ record l.initial.self { units = l.self.units };
      units : map (lost_where (ceases_at l.node l.segments) (Some l.id)) l.self.units ≡ map (lost_where (ceases_at l.node l.segments) (Some l.id)) l.initial.self.units;
      losing : AreLosing (ceases_at l.node l.segments) (Some l.id) l.units l.self l.index l.made.items;
    }
