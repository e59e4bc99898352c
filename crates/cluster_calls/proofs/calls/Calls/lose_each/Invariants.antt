-- Nothing but units has changed; to lose all that leave comes to the same as before; and this is still to be lost.
use Rattle.std.proofs.Common.{◌≡◌, None, map}
use Rattle.cluster_calls.specs.Listed.{leaves}
use Rattle.cluster_calls.proofs.LosingLaws.{AreLosing, lost_where}
use Rattle.cluster_calls.proofs.calls.Calls.lose_each.Given as goal

abbrev pub invariant-loop-index : goal.invariant-loop-index
invariant-loop-index l =
    record {
      rest : l.self ≡ record l.initial.self { units = l.self.units };
      units : map (lost_where (leaves l.node) None) l.self.units ≡ map (lost_where (leaves l.node) None) l.initial.self.units;
      losing : AreLosing (leaves l.node) None l.units l.self l.index l.made.items;
    }
