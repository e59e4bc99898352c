-- The segments before the place have live readers.
use Rattle.std.proofs.Common.{◌≡◌}
use Rattle.std.specs.List.{list_all}
use Rattle.cluster_model.specs.Calls.{incomplete}
use Rattle.cluster_model.specs.Writes.{has_reader}
use Rattle.cluster_core.proofs.SegmentRows.{rest_of}
use Rattle.cluster_core.proofs.cluster.Core.have_readers.Given as goal

abbrev pub invariant-loop-place : goal.invariant-loop-place
invariant-loop-place l =
    list_all (has_reader l.self.holding l.originator) (rest_of l.self l.number l.place)
    ≡ list_all (has_reader l.self.holding l.originator) (incomplete l.self.calling l.number)
