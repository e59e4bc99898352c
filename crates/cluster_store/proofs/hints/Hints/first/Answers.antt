-- Where no transfer is there, nothing flies.
use Rattle.std.proofs.Common.{subst, sym}
use Rattle.topology_coord.specs.Coordination.{Coordination}
use Rattle.cluster_store.specs.Hints.{IsAhead, IsPassed}
use Rattle.cluster_store.specs.declared.hints.place.Place.{Place}
use Rattle.cluster_store.proofs.HintLaws.{none_passed, nothing_flies}
use Rattle.cluster_store.proofs.hints.Hints.first.Goals as goal

pub returns : goal.returns
returns c st is none = record {
  ahead = subst (λ (coord : Coordination). IsAhead c.of-ahead.result coord) (sym is) c.of-ahead.ensures;
  flying = λ r s still. nothing_flies st.copying.transfers none r s;
  passed = subst (λ (place : Place). IsPassed st place.receiver place.segment) (sym c.first.ensures) (none_passed st);
}
