-- Topologies are kept in every run.
use Rattle.std.proofs.Common.{subst}
use Rattle.cluster_model.specs.Kept.{KeepsTopologies}
use Rattle.cluster_model.specs.State.{Holding}
use Rattle.cluster_store.proofs.Reached.{store_parts}
use Rattle.cluster_store.proofs.store.Store.coord.Goals as goal

pub returns-clause-kept : goal.returns-clause-kept
returns-clause-kept c = subst (λ (st : Holding). KeepsTopologies st.config.segments st.coord) c.self.view_is (store_parts c.self.inside c.self.invariant).1.topologies
