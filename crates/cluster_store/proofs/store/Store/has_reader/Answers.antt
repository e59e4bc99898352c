-- There is a first reader that lives where some does.
use Rattle.std.proofs.Common.{is_some, ap, ◌∙◌}
use Rattle.topology_coord.specs.Coordination.{lives, topology_of}
use Rattle.topology_phase.specs.Topologies.{read_owners}
use Rattle.cluster_store.proofs.Searches.{found_any}
use Rattle.cluster_store.proofs.store.Store.has_reader.Goals as goal

pub returns : goal.returns
returns c =
    let st = c.args.self.now in
    c.is_some.ensures ∙ ap is_some c.first_reader.ensures ∙ found_any (lives st.coord) (read_owners (topology_of st.coord c.args.node) c.args.segment)
