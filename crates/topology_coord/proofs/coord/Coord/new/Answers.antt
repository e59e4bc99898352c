use Rattle.std.proofs.Common.{◌≡◌, ◌<◌, [], length, arith, sym, ap, ◌∙◌, subst, inl}
use Rattle.std.specs.FinMap as map_of
use Rattle.std.specs.List.{range_with_len}
use Rattle.topology_phase.specs.declared.phase.Phase.TheVariants.{NoRebalance}
use Rattle.hash_factory.specs.Formulas.{created}
use Rattle.topology_phase.specs.Topologies.{Topology}
use Rattle.topology_coord.specs.Coordination.{first_coordination, first_topology}
use Rattle.topology_coord.proofs.FirstNodes.{first_some, whole_first}
use Rattle.topology_coord.proofs.Installing.{first_have}
use Rattle.topology_coord.proofs.coord.Coord.new.Goals as goal

pub new-newest-requires-clause-kept : goal.new-newest-requires-clause-kept
new-newest-requires-clause-kept c =
    let hash = c.in_ok-hash.ensures ∙ ap (λ ns. created ns c.args.segments c.args.owners) c.first_nodes-ever.ensures.members in
    whole_first c.new.result (range_with_len 0 c.args.nodes) c.args.segments c.args.owners c.in_ok-hash.hash hash c.requires.some_segment c.requires.few_owners

pub invariant_of-result : goal.invariant_of-result
invariant_of-result c = record {
  some_owner = c.requires.some_owner;
  few_owners = c.requires.few_owners;
  some_live = subst (λ m. 0 < length (map_of.keys m)) (sym c.first.ensures) (first_some c.args.nodes c.requires.some_node);
  numbered = omega (arith, ap (λ t. t.id) c.new-newest.ensures, c.new.ensures);
  known = λ node id has. inl (first_have c.args.nodes node id (ap (λ m. map_of.get m node) (sym c.first.ensures) ∙ has) ∙ sym c.new.ensures ∙ ap (λ (t : Topology). t.id) (sym c.new-newest.ensures));
}

pub returns : goal.returns
unfolding first_coordination
returns c =
    let hash = c.in_ok-hash.ensures ∙ ap (λ ns. created ns c.args.segments c.args.owners) c.first_nodes-ever.ensures.members in
    let newest : c.new-newest.result ≡ first_topology c.args.nodes c.args.segments c.args.owners = c.new-newest.ensures ∙ (λ i. record { id = c.new.ensures i; phase = NoRebalance; current = hash i; pending = [] }) in
    let before : c.in_ok-before.before ≡ first_topology c.args.nodes c.args.segments c.args.owners = c.in_ok-before.ensures ∙ newest in
    λ i. record { owners = c.args.owners; aim = c.args.aim; ever = c.first_nodes-ever.ensures.nodes i; installed = c.first.ensures i; newest = newest i; before = before i }
