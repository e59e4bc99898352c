use Rattle.std.proofs.Common.{arith, ap, sym, ◌∙◌, inr}
use Rattle.std.specs.FinMap as map_of
use Rattle.topology_phase.specs.Topologies.{Topology}
use Rattle.topology_coord.specs.Changes.{announces}
use Rattle.topology_coord.proofs.NextNumbers.{next_numbered}
use Rattle.topology_coord.proofs.Installing.{all_have}
use Rattle.topology_coord.proofs.coord.Coord.announce.Goals as goal

pub invariant_of-self : goal.invariant_of-self
invariant_of-self c =
    let numbered = next_numbered c.requires.0 c.args.self.now c.args.next c.requires.1 in
    record {
      some_owner = c.self.invariant.some_owner;
      few_owners = c.self.invariant.few_owners;
      some_live = c.self.invariant.some_live;
      numbered = omega (arith, numbered, ap (λ t. t.id) c.replace-before.ensures.after);
      known = λ node id has. inr (all_have c.requires.0 c.args.self.now c.args.next c.requires.1 node id (ap (λ v. map_of.get v.installed node) (sym c.self.view_is) ∙ has)
          ∙ ap (λ v. v.newest.id) (sym c.self.view_is) ∙ ap (λ (t : Topology). t.id) (sym c.replace-before.ensures.value));
    }

pub returns : goal.returns
unfolding announces
returns c =
    (λ i. record { owners = c.self.inside.owners; aim = c.self.inside.aim; ever = c.self.inside.ever; installed = c.self.inside.installed; newest = c.replace-before.ensures.after i; before = c.replace-before.ensures.value i })
    ∙ ap (λ v. announces v c.args.next) c.self.view_is
