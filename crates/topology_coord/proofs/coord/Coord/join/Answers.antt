use Rattle.std.proofs.Common.{◌<◌, length, sym, ap, ◌∙◌, subst}
use Rattle.std.specs.FinMap as map_of
use Rattle.topology_coord.specs.Changes.{joins}
use Rattle.topology_coord.specs.Coordination.{HaveEither}
use Rattle.topology_coord.proofs.Living.{live_more}
use Rattle.topology_coord.proofs.Installing.{either_more}
use Rattle.topology_coord.proofs.coord.Coord.join.Goals as goal

pub invariant_of-self : goal.invariant_of-self
invariant_of-self c = record {
  some_owner = c.self.invariant.some_owner;
  few_owners = c.self.invariant.few_owners;
  some_live = subst (λ m. 0 < length (map_of.keys m)) (sym c.put.ensures) (live_more c.self.inside.installed c.args.n c.id.result);
  numbered = c.self.invariant.numbered;
  known = subst (λ m. HaveEither m c.self.inside.newest.id c.self.inside.before.id) (sym (c.put.ensures ∙ ap (map_of.insert c.self.inside.installed c.args.n) c.id.ensures))
      (either_more c.self.inside.installed c.args.n c.self.inside.newest.id c.self.inside.before.id c.self.invariant.known);
}

pub returns : goal.returns
unfolding joins
returns c =
    let put = c.put.ensures ∙ ap (map_of.insert c.self.inside.installed c.args.n) c.id.ensures in
    (λ i. record { owners = c.self.inside.owners; aim = c.self.inside.aim; ever = c.add.ensures i; installed = put i; newest = c.self.inside.newest; before = c.self.inside.before })
    ∙ ap (λ v. joins v c.args.n) c.self.view_is
