use Rattle.std.proofs.Common.{◌≡◌, ◌<◌, length, sym, ap, ◌∙◌, subst}
use Rattle.std.specs.FinMap as map_of
use Rattle.topology_coord.specs.Coordination.{HaveEither, installed_id}
use Rattle.topology_coord.specs.Changes.{installs}
use Rattle.topology_coord.proofs.Living.{installs_again, live_more}
use Rattle.topology_coord.proofs.Installing.{either_more}
use Rattle.topology_coord.proofs.coord.Coord.install.Goals as goal

pub returns-then-id-number-clause-installs : goal.returns-then-id-number-clause-installs
returns-then-id-number-clause-installs c =
    let has : installed_id c.args.self.now c.args.n ≡ c.args.self.now.newest.id =
    sym (ap (λ v. installed_id v c.args.n) c.self.view_is) ∙ sym c.id.ensures.id ∙ c.if-id-number.true ∙ c.number.ensures ∙ c.id-newest.ensures ∙ ap (λ v. v.newest.id) c.self.view_is in
    installs_again c.args.self.now c.args.n c.requires has

pub invariant_of-self : goal.invariant_of-self
invariant_of-self c = record {
  some_owner = c.self.invariant.some_owner;
  few_owners = c.self.invariant.few_owners;
  some_live = subst (λ m. 0 < length (map_of.keys m)) (sym c.put.ensures) (live_more c.self.inside.installed c.args.n c.id-newest.result);
  numbered = c.self.invariant.numbered;
  known = subst (λ m. HaveEither m c.self.inside.newest.id c.self.inside.before.id) (sym (c.put.ensures ∙ ap (map_of.insert c.self.inside.installed c.args.n) c.id-newest.ensures))
      (either_more c.self.inside.installed c.args.n c.self.inside.newest.id c.self.inside.before.id c.self.invariant.known);
}

pub returns-clause-installs : goal.returns-clause-installs
unfolding installs
returns-clause-installs c =
    let put = c.put.ensures ∙ ap (map_of.insert c.self.inside.installed c.args.n) c.id-newest.ensures in
    (λ i. record { owners = c.self.inside.owners; aim = c.self.inside.aim; ever = c.self.inside.ever; installed = put i; newest = c.self.inside.newest; before = c.self.inside.before })
    ∙ ap (λ v. installs v c.args.n) c.self.view_is
