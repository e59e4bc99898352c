use Rattle.std.proofs.Common.{◌≡◌, ◌<◌, ◌&&◌, not, nat_lt, length, sym, ap, ◌∙◌, subst}
use Rattle.std.proofs.lemmas.Bool.{and_parts, ltb-true}
use Rattle.std.specs.FinMap as map_of
use Rattle.std.specs.List.{list_any}
use Rattle.topology_phase.specs.Owners.{among, members}
use Rattle.topology_phase.specs.Topologies.{holders}
use Rattle.topology_coord.specs.Changes.{departs}
use Rattle.topology_coord.specs.Coordination.{HaveEither, live_nodes, lives}
use Rattle.topology_coord.proofs.Living.{live_left, loses_told}
use Rattle.topology_coord.proofs.Installing.{either_left}
use Rattle.topology_coord.proofs.coord.Coord.depart.Goals as goal

pub remove-requires-2 : goal.remove-requires-2
remove-requires-2 c =
    let may = and_parts (lives c.args.self.now c.args.n) (nat_lt 1 (length (live_nodes c.args.self.now))) c.requires in
    ap (λ v. lives v c.args.n) c.self.view_is ∙ may.0

pub invariant_of-self : goal.invariant_of-self
invariant_of-self c =
    let may = and_parts (lives c.args.self.now c.args.n) (nat_lt 1 (length (live_nodes c.args.self.now))) c.requires in
    let live = ap (λ v. lives v c.args.n) c.self.view_is ∙ may.0 in
    let more = ltb-true 1 _ (ap (λ v. nat_lt 1 (length (live_nodes v))) c.self.view_is ∙ may.1) in
    record {
      some_owner = c.self.invariant.some_owner;
      few_owners = c.self.invariant.few_owners;
      some_live = subst (λ m. 0 < length (map_of.keys m)) (sym c.remove-2.ensures) (live_left c.self.inside.installed c.args.n live more);
      numbered = c.self.invariant.numbered;
      known = subst (λ m. HaveEither m c.self.inside.newest.id c.self.inside.before.id) (sym c.remove-2.ensures)
          (either_left c.self.inside.installed c.args.n c.self.inside.newest.id c.self.inside.before.id c.self.invariant.known);
    }

pub returns-clause-departs : goal.returns-clause-departs
unfolding departs
returns-clause-departs c =
    (λ i. record { owners = c.self.inside.owners; aim = c.self.inside.aim; ever = c.self.inside.ever; installed = c.remove-2.ensures i; newest = c.self.inside.newest; before = c.self.inside.before })
    ∙ ap (λ v. departs v c.args.n) c.self.view_is

pub returns-clause-lost : goal.returns-clause-lost
returns-clause-lost c = λ s.
    let newest : c.self.inside.newest ≡ c.args.self.now.newest = ap (λ v. v.newest) c.self.view_is in
    let left = c.new-2.ensures ∙ ap members c.remove.ensures in
    c.lost_segments-lost.ensures s
    ∙ (λ i. list_any (λ m. among m (c.new.ensures i)) (holders (newest i) s) && not (list_any (λ m. among m (left i)) (holders (newest i) s)))
    ∙ loses_told c.args.self.now c.live-live.result c.args.n s c.live-live.ensures.members
