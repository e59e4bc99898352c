use Rattle.std.proofs.Common.{◌≡◌, ℕ, ◌==◌, ◌&&◌, true, not, nat_lt, get_or, arith, sym, ap, ◌∙◌}
use Rattle.std.proofs.lemmas.Bool.{ne_eqb, not_from_false}
use Rattle.std.specs.FinMap as map_of
use Rattle.std.specs.FinSet as set_of
use Rattle.topology_phase.specs.Owners.{members}
use Rattle.topology_coord.proofs.Slots.{all_told, keys_kept}
use Rattle.topology_coord.proofs.SoFar.{none_so_far, add_so_far}
use Rattle.topology_coord.proofs.installed.Installed.nodes.Goals as goal

pub loop-number-init : goal.loop-number-init
loop-number-init c = none_so_far (λ q. not (get_or c.self.inside.ids q 0 == 0)) c.new-nodes.result c.new-nodes.ensures

pub loop-number-preserved : goal.loop-number-preserved
loop-number-preserved c =
    let added = c.add.ensures ∙ ap (set_of.insert c.loop-number.nodes) c.new.ensures in
    let live : not (get_or c.self.inside.ids c.loop-number.number 0 == 0) ≡ true = ap (λ k. not (get_or c.self.inside.ids k 0 == 0)) (sym c.from.ensures) ∙ not_from_false _ (ne_eqb (get_or c.self.inside.ids c.from.result 0) 0 c.if-self-from-eq0.false) in
    add_so_far (λ q. not (get_or c.self.inside.ids q 0 == 0)) c.loop-number.number c.loop-number.nodes c.add.new.self c.loop-number.invariant added live

pub returns-clause-nodes : goal.returns-clause-nodes
returns-clause-nodes c = λ q.
    let last : c.loop-number.number ≡ 16 = omega arith in
    c.loop-number.invariant q
    ∙ ap (λ n. nat_lt q n && not (get_or c.self.inside.ids q 0 == 0)) last
    ∙ all_told c.self.inside.ids c.args.self.now q c.self.view_is c.self.invariant

pub returns-clause-members : goal.returns-clause-members
unfolding members
returns-clause-members c =
    let last : c.loop-number.number ≡ 16 = omega arith in
    let tells : (q : ℕ) → set_of.contains c.loop-number.nodes q ≡ map_of.contains_key c.args.self.now q = λ q.
    c.loop-number.invariant q ∙ ap (λ n. nat_lt q n && not (get_or c.self.inside.ids q 0 == 0)) last ∙ all_told c.self.inside.ids c.args.self.now q c.self.view_is c.self.invariant in
    keys_kept (set_of.contains c.loop-number.nodes) c.self.inside.ids c.args.self.now c.self.view_is c.self.invariant tells
