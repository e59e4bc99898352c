use Rattle.std.proofs.Common.{ap, ◌∙◌, ◌||◌, ◌&&◌, arith, nat_cmp}
use Rattle.std.specs.BTreeMap.{is_at}
use Rattle.std.specs.BTreeSet.{contains}
use Rattle.std.specs.FinSet as set
use Rattle.std.specs.List.{list_any}
use Rattle.loss_listener.specs.Registered.{is_registered}
use Rattle.loss_listener.proofs.LostLaws.{is_lost_below-next, is_lost_below-zero, is_lost-below}
use Rattle.loss_listener.proofs.listeners.Listeners.found.Goals as goal

pub loop-number-init : goal.loop-number-init
loop-number-init c = λ u. ap (list_any (is_at (nat_cmp u))) c.new-found.ensures.empty ∙ is_lost_below-zero c.args.self.now c.args.node c.args.segments.now u

pub loop-number-preserved : goal.loop-number-preserved
loop-number-preserved c = λ u.
    c.in_ok-add_lost.ensures u
    ∙ ap (λ n. contains nat_cmp c.loop-number.found u || (set.contains c.args.segments.now n && is_registered c.args.self.now c.args.node n u)) c.new-in-loop-number.ensures
    ∙ ap (λ b. b || (set.contains c.args.segments.now c.loop-number.number && is_registered c.args.self.now c.args.node c.loop-number.number u)) (c.loop-number.invariant u)
    ∙ is_lost_below-next c.args.self.now c.args.node c.args.segments.now c.loop-number.number u

pub returns : goal.returns
returns c = λ u.
    c.loop-number.invariant u ∙ is_lost-below c.args.self.now c.args.node c.args.segments.now c.loop-number.number u (λ k h. c.next_from.ensures.bounded k (omega arith))
