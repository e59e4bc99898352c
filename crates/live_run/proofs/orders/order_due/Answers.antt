-- As long as the order has no event, the topology has one.
use Rattle.std.proofs.Common.{◌≡◌, List, Some, length, reverse, slice_get, true, is_some, sym, ap, subst, ◌∙◌, arith}
use Rattle.std.proofs.lemmas.Bool.{true≢false}
use Rattle.cluster_model.specs.Commands.{chosen}
use Rattle.grid_book.specs.Booked.{Booked, cluster_of}
use Rattle.grid_event.specs.declared.command.Command.TheVariants as commands
use Rattle.grid_script.specs.declared.deed.Deed.{Deed}
use Rattle.live_run.specs.Due.{command_of}
use Rattle.live_run.specs.Serving.{deeds_by, orders_of, place_of}
use Rattle.live_run.specs.Staying.{Stays}
use Rattle.live_run.proofs.OrdersGo.{orders_go}
use Rattle.live_run.proofs.Staying.{longer_by, same_book, stays_on, still_none}
use Rattle.live_run.proofs.Steps.{acts_at}
use Rattle.live_run.proofs.orders.order_due.Goals as goal

pub do_order-requires-clause-placed : goal.do_order-requires-clause-placed
do_order-requires-clause-placed c =
    acts_at c.args.script.now c.loop-time.book c.args.by c.args.home c.place-node.result c.loop-time.invariant.begun.partly c.requires.home c.place-node.ensures

pub loop-time-preserved : goal.loop-time-preserved
loop-time-preserved c =
    let was = c.loop-time.book in
    let between = c.do_order.new.book in
    let order = command_of c.args.by c.place-node.result c.args.deed.now in
    let same = same_book was between order (sym c.in-Ok-false.ensures.moved ∙ c.in-Ok-false.field-0-test) c.in-Ok-false.ensures.added in
    record {
      begun = c.do_inner.ensures.begun;
      stays = λ k.
          stays_on c.args.book.now was c.do_inner.new.book k (c.loop-time.invariant.stays k)
          (subst (λ (b : Booked). Stays b c.do_inner.new.book k) same (c.do_inner.ensures.stays k));
      changes = c.do_inner.ensures.changes ∙ c.do_order.ensures.changes ∙ c.loop-time.invariant.changes;
      long =
          let more = longer_by between (chosen (cluster_of between) commands.Advance) (sym c.in-Ok-true-do_inner.ensures.moved ∙ c.in-Ok-true-do_inner.field-0-test) in
          let added = ap (λ (b : Booked). length b.events) c.in-Ok-true-do_inner.ensures.added in
          let still = ap (λ (b : Booked). length b.events) same in
          let long = c.loop-time.invariant.long in omega (arith, more, added, still, long);
    }

pub unreachable-requires : goal.unreachable-requires
unreachable-requires c =
    let script = c.args.script.now in
    let was = c.loop-time.book in
    let between = c.do_order.new.book in
    let is = c.do_inner.new.book in
    let order = command_of c.args.by c.place-node.result c.args.deed.now in
    let no_order = sym c.in-Ok-false.ensures.moved ∙ c.in-Ok-false.field-0-test in
    let no_step = sym c.in-Ok-false-do_inner.ensures.moved ∙ c.in-Ok-false-do_inner.field-0-test in
    let same = same_book between is commands.Advance no_step c.in-Ok-false-do_inner.ensures.added ∙ same_book was between order no_order c.in-Ok-false.ensures.added in
    let none = still_none between is commands.Advance no_step c.in-Ok-false-do_inner.ensures.added in
    let is_next : slice_get (orders_of script c.args.by) (length (deeds_by c.args.by (reverse is.events))) ≡ Some c.args.deed.now =
    ap (λ (b : Booked). slice_get (orders_of script c.args.by) (length (deeds_by c.args.by (reverse b.events)))) same
    ∙ ap (λ (ds : List Deed). slice_get (orders_of script c.args.by) (length ds)) (c.loop-time.invariant.stays c.args.by).deeds ∙ c.requires.is_next in
    let goes = orders_go script is c.args.by c.args.deed.now c.requires.live c.kept.ensures.limits c.kept.ensures.run c.kept.ensures.fits c.do_inner.ensures.begun c.requires.session is_next none in
    let placed = acts_at script was c.args.by c.args.home c.place-node.result c.loop-time.invariant.begun.partly c.requires.home c.place-node.ensures in
    let here = subst (λ (b : Booked). is_some (chosen (cluster_of b) (command_of c.args.by (place_of script (reverse b.events) c.args.by) c.args.deed.now)) ≡ true) same goes in
    true≢false (sym here ∙ ap (λ n. is_some (chosen (cluster_of was) (command_of c.args.by n c.args.deed.now))) (sym placed) ∙ no_order)
