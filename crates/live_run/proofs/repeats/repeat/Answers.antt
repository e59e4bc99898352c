-- Each time there is an event more, until the command has none.
use Rattle.std.proofs.Common.{◌≡◌, Err, length, refl, sym, ap, ◌∙◌, arith}
use Rattle.cluster_model.specs.Commands.{chosen}
use Rattle.grid_book.specs.Booked.{Booked, cluster_of}
use Rattle.grid_book.specs.declared.act_fault.ActFault.TheVariants.{Full}
use Rattle.live_run.proofs.Staying.{longer_by, stays_on, stays_same, still_none}
use Rattle.live_run.proofs.repeats.repeat.Goals as goal

pub loop-time-init : goal.loop-time-init
loop-time-init c = record { begun = c.requires.begun; stays = λ k. stays_same c.args.book.now k; changes = refl; long = omega arith }

pub loop-time-preserved : goal.loop-time-preserved
loop-time-preserved c = record {
  begun = c.do_inner.ensures.begun;
  stays = λ k. stays_on c.args.book.now c.loop-time.book c.do_inner.new.book k (c.loop-time.invariant.stays k) (c.do_inner.ensures.stays k);
  changes = c.do_inner.ensures.changes ∙ c.loop-time.invariant.changes;
  long =
      let more = longer_by c.loop-time.book (chosen (cluster_of c.loop-time.book) c.args.command.now) (sym c.in-Ok-true.ensures.moved ∙ c.in-Ok-true.field-0-test) in
      let same = ap (λ (b : Booked). length b.events) c.in-Ok-true.ensures.added in
      let long = c.loop-time.invariant.long in omega (arith, more, same, long);
}

pub returns-in-Ok-false-clause-done : goal.returns-in-Ok-false-clause-done
returns-in-Ok-false-clause-done c = still_none c.loop-time.book c.do_inner.new.book c.args.command.now (sym c.in-Ok-false.ensures.moved ∙ c.in-Ok-false.field-0-test) c.in-Ok-false.ensures.added

pub returns-in-Ok-false-clause-stays : goal.returns-in-Ok-false-clause-stays
returns-in-Ok-false-clause-stays c k = stays_on c.args.book.now c.loop-time.book c.do_inner.new.book k (c.loop-time.invariant.stays k) (c.do_inner.ensures.stays k)

pub returns-in-Ok-false-clause-changes : goal.returns-in-Ok-false-clause-changes
returns-in-Ok-false-clause-changes c = c.do_inner.ensures.changes ∙ c.loop-time.invariant.changes

pub returns-in-Err-clause-stays : goal.returns-in-Err-clause-stays
returns-in-Err-clause-stays c k = stays_on c.args.book.now c.loop-time.book c.do_inner.new.book k (c.loop-time.invariant.stays k) (c.do_inner.ensures.stays k)

pub returns-in-Err-clause-changes : goal.returns-in-Err-clause-changes
returns-in-Err-clause-changes c = c.do_inner.ensures.changes ∙ c.loop-time.invariant.changes

pub returns-in-Err-clause-full : goal.returns-in-Err-clause-full
returns-in-Err-clause-full c h = let full : c.in-Err.fault ≡ Full = cc in c.in-Err.ensures.full (ap Err full)
