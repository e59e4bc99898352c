-- A journal that is full for the end of a unit has its cause.
use Rattle.std.proofs.Common.{◌≡◌, Err, ap, subst}
use Rattle.grid_script.specs.Scripts.{Lives}
use Rattle.grid_book.specs.Booked.{history_of}
use Rattle.grid_book.specs.declared.act_fault.ActFault.TheVariants.{Full}
use Rattle.live_run.specs.Due.{WasFull}
use Rattle.live_run.proofs.shared.Shared.hand.Goals as goal

pub keep-requires-in-Err-do_hand : goal.keep-requires-in-Err-do_hand
keep-requires-in-Err-do_hand g c = record {
  cause = λ e.
      let full : c.in-Err-do_hand.fault ≡ Full = e in
      subst (λ (s : Lives). WasFull s (history_of c.do_hand.new.book)) c.self.invariant.same (c.in-Err-do_hand.ensures.full (ap Err full));
}
