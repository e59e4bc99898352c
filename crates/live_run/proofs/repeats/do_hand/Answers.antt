-- The end of a unit keeps all that is served.
use Rattle.std.proofs.Common.{◌≡◌, Err, reverse, subst, sym, ap, ◌∙◌}
use Rattle.grid_book.specs.Booked.{Booked, history_of, with_found}
use Rattle.grid_book.specs.declared.act_fault.ActFault.TheVariants.{Full}
use Rattle.live_run.specs.Due.{WasFull}
use Rattle.live_run.specs.Serving.{changes_in}
use Rattle.live_run.specs.Staying.{IsBegun, Stays}
use Rattle.live_run.proofs.DoneFull.{done_full}
use Rattle.live_run.proofs.Staying.{done_changes, done_stays}
use Rattle.live_run.proofs.Steps.{done_begun, same_settings}
use Rattle.live_run.proofs.repeats.do_hand.Goals as goal

pub returns-in-Ok-clause-begun : goal.returns-in-Ok-clause-begun
returns-in-Ok-clause-begun c =
    let book = c.args.book.now in
    subst (IsBegun c.args.script.now) (sym (c.in-Ok.ensures.added ∙ ap (with_found book) c.in-Ok.ensures.done))
    (done_begun c.args.script.now book c.args.made.unit c.requires.begun)

pub returns-in-Ok-clause-stays : goal.returns-in-Ok-clause-stays
returns-in-Ok-clause-stays c k =
    let book = c.args.book.now in
    subst (λ (b : Booked). Stays book b k) (sym (c.in-Ok.ensures.added ∙ ap (with_found book) c.in-Ok.ensures.done)) (done_stays book c.args.made.unit k)

pub returns-in-Ok-clause-changes : goal.returns-in-Ok-clause-changes
returns-in-Ok-clause-changes c =
    let book = c.args.book.now in
    ap (λ (b : Booked). changes_in (reverse b.events)) (c.in-Ok.ensures.added ∙ ap (with_found book) c.in-Ok.ensures.done) ∙ done_changes book c.args.made.unit

pub returns-in-Err-clause-full : goal.returns-in-Err-clause-full
returns-in-Err-clause-full c h =
    let book = c.args.book.now in
    subst (λ (b : Booked). WasFull c.args.script.now (history_of b)) (sym c.in-Err.ensures.err)
    (done_full c.args.script.now book c.args.made.unit (same_settings c.args.script.now book c.requires.begun.partly) c.kept.ensures.limits c.kept.ensures.run c.kept.ensures.fits
    (let full : c.in-Err.fault ≡ Full = cc in c.in-Err.ensures.full (ap Err full)))
