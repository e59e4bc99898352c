-- The next put of the load has its event.
use Rattle.std.proofs.Common.{◌≡◌, Err, Some, List, length, get_or, slice_get, is_some, refl, sym, ap, ◌∙◌}
use Rattle.std.proofs.lemmas.Bool.{true≢false}
use Rattle.std.proofs.lemmas.Option.{slice_get_read}
use Rattle.grid_base.specs.declared.entry.Entry.{Entry}
use Rattle.grid_script.specs.Scripts.{Lives}
use Rattle.grid_book.specs.Booked.{Booked, with_found}
use Rattle.grid_book.specs.declared.act_fault.ActFault.TheVariants.{Full}
use Rattle.live_run.proofs.Filling.{full_end}
use Rattle.live_run.proofs.Fronts.{put_done, put_due, put_event}
use Rattle.live_run.proofs.loading.put.Goals as goal

pub returns-in-Ok-true-clause-done : goal.returns-in-Ok-true-clause-done
returns-in-Ok-true-clause-done c =
    let script = c.args.script.now in
    let it = c.index-as_slice-place.result in
    let at : slice_get script.load c.args.place ≡ Some it =
    slice_get_read script.load (length script.load) c.args.place it refl c.requires.within
    (c.index-as_slice-place.is ∙ ap (λ (xs : List Entry). get_or xs c.args.place it) (c.as_slice.ensures ∙ ap (λ (s : Lives). s.load) c.script.view_is)) in
    c.in-Ok-true.ensures.added
    ∙ ap (with_found c.args.book.now)
    (put_event script c.args.place it c.args.book.now c.in_ok-command.command c.new.result c.new-2.result c.requires.live c.requires.front c.kept.ensures.run at
    c.in_ok-command.ensures c.new.ensures c.new-2.ensures)
    ∙ put_done script c.args.place it c.args.book.now c.requires.front at

pub unreachable-requires : goal.unreachable-requires
unreachable-requires c =
    let script = c.args.script.now in
    let it = c.index-as_slice-place.result in
    let at : slice_get script.load c.args.place ≡ Some it =
    slice_get_read script.load (length script.load) c.args.place it refl c.requires.within
    (c.index-as_slice-place.is ∙ ap (λ (xs : List Entry). get_or xs c.args.place it) (c.as_slice.ensures ∙ ap (λ (s : Lives). s.load) c.script.view_is)) in
    true≢false
    (sym
    (ap is_some
    (put_event script c.args.place it c.args.book.now c.in_ok-command.command c.new.result c.new-2.result c.requires.live c.requires.front c.kept.ensures.run at
    c.in_ok-command.ensures c.new.ensures c.new-2.ensures))
    ∙ sym c.in-Ok-false.ensures.moved ∙ c.in-Ok-false.field-0-test)

pub returns-clause-full : goal.returns-clause-full
returns-clause-full c h =
    let script = c.args.script.now in
    let it = c.index-as_slice-place.result in
    let at : slice_get script.load c.args.place ≡ Some it =
    slice_get_read script.load (length script.load) c.args.place it refl c.requires.within
    (c.index-as_slice-place.is ∙ ap (λ (xs : List Entry). get_or xs c.args.place it) (c.as_slice.ensures ∙ ap (λ (s : Lives). s.load) c.script.view_is)) in
    full_end script c.step.result c.args.book.now c.step.new.self c.in_ok-command.command (ap (λ (b : Booked). b.config) c.requires.front)
    (put_due script c.args.place it c.args.book.now c.in_ok-command.command c.new.result c.new-2.result c.requires.live c.requires.front at
    c.in_ok-command.ensures c.new.ensures c.new-2.ensures)
    c.step.ensures.full c.step.ensures.err (let full : c.in-Err.fault ≡ Full = cc in c.in-Err.is ∙ ap Err full)
