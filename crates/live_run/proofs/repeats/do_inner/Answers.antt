-- What an inner command chooses keeps all that is served.
use Rattle.std.proofs.Common.{◌≡◌, refl, reverse, inr}
use Rattle.cluster_model.specs.Commands.{chosen}
use Rattle.grid_book.specs.Booked.{Booked, cluster_of, with_found}
use Rattle.live_run.specs.Serving.{changes_in}
use Rattle.live_run.specs.Staying.{IsBegun, Stays}
use Rattle.live_run.proofs.Filling.{full_end}
use Rattle.live_run.proofs.Staying.{inner_changes, inner_stays, stays_same}
use Rattle.live_run.proofs.Steps.{either_end, inner_begun, same_settings}
use Rattle.live_run.proofs.repeats.do_inner.Goals as goal

pub returns-clause-begun : goal.returns-clause-begun
returns-clause-begun c =
    let book = c.args.book.now in
    either_end (IsBegun c.args.script.now) c.step.result book (with_found book (chosen (cluster_of book) c.args.command.now)) c.step.new.self
    c.step.ensures.added c.step.ensures.err
    (inner_begun c.args.script.now book c.args.command.now c.kept.ensures.limits c.kept.ensures.run c.requires.begun c.requires.inner) c.requires.begun

pub returns-clause-stays : goal.returns-clause-stays
returns-clause-stays c k =
    let book = c.args.book.now in
    either_end (λ (b : Booked). Stays book b k) c.step.result book (with_found book (chosen (cluster_of book) c.args.command.now)) c.step.new.self
    c.step.ensures.added c.step.ensures.err (inner_stays book c.args.command.now c.requires.inner k) (stays_same book k)

pub returns-clause-changes : goal.returns-clause-changes
returns-clause-changes c =
    let book = c.args.book.now in
    either_end (λ (b : Booked). changes_in (reverse b.events) ≡ changes_in (reverse book.events)) c.step.result book
    (with_found book (chosen (cluster_of book) c.args.command.now)) c.step.new.self c.step.ensures.added c.step.ensures.err
    (inner_changes book c.args.command.now c.requires.inner) refl

pub returns-clause-full : goal.returns-clause-full
returns-clause-full c =
    let book = c.args.book.now in
    full_end c.args.script.now c.step.result book c.step.new.self c.args.command.now (same_settings c.args.script.now book c.requires.begun.partly)
    (inr (inr c.requires.inner)) c.step.ensures.full c.step.ensures.err
