-- The next order of a session keeps all that is served.
use Rattle.std.proofs.Common.{◌≡◌, ◌∷◌, ◌++◌, [], true, refl, reverse, subst, sym}
use Rattle.std.specs.Prelude.{is_some}
use Rattle.grid_event.specs.declared.command.Command.{Command}
use Rattle.cluster_model.specs.Commands.{chosen}
use Rattle.grid_book.specs.Booked.{Booked, cluster_of, with_found}
use Rattle.live_run.specs.Due.{IsDue}
use Rattle.live_run.specs.Serving.{changes_in, deeds_by}
use Rattle.live_run.specs.Staying.{IsBegun, Stays}
use Rattle.live_run.proofs.Filling.{full_end, order_is_due}
use Rattle.live_run.proofs.Staying.{done_if, order_changes, order_done, order_stays, stays_same}
use Rattle.live_run.proofs.Steps.{either_end, order_begun, same_settings}
use Rattle.live_run.proofs.orders.do_order.Goals as goal

pub returns-clause-begun : goal.returns-clause-begun
returns-clause-begun c =
    let book = c.args.book.now in
    either_end (IsBegun c.args.script.now) c.step.result book (with_found book (chosen (cluster_of book) c.in_ok-command.command)) c.step.new.self
    c.step.ensures.added c.step.ensures.err
    (subst (λ (command : Command). IsBegun c.args.script.now (with_found book (chosen (cluster_of book) command))) (sym c.in_ok-command.ensures)
    (order_begun c.args.script.now book c.args.by c.args.node c.args.deed.now c.requires.begun c.requires.is_next c.requires.placed c.requires.answered))
    c.requires.begun

pub returns-clause-stays : goal.returns-clause-stays
returns-clause-stays c k other =
    let book = c.args.book.now in
    either_end (λ (b : Booked). Stays book b k) c.step.result book (with_found book (chosen (cluster_of book) c.in_ok-command.command)) c.step.new.self
    c.step.ensures.added c.step.ensures.err
    (subst (λ (command : Command). Stays book (with_found book (chosen (cluster_of book) command)) k) (sym c.in_ok-command.ensures)
    (order_stays book c.args.by c.args.node c.args.deed.now k other)) (stays_same book k)

pub returns-clause-changes : goal.returns-clause-changes
returns-clause-changes c =
    let book = c.args.book.now in
    either_end (λ (b : Booked). changes_in (reverse b.events) ≡ changes_in (reverse book.events)) c.step.result book
    (with_found book (chosen (cluster_of book) c.in_ok-command.command)) c.step.new.self c.step.ensures.added c.step.ensures.err
    (subst (λ (command : Command). changes_in (reverse (with_found book (chosen (cluster_of book) command)).events) ≡ changes_in (reverse book.events)) (sym c.in_ok-command.ensures)
    (order_changes book c.args.by c.args.node c.args.deed.now)) refl

pub returns-clause-full : goal.returns-clause-full
returns-clause-full c =
    let book = c.args.book.now in
    full_end c.args.script.now c.step.result book c.step.new.self c.in_ok-command.command (same_settings c.args.script.now book c.requires.begun.partly)
    (subst (IsDue c.args.script.now (reverse book.events)) (sym c.in_ok-command.ensures)
    (order_is_due c.args.script.now (reverse book.events) c.args.by c.args.node c.args.deed.now c.requires.is_next c.requires.placed))
    c.step.ensures.full c.step.ensures.err

pub returns-clause-done : goal.returns-clause-done
returns-clause-done c =
    let book = c.args.book.now in
    done_if (λ (b : Booked). deeds_by c.args.by (reverse b.events) ≡ deeds_by c.args.by (reverse book.events) ++ c.args.deed.now ∷ []) c.step.result
    (is_some (chosen (cluster_of book) c.in_ok-command.command)) (with_found book (chosen (cluster_of book) c.in_ok-command.command)) c.step.new.self
    c.step.ensures.moved c.step.ensures.added
    (subst
    (λ (command : Command).
    is_some (chosen (cluster_of book) command) ≡ true →
    deeds_by c.args.by (reverse (with_found book (chosen (cluster_of book) command)).events) ≡ deeds_by c.args.by (reverse book.events) ++ c.args.deed.now ∷ [])
    (sym c.in_ok-command.ensures) (order_done book c.args.by c.args.node c.args.deed.now))
