-- The next change has an event, and keeps all that is served.
use Rattle.std.proofs.Common.{◌≡◌, Err, ◌∷◌, ◌++◌, [], true, reverse, subst, sym, ap, ◌∙◌}
use Rattle.std.proofs.lemmas.Bool.{true≢false}
use Rattle.std.specs.Prelude.{is_some}
use Rattle.grid_event.specs.declared.command.Command.{Command}
use Rattle.grid_event.specs.declared.config.Config.{Config}
use Rattle.grid_script.specs.LiveRules.{ArePossible}
use Rattle.grid_script.specs.Rules.{first_members}
use Rattle.cluster_laws.proofs.Runs.{always_kept}
use Rattle.cluster_model.specs.Commands.{chosen}
use Rattle.grid_book.specs.Booked.{Booked, cluster_of, with_found}
use Rattle.grid_book.specs.declared.act_fault.ActFault.TheVariants.{Full}
use Rattle.live_run.specs.Due.{IsDue}
use Rattle.live_run.specs.Serving.{changes_in}
use Rattle.live_run.specs.Staying.{IsBegun, Stays}
use Rattle.live_run.proofs.Filling.{change_is_due, full_end}
use Rattle.live_run.proofs.Moving.{moves_go}
use Rattle.live_run.proofs.Staying.{change_done, change_stays}
use Rattle.live_run.proofs.Steps.{change_begun, same_settings}
use Rattle.live_run.proofs.changes.do_change.Goals as goal

pub returns-in-Ok-true-clause-begun : goal.returns-in-Ok-true-clause-begun
returns-in-Ok-true-clause-begun c =
    let book = c.args.book.now in
    subst (IsBegun c.args.script.now) (sym c.in-Ok-true.ensures.added)
    (subst (λ (command : Command). IsBegun c.args.script.now (with_found book (chosen (cluster_of book) command))) (sym c.change_command-command.ensures)
    (change_begun c.args.script.now book c.args.change.now c.requires.begun c.requires.is_next))

pub returns-in-Ok-true-clause-done : goal.returns-in-Ok-true-clause-done
returns-in-Ok-true-clause-done c =
    let book = c.args.book.now in
    ap (λ (b : Booked). changes_in (reverse b.events)) c.in-Ok-true.ensures.added
    ∙ subst
    (λ (command : Command).
    is_some (chosen (cluster_of book) command) ≡ true →
    changes_in (reverse (with_found book (chosen (cluster_of book) command)).events) ≡ changes_in (reverse book.events) ++ c.args.change.now ∷ [])
    (sym c.change_command-command.ensures) (change_done book c.args.change.now) (sym c.in-Ok-true.ensures.moved ∙ c.in-Ok-true.field-0-test)

pub returns-in-Ok-true-clause-stays : goal.returns-in-Ok-true-clause-stays
returns-in-Ok-true-clause-stays c k =
    let book = c.args.book.now in
    subst (λ (b : Booked). Stays book b k) (sym c.in-Ok-true.ensures.added)
    (subst (λ (command : Command). Stays book (with_found book (chosen (cluster_of book) command)) k) (sym c.change_command-command.ensures)
    (change_stays book c.args.change.now k))

pub unreachable-requires : goal.unreachable-requires
unreachable-requires c =
    let book = c.args.book.now in
    let script = c.args.script.now in
    let goes = moves_go book.config (reverse book.events) (cluster_of book) script.changes c.args.change.now
    (always_kept book.config book.events c.kept.ensures.limits c.kept.ensures.run).told
    (subst (λ (config : Config). ArePossible (first_members config.nodes) script.changes) (sym (same_settings script book c.requires.begun.partly)) c.requires.live.possible)
    c.requires.begun.partly.moved c.requires.is_next in
    true≢false (sym goes ∙ ap (λ (command : Command). is_some (chosen (cluster_of book) command)) (sym c.change_command-command.ensures) ∙ sym c.in-Ok-false.ensures.moved ∙ c.in-Ok-false.field-0-test)

pub returns-clause-full : goal.returns-clause-full
returns-clause-full c h =
    let book = c.args.book.now in
    full_end c.args.script.now c.step.result book c.step.new.self c.change_command-command.result (same_settings c.args.script.now book c.requires.begun.partly)
    (subst (IsDue c.args.script.now (reverse book.events)) (sym c.change_command-command.ensures)
    (change_is_due c.args.script.now (reverse book.events) c.args.change.now c.requires.is_next))
    c.step.ensures.full c.step.ensures.err (let full : c.in-Err.fault ≡ Full = cc in c.in-Err.is ∙ ap Err full)
