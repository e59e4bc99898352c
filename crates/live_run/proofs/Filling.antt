-- A journal that is full for what might come next.
use Rattle.std.proofs.Common.{◌≡◌, ℕ, true, List, [], length, reverse, slice_get, Option, None, Some, refl, sym, ap, subst, ◌∙◌, inl, inr, append-nil}
use Rattle.std.specs.Option.{option_map}
use Rattle.std.specs.Prelude.{Result, Err, OnErr}
use Rattle.grid_event.specs.Histories.{passes_limit}
use Rattle.grid_event.specs.declared.command.Command.{Command}
use Rattle.grid_event.specs.declared.config.Config.{Config}
use Rattle.grid_event.specs.declared.event.Event.{Event}
use Rattle.grid_script.specs.Scripts.{Lives}
use Rattle.grid_script.specs.declared.deed.Deed.{Deed}
use Rattle.grid_script.specs.declared.member.Member.{Member}
use Rattle.cluster_model.specs.Commands.{chosen}
use Rattle.cluster_model.specs.State.{start}
use Rattle.cluster_model.specs.Step.{state}
use Rattle.grid_book.specs.Booked.{Booked, cluster_of, history_of, is_full_for}
use Rattle.grid_book.specs.declared.act_fault.ActFault.{ActFault}
use Rattle.grid_book.specs.declared.act_fault.ActFault.TheVariants.{Full}
use Rattle.live_run.specs.Due.{IsDue, WasFull, change_command, command_of}
use Rattle.live_run.specs.Serving.{changes_in, deeds_by, orders_of, place_of}

-- a journal that is full for what is due
full_due : (script : Lives) (book : Booked) (command : Command) → book.config ≡ script.config → IsDue script (reverse book.events) command →
    is_full_for book (chosen (cluster_of book) command) ≡ true → WasFull script (history_of book)
full_due script book command same due full = by_found (chosen (cluster_of book) command) refl full
  where
    by_found : (found : Option Event) → chosen (cluster_of book) command ≡ found → is_full_for book found ≡ true → WasFull script (history_of book)
    by_found None e full = absurd (cc)
    by_found (Some event) e full = record {
      first = book.events;
      rest = [];
      parts = sym (append-nil book.events);
      command = command;
      due = due;
      event = event;
      happens = ap (λ (config : Config). chosen (state (start config) book.events) command) (sym same) ∙ e;
      full = ap (λ (config : Config). passes_limit (record { config = Some config; events = book.events; idle = [] }) event) (sym same) ∙ full;
    }

-- where a step left the book as it was, for a full journal
pub full_end : {A : Type 0} (script : Lives) (r : Result A ActFault) (was is : Booked) (command : Command) → was.config ≡ script.config → IsDue script (reverse was.events) command →
    (r ≡ Err Full → is_full_for was (chosen (cluster_of was) command) ≡ true) → OnErr r (is ≡ was) → r ≡ Err Full → WasFull script (history_of is)
full_end script r was is command same due full err h =
    let left : is ≡ was = subst (λ x. OnErr x (is ≡ was)) h err in
    subst (λ (b : Booked). WasFull script (history_of b)) (sym left) (full_due script was command same due (full h))

-- the next order of a session is due
pub order_is_due : (script : Lives) (past : List Event) (k node : ℕ) (deed : Deed) → slice_get (orders_of script k) (length (deeds_by k past)) ≡ Some deed → node ≡ place_of script past k →
    IsDue script past (command_of k node deed)
order_is_due script past k node deed is_next placed =
    inl (k, ap (option_map (command_of k (place_of script past k))) is_next ∙ ap (λ n. Some (command_of k n deed)) (sym placed))

-- the next change is due
pub change_is_due : (script : Lives) (past : List Event) (change : Member) → slice_get script.changes (length (changes_in past)) ≡ Some change → IsDue script past (change_command change)
change_is_due script past change is_next = inr (inl (ap (option_map change_command) is_next))
