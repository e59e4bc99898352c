-- Steps of a book that serves a part of a script.
use Rattle.std.proofs.Common.{◌≡◌, ℕ, ◌≤◌, Bool, true, false, [], ◌∷◌, length, reverse, slice_get, Option, None, Some, refl, sym, ap, subst, ◌∙◌, arith, if◌then◌else◌, length-append}
use Rattle.std.specs.Prelude.{Result, Ok, Err, OnOk, OnErr}
use Rattle.grid_event.specs.Configs.{is_config}
use Rattle.grid_event.specs.declared.command.Command.{Command}
use Rattle.grid_event.specs.declared.config.Config.{Config}
use Rattle.grid_event.specs.declared.event.Event.{Event}
use Rattle.grid_event.specs.declared.event.Event.TheVariants as events
use Rattle.grid_script.specs.Scripts.{Lives}
use Rattle.grid_script.specs.declared.deed.Deed.{Deed}
use Rattle.grid_script.specs.declared.deed.Deed.TheVariants as deeds
use Rattle.cluster_model.proofs.ChosenSteps.{chosen_may}
use Rattle.cluster_model.specs.Commands.{chosen, if_allowed}
use Rattle.cluster_model.specs.State.{State, start}
use Rattle.cluster_model.specs.Step.{allowed, runs}
use Rattle.grid_book.specs.Booked.{Booked, cluster_of, history_of, with_found}
use Rattle.grid_script.specs.declared.member.Member.{Member}
use Rattle.grid_script.specs.declared.member.Member.TheVariants as members
use Rattle.live_run.specs.Due.{change_command, command_of, is_inner}
use Rattle.live_run.specs.Staying.{IsBegun}
use Rattle.live_run.specs.Serving.{IsPartlyServed, change_of, changes_in, deeds_by, doing_of, has_answers, home_in, is_timeless, orders_of, place_at, place_of}
use Rattle.live_run.proofs.Inner.{chosen_inner}
use Rattle.live_run.proofs.Parts.{change_keeps, inner_keeps, inner_tests, is_change, order_keeps}
use Rattle.live_run.proofs.FirstAnswers.{first_answer}

-- the settings of a book that serves a part of a script are the script's
pub same_settings : (script : Lives) (book : Booked) → IsPartlyServed script (history_of book) → book.config ≡ script.config
same_settings script book h = let s : Some book.config ≡ Some script.config = h.settings in cc

-- a book with what an inner command chooses
pub inner_step : (script : Lives) (book : Booked) (command : Command) → is_config book.config ≡ true → runs (start book.config) book.events ≡ true →
    IsPartlyServed script (history_of book) → length script.load ≤ length book.events → is_inner command ≡ true →
    IsPartlyServed script (history_of (with_found book (chosen (cluster_of book) command)))
inner_step script book command good run h whole inner = by_found (chosen (cluster_of book) command) refl
  where
    by_found : (found : Option Event) → chosen (cluster_of book) command ≡ found → IsPartlyServed script (history_of (with_found book found))
    by_found None e = h
    by_found (Some event) e =
        inner_keeps script (history_of book) event h whole (inner_tests event (chosen_inner (cluster_of book) command inner event e))
        (λ call t. first_answer book.config book.events event call good run (chosen_may (cluster_of book) command event e) t)

-- a book only grows
pub grows : (book : Booked) (found : Option Event) → length book.events ≤ length (with_found book found).events
grows book None = omega arith
grows book (Some event) = let l = length-append book.events (event ∷ []) in omega arith

-- what a session is to do is what its event tells
pub record DoesIt (who node : ℕ) (deed : Deed) (event : Event) : Type 0 where
  pub doing : doing_of event ≡ Some (record { session = who; node = node; deed = deed })
  pub timeless : is_timeless event ≡ true

-- an event that may happen where it is said is the one that is said
pub this_one : (st : State) (this event : Event) → if_allowed st this ≡ Some event → this ≡ event
this_one st this event e = by_test (allowed st this) e
  where
    by_test : (b : Bool) → (if b then Some this else None) ≡ Some event → this ≡ event
    by_test true e = cc
    by_test false e = absurd (cc)

-- the event of what a session is to do
pub does_it : (st : State) (who node : ℕ) (deed : Deed) (event : Event) → chosen st (command_of who node deed) ≡ Some event → DoesIt who node deed event
unfolding chosen
does_it st who node (deeds.Put it) event e =
    subst (DoesIt who node (deeds.Put it)) (this_one st (events.Write (record { by = who; node = node; key = it.key; value = it.value; until = None })) event e)
    (record { doing = refl; timeless = refl })
does_it st who node (deeds.Erase key) event e =
    subst (DoesIt who node (deeds.Erase key)) (this_one st (events.Erase (record { by = who; node = node; key = key })) event e)
    (record { doing = refl; timeless = refl })
does_it st who node (deeds.Call call request) event e =
    subst (DoesIt who node (deeds.Call call request)) (this_one st (events.Invoke (record { by = who; call = call; node = node; request = request })) event e)
    (record { doing = refl; timeless = refl })

-- a book with the next order of a session
pub order_step : (script : Lives) (book : Booked) (who node : ℕ) (deed : Deed) → IsPartlyServed script (history_of book) → length script.load ≤ length book.events →
    slice_get (orders_of script who) (length (deeds_by who (reverse book.events))) ≡ Some deed → node ≡ place_of script (reverse book.events) who →
    has_answers (reverse book.events) who ≡ true → IsPartlyServed script (history_of (with_found book (chosen (cluster_of book) (command_of who node deed))))
order_step script book who node deed h whole is_next placed answered = by_found (chosen (cluster_of book) (command_of who node deed)) refl
  where
    by_found : (found : Option Event) → chosen (cluster_of book) (command_of who node deed) ≡ found → IsPartlyServed script (history_of (with_found book found))
    by_found None e = h
    by_found (Some event) e =
        let it = does_it (cluster_of book) who node deed event e in
        order_keeps script (history_of book) event (record { session = who; node = node; deed = deed }) h whole it.doing it.timeless is_next placed answered

-- what holds of both ends of a step holds behind it
pub either_end : {A E : Type 0} {B : Type 0} (P : B → Type 0) (r : Result A E) (was found is : B) → OnOk r (is ≡ found) → OnErr r (is ≡ was) → P found → P was → P is
either_end P (Ok value) was found is ok err f w = subst P (sym ok) f
either_end P (Err fault) was found is ok err f w = subst P (sym err) w

-- a begun book with what an inner command chooses
pub inner_begun : (script : Lives) (book : Booked) (command : Command) → is_config book.config ≡ true → runs (start book.config) book.events ≡ true →
    IsBegun script book → is_inner command ≡ true → IsBegun script (with_found book (chosen (cluster_of book) command))
inner_begun script book command good run h inner = record {
  partly = inner_step script book command good run h.partly h.whole inner;
  whole = let g = grows book (chosen (cluster_of book) command) in let w = h.whole in omega arith;
}

-- a begun book with the next order of a session
pub order_begun : (script : Lives) (book : Booked) (who node : ℕ) (deed : Deed) → IsBegun script book →
    slice_get (orders_of script who) (length (deeds_by who (reverse book.events))) ≡ Some deed → node ≡ place_of script (reverse book.events) who →
    has_answers (reverse book.events) who ≡ true → IsBegun script (with_found book (chosen (cluster_of book) (command_of who node deed)))
order_begun script book who node deed h is_next placed answered = record {
  partly = order_step script book who node deed h.partly h.whole is_next placed answered;
  whole = let g = grows book (chosen (cluster_of book) (command_of who node deed)) in let w = h.whole in omega arith;
}

-- the event of a change
pub does_change : (st : State) (change : Member) (event : Event) → chosen st (change_command change) ≡ Some event → change_of event ≡ Some change
unfolding chosen
does_change st (members.Join node) event e = ap change_of (sym (this_one st (events.Join node) event e))
does_change st (members.Depart node) event e = ap change_of (sym (this_one st (events.Depart node) event e))

-- a begun book with the next change
pub change_begun : (script : Lives) (book : Booked) (change : Member) → IsBegun script book →
    slice_get script.changes (length (changes_in (reverse book.events))) ≡ Some change → IsBegun script (with_found book (chosen (cluster_of book) (change_command change)))
change_begun script book change h is_next = by_found (chosen (cluster_of book) (change_command change)) refl
  where
    by_found : (found : Option Event) → chosen (cluster_of book) (change_command change) ≡ found → IsBegun script (with_found book found)
    by_found None e = h
    by_found (Some event) e = record {
      partly = change_keeps script (history_of book) event change h.partly h.whole (is_change event change (does_change (cluster_of book) change event e)) is_next;
      whole = let g = grows book (Some event) in let w = h.whole in omega arith;
    }

-- a begun book with the end of a unit, where that may come
pub done_begun : (script : Lives) (book : Booked) (unit : ℕ) → IsBegun script book → IsBegun script (with_found book (if_allowed (cluster_of book) (events.Done unit)))
done_begun script book unit h = by_test (allowed (cluster_of book) (events.Done unit))
  where
    by_test : (b : Bool) → IsBegun script (with_found book (if b then Some (events.Done unit) else None))
    by_test false = h
    by_test true = record {
      partly = inner_keeps script (history_of book) (events.Done unit) h.partly h.whole (inner_tests (events.Done unit) refl) (λ call t. absurd (cc));
      whole = let g = grows book (Some (events.Done unit)) in let w = h.whole in omega arith;
    }

-- the home of a session, or the least live node, is where it acts
pub acts_at : (script : Lives) (book : Booked) (who home node : ℕ) → IsPartlyServed script (history_of book) → home ≡ home_in script.sessions who →
    node ≡ place_at book.config (reverse book.events) home → node ≡ place_of script (reverse book.events) who
acts_at script book who home node h at_home is =
    is ∙ ap (λ (c : Config). place_at c (reverse book.events) home) (same_settings script book h) ∙ ap (place_at script.config (reverse book.events)) at_home
