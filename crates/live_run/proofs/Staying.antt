-- What an event leaves of sessions and changes.
use Rattle.std.proofs.Common.{◌≡◌, ℕ, ◌==◌, Bool, true, false, List, [], ◌∷◌, ◌++◌, length, reverse, Option, None, Some, is_some, refl, sym, ap, subst, ◌∙◌, ◌+◌, ◌≤◌, if◌then◌else◌, arith, length-append}
use Rattle.std.proofs.lemmas.Bool.{and_from, and_parts, eq-eqb}
use Rattle.std.specs.List.{list_all}
use Rattle.std.specs.Prelude.{Result, Ok, Err, IfOk, OnOk}
use Rattle.grid_event.specs.Spans.{outcome_in}
use Rattle.grid_event.specs.declared.command.Command.{Command}
use Rattle.grid_event.specs.declared.event.Event.{Event}
use Rattle.grid_script.specs.declared.deed.Deed.{Deed}
use Rattle.grid_script.specs.declared.member.Member.{Member}
use Rattle.grid_event.specs.declared.event.Event.TheVariants as events
use Rattle.cluster_model.specs.Commands.{chosen, if_allowed}
use Rattle.cluster_model.specs.Step.{allowed}
use Rattle.grid_book.specs.Booked.{Booked, cluster_of, with_found}
use Rattle.grid_book.specs.declared.act_fault.ActFault.{ActFault}
use Rattle.live_run.specs.Due.{change_command, command_of, is_inner}
use Rattle.live_run.specs.Serving.{Doing, calls_among, changes_in, deeds_by, doing_of, has_answers, with_change, with_doing}
use Rattle.grid_script.specs.Scripts.{Lives}
use Rattle.live_run.specs.Staying.{IsFinishedBy, Stays}
use Rattle.live_run.proofs.Inner.{chosen_inner}
use Rattle.live_run.proofs.Parts.{answer_stays, behind, inner_tests, is_change, no_change}
use Rattle.live_run.proofs.Steps.{does_change, does_it}

-- a book that is as it was
pub stays_same : (book : Booked) (k : ℕ) → Stays book book k
stays_same book k = record { deeds = refl; answers = λ h. h }

-- one step behind another
pub stays_on : (a b c : Booked) (k : ℕ) → Stays a b k → Stays b c k → Stays a c k
stays_on a b c k f g = record { deeds = g.deeds ∙ f.deeds; answers = λ h. g.answers (f.answers h) }

-- calls that are answered stay so
answers_all : (past : List Event) (event : Event) (calls : List ℕ) → list_all (λ call. is_some (outcome_in past call)) calls ≡ true →
    list_all (λ call. is_some (outcome_in (event ∷ past) call)) calls ≡ true
answers_all past event [] h = refl
answers_all past event (call ∷ calls) h =
    let p = and_parts (is_some (outcome_in past call)) (list_all (λ c. is_some (outcome_in past c)) calls) h in
    and_from (is_some (outcome_in (event ∷ past) call)) _ (answer_stays past event call p.0) (answers_all past event calls p.1)

-- an event that is nothing that the session did
event_stays : (book : Booked) (event : Event) (k : ℕ) → with_doing k (doing_of event) (deeds_by k (reverse book.events)) ≡ deeds_by k (reverse book.events) →
    Stays book (with_found book (Some event)) k
event_stays book event k same =
    let past = reverse book.events in
    let on = behind book.events event in
    record {
      deeds = ap (deeds_by k) on ∙ same;
      answers = λ h.
          ap (λ p. has_answers p k) on
          ∙ ap (λ (done : List Deed). list_all (λ call. is_some (outcome_in (event ∷ past) call)) (calls_among done)) same
          ∙ answers_all past event (calls_among (deeds_by k past)) h;
    }

-- what an inner command chooses leaves all sessions
pub inner_stays : (book : Booked) (command : Command) → is_inner command ≡ true → (k : ℕ) → Stays book (with_found book (chosen (cluster_of book) command)) k
inner_stays book command inner k = by_found (chosen (cluster_of book) command) refl
  where
    by_found : (found : Option Event) → chosen (cluster_of book) command ≡ found → Stays book (with_found book found) k
    by_found None e = stays_same book k
    by_found (Some event) e =
        let it = inner_tests event (chosen_inner (cluster_of book) command inner event e) in
        event_stays book event k (ap (λ d. with_doing k d (deeds_by k (reverse book.events))) it.doing)

-- and the changes
pub inner_changes : (book : Booked) (command : Command) → is_inner command ≡ true →
    changes_in (reverse (with_found book (chosen (cluster_of book) command)).events) ≡ changes_in (reverse book.events)
inner_changes book command inner = by_found (chosen (cluster_of book) command) refl
  where
    by_found : (found : Option Event) → chosen (cluster_of book) command ≡ found → changes_in (reverse (with_found book found).events) ≡ changes_in (reverse book.events)
    by_found None e = refl
    by_found (Some event) e =
        let it = inner_tests event (chosen_inner (cluster_of book) command inner event e) in
        ap changes_in (behind book.events event) ∙ ap (λ c. with_change c (changes_in (reverse book.events))) it.change

-- the order of a session leaves the others
pub order_stays : (book : Booked) (who node : ℕ) (deed : Deed) (k : ℕ) → (who == k) ≡ false →
    Stays book (with_found book (chosen (cluster_of book) (command_of who node deed))) k
order_stays book who node deed k other = by_found (chosen (cluster_of book) (command_of who node deed)) refl
  where
    done : List Deed
    done = deeds_by k (reverse book.events)

    by_found : (found : Option Event) → chosen (cluster_of book) (command_of who node deed) ≡ found → Stays book (with_found book found) k
    by_found None e = stays_same book k
    by_found (Some event) e =
        event_stays book event k
        (ap (λ d. with_doing k d done) (does_it (cluster_of book) who node deed event e).doing ∙ ap (λ b. if b then done ++ deed ∷ [] else done) other)

-- and the changes
pub order_changes : (book : Booked) (who node : ℕ) (deed : Deed) →
    changes_in (reverse (with_found book (chosen (cluster_of book) (command_of who node deed))).events) ≡ changes_in (reverse book.events)
order_changes book who node deed = by_found (chosen (cluster_of book) (command_of who node deed)) refl
  where
    by_found : (found : Option Event) → chosen (cluster_of book) (command_of who node deed) ≡ found → changes_in (reverse (with_found book found).events) ≡ changes_in (reverse book.events)
    by_found None e = refl
    by_found (Some event) e =
        ap changes_in (behind book.events event)
        ∙ ap (λ c. with_change c (changes_in (reverse book.events)))
        (no_change event (record { session = who; node = node; deed = deed }) (does_it (cluster_of book) who node deed event e).doing)

-- it is one more of what the session did
pub order_done : (book : Booked) (who node : ℕ) (deed : Deed) → is_some (chosen (cluster_of book) (command_of who node deed)) ≡ true →
    deeds_by who (reverse (with_found book (chosen (cluster_of book) (command_of who node deed))).events) ≡ deeds_by who (reverse book.events) ++ deed ∷ []
order_done book who node deed some = by_found (chosen (cluster_of book) (command_of who node deed)) refl some
  where
    done : List Deed
    done = deeds_by who (reverse book.events)

    by_found : (found : Option Event) → chosen (cluster_of book) (command_of who node deed) ≡ found → is_some found ≡ true →
        deeds_by who (reverse (with_found book found).events) ≡ done ++ deed ∷ []
    by_found None e h = absurd (cc)
    by_found (Some event) e h =
        ap (deeds_by who) (behind book.events event)
        ∙ ap (λ d. with_doing who d done) (does_it (cluster_of book) who node deed event e).doing
        ∙ ap (λ b. if b then done ++ deed ∷ [] else done) (eq-eqb who who refl)

-- a change leaves all sessions
pub change_stays : (book : Booked) (change : Member) (k : ℕ) → Stays book (with_found book (chosen (cluster_of book) (change_command change))) k
change_stays book change k = by_found (chosen (cluster_of book) (change_command change)) refl
  where
    by_found : (found : Option Event) → chosen (cluster_of book) (change_command change) ≡ found → Stays book (with_found book found) k
    by_found None e = stays_same book k
    by_found (Some event) e =
        event_stays book event k
        (ap (λ d. with_doing k d (deeds_by k (reverse book.events))) (is_change event change (does_change (cluster_of book) change event e)).doing)

-- and is one more of them
pub change_done : (book : Booked) (change : Member) → is_some (chosen (cluster_of book) (change_command change)) ≡ true →
    changes_in (reverse (with_found book (chosen (cluster_of book) (change_command change))).events) ≡ changes_in (reverse book.events) ++ change ∷ []
change_done book change some = by_found (chosen (cluster_of book) (change_command change)) refl some
  where
    by_found : (found : Option Event) → chosen (cluster_of book) (change_command change) ≡ found → is_some found ≡ true →
        changes_in (reverse (with_found book found).events) ≡ changes_in (reverse book.events) ++ change ∷ []
    by_found None e h = absurd (cc)
    by_found (Some event) e h =
        ap changes_in (behind book.events event) ∙ ap (λ c. with_change c (changes_in (reverse book.events))) (does_change (cluster_of book) change event e)

-- the end of a unit leaves all sessions
pub done_stays : (book : Booked) (unit k : ℕ) → Stays book (with_found book (if_allowed (cluster_of book) (events.Done unit))) k
done_stays book unit k = by_test (allowed (cluster_of book) (events.Done unit))
  where
    by_test : (b : Bool) → Stays book (with_found book (if b then Some (events.Done unit) else None)) k
    by_test false = stays_same book k
    by_test true = event_stays book (events.Done unit) k refl

-- and the changes
pub done_changes : (book : Booked) (unit : ℕ) →
    changes_in (reverse (with_found book (if_allowed (cluster_of book) (events.Done unit))).events) ≡ changes_in (reverse book.events)
done_changes book unit = by_test (allowed (cluster_of book) (events.Done unit))
  where
    by_test : (b : Bool) → changes_in (reverse (with_found book (if b then Some (events.Done unit) else None)).events) ≡ changes_in (reverse book.events)
    by_test false = refl
    by_test true = ap changes_in (behind book.events (events.Done unit))

-- what holds of a book with an event that there is holds behind a step that had one
pub done_if : {B : Type 0} (Q : B → Type 0) (r : Result Bool ActFault) (some : Bool) (more is : B) → IfOk r (λ moved. moved ≡ some) → OnOk r (is ≡ more) →
    (some ≡ true → Q more) → IfOk r (λ moved. moved ≡ true → Q is)
done_if Q (Ok moved) some more is told added q = λ t. subst Q (sym added) (q (sym told ∙ t))
done_if Q (Err fault) some more is told added q = tt

-- an event that there is makes a book longer by one
pub longer_by : (book : Booked) (found : Option Event) → is_some found ≡ true → length (with_found book found).events ≡ length book.events + 1
longer_by book None h = absurd (cc)
longer_by book (Some event) h = let l = length-append book.events (event ∷ []) in omega arith

-- where a step had no event, its command has none behind it
pub still_none : (book is : Booked) (command : Command) → is_some (chosen (cluster_of book) command) ≡ false → is ≡ with_found book (chosen (cluster_of book) command) →
    chosen (cluster_of is) command ≡ None
still_none book is command none added = by_found (chosen (cluster_of book) command) refl none added
  where
    by_found : (found : Option Event) → chosen (cluster_of book) command ≡ found → is_some found ≡ false → is ≡ with_found book found → chosen (cluster_of is) command ≡ None
    by_found None e h same = ap (λ (b : Booked). chosen (cluster_of b) command) same ∙ e
    by_found (Some event) e h same = absurd (cc)

-- where a step had no event, the book is as it was
pub same_book : (book is : Booked) (command : Command) → is_some (chosen (cluster_of book) command) ≡ false → is ≡ with_found book (chosen (cluster_of book) command) → is ≡ book
same_book book is command none added = by_found (chosen (cluster_of book) command) none added
  where
    by_found : (found : Option Event) → is_some found ≡ false → is ≡ with_found book found → is ≡ book
    by_found None h same = same
    by_found (Some event) h same = absurd (cc)

-- a session that is finished stays so
pub finished_stays : (script : Lives) (was is : Booked) (k : ℕ) → IsFinishedBy script was k → Stays was is k → IsFinishedBy script is k
finished_stays script was is k h stays = record { all = stays.deeds ∙ h.all; answered = stays.answers h.answered }

-- a session did no more than there are events
pub deeds_few : (k : ℕ) (past : List Event) → length (deeds_by k past) ≤ length past
deeds_few k [] = omega arith
deeds_few k (event ∷ past) = let rest = deeds_few k past in let one = by_doing (doing_of event) in omega (arith, rest, one)
  where
    done : List Deed
    done = deeds_by k past

    by_test : (b : Bool) (d : Deed) → length (if b then done ++ d ∷ [] else done) ≤ length done + 1
    by_test true d = let l = length-append done (d ∷ []) in omega (arith, l)
    by_test false d = omega arith

    by_doing : (found : Option Doing) → length (with_doing k found done) ≤ length done + 1
    by_doing None = omega arith
    by_doing (Some doing) = by_test (doing.session == k) doing.deed
