-- A journal that is full for the end of a unit is full for whatever drives its call.
use Rattle.std.proofs.Common.{◌≡◌, ℕ, ◌+◌, Bool, true, false, ◌||◌, nat_le, nat_lt, List, [], length, Option, None, Some, is_none, is_some, refl, sym, ap, ◌∙◌, inl, inr, append-nil, arith, if◌then◌else◌}
use Rattle.std.proofs.lemmas.Bool.{and_parts, leb-true, ltb-true, or_cases, or_left}
use Rattle.grid_base.specs.declared.limits.TheConstants.{MOST_EVENTS, MOST_WEIGHT}
use Rattle.grid_event.specs.Configs.{is_config}
use Rattle.grid_event.specs.Weights.{total_weight}
use Rattle.grid_event.specs.declared.command.Command.TheVariants as commands
use Rattle.grid_event.specs.declared.config.Config.{Config}
use Rattle.grid_event.specs.declared.event.Event.{Event}
use Rattle.grid_event.specs.declared.event.Event.TheVariants as events
use Rattle.grid_script.specs.Scripts.{Lives}
use Rattle.cluster_laws.proofs.stuck.StuckRuns.{never_stuck}
use Rattle.cluster_laws.specs.Laws.{fits_journal}
use Rattle.cluster_model.specs.Commands.{chosen, drive_event, if_allowed, is_unanswered}
use Rattle.cluster_model.specs.State.{Call, State, Unit, call_of, goes_on, start, unit_of}
use Rattle.cluster_model.specs.Step.{allowed, runs, state}
use Rattle.cluster_model.specs.Units.{can_end, can_end_unit}
use Rattle.grid_book.specs.Booked.{Booked, cluster_of, history_of, is_full_for}
use Rattle.live_run.specs.Due.{WasFull}

-- the call of a unit that may end isn't answered
waits_yet : (st : State) (number : ℕ) → can_end st number ≡ true → (call : ℕ) × (is_unanswered (call_of st.calling call) ≡ true)
unfolding can_end
waits_yet st number may = by_found (unit_of st.calling number) may
  where
    by_call : (found : Option Call) → goes_on st.holding found ≡ true → is_unanswered found ≡ true
    by_call None h = absurd (cc)
    by_call (Some call) h = (and_parts (is_none call.outcome) _ h).0

    by_found : (found : Option Unit) → can_end_unit st found ≡ true → (call : ℕ) × (is_unanswered (call_of st.calling call) ≡ true)
    by_found None h = absurd (cc)
    by_found (Some unit) h = (unit.work.call, by_call (call_of st.calling unit.work.call) (and_parts (goes_on st.holding (call_of st.calling unit.work.call)) _ h).0)

-- what weighs nothing finds a full journal by the number of its events alone
many : (es : List Event) → nat_le (total_weight es) MOST_WEIGHT ≡ true → (nat_le MOST_EVENTS (length es) || nat_lt MOST_WEIGHT (total_weight es + 0)) ≡ true → nat_le MOST_EVENTS (length es) ≡ true
many es light h = elim (or_cases (nat_le MOST_EVENTS (length es)) (nat_lt MOST_WEIGHT (total_weight es + 0)) h) [
  | inl long ↦ long
  | inr heavy ↦ (let a = leb-true (total_weight es) MOST_WEIGHT light in let b = ltb-true MOST_WEIGHT (total_weight es + 0) heavy in absurd (omega arith))
]

pub done_full : (script : Lives) (book : Booked) (unit : ℕ) → book.config ≡ script.config → is_config book.config ≡ true → runs (start book.config) book.events ≡ true → fits_journal book.events ≡ true →
    is_full_for book (if_allowed (cluster_of book) (events.Done unit)) ≡ true → WasFull script (history_of book)
unfolding chosen
done_full script book unit same good run fits full = by_test (allowed (cluster_of book) (events.Done unit)) refl full
  where
    by_drive : nat_le MOST_EVENTS (length book.events) ≡ true → (call : ℕ) (found : Option Event) → drive_event (cluster_of book) call ≡ found → is_some found ≡ true → WasFull script (history_of book)
    by_drive long call None e h = absurd (cc)
    by_drive long call (Some event) e h = record {
      first = book.events;
      rest = [];
      parts = sym (append-nil book.events);
      command = commands.Drive call;
      due = inr (inr refl);
      event = event;
      happens = ap (λ (config : Config). chosen (state (start config) book.events) (commands.Drive call)) (sym same) ∙ e;
      full = or_left (nat_le MOST_EVENTS (length book.events)) _ long;
    }

    by_test : (b : Bool) → allowed (cluster_of book) (events.Done unit) ≡ b → is_full_for book (if b then Some (events.Done unit) else None) ≡ true → WasFull script (history_of book)
    by_test false may h = absurd (cc)
    by_test true may h =
        let one = waits_yet (cluster_of book) unit may in
        by_drive (many book.events (and_parts (nat_le (length book.events) MOST_EVENTS) (nat_le (total_weight book.events) MOST_WEIGHT) fits).1 h) one.0
        (drive_event (cluster_of book) one.0) refl ((never_stuck book.config book.events good run fits).drive one.0 one.1)
