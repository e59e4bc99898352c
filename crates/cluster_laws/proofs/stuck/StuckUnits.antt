-- An open unit of a call that goes on has an event, or its node lacks the newest topology.
use Rattle.std.proofs.Common.{◌≡◌, ℕ, suc, ◌+◌, ◌≤◌, ◌<◌, ◌==◌, nat_le, Bool, true, false, not, ◌||◌, ◌⊎◌, inl, inr, cond, if◌then◌else◌, List, [], ◌∷◌, map, length, length-take, take, find, Option, None, Some, is_none, is_some, refl, sym, ap, ◌∙◌, arith}
use Rattle.std.proofs.lemmas.Bool.{and_from, cases_lt, eq-eqb, le-leb, ne_eqb, or_cases, or_left, or_right}
use Rattle.std.proofs.lemmas.List.{length-map}
use Rattle.std.specs.Bool.{beq}
use Rattle.std.specs.Cmp.{signed_Decides}
use Rattle.std.specs.Cmp.Lexicographic.{pointwise}
use Rattle.std.specs.List.{AllByRecursion, list_any}
use Rattle.container_seg.specs.Scans.{beyond, plain_entry, stamped_entry}
use Rattle.grid_base.proofs.DatumLemmas.{same_datum-itself, same_entry-itself, same_item-itself}
use Rattle.grid_base.specs.Datum.{same_datum, same_entry, same_item}
use Rattle.grid_base.specs.Portion.{Portion}
use Rattle.grid_base.specs.declared.datum.Datum.{Datum}
use Rattle.grid_base.specs.declared.entry.Entry.{Entry}
use Rattle.grid_base.specs.declared.limits.TheConstants.{MOST_READ}
use Rattle.grid_event.specs.Taking.{Taking}
use Rattle.grid_event.specs.declared.call_events.Ask.{Ask}
use Rattle.grid_event.specs.declared.event.Event.{Event}
use Rattle.grid_event.specs.declared.event.Event.TheVariants as events
use Rattle.grid_event.specs.declared.outcome.Outcome.{Outcome}
use Rattle.grid_event.specs.declared.outcome.Outcome.TheVariants as outcomes
use Rattle.local_publisher.specs.Stages.{is_open}
use Rattle.local_publisher.specs.declared.unit_state.UnitState.{UnitState}
use Rattle.local_publisher.specs.declared.unit_state.UnitState.TheVariants.{Asked, Running, Refused, Lost, Ended}
use Rattle.pipeline_expr.specs.declared.answer.Answer.{Answer}
use Rattle.pipeline_expr.specs.declared.answer.Answer.TheVariants as kinds
use Rattle.state_transfer.specs.Copying.{part_of}
use Rattle.topology_coord.specs.Coordination.{installed_id}
use Rattle.cluster_model.specs.Commands.{begin_event, done_event, fetch_event, if_allowed, if_any_allowed, or_else, first_some, scan_event, take_event, take_with, unit_event}
use Rattle.cluster_model.specs.Same.{same_answer, same_ask, same_batch, same_entries, same_option, same_outcome}
use Rattle.cluster_model.specs.State.{Call, State, Unit, call_of, goes_on, is_asked, is_running, unit_of}
use Rattle.cluster_model.specs.Step.{allowed}
use Rattle.cluster_model.specs.Units.{batch_size, call_of_unit, can_begin, can_begin_unit, can_end, can_end_unit, can_fetch, can_read, can_scan, can_take, can_take_unit, further_items, is_taking, last_key, next_batch, passing, read_by, reads, walks}
use Rattle.cluster_laws.proofs.Lists.{each_imply}
use Rattle.cluster_laws.proofs.Numbers.{NumberedFrom}

-- ---- what is the same as itself

-- a list, a flag, a value, an answer, an outcome and an ask are each the same as itself
pub pointwise_itself : {A : Type 0} (same : A → A → Bool) → ((x : A) → same x x ≡ true) → (xs : List A) → pointwise same xs xs ≡ true
pointwise_itself same each [] = refl
pointwise_itself same each (x ∷ xs) = and_from (same x x) (pointwise same xs xs) (each x) (pointwise_itself same each xs)

-- a flag
pub flag_itself : (b : Bool) → beq b b ≡ true
flag_itself true = refl
flag_itself false = refl

-- a value that may be there
best_itself : (o : Option Datum) → same_option same_datum o o ≡ true
best_itself None = refl
best_itself (Some d) = same_datum-itself d

-- an answer
answer_itself : (a : Answer) → same_answer a a ≡ true
answer_itself (kinds.Count n) = eq-eqb n n refl
answer_itself (kinds.Sum i) = (signed_Decides i i).1 refl
answer_itself (kinds.Best o) = best_itself o
answer_itself (kinds.List items) = pointwise_itself same_item same_item-itself items

-- an outcome
pub outcome_itself : (o : Outcome) → same_outcome o o ≡ true
unfolding same_outcome
outcome_itself (outcomes.Value a) = answer_itself a
outcome_itself outcomes.Ended = refl
outcome_itself (outcomes.Again n s) = and_from (n == n) (s == s) (eq-eqb n n refl) (eq-eqb s s refl)
outcome_itself (outcomes.SegmentLost s) = eq-eqb s s refl
outcome_itself outcomes.OriginatorLeft = refl

-- an ask
pub ask_itself : (a : Ask) → same_ask a a ≡ true
ask_itself a = and_from (a.unit == a.unit) _ (eq-eqb a.unit a.unit refl) (and_from (a.segment == a.segment) (a.node == a.node) (eq-eqb a.segment a.segment refl) (eq-eqb a.node a.node refl))

-- ---- choices

-- an event that may happen is there
pub allowed_there : (st : State) (event : Event) → allowed st event ≡ true → is_some (if_allowed st event) ≡ true
allowed_there st event may = ap (λ b. is_some (if b then Some event else None)) may

-- of two one is there where either is
pub first_there : {A : Type 0} (a b : Option A) → is_some a ≡ true → is_some (or_else a b) ≡ true
first_there None b h = absurd (cc)
first_there (Some x) b h = refl

-- and where the other is
pub other_there : {A : Type 0} (a b : Option A) → is_some b ≡ true → is_some (or_else a b) ≡ true
other_there None b h = h
other_there (Some x) b h = refl

-- of several one is there where one of them is
pub some_there : {A B : Type 0} (f : A → Option B) (xs : List A) → list_any (λ x. is_some (f x)) xs ≡ true → is_some (first_some f xs) ≡ true
some_there f [] h = absurd (cc)
some_there f (x ∷ xs) h = elim (or_cases (is_some (f x)) (list_any (λ y. is_some (f y)) xs) h) [
  | inl here ↦ first_there (f x) (first_some f xs) here
  | inr there ↦ other_there (f x) (first_some f xs) (some_there f xs there)
]

-- ---- units by number

-- each unit is found by its number
found_from : (n : ℕ) (units : List Unit) → NumberedFrom n units → AllByRecursion (λ (unit : Unit). (n ≤ unit.work.id) × (find (λ (u : Unit). u.work.id == unit.work.id) units ≡ Some unit)) units
found_from n [] a = tt
found_from n (unit ∷ units) a = (
  ((let e : unit.work.id ≡ n = a.0 in omega arith), ap (λ b. cond b (Some unit) (find (λ (u : Unit). u.work.id == unit.work.id) units)) (eq-eqb unit.work.id unit.work.id refl)),
  each_imply (λ (u : Unit). (suc n ≤ u.work.id) × (find (λ (x : Unit). x.work.id == u.work.id) units ≡ Some u)) (λ (u : Unit). (n ≤ u.work.id) × (find (λ (x : Unit). x.work.id == u.work.id) (unit ∷ units) ≡ Some u))
      (λ u h. (
        (let l = h.0 in omega arith),
        ap (λ b. cond b (Some unit) (find (λ (x : Unit). x.work.id == u.work.id) units)) (ne_eqb unit.work.id u.work.id (λ e. let l = h.0 in let f : unit.work.id ≡ n = a.0 in absurd (omega arith))) ∙ h.1,
      )) units (found_from (suc n) units a.1),
)

-- and this holds of all units of a cluster
pub each_found : (st : State) → NumberedFrom 1 st.calling.units → AllByRecursion (λ (unit : Unit). unit_of st.calling unit.work.id ≡ Some unit) st.calling.units
each_found st numbered = each_imply (λ (unit : Unit). (1 ≤ unit.work.id) × (find (λ (u : Unit). u.work.id == unit.work.id) st.calling.units ≡ Some unit)) (λ (unit : Unit). unit_of st.calling unit.work.id ≡ Some unit) (λ unit h. h.1) st.calling.units (found_from 1 st.calling.units numbered)

-- ---- events of a unit

-- what is taken of a list isn't longer than was asked for
short : {A : Type 0} (n : ℕ) (xs : List A) → length (take n xs) ≤ n
short n xs = omega (arith, length-take n xs)

-- a batch isn't longer than the call says
pub batch_short : (st : State) (unit : Unit) → length (next_batch st unit).entries ≤ batch_size (call_of st.calling unit.work.call)
batch_short st unit =
    let most = batch_size (call_of st.calling unit.work.call) in
    let rest = beyond unit.work.node (last_key unit.work.entries) (part_of st.holding.copying.cells unit.work.node unit.work.segment) in
    omega (arith, length-map (map stamped_entry (take most rest)) plain_entry, length-map (take most rest) stamped_entry, short most rest)

-- an open unit whose call goes on, where there is room for what it reads
module _ (st : State) (unit : Unit) (call : Call) (found : unit_of st.calling unit.work.id ≡ Some unit) (there : call_of st.calling unit.work.call ≡ Some call) (on : goes_on st.holding (Some call) ≡ true)
    (room : read_by st.calling.units + length (next_batch st unit).entries ≤ MOST_READ) where
  -- the call of the unit goes on
  goes : goes_on st.holding (call_of st.calling unit.work.call) ≡ true
  goes = ap (goes_on st.holding) there ∙ on

  -- the taking of these entries from the unit
  abbrev taking : List Entry → Taking
  taking batch = record { unit = unit.work.id; entries = passing call unit batch; given = further_items call (passing call unit batch) }

  -- what flies may be taken
  takes : (batch : List Entry) → unit.flying ≡ Some batch → is_some (take_event st unit) ≡ true
  unfolding can_take
  takes batch flies =
      ap (λ o. is_some (if_any_allowed st o)) (λ i. take_with unit (there i) (flies i))
      ∙ allowed_there st (events.Take (taking batch))
      (ap (λ o. can_take_unit st (taking batch) o (call_of_unit st.calling o)) found
      ∙ ap (can_take_unit st (taking batch) (Some unit)) there
      ∙ and_from (goes_on st.holding (Some call)) _ on
      (ap (is_taking call unit (taking batch)) flies
      ∙ and_from (same_entries (passing call unit batch) (passing call unit batch)) _ (pointwise_itself same_entry same_entry-itself (passing call unit batch))
      (pointwise_itself same_item same_item-itself (further_items call (passing call unit batch)))))

  -- a unit that has read its last batch ends
  ends : is_running unit.work.state ≡ true → unit.flying ≡ None → unit.work.last ≡ true → is_some (done_event st unit) ≡ true
  unfolding can_end
  ends runs none last =
      allowed_there st (events.Done unit.work.id)
      (ap (can_end_unit st) found
      ∙ and_from (goes_on st.holding (call_of st.calling unit.work.call)) _ goes (and_from (is_running unit.work.state) _ runs (and_from unit.work.last (is_none unit.flying) last (ap is_none none))))

  -- a unit that hasn't may read the next one
  may_read : is_running unit.work.state ≡ true → unit.flying ≡ None → unit.work.last ≡ false → can_read st (walks (call_of st.calling unit.work.call)) (next_batch st unit) (unit_of st.calling unit.work.id) ≡ true
  may_read runs none last =
      ap (can_read st (walks (call_of st.calling unit.work.call)) (next_batch st unit)) found
      ∙ and_from (goes_on st.holding (call_of st.calling unit.work.call)) _ goes
      (and_from (beq (walks (call_of st.calling unit.work.call)) (walks (call_of st.calling unit.work.call))) _ (flag_itself (walks (call_of st.calling unit.work.call)))
      (and_from (is_running unit.work.state) _ runs
      (and_from (not unit.work.last) _ (ap not last)
      (and_from (is_none unit.flying) _ (ap is_none none)
      (and_from (same_batch (next_batch st unit) (next_batch st unit)) _ (batch_itself (next_batch st unit)) (le-leb (read_by st.calling.units + length (next_batch st unit).entries) MOST_READ room))))))
    where
      batch_itself : (b : Portion Entry) → same_batch b b ≡ true
      batch_itself b = and_from (same_entries b.entries b.entries) (beq b.last b.last) (pointwise_itself same_entry same_entry-itself b.entries) (flag_itself b.last)

  -- by a scan or by a fetch
  reads_on : is_running unit.work.state ≡ true → unit.flying ≡ None → unit.work.last ≡ false → (is_some (scan_event st unit) || is_some (fetch_event st unit)) ≡ true
  unfolding can_scan can_fetch
  reads_on runs none last = by_form (walks (call_of st.calling unit.work.call)) refl
    where
      by_form : (b : Bool) → walks (call_of st.calling unit.work.call) ≡ b → (is_some (scan_event st unit) || is_some (fetch_event st unit)) ≡ true
      by_form false e =
          or_left (is_some (scan_event st unit)) (is_some (fetch_event st unit))
          (allowed_there st (events.Scan (record { unit = unit.work.id; batch = next_batch st unit })) (ap (λ w. can_read st w (next_batch st unit) (unit_of st.calling unit.work.id)) (sym e) ∙ may_read runs none last))
      by_form true e =
          or_right (is_some (scan_event st unit)) (is_some (fetch_event st unit))
          (allowed_there st (events.Fetch (record { unit = unit.work.id; batch = next_batch st unit })) (ap (λ w. can_read st w (next_batch st unit) (unit_of st.calling unit.work.id)) (sym e) ∙ may_read runs none last))

  -- a unit that was asked begins where its node has the topology
  begins : is_asked unit.work.state ≡ true → unit.work.asked_at ≤ installed_id st.holding.coord unit.work.node → is_some (begin_event st unit) ≡ true
  unfolding can_begin
  begins asked least =
      allowed_there st (events.Begin unit.work.id (reads st.holding unit))
      (ap (can_begin_unit st (reads st.holding unit)) found
      ∙ and_from (goes_on st.holding (call_of st.calling unit.work.call)) _ goes
      (and_from (is_asked unit.work.state) _ asked
      (and_from (nat_le unit.work.asked_at (installed_id st.holding.coord unit.work.node)) _ (le-leb unit.work.asked_at (installed_id st.holding.coord unit.work.node) least) (flag_itself (reads st.holding unit)))))

  -- it has an event, or its node hasn't installed the topology at which it was asked
  pub unit_goes : is_open unit.work.state ≡ true → (is_some (unit_event st unit) ≡ true) ⊎ (installed_id st.holding.coord unit.work.node < unit.work.asked_at)
  unit_goes opened = by_stage unit.work.state refl opened
    where
      begin_there : is_some (begin_event st unit) ≡ true → is_some (unit_event st unit) ≡ true
      begin_there b =
          other_there (take_event st unit) _ (other_there (done_event st unit) _ (other_there (scan_event st unit) _ (other_there (fetch_event st unit) (begin_event st unit) b)))

      read_there : (is_some (scan_event st unit) || is_some (fetch_event st unit)) ≡ true → is_some (unit_event st unit) ≡ true
      read_there r =
          other_there (take_event st unit) _
          (other_there (done_event st unit) _
          (elim (or_cases (is_some (scan_event st unit)) (is_some (fetch_event st unit)) r) [
            | inl scan ↦ first_there (scan_event st unit) _ scan
            | inr fetch ↦ other_there (scan_event st unit) _ (first_there (fetch_event st unit) (begin_event st unit) fetch)
          ]))

      by_last : (b : Bool) → is_running unit.work.state ≡ true → unit.flying ≡ None → unit.work.last ≡ b → is_some (unit_event st unit) ≡ true
      by_last true runs none last = other_there (take_event st unit) _ (first_there (done_event st unit) _ (ends runs none last))
      by_last false runs none last = read_there (reads_on runs none last)

      by_flying : (o : Option (List Entry)) → is_running unit.work.state ≡ true → unit.flying ≡ o → is_some (unit_event st unit) ≡ true
      by_flying (Some batch) runs flies = first_there (take_event st unit) _ (takes batch flies)
      by_flying None runs none = by_last unit.work.last runs none refl

      by_stage : (stage : UnitState) → unit.work.state ≡ stage → is_open stage ≡ true → (is_some (unit_event st unit) ≡ true) ⊎ (installed_id st.holding.coord unit.work.node < unit.work.asked_at)
      by_stage Asked e o = elim (cases_lt (installed_id st.holding.coord unit.work.node) unit.work.asked_at) [
        | inl behind ↦ inr behind
        | inr least ↦ inl (begin_there (begins (ap is_asked e) least))
      ]
      by_stage Running e o = inl (by_flying unit.flying (ap is_running e) refl)
      by_stage (Refused at) e o = absurd (cc)
      by_stage (Lost at) e o = absurd (cc)
      by_stage Ended e o = absurd (cc)
