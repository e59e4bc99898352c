-- What is known of a call where an event of it may happen.
use Rattle.std.proofs.Common.{◌≡◌, ◌==◌, true, List, [], ◌∷◌, Option, None, Some, is_none, refl, sym, ap}
use Rattle.std.proofs.lemmas.Bool.{and_parts, eqb-true}
use Rattle.std.specs.Cmp.{signed_Decides}
use Rattle.std.specs.Cmp.Lexicographic.{pointwise}
use Rattle.grid_base.proofs.DatumLemmas.{same_datum-exact, same_item-exact}
use Rattle.grid_base.specs.Datum.{same_datum, same_item}
use Rattle.grid_base.specs.declared.datum.Datum.{Datum}
use Rattle.grid_base.specs.declared.entry.Entry.{Entry}
use Rattle.grid_base.specs.declared.item.Item.{Item}
use Rattle.grid_event.specs.Taking.{Taking}
use Rattle.grid_event.specs.declared.call_events.AnswerEvent.{AnswerEvent}
use Rattle.grid_event.specs.declared.outcome.Outcome.{Outcome}
use Rattle.grid_event.specs.declared.outcome.Outcome.TheVariants as outcomes
use Rattle.pipeline_expr.specs.declared.answer.Answer.{Answer}
use Rattle.pipeline_expr.specs.declared.answer.Answer.TheVariants as answers
use Rattle.topology_coord.specs.Coordination.{lives}
use Rattle.cluster_model.specs.Answers.{can_answer, can_answer_call, is_that_outcome, outcome_of}
use Rattle.cluster_model.specs.Same.{same_answer, same_entries, same_items, same_option, same_outcome}
use Rattle.cluster_model.specs.State.{Call, State, Unit, call_of, goes_on, unit_of}
use Rattle.cluster_model.specs.Units.{call_of_unit, can_take, can_take_unit, further_items, is_taking, passing}
use Rattle.cluster_laws.proofs.units.ReadKinds.{same_entries-exact}

-- ---- what is the same is equal

-- lists of items that pass the test of sameness are equal
pub same_items-exact : (xs ys : List Item) → same_items xs ys ≡ true → xs ≡ ys
same_items-exact [] [] h = refl
same_items-exact [] (y ∷ ys) h = absurd (cc)
same_items-exact (x ∷ xs) [] h = absurd (cc)
same_items-exact (x ∷ xs) (y ∷ ys) h =
    let p : (same_item x y ≡ true) × (pointwise same_item xs ys ≡ true) = and_parts (same_item x y) _ h in
    let first : x ≡ y = same_item-exact x y p.0 in
    let rest : xs ≡ ys = same_items-exact xs ys p.1 in
    λ i. first i ∷ rest i

-- so are two best values, or none
same_best-exact : (a b : Option Datum) → same_option same_datum a b ≡ true → a ≡ b
same_best-exact None None h = refl
same_best-exact None (Some b) h = absurd (cc)
same_best-exact (Some a) None h = absurd (cc)
same_best-exact (Some a) (Some b) h = ap (λ d. Some d) (same_datum-exact a b h)

-- and two answers
pub same_answer-exact : (a b : Answer) → same_answer a b ≡ true → a ≡ b
same_answer-exact (answers.Count m) (answers.Count n) h = ap (λ x. answers.Count x) (eqb-true m n h)
same_answer-exact (answers.Count m) (answers.Sum n) h = absurd (cc)
same_answer-exact (answers.Count m) (answers.Best n) h = absurd (cc)
same_answer-exact (answers.Count m) (answers.List n) h = absurd (cc)
same_answer-exact (answers.Sum m) (answers.Count n) h = absurd (cc)
same_answer-exact (answers.Sum m) (answers.Sum n) h = ap (λ x. answers.Sum x) ((signed_Decides m n).0 h)
same_answer-exact (answers.Sum m) (answers.Best n) h = absurd (cc)
same_answer-exact (answers.Sum m) (answers.List n) h = absurd (cc)
same_answer-exact (answers.Best m) (answers.Count n) h = absurd (cc)
same_answer-exact (answers.Best m) (answers.Sum n) h = absurd (cc)
same_answer-exact (answers.Best m) (answers.Best n) h = ap (λ x. answers.Best x) (same_best-exact m n h)
same_answer-exact (answers.Best m) (answers.List n) h = absurd (cc)
same_answer-exact (answers.List m) (answers.Count n) h = absurd (cc)
same_answer-exact (answers.List m) (answers.Sum n) h = absurd (cc)
same_answer-exact (answers.List m) (answers.Best n) h = absurd (cc)
same_answer-exact (answers.List m) (answers.List n) h = ap (λ x. answers.List x) (same_items-exact m n h)

-- the outcomes that are the same as one are equal to it
pub same_outcome-exact : (a b : Outcome) → same_outcome a b ≡ true → a ≡ b
unfolding same_outcome
same_outcome-exact (outcomes.Value a) (outcomes.Value b) h = ap (λ x. outcomes.Value x) (same_answer-exact a b h)
same_outcome-exact (outcomes.Value a) outcomes.Ended h = absurd (cc)
same_outcome-exact (outcomes.Value a) (outcomes.Again n t) h = absurd (cc)
same_outcome-exact (outcomes.Value a) (outcomes.SegmentLost t) h = absurd (cc)
same_outcome-exact (outcomes.Value a) outcomes.OriginatorLeft h = absurd (cc)
same_outcome-exact outcomes.Ended (outcomes.Value b) h = absurd (cc)
same_outcome-exact outcomes.Ended outcomes.Ended h = refl
same_outcome-exact outcomes.Ended (outcomes.Again n t) h = absurd (cc)
same_outcome-exact outcomes.Ended (outcomes.SegmentLost t) h = absurd (cc)
same_outcome-exact outcomes.Ended outcomes.OriginatorLeft h = absurd (cc)
same_outcome-exact (outcomes.Again m s) (outcomes.Value b) h = absurd (cc)
same_outcome-exact (outcomes.Again m s) outcomes.Ended h = absurd (cc)
same_outcome-exact (outcomes.Again m s) (outcomes.Again n t) h =
    let p : ((m == n) ≡ true) × ((s == t) ≡ true) = and_parts (m == n) (s == t) h in
    let first : m ≡ n = eqb-true m n p.0 in
    let second : s ≡ t = eqb-true s t p.1 in
    λ i. outcomes.Again (first i) (second i)
same_outcome-exact (outcomes.Again m s) (outcomes.SegmentLost t) h = absurd (cc)
same_outcome-exact (outcomes.Again m s) outcomes.OriginatorLeft h = absurd (cc)
same_outcome-exact (outcomes.SegmentLost s) (outcomes.Value b) h = absurd (cc)
same_outcome-exact (outcomes.SegmentLost s) outcomes.Ended h = absurd (cc)
same_outcome-exact (outcomes.SegmentLost s) (outcomes.Again n t) h = absurd (cc)
same_outcome-exact (outcomes.SegmentLost s) (outcomes.SegmentLost t) h = ap (λ x. outcomes.SegmentLost x) (eqb-true s t h)
same_outcome-exact (outcomes.SegmentLost s) outcomes.OriginatorLeft h = absurd (cc)
same_outcome-exact outcomes.OriginatorLeft (outcomes.Value b) h = absurd (cc)
same_outcome-exact outcomes.OriginatorLeft outcomes.Ended h = absurd (cc)
same_outcome-exact outcomes.OriginatorLeft (outcomes.Again n t) h = absurd (cc)
same_outcome-exact outcomes.OriginatorLeft (outcomes.SegmentLost t) h = absurd (cc)
same_outcome-exact outcomes.OriginatorLeft outcomes.OriginatorLeft h = refl

-- ---- calls that go on

-- what is none is None
none_is : {A : Type 0} (o : Option A) → is_none o ≡ true → o ≡ None
none_is None h = refl
none_is (Some x) h = absurd (cc)

-- a call that goes on is there, unanswered, and its originator lives
pub record GoesOn (st : State) (found : Option Call) (call : Call) : Type 0 where
  pub there : found ≡ Some call
  pub unanswered : call.outcome ≡ None
  pub live : lives st.holding.coord call.originator ≡ true

-- a call that goes on is found, unanswered, with a live originator
pub going : (st : State) (found : Option Call) → goes_on st.holding found ≡ true → (call : Call) × GoesOn st found call
going st None h = absurd (cc)
going st (Some call) h =
    let p : (is_none call.outcome ≡ true) × (lives st.holding.coord call.originator ≡ true) = and_parts (is_none call.outcome) _ h in
    (call, record { there = refl; unanswered = none_is call.outcome p.0; live = p.1 })

-- ---- takes

-- a batch of the unit flies, and what passes of it is taken
pub record CanTake (st : State) (t : Taking) (unit : Unit) (call : Call) (batch : List Entry) : Type 0 where
  pub found : unit_of st.calling t.unit ≡ Some unit
  pub there : call_of st.calling unit.work.call ≡ Some call
  pub unanswered : call.outcome ≡ None
  pub flies : unit.flying ≡ Some batch
  pub entries : t.entries ≡ passing call unit batch
  pub given : t.given ≡ further_items call t.entries

-- a taking that passes the test takes what passes of the batch that flies
take_batch : (st : State) (t : Taking) (unit : Unit) (call : Call) (flying : Option (List Entry)) → unit_of st.calling t.unit ≡ Some unit → call_of st.calling unit.work.call ≡ Some call → call.outcome ≡ None →
    unit.flying ≡ flying → is_taking call unit t flying ≡ true → (batch : List Entry) × CanTake st t unit call batch
take_batch st t unit call None f there u e h = absurd (cc)
take_batch st t unit call (Some batch) f there u e h =
    let p : (same_entries t.entries (passing call unit batch) ≡ true) × (same_items t.given (further_items call t.entries) ≡ true) = and_parts (same_entries t.entries (passing call unit batch)) _ h in (
      batch,
      record {
        found = f;
        there = there;
        unanswered = u;
        flies = e;
        entries = same_entries-exact t.entries (passing call unit batch) p.0;
        given = same_items-exact t.given (further_items call t.entries) p.1;
      },
    )

-- the same, where the call of the unit is looked up
take_by : (st : State) (t : Taking) (unit : Unit) (found : Option Call) → unit_of st.calling t.unit ≡ Some unit → call_of st.calling unit.work.call ≡ found → can_take_unit st t (Some unit) found ≡ true →
    (call : Call) × ((batch : List Entry) × CanTake st t unit call batch)
take_by st t unit None f e h = absurd (cc)
take_by st t unit (Some call) f e h =
    let p : (goes_on st.holding (Some call) ≡ true) × (is_taking call unit t unit.flying ≡ true) = and_parts (goes_on st.holding (Some call)) _ h in
    let q : (is_none call.outcome ≡ true) × (lives st.holding.coord call.originator ≡ true) = and_parts (is_none call.outcome) _ p.0 in
    (call, take_batch st t unit call unit.flying f e (none_is call.outcome q.0) refl p.1)

-- the same, where the unit is looked up
take_of : (st : State) (t : Taking) (found : Option Unit) → unit_of st.calling t.unit ≡ found → can_take_unit st t found (call_of_unit st.calling found) ≡ true →
    (unit : Unit) × ((call : Call) × ((batch : List Entry) × CanTake st t unit call batch))
take_of st t None e h = absurd (cc)
take_of st t (Some unit) e h = (unit, take_by st t unit (call_of st.calling unit.work.call) e refl h)

-- what is known where a batch may be taken
pub take_facts : (st : State) (t : Taking) → can_take st t ≡ true → (unit : Unit) × ((call : Call) × ((batch : List Entry) × CanTake st t unit call batch))
unfolding can_take
take_facts st t h = take_of st t (unit_of st.calling t.unit) refl h

-- ---- answers

-- the call is there and unanswered, and this is its outcome
pub record CanAnswer (st : State) (a : AnswerEvent) (call : Call) : Type 0 where
  pub there : call_of st.calling a.call ≡ Some call
  pub unanswered : call.outcome ≡ None
  pub outcome : outcome_of st a.call call ≡ Some a.outcome

-- an outcome that passes the test is that of the call
that_outcome : (a : Outcome) (o : Option Outcome) → is_that_outcome a o ≡ true → o ≡ Some a
that_outcome a None h = absurd (cc)
that_outcome a (Some b) h = ap (λ x. Some x) (sym (same_outcome-exact a b h))

-- an answer that passes the test is of a call that is there, unanswered, with that outcome
answer_by : (st : State) (a : AnswerEvent) (found : Option Call) → call_of st.calling a.call ≡ found → can_answer_call st a found ≡ true → (call : Call) × CanAnswer st a call
answer_by st a None e h = absurd (cc)
answer_by st a (Some call) e h =
    let p : (is_none call.outcome ≡ true) × (is_that_outcome a.outcome (outcome_of st a.call call) ≡ true) = and_parts (is_none call.outcome) _ h in
    (call, record { there = e; unanswered = none_is call.outcome p.0; outcome = that_outcome a.outcome (outcome_of st a.call call) p.1 })

-- what is known where a call may be answered
pub answer_facts : (st : State) (a : AnswerEvent) → can_answer st a ≡ true → (call : Call) × CanAnswer st a call
unfolding can_answer
answer_facts st a h = answer_by st a (call_of st.calling a.call) refl h
