-- What a walk takes of its units.
use Rattle.std.proofs.Common.{◌≡◌, ℕ, Bool, true, false, ◌&&◌, List, length, Option, None, Some, is_some, refl, sym, ap, ◌∙◌, if◌then◌else◌}
use Rattle.std.proofs.lemmas.Bool.{and_from}
use Rattle.std.specs.Option.{option_map}
use Rattle.grid_base.specs.declared.entry.Entry.{Entry}
use Rattle.grid_base.specs.Datum.{same_entry, same_item}
use Rattle.grid_base.proofs.DatumLemmas.{same_entry-itself, same_item-itself}
use Rattle.grid_event.specs.Taking.{Taking}
use Rattle.grid_event.specs.declared.event.Event.TheVariants as events
use Rattle.cluster_model.specs.Commands.{if_any_allowed, take_event, take_with}
use Rattle.cluster_model.specs.Same.{same_entries}
use Rattle.cluster_model.specs.State.{Call, Calling, State, Unit, call_of, goes_on, unit_of, with_unit}
use Rattle.cluster_model.specs.Units.{call_of_unit, can_take, can_take_unit, further_items, is_taking, passing, taken_by, with_taking}
use Rattle.cluster_laws.proofs.units.CallRequests.{take_facts}
use Rattle.cluster_laws.proofs.stuck.StuckUnits.{pointwise_itself}
use Rattle.cluster_calls.specs.Calling.{flies, is_one, with_call, with_taken}
use Rattle.cluster_calls.specs.Calling as calling
use Rattle.cluster_core.specs.Taking.{taking_now, taking_of}

-- where a batch may be taken, one flies
pub flying_there : (st : State) (t : Taking) → can_take st t ≡ true → is_one flies (unit_of st.calling t.unit) ≡ true
flying_there st t may =
    let facts = take_facts st t may in
    ap (is_one flies) facts.1.1.1.found ∙ ap is_some facts.1.1.1.flies

-- what is there is what it is equal to
same_some : {A : Type 0} (x y : A) → Some x ≡ Some y → x ≡ y
same_some x y e = cc

-- and as many items are given as the pipeline makes further
pub given_many : (st : State) (t : Taking) → can_take st t ≡ true → (unit : Unit) (call : Call) → unit_of st.calling t.unit ≡ Some unit → call_of st.calling unit.work.call ≡ Some call
    → length t.given ≡ length (further_items call t.entries)
given_many st t may unit call found there =
    let facts = take_facts st t may in
    let same : facts.0 ≡ unit = same_some facts.0 unit (sym facts.1.1.1.found ∙ found) in
    let its : facts.1.0 ≡ call = same_some facts.1.0 call (sym facts.1.1.1.there ∙ ap (λ (u : Unit). call_of st.calling u.work.call) same ∙ there) in
    ap length facts.1.1.1.given ∙ ap (λ (c : Call). length (further_items c t.entries)) its

module _ (st : State) (t : Taking) (unit : Unit) (call : Call) (found : unit_of st.calling t.unit ≡ Some unit) (there : call_of st.calling unit.work.call ≡ Some call) where
  -- the calls and units that are told after a taking are those of the cluster
  pub taken_row : (now later : Calling) → now ≡ st.calling → later ≡ calling.taking_of t.unit t.entries (length t.given) (unit_of st.calling t.unit) now
      → record st { calling = later } ≡ record st { calling = taken_by st.calling t }
  unfolding taken_by
  taken_row now later same is =
      let change = with_taken unit.work.segment t.entries (length t.given) in
      ap (λ (x : Calling). record st { calling = x }) (is ∙ (λ i. calling.taking_of t.unit t.entries (length t.given) (found i) (same i)))
      ∙ (λ i. record st { calling = record st.calling { units = with_unit t.unit (λ u. record u { flying = None }) st.calling.units; calls = with_call unit.work.call change (there i) st.calling.calls } })
      ∙ (λ i. record st { calling = record st.calling { units = with_unit t.unit (λ u. record u { flying = None }) st.calling.units; calls = with_taking st.calling t (Some unit) (sym there i) } })
      ∙ (λ i. record st { calling = record st.calling { units = with_unit t.unit (λ u. record u { flying = None }) st.calling.units; calls = with_taking st.calling t (sym found i) (call_of_unit st.calling (sym found i)) } })

-- after a taking the fields are those of what it makes of the cluster
pub take_next : (st : State) (t : Taking) → can_take st t ≡ true → (now later : Calling) → now ≡ st.calling
    → (entries : List Entry) (given : ℕ) → entries ≡ t.entries → given ≡ length t.given → later ≡ calling.taking_of t.unit entries given (unit_of st.calling t.unit) now
    → record st { calling = later } ≡ record st { calling = taken_by st.calling t }
take_next st t may now later alike entries given same many is =
    let facts = take_facts st t may in
    taken_row st t facts.0 facts.1.0 facts.1.1.1.found facts.1.1.1.there now later alike
    (is ∙ (λ i. calling.taking_of t.unit (same i) (many i) (unit_of st.calling t.unit) now))

-- a take leaves the number of segments
by_unit : (number : ℕ) (entries : List Entry) (given : ℕ) (unit : Option Unit) (now : Calling) → (calling.taking_of number entries given unit now).segments ≡ now.segments
by_unit number entries given None now = refl
by_unit number entries given (Some unit) now = refl

-- a taking leaves the segments as they are
pub same_segments : (number : ℕ) (entries : List Entry) (given : ℕ) (unit : Option Unit) (now later : Calling) → later ≡ calling.taking_of number entries given unit now → later.segments ≡ now.segments
same_segments number entries given unit now later is = ap (λ (x : Calling). x.segments) is ∙ by_unit number entries given unit now

-- a test and one that passes, together, are the test
and_true : (b : Bool) → (b && true) ≡ b
and_true true = refl
and_true false = refl

-- without a taking there is no event
none_either : (b : Bool) → option_map (λ (t : Taking). events.Take t) (if b then None else None) ≡ None
none_either true = refl
none_either false = refl

module _ (st : State) (unit : Unit) (found : unit_of st.calling unit.work.id ≡ Some unit) where
  abbrev taking : Call → List Entry → Taking
  taking call batch = record { unit = unit.work.id; entries = passing call unit batch; given = further_items call (passing call unit batch) }

  -- what flies of a unit of the cluster may be taken where its call goes on
  may_take_flying : (call : Call) (batch : List Entry) → call_of st.calling unit.work.call ≡ Some call → unit.flying ≡ Some batch → can_take st (taking call batch) ≡ goes_on st.holding (Some call)
  unfolding can_take
  may_take_flying call batch there flies =
      ap (λ o. can_take_unit st (taking call batch) o (call_of_unit st.calling o)) found
      ∙ ap (can_take_unit st (taking call batch) (Some unit)) there
      ∙ ap (λ o. goes_on st.holding (Some call) && is_taking call unit (taking call batch) o) flies
      ∙ ap (λ b. goes_on st.holding (Some call) && b)
      (and_from (same_entries (passing call unit batch) (passing call unit batch)) _ (pointwise_itself same_entry same_entry-itself (passing call unit batch))
      (pointwise_itself same_item same_item-itself (further_items call (passing call unit batch))))
      ∙ and_true (goes_on st.holding (Some call))

  by_test : (t : Taking) (b : Bool) → can_take st t ≡ b → option_map (λ (x : Taking). events.Take x) (if b then Some t else None) ≡ if_any_allowed st (Some (events.Take t))
  by_test t true may = ap (λ b. if b then Some (events.Take t) else None) (sym may)
  by_test t false may = ap (λ b. if b then Some (events.Take t) else None) (sym may)

  by_call : (call : Option Call) (flying : Option (List Entry)) → call_of st.calling unit.work.call ≡ call → unit.flying ≡ flying
      → option_map (λ (t : Taking). events.Take t) (if goes_on st.holding call then taking_of unit call flying else None) ≡ if_any_allowed st (take_with unit call flying)
  by_call None flying there flies = refl
  by_call (Some call) None there flies = none_either (goes_on st.holding (Some call))
  by_call (Some call) (Some batch) there flies = by_test (taking call batch) (goes_on st.holding (Some call)) (may_take_flying call batch there flies)

  -- what a call takes of a unit of the cluster now is the event that is chosen
  pub take_told : option_map (λ (t : Taking). events.Take t) (taking_now st unit) ≡ take_event st unit
  take_told = by_call (call_of st.calling unit.work.call) unit.flying refl refl
