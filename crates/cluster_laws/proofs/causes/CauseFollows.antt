-- What is kept of each call: its last round, what moved since, and its granted rounds.
use Rattle.std.proofs.Common.{◌≡◌, ℕ, suc, ◌+◌, ◌≤◌, ◌<◌, ◌==◌, nat_le, Bool, true, false, ◌&&◌, ◌||◌, inl, inr, cond, if◌then◌else◌, List, [], ◌∷◌, ◌++◌, map, length, Option, None, Some, is_none, refl, sym, ap, ◌∙◌, arith, subst}
use Rattle.std.proofs.lemmas.Bool.{and_parts, eq-eqb, eqb-true, leb-true, or_cases, or_left, or_right, true≢false}
use Rattle.std.specs.List.{AllByRecursion, filter, list_all}
use Rattle.grid_base.specs.declared.limits.TheConstants.{MOST_ROUNDS}
use Rattle.grid_event.specs.Configs.{is_up_to}
use Rattle.grid_event.specs.Spans.{invokes}
use Rattle.grid_event.specs.declared.call_events.Ask.{Ask}
use Rattle.grid_event.specs.declared.call_events.InvokeEvent.{InvokeEvent}
use Rattle.grid_event.specs.declared.call_events.RoundEvent.{RoundEvent}
use Rattle.grid_event.specs.declared.config.Config.{Config}
use Rattle.grid_event.specs.declared.event.Event.{Event}
use Rattle.grid_event.specs.declared.request.Request.{Request}
use Rattle.grid_event.specs.declared.event.Event.TheVariants.{Write, Erase, Tick, Join, Depart, Announce, Install, Copy, Land, Invoke, Round, Begin, Scan, Fetch, Take, Done, Answer}
use Rattle.local_publisher.specs.declared.unit_state.UnitState.{UnitState}
use Rattle.local_publisher.specs.declared.unit_state.UnitState.TheVariants.{Asked, Running, Refused, Lost, Ended}
use Rattle.suspect_retry.specs.Rounds.{closed_at, granted_rounds}
use Rattle.topology_coord.specs.Coordination.{Coordination, installed_id, lives, lost_segments}
use Rattle.topology_phase.specs.Owners.{among}
use Rattle.cluster_model.specs.Calls.{can_invoke, new_call, granted, has_caught_up, is_request, rounded, unit_made}
use Rattle.cluster_model.specs.Causes.{failed, last_asks, last_round_failed, moved_since_round, rounds_of}
use Rattle.cluster_model.specs.Guarantees.{rounds_in}
use Rattle.cluster_model.specs.Laws.{moves_calls}
use Rattle.cluster_model.specs.State.{Call, State, Unit, call_of, is_lost, is_of}
use Rattle.cluster_model.specs.Step.{allowed, changed}
use Rattle.cluster_model.specs.Topologies.{notes_losses}
use Rattle.cluster_laws.proofs.units.CallLinks.{rounds_found}
use Rattle.cluster_laws.proofs.causes.CauseCalls.{found_answered, found_aside, found_departed, found_invoked, found_rounded, found_taken, same_some}
use Rattle.cluster_laws.proofs.causes.CauseDates.{DatesTold, each_dated, failed_is}
use Rattle.cluster_laws.proofs.causes.CauseIds.{IdsOf, has_number}
use Rattle.cluster_laws.proofs.causes.CauseMoves.{MovesOf, moves_fresh, moves_round, moves_stay, rounds_for, unmoved_before}
use Rattle.cluster_laws.proofs.causes.CauseRounds.{RoundsOf, incomplete_one, last_round_fails}
use Rattle.cluster_laws.proofs.causes.CauseUnits.{FreshAsk, RoundKnown, StageStep, each_unit, fresh_asks, round_known}
use Rattle.cluster_laws.proofs.causes.CauseWords.{count_rounds, each_last, last_asks-push, none_true}
use Rattle.cluster_laws.proofs.Lists.{each-append, each_any, each_both, each_changed, each_imply}
use Rattle.cluster_laws.proofs.Numbers.{NumberedFrom}
use Rattle.cluster_laws.proofs.units.StageRuns.{IsTraced}
use Rattle.cluster_laws.proofs.units.StageSteps.{StageKept}
use Rattle.cluster_laws.specs.Laws.{ask_of, is_refused}

-- the stage is that of a unit whose node departed
abbrev pub is_departed : UnitState → Bool
is_departed (Lost None) = true
is_departed _ = false

-- a unit of the last round, where nothing moved since: it was asked at what the originator has installed, and its node didn't depart
abbrev pub Follows : List Event → Coordination → ℕ → List ℕ → ℕ → Unit → Type 0
Follows past c call last_round originator unit =
    among unit.work.id last_round ≡ true → moved_since_round past call originator ≡ false → lives c originator ≡ true
    → (unit.work.asked_at ≡ installed_id c originator) × (is_departed unit.work.state ≡ false)

-- what is known of a call
pub record KnownCall (config : Config) (past : List Event) (st : State) (number : ℕ) (call : Call) : Type 0 where
  pub moves : MovesOf config past number call.originator
  pub last : call.last_round ≡ map (λ (ask : Ask). ask.unit) (last_asks (rounds_of past number))
  pub follows : AllByRecursion (Follows past st.holding.coord number call.last_round call.originator) st.calling.units
  pub granted_at_most : call.rounds ≤ granted call
  pub some_round : 1 ≤ call.request.rounds

-- this is known of each call
abbrev pub AllKnown : Config → List Event → State → Type 0
AllKnown config past st = (number : ℕ) (call : Call) → call_of st.calling number ≡ Some call → KnownCall config past st number call

-- ---- lists

-- units that are numbered have numbers up to how many there are
within_numbers : (n : ℕ) (units : List Unit) → NumberedFrom n units → AllByRecursion (λ (unit : Unit). unit.work.id < n + length units) units
within_numbers n [] a = tt
within_numbers n (unit ∷ units) a = (
  (let e : unit.work.id ≡ n = a.0 in omega arith),
  each_imply (λ (u : Unit). u.work.id < suc n + length units) (λ (u : Unit). u.work.id < n + length (unit ∷ units)) (λ u h. omega arith) units (within_numbers (suc n) units a.1),
)

-- a number above all of some asks isn't among theirs
none_above : (asks : List Ask) (most u : ℕ) → AllByRecursion (λ (ask : Ask). ask.unit ≤ most) asks → among u (map (λ (ask : Ask). ask.unit) asks) ≡ true → u ≤ most
none_above [] most u a h = absurd (cc)
none_above (ask ∷ asks) most u a h = elim (or_cases (ask.unit == u) (among u (map (λ (x : Ask). x.unit) asks)) h) [
  | inl here ↦ let e = eqb-true ask.unit u here in let b = a.0 in omega arith
  | inr there ↦ none_above asks most u a.1 there
]

-- and one below all of them isn't either
none_under : (asks : List Ask) (least u : ℕ) → AllByRecursion (λ (ask : Ask). least < ask.unit) asks → among u (map (λ (ask : Ask). ask.unit) asks) ≡ true → least < u
none_under [] least u a h = absurd (cc)
none_under (ask ∷ asks) least u a h = elim (or_cases (ask.unit == u) (among u (map (λ (x : Ask). x.unit) asks)) h) [
  | inl here ↦ let e = eqb-true ask.unit u here in let b = a.0 in omega arith
  | inr there ↦ none_under asks least u a.1 there
]

-- each of some asks is among their numbers
each_numbered : (xs ys : List Ask) → ((n : ℕ) → among n (map (λ (ask : Ask). ask.unit) xs) ≡ true → among n (map (λ (ask : Ask). ask.unit) ys) ≡ true) → AllByRecursion (λ (ask : Ask). among ask.unit (map (λ (a : Ask). a.unit) ys) ≡ true) xs
each_numbered [] ys sub = tt
each_numbered (x ∷ xs) ys sub = (
  sub x.unit (or_left (x.unit == x.unit) _ (eq-eqb x.unit x.unit refl)),
  each_numbered xs ys (λ n t. sub n (or_right (x.unit == n) (among n (map (λ (ask : Ask). ask.unit) xs)) t)),
)

-- what all of those that pass a test pass
each_filtered : {A : Type 0} (p q : A → Bool) (xs : List A) → list_all p (filter q xs) ≡ true → AllByRecursion (λ x. q x ≡ true → p x ≡ true) xs
each_filtered p q [] a = tt
each_filtered p q (x ∷ xs) a = by_test (q x) a (each_filtered p q xs)
  where
    by_test : (b : Bool) → list_all p (if b then x ∷ filter q xs else filter q xs) ≡ true → (list_all p (filter q xs) ≡ true → AllByRecursion (λ y. q y ≡ true → p y ≡ true) xs) → (b ≡ true → p x ≡ true) × AllByRecursion (λ y. q y ≡ true → p y ≡ true) xs
    by_test true a rest = let h = and_parts (p x) (list_all p (filter q xs)) a in ((λ here. h.0), rest h.1)
    by_test false a rest = ((λ here. absurd (cc)), rest a)

-- ---- what follows before an event

module _ (config : Config) (past : List Event) (st : State) (h : IsTraced config past st) (told : DatesTold past st.calling.units) where
  -- the units of the last round are there
  last_within : (number : ℕ) (call : Call) → KnownCall config past st number call → (u : ℕ) → among u call.last_round ≡ true → u ≤ length st.calling.units
  last_within number call k u there =
      none_above (last_asks (rounds_of past number)) (length st.calling.units) u
      (each_last (λ (ask : Ask). ask.unit ≤ length st.calling.units) (rounds_of past number)
      (each_dated past st.calling.units told number (λ a. a.0.unit ≤ length st.calling.units)
      (each_imply (λ (unit : Unit). unit.work.id < 1 + length st.calling.units) (λ unit. is_of number unit ≡ true → unit.work.id ≤ length st.calling.units) (λ unit b of. omega arith) st.calling.units (within_numbers 1 st.calling.units h.units.numbered))))
      (ap (among u) (sym k.last) ∙ there)

  -- a unit of the call's last round was closed at no more than the originator has installed
  abbrev CaughtUp : Call → Unit → Type 0
  CaughtUp call unit = among unit.work.id call.last_round ≡ true → nat_le (closed_at unit.work.state) (installed_id st.holding.coord call.originator) ≡ true

  -- where the originator has caught up and a segment of the last round failed, something moved since
  since_last : (number : ℕ) (call : Call) → KnownCall config past st number call → AllByRecursion (IdsOf config past st.holding.coord) st.calling.units → lives st.holding.coord call.originator ≡ true → has_caught_up st call ≡ true →
      (segment : ℕ) → last_round_failed config past number segment ≡ true → ((rounds_in past number == 0) || moved_since_round past number call.originator) ≡ true
  since_last number call k ids live caught segment fails = by_moved (moved_since_round past number call.originator) refl
    where
      stage_holds : (stage : UnitState) (asked most : ℕ) → asked ≡ most → is_departed stage ≡ false → closed_at stage ≤ most → (has_number stage ≡ true → asked < closed_at stage) → (is_refused stage || is_lost stage) ≡ false
      stage_holds Asked asked most e d c i = refl
      stage_holds Running asked most e d c i = refl
      stage_holds (Refused at) asked most e d c i = let x = i refl in absurd (omega arith)
      stage_holds (Lost None) asked most e d c i = absurd (cc)
      stage_holds (Lost (Some at)) asked most e d c i = let x = i refl in absurd (omega arith)
      stage_holds Ended asked most e d c i = refl

      caught_each : AllByRecursion (CaughtUp call) st.calling.units
      caught_each = each_filtered (λ (unit : Unit). nat_le (closed_at unit.work.state) (installed_id st.holding.coord call.originator)) (λ (unit : Unit). among unit.work.id call.last_round) st.calling.units caught

      none_failed : moved_since_round past number call.originator ≡ false → AllByRecursion (λ unit. is_of number unit ≡ true → among unit.work.id call.last_round ≡ true → failed config past (ask_of unit) ≡ false) st.calling.units
      none_failed unmoved =
          each_both (λ unit. StageKept config past unit × IdsOf config past st.holding.coord unit) (λ unit. Follows past st.holding.coord number call.last_round call.originator unit × CaughtUp call unit)
          (λ unit. is_of number unit ≡ true → among unit.work.id call.last_round ≡ true → failed config past (ask_of unit) ≡ false)
          (λ unit a b of there.
          let f = b.0 there unmoved live in
          failed_is config past unit a.0
          ∙ stage_holds unit.work.state unit.work.asked_at (installed_id st.holding.coord call.originator) f.0 f.1 (leb-true (closed_at unit.work.state) (installed_id st.holding.coord call.originator) (b.1 there)) a.1.higher)
          st.calling.units
          (each_both (StageKept config past) (IdsOf config past st.holding.coord) (λ unit. StageKept config past unit × IdsOf config past st.holding.coord unit) (λ unit x y. (x, y)) st.calling.units h.stages.each ids)
          (each_both (Follows past st.holding.coord number call.last_round call.originator) (CaughtUp call) (λ unit. Follows past st.holding.coord number call.last_round call.originator unit × CaughtUp call unit) (λ unit x y. (x, y)) st.calling.units k.follows caught_each)

      asks_failed : moved_since_round past number call.originator ≡ false → AllByRecursion (λ (ask : Ask). ((ask.segment == segment) && failed config past ask) ≡ false) (last_asks (rounds_of past number))
      asks_failed unmoved =
          each_both (λ (ask : Ask). among ask.unit call.last_round ≡ true → failed config past ask ≡ false) (λ (ask : Ask). among ask.unit (map (λ (a : Ask). a.unit) (last_asks (rounds_of past number))) ≡ true)
          (λ (ask : Ask). ((ask.segment == segment) && failed config past ask) ≡ false)
          (λ ask f there. ap (λ b. (ask.segment == segment) && b) (f (ap (among ask.unit) k.last ∙ there)) ∙ and_never (ask.segment == segment)) (last_asks (rounds_of past number))
          (each_last (λ (ask : Ask). among ask.unit call.last_round ≡ true → failed config past ask ≡ false) (rounds_of past number)
          (each_dated past st.calling.units told number (λ a. among a.0.unit call.last_round ≡ true → failed config past a.0 ≡ false) (none_failed unmoved)))
          (each_numbered (last_asks (rounds_of past number)) (last_asks (rounds_of past number)) (λ n t. t))
        where
          and_never : (b : Bool) → (b && false) ≡ false
          and_never true = refl
          and_never false = refl

      by_moved : (m : Bool) → moved_since_round past number call.originator ≡ m → ((rounds_in past number == 0) || m) ≡ true
      by_moved true e = or_right (rounds_in past number == 0) true refl
      by_moved false e = elim (or_cases (rounds_in past number == 0) _ fails) [
        | inl none ↦ or_left (rounds_in past number == 0) false none
        | inr some ↦ absurd (true≢false (sym some ∙ none_true (λ (ask : Ask). (ask.segment == segment) && failed config past ask) (last_asks (rounds_of past number)) (asks_failed e)))
      ]

  -- ---- each event

  -- a call that an event neither makes nor gives a round
  module _ (event : Event) (may : allowed st event ≡ true) where
    follows_on : (number : ℕ) (call : Call) → KnownCall config past st number call → rounds_for number event ≡ false →
        AllByRecursion (Follows (event ∷ past) (changed st event).holding.coord number call.last_round call.originator) (changed st event).calling.units
    follows_on number call k round =
        each_unit st event (Follows past st.holding.coord number call.last_round call.originator) (Follows (event ∷ past) (changed st event).holding.coord number call.last_round call.originator)
        (λ before after u f there m live.
        let x = unmoved_before config past st event h.kept may number call.originator round k.moves.member m live in
        let g = f (ap (λ i. among i call.last_round) (sym u.id) ∙ there) x.moved x.live in
        (u.asked_at ∙ g.0 ∙ sym x.same, by_stage before after.work.state x.nobody g.1 u.stage))
        (λ r found ask e known fresh there m live. absurd (let w = last_within number call k ask.unit there in let f = fresh.number in omega arith))
        may h.units.numbered k.follows
      where
        began : (runs : Bool) (at : ℕ) → is_departed (if runs then Running else Refused at) ≡ false
        began true at = refl
        began false at = refl

        by_stage : (before : Unit) (after : UnitState) → ((n : ℕ) → event ≡ Depart n → ⊥) → is_departed before.work.state ≡ false → StageStep st event before after → is_departed after ≡ false
        by_stage before after nobody d (StageStep.Stays e) = ap is_departed e ∙ d
        by_stage before after nobody d (StageStep.Begins runs event_is asked least reading e) = ap is_departed e ∙ began runs (installed_id st.holding.coord before.work.node)
        by_stage before after nobody d (StageStep.Departs event_is opened e) = absurd (nobody before.work.node event_is)
        by_stage before after nobody d (StageStep.Installs event_is running other e) = ap is_departed e
        by_stage before after nobody d (StageStep.Ends event_is running e) = ap is_departed e

    known_on : (number : ℕ) (before after : Call) → invokes number event ≡ false → rounds_for number event ≡ false → rounds_of (event ∷ past) number ≡ rounds_of past number →
        after.originator ≡ before.originator → after.request ≡ before.request → after.rounds ≡ before.rounds → after.last_round ≡ before.last_round → KnownCall config past st number before → KnownCall config (event ∷ past) (changed st event) number after
    known_on number before after made round same originator request rounds last k = record {
      moves = subst (MovesOf config (event ∷ past) number) (sym originator) (moves_stay config past st event h.kept may number before.originator made round k.moves);
      last = last ∙ k.last ∙ ap (λ rs. map (λ (ask : Ask). ask.unit) (last_asks rs)) (sym same);
      follows =
          subst (λ o. AllByRecursion (Follows (event ∷ past) (changed st event).holding.coord number after.last_round o) (changed st event).calling.units) (sym originator)
          (subst (λ l. AllByRecursion (Follows (event ∷ past) (changed st event).holding.coord number l before.originator) (changed st event).calling.units) (sym last) (follows_on number before k round));
      granted_at_most = subst (λ q. after.rounds ≤ granted_rounds q.guarantee q.rounds) (sym request) (let g = k.granted_at_most in omega arith);
      some_round = subst (λ (q : Request). 1 ≤ q.rounds) (sym request) k.some_round;
    }

  -- an event that changes no call
  aside : AllKnown config past st → (event : Event) → allowed st event ≡ true → moves_calls event ≡ false → ((number : ℕ) → (invokes number event ≡ false) × ((rounds_for number event ≡ false) × (rounds_of (event ∷ past) number ≡ rounds_of past number))) → AllKnown config (event ∷ past) (changed st event)
  aside all event may other none number call e =
      known_on event may number call call (none number).0 (none number).1.0 (none number).1.1 refl refl refl refl (all number call (found_aside st event other number call e))

  -- a round of the call
  round_known_on : (r : RoundEvent) (call : Call) → allowed st (Round r) ≡ true → RoundKnown st r call → RoundsOf config past r.call → AllByRecursion (IdsOf config past st.holding.coord) st.calling.units → KnownCall config past st r.call call →
      KnownCall config (Round r ∷ past) (changed st (Round r)) r.call (record call { rounds = call.rounds + 1; last_round = map (λ (ask : Ask). ask.unit) r.asks })
  unfolding rounded
  round_known_on r call may known rounds ids k =
      let one = incomplete_one config past st h told r.call known.missing in
      let fails = last_round_fails config past st h told r.call one.0 rounds one.1.0 known.closed one.1.1 in
      record {
        moves = moves_round config past r call.originator (since_last r.call call k ids known.live known.caught_up one.0 fails) k.moves;
        last =
            ap (map (λ (ask : Ask). ask.unit))
            (sym (ap (λ b. last_asks (if b then rounds_of past r.call ++ r ∷ [] else rounds_of past r.call)) (eq-eqb r.call r.call refl) ∙ last_asks-push (rounds_of past r.call) r));
        follows =
            each-append (Follows (Round r ∷ past) st.holding.coord r.call (map (λ (ask : Ask). ask.unit) r.asks) call.originator) st.calling.units (map (unit_made r.call r.id) r.asks)
            (each_imply (λ (unit : Unit). unit.work.id < 1 + length st.calling.units) (Follows (Round r ∷ past) st.holding.coord r.call (map (λ (ask : Ask). ask.unit) r.asks) call.originator)
            (λ unit within there m live.
            absurd
            (let under = none_under r.asks (length st.calling.units) unit.work.id (each_imply (FreshAsk st call.originator) (λ (ask : Ask). length st.calling.units < ask.unit) (λ ask f. f.number) r.asks (fresh_asks st r call known)) there in
            omega arith)) st.calling.units (within_numbers 1 st.calling.units h.units.numbered))
            (each_changed (FreshAsk st call.originator) (FreshAsk st call.originator) (Follows (Round r ∷ past) st.holding.coord r.call (map (λ (ask : Ask). ask.unit) r.asks) call.originator) (unit_made r.call r.id)
            (λ ask f g there m live. (known.id, refl)) r.asks (fresh_asks st r call known) (fresh_asks st r call known));
        granted_at_most = let l = known.left in omega arith;
        some_round = k.some_round;
      }

  -- a call that is just made
  fresh_known : (i : InvokeEvent) → allowed st (Invoke i) ≡ true → KnownCall config (Invoke i ∷ past) (changed st (Invoke i)) i.call (new_call i.node i.request)
  unfolding can_invoke
  fresh_known i may =
      let a = and_parts (lives st.holding.coord i.node) _ may in
      let b = and_parts (is_none (call_of st.calling i.call)) _ a.1 in
      let c = and_parts _ (is_request st.holding.config.values i.request) b.1 in
      let d = and_parts (is_up_to MOST_ROUNDS i.request.rounds) _ c.1 in
      let e = and_parts (nat_le 1 i.request.rounds) (nat_le i.request.rounds MOST_ROUNDS) d.0 in
      let none : rounds_in past i.call ≡ 0 = (h.calls i.call).rounds ∙ by_none (call_of st.calling i.call) b.0 in
      record {
        moves = moves_fresh config past i (sym (h.kept.told.live i.node) ∙ a.0) (sym (h.kept.told.member i.node) ∙ h.kept.parts.topologies.member i.node a.0) none;
        last = ap (λ rs. map (λ (ask : Ask). ask.unit) (last_asks rs)) (sym (no_rounds (rounds_of past i.call) (sym (count_rounds past i.call) ∙ none)));
        follows = each_any (Follows (Invoke i ∷ past) (changed st (Invoke i)).holding.coord i.call [] i.node) (λ unit there. absurd (cc)) (changed st (Invoke i)).calling.units;
        granted_at_most = omega arith;
        some_round = leb-true 1 i.request.rounds e.0;
      }
    where
      by_none : (found : Option Call) → is_none found ≡ true → rounds_found found ≡ 0
      by_none None e = refl
      by_none (Some call) e = absurd (cc)

      no_rounds : (rounds : List RoundEvent) → length rounds ≡ 0 → rounds ≡ []
      no_rounds [] e = refl
      no_rounds (r ∷ rounds) e = absurd (omega arith)

  -- each event that may happen keeps what is known of calls
  pub known_kept : (event : Event) → allowed st event ≡ true → ((number : ℕ) → RoundsOf config past number) → AllByRecursion (IdsOf config past st.holding.coord) st.calling.units → AllKnown config past st → AllKnown config (event ∷ past) (changed st event)
  known_kept (Depart node) may rounds ids all number call e =
      let was = found_departed st node number call e in
      subst (KnownCall config (Depart node ∷ past) (changed st (Depart node)) number) was.1.1
      (known_on (Depart node) may number was.0 (notes_losses st.calling.units (lost_segments st.holding.coord node) number was.0) refl refl refl refl refl refl refl (all number was.0 was.1.0))
  known_kept (Invoke i) may rounds ids all number call e = by_test (i.call == number) refl (found_invoked st i number call e)
    where
      by_test : (b : Bool) → (i.call == number) ≡ b → cond b (new_call i.node i.request ≡ call) (call_of st.calling number ≡ Some call) → KnownCall config (Invoke i ∷ past) (changed st (Invoke i)) number call
      by_test true t same =
          subst (λ n. KnownCall config (Invoke i ∷ past) (changed st (Invoke i)) n call) (eqb-true i.call number t)
          (subst (KnownCall config (Invoke i ∷ past) (changed st (Invoke i)) i.call) same (fresh_known i may))
      by_test false t there = known_on (Invoke i) may number call call t refl refl refl refl refl refl (all number call there)
  known_kept (Round r) may rounds ids all number call e = by_test (r.call == number) refl (found_rounded st r number call e)
    where
      more : Call → Call
      more before = record before { rounds = before.rounds + 1; last_round = map (λ (ask : Ask). ask.unit) r.asks }

      by_test : (b : Bool) → (r.call == number) ≡ b → (before : Call) × ((call_of st.calling number ≡ Some before) × cond b (more before ≡ call) (before ≡ call)) → KnownCall config (Round r ∷ past) (changed st (Round r)) number call
      by_test true t was =
          let known : (x : Call) × RoundKnown st r x = round_known st r may in
          let same = eqb-true r.call number t in
          let one : known.0 ≡ was.0 = same_some known.0 was.0 (sym known.1.there ∙ ap (call_of st.calling) same ∙ was.1.0) in
          subst (λ n. KnownCall config (Round r ∷ past) (changed st (Round r)) n call) same
          (subst (KnownCall config (Round r ∷ past) (changed st (Round r)) r.call) (ap more one ∙ was.1.1)
          (round_known_on r known.0 may known.1 (rounds r.call) ids (all r.call known.0 known.1.there)))
      by_test false t was =
          subst (KnownCall config (Round r ∷ past) (changed st (Round r)) number) was.1.1
          (known_on (Round r) may number was.0 was.0 refl t (ap (λ b. if b then rounds_of past number ++ r ∷ [] else rounds_of past number) t) refl refl refl refl (all number was.0 was.1.0))
  known_kept (Take t) may rounds ids all number call e =
      let was = found_taken st t number call e in
      known_on (Take t) may number was.before call refl refl refl was.originator was.request was.rounds was.last_round (all number was.before was.there)
  known_kept (Answer a) may rounds ids all number call e = by_test (a.call == number) (found_answered st a number call e)
    where
      by_test : (b : Bool) → (before : Call) × ((call_of st.calling number ≡ Some before) × cond b (record before { outcome = Some a.outcome } ≡ call) (before ≡ call)) → KnownCall config (Answer a ∷ past) (changed st (Answer a)) number call
      by_test true was =
          subst (KnownCall config (Answer a ∷ past) (changed st (Answer a)) number) was.1.1
          (known_on (Answer a) may number was.0 (record was.0 { outcome = Some a.outcome }) refl refl refl refl refl refl refl (all number was.0 was.1.0))
      by_test false was =
          subst (KnownCall config (Answer a ∷ past) (changed st (Answer a)) number) was.1.1
          (known_on (Answer a) may number was.0 was.0 refl refl refl refl refl refl refl (all number was.0 was.1.0))
  known_kept (Write w) may rounds ids all number call e = aside all (Write w) may refl (λ n. (refl, (refl, refl))) number call e
  known_kept (Erase w) may rounds ids all number call e = aside all (Erase w) may refl (λ n. (refl, (refl, refl))) number call e
  known_kept (Tick ticks) may rounds ids all number call e = aside all (Tick ticks) may refl (λ n. (refl, (refl, refl))) number call e
  known_kept (Join node) may rounds ids all number call e = aside all (Join node) may refl (λ n. (refl, (refl, refl))) number call e
  known_kept (Announce topology) may rounds ids all number call e = aside all (Announce topology) may refl (λ n. (refl, (refl, refl))) number call e
  known_kept (Install node id) may rounds ids all number call e = aside all (Install node id) may refl (λ n. (refl, (refl, refl))) number call e
  known_kept (Copy c) may rounds ids all number call e = aside all (Copy c) may refl (λ n. (refl, (refl, refl))) number call e
  known_kept (Land receiver segment) may rounds ids all number call e = aside all (Land receiver segment) may refl (λ n. (refl, (refl, refl))) number call e
  known_kept (Begin unit runs) may rounds ids all number call e = aside all (Begin unit runs) may refl (λ n. (refl, (refl, refl))) number call e
  known_kept (Scan s) may rounds ids all number call e = aside all (Scan s) may refl (λ n. (refl, (refl, refl))) number call e
  known_kept (Fetch f) may rounds ids all number call e = aside all (Fetch f) may refl (λ n. (refl, (refl, refl))) number call e
  known_kept (Done unit) may rounds ids all number call e = aside all (Done unit) may refl (λ n. (refl, (refl, refl))) number call e
