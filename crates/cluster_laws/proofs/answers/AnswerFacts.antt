-- What the evidence of a call has, and what follows for the guarantees where the call is answered.
use Rattle.std.proofs.Common.{◌≡◌, ℕ, suc, zero, ◌+◌, ◌≤◌, ◌<◌, ◌==◌, Bool, true, false, not, ◌&&◌, ◌||◌, cond, if◌then◌else◌, List, [], ◌∷◌, Option, None, Some, is_none, unwrap_or, refl, sym, ap, subst, ◌∙◌, arith}
use Rattle.std.proofs.lemmas.Bool.{and_from, and_parts, eq-eqb, eqb-false, eqb-true}
use Rattle.std.specs.List.{AllByRecursion, list_all, list_any, range_with_len}
use Rattle.std.specs.Option.{option_map}
use Rattle.delivery_mode.specs.Guarantee.{asks_again, keeps_lost}
use Rattle.delivery_mode.specs.declared.guarantee.Guarantee.{Guarantee}
use Rattle.delivery_mode.specs.declared.guarantee.Guarantee.TheVariants.{Exact, AtLeast, AtMost}
use Rattle.grid_base.specs.declared.datum.Datum.{Datum}
use Rattle.grid_base.specs.declared.entry.Entry.{Entry}
use Rattle.grid_base.specs.declared.stamped.Stamped.{Stamped}
use Rattle.grid_event.specs.Maps.{value_at}
use Rattle.grid_event.specs.Spans.{since_invoke, span_end, up_to_answer}
use Rattle.grid_event.specs.declared.call_events.AnswerEvent.{AnswerEvent}
use Rattle.grid_event.specs.declared.config.Config.{Config}
use Rattle.grid_event.specs.declared.event.Event.{Event}
use Rattle.grid_event.specs.declared.event.Event.TheVariants.{Answer}
use Rattle.grid_event.specs.declared.request.Request.{Request}
use Rattle.local_publisher.specs.declared.unit_state.UnitState.{UnitState}
use Rattle.local_publisher.specs.declared.unit_state.UnitState.TheVariants.{Asked, Running, Refused, Lost, Ended}
use Rattle.segment_hash.proofs.SegmentLaws.{segment_below}
use Rattle.segment_hash.specs.Segments.{segment_number}
use Rattle.suspect_retry.specs.Rounds.{granted_rounds}
use Rattle.cluster_model.specs.Answers.{counts, is_whole}
use Rattle.cluster_model.specs.Calls.{all_complete, has_open}
use Rattle.cluster_model.specs.Evidence.{EachHeld, Held, Stable, StoodOnce, StoodThroughout, entry_times, evidence, how_many, request_of, taken_in, times}
use Rattle.cluster_model.specs.Guarantees.{IsAtLeast, IsAtMost, IsExact, Keeps, is_move, moves_in, rounds_in}
use Rattle.cluster_model.specs.Laws.{stands_at}
use Rattle.cluster_model.specs.State.{Call, State, Unit, call_of, is_ended, is_exact, is_of, is_on, is_walk}
use Rattle.cluster_model.specs.Told.{is_segment}
use Rattle.cluster_model.specs.Topologies.{is_complete}
use Rattle.cluster_laws.proofs.answers.AnswerEvidence.{UnitKnown, count_either, ended_has, evidence_ge, evidence_le, evidence_stood, may_bound, may_have, on_bound, reduction_told, walk_told}
use Rattle.cluster_laws.proofs.answers.AnswerKeys.{KeysKept}
use Rattle.cluster_laws.proofs.answers.AnswerTakes.{landed, landed_by}
use Rattle.cluster_laws.proofs.answers.AnswerUnits.{flight, once_later, throughout_before}
use Rattle.cluster_laws.proofs.answers.AnswerWalks.{Reaches, WalksKept}
use Rattle.cluster_laws.proofs.units.CallLinks.{EndTold, asks_walk, ended_told, request_told}
use Rattle.cluster_laws.proofs.answers.AnswerLinks.{LinksKept}
use Rattle.cluster_laws.proofs.answers.EvidenceCounts.{EachStood, entries_as_keys, none_elsewhere, sum_le, sum_none}
use Rattle.cluster_laws.proofs.Lists.{each_both, each_imply}
use Rattle.cluster_laws.proofs.units.Reading.{entry_le}
use Rattle.cluster_laws.proofs.units.UnitCounts.{CountsKept, is_lost_on, is_standing, standing_unlost, stands}

-- the evidence of a call: each entry stood at some place; a key is no more often in it than rounds were made, nor more often than one
-- and the moves since the call was made; with exactly once it is once at most; and what stood throughout is in it, where its segment
-- is complete
pub record EvidenceKnown (config : Config) (past : List Event) (units : List Unit) (call : ℕ) (request : Request) (entries : List Entry) : Type 0 where
  -- each entry of the evidence is held
  pub held : EachStood config past call entries
  pub by_rounds : (key : List ℕ) → times key entries ≤ rounds_in past call
  pub by_moves : (key : List ℕ) → times key entries ≤ 1 + since_invoke is_move past call
  pub once : is_exact request.guarantee ≡ true → (key : List ℕ) → times key entries ≤ 1
  pub there : (key : List ℕ) (datum : Datum) (segment : ℕ) → segment < config.segments → segment_number config.partition config.segments key ≡ Some segment → is_complete units call segment ≡ true
      → StoodThroughout config past call key datum → 1 ≤ times key entries

-- as many units may have read as are counted
may_count : (past : List Event) (units : List Unit) (call segment : ℕ) → CountsKept past units → how_many (may_have call segment) units ≤ 1 + since_invoke is_move past call
may_count past units call segment h =
    let a = count_either (is_standing call segment) (is_lost_on call segment) units in
    let b = h.one call segment in
    let c = h.by_moves call segment in omega arith

-- a unit that passes on a segment is of the call
of_call : (call segment : ℕ) (unit : Unit) (b : Bool) → (is_on call segment unit && b) ≡ true → is_of call unit ≡ true
of_call call segment unit b t = (and_parts (is_of call unit) (unit.work.segment == segment) (and_parts (is_on call segment unit) b t).0).0

-- with exactly once, what lost units read doesn't count
exact_drops : (g : Guarantee) → is_exact g ≡ true → keeps_lost g ≡ false
exact_drops Exact h = refl
exact_drops AtLeast h = absurd (cc)
exact_drops AtMost h = absurd (cc)

-- a unit that has ended stands
ended_stands : (stage : UnitState) → is_ended stage ≡ true → stands stage ≡ true
ended_stands Asked h = refl
ended_stands Running h = refl
ended_stands (Refused at) h = absurd (cc)
ended_stands (Lost at) h = absurd (cc)
ended_stands Ended h = refl

-- of a reduction
pub reduction_known : (config : Config) (past : List Event) (st : State) (number : ℕ) (call : Call) → st.calling.segments ≡ config.segments → LinksKept past st → CountsKept past st.calling.units → AllByRecursion (UnitKnown config past) st.calling.units →
    call_of st.calling number ≡ Some call → is_walk call.request ≡ false → EvidenceKnown config past st.calling.units number call.request (evidence config past number)
reduction_known config past st number call read_all links numbers known there form =
    subst (EvidenceKnown config past st.calling.units number call.request) (sym (reduction_told config past st number call read_all links known there form)) (record {
      held = evidence_stood config past st number call read_all known;
      by_rounds = λ key.
          evidence_le config past st number call read_all known (is_on number) (rounds_in past number) key
          (λ segment unit k e t. on_bound config past number segment key unit k e (of_call number segment unit (counts call unit) t)) (numbers.by_rounds number);
      by_moves = λ key.
          evidence_le config past st number call read_all known (may_have number) (1 + since_invoke is_move past number) key
          (λ segment unit k e t. may_bound config past number segment key unit k e (of_call number segment unit (counts call unit) t)) (λ segment. may_count past st.calling.units number segment numbers);
      once = λ exact key.
          evidence_le config past st number call read_all known (is_standing number) 1 key
          (λ segment unit k e t. ended_once exact segment key unit k e t) (numbers.one number);
      there = evidence_ge config past st number call read_all known;
    })
  where
    ended_once : is_exact call.request.guarantee ≡ true → (segment : ℕ) (key : List ℕ) (unit : Unit) → UnitKnown config past unit → segment_number config.partition config.segments key ≡ Some segment → (is_on number segment unit && counts call unit) ≡ true →
        times key unit.work.entries ≤ cond {A = ℕ} (is_standing number segment unit) 1 0
    ended_once exact segment key unit k e t =
        let p : (is_on number segment unit ≡ true) × (counts call unit ≡ true) = and_parts (is_on number segment unit) (counts call unit) t in
        let ended : is_ended unit.work.state ≡ true = sym (ap (λ b. b || is_ended unit.work.state) (exact_drops call.request.guarantee exact)) ∙ p.1 in
        let standing = ap (λ b. cond {A = ℕ} b 1 0) (and_from (is_on number segment unit) (stands unit.work.state) p.0 (ended_stands unit.work.state ended)) in
        let on = ap (λ b. cond {A = ℕ} b 1 0) p.0 in
        let a = on_bound config past number segment key unit k e (of_call number segment unit (counts call unit) t) in
        omega arith

-- where one passes that gives a fact, the fact holds
from_any : {A : Type 0} (Q : Type 0) (p : A → Bool) (xs : List A) → AllByRecursion (λ x. p x ≡ true → Q) xs → list_any p xs ≡ true → Q
from_any Q p [] h any = absurd (cc)
from_any Q p (x ∷ xs) h any = by_head (p x) refl any (λ e. from_any Q p xs h.1 e)
  where
    by_head : (b : Bool) → p x ≡ b → (b || list_any p xs) ≡ true → (list_any p xs ≡ true → Q) → Q
    by_head true e any f = h.0 e
    by_head false e any f = f any

-- what landed is no more than units that pass a test of which each that has the key passes it
landed_le : (config : Config) (past : List Event) (units : List Unit) (number most : ℕ) (key : List ℕ) (q : ℕ → Unit → Bool) → AllByRecursion (UnitKnown config past) units →
    ((segment : ℕ) (unit : Unit) → UnitKnown config past unit → segment_number config.partition config.segments key ≡ Some segment → is_of number unit ≡ true → times key unit.work.entries ≤ cond {A = ℕ} (q segment unit) 1 0) →
    ((segment : ℕ) → how_many (q segment) units ≤ most) → landed_by key number units ≤ most
landed_le config past units number most key q known each few = by_segment (segment_number config.partition config.segments key) refl
  where
    by_segment : (found : Option ℕ) → segment_number config.partition config.segments key ≡ found → landed_by key number units ≤ most
    by_segment None e =
        let a = sum_none (landed key) (is_of number) units
        (each_imply (UnitKnown config past) (λ unit. is_of number unit ≡ true → landed key unit ≡ 0)
        (λ unit k t. let n = none_elsewhere config past unit.work.call unit.work.segment key unit.work.entries (ap (λ o. is_segment o unit.work.segment) e) k.has.fit in omega arith) units known) in
        omega arith
    by_segment (Some segment) e =
        let a = sum_le (landed key) (is_of number) (q segment) units
        (each_imply (UnitKnown config past) (λ unit. is_of number unit ≡ true → landed key unit ≤ cond {A = ℕ} (q segment unit) 1 0) (λ unit k t. let n = each segment unit k e t in omega arith) units known) in
        let b = few segment in omega arith

-- of a walk, at any place
pub walk_known : (config : Config) (past : List Event) (st : State) (number : ℕ) (request : Request) → CountsKept past st.calling.units → AllByRecursion (UnitKnown config past) st.calling.units → WalksKept config past st →
    request_of past number ≡ Some request → is_walk request ≡ true → EvidenceKnown config past st.calling.units number request (taken_in past number)
walk_known config past st number request numbers known walks asked form = record {
  held = walks.held number;
  by_rounds = λ key.
      let a = walks.bound number key in
      let b = landed_le config past st.calling.units number (rounds_in past number) key (is_on number) known (λ segment unit k e t. on_bound config past number segment key unit k e t) (numbers.by_rounds number) in
      omega arith;
  by_moves = λ key.
      let a = walks.bound number key in
      let b = landed_le config past st.calling.units number (1 + since_invoke is_move past number) key (may_have number) known (λ segment unit k e t. may_bound config past number segment key unit k e t) (λ segment. may_count past st.calling.units number segment numbers) in
      omega arith;
  once = walks.once number request asked;
  there = λ key datum segment below is complete stood.
      from_any (1 ≤ times key (taken_in past number)) (λ unit. is_on number segment unit && is_ended unit.work.state) st.calling.units
      (each_both (UnitKnown config past) (Reaches past) (λ unit. (is_on number segment unit && is_ended unit.work.state) ≡ true → 1 ≤ times key (taken_in past number)) (λ unit k r t. one key datum segment is stood unit k r t) st.calling.units known walks.reaches) complete;
}
  where
    one : (key : List ℕ) (datum : Datum) (segment : ℕ) → segment_number config.partition config.segments key ≡ Some segment → StoodThroughout config past number key datum → (unit : Unit) → UnitKnown config past unit → Reaches past unit →
        (is_on number segment unit && is_ended unit.work.state) ≡ true → 1 ≤ times key (taken_in past number)
    one key datum segment is stood unit k r t =
        let p : (is_on number segment unit ≡ true) × (is_ended unit.work.state ≡ true) = and_parts (is_on number segment unit) (is_ended unit.work.state) t in
        let same = eqb-true unit.work.call number (and_parts (unit.work.call == number) (unit.work.segment == segment) p.0).0 in
        let has = ended_has config past number segment key datum unit k is p.0 p.1 stood in
        let walk = ap (λ n. asks_walk (request_of past n)) same ∙ ap asks_walk asked ∙ form in
        let reached = r walk (standing_unlost unit.work.state (ended_stands unit.work.state p.1)) key in
        let flown = ap (λ o. times key (flight o)) (k.has.whole p.1).1 in
        let here = ap (λ n. times key (taken_in past n)) same in
        omega arith

-- of any call
pub evidence_known : (config : Config) (past : List Event) (st : State) (number : ℕ) (call : Call) → st.calling.segments ≡ config.segments → LinksKept past st → CountsKept past st.calling.units → AllByRecursion (UnitKnown config past) st.calling.units → WalksKept config past st →
    call_of st.calling number ≡ Some call → EvidenceKnown config past st.calling.units number call.request (evidence config past number)
evidence_known config past st number call read_all links numbers known walks there = by_form (is_walk call.request) refl
  where
    by_form : (b : Bool) → is_walk call.request ≡ b → EvidenceKnown config past st.calling.units number call.request (evidence config past number)
    by_form false e = reduction_known config past st number call read_all links numbers known there e
    by_form true e =
        subst (EvidenceKnown config past st.calling.units number call.request) (sym (walk_told config past st number call links there e))
        (walk_known config past st number call.request numbers known walks (request_told past st number call links.calls there) e)

-- what stood throughout stands
stands_now : (config : Config) (past : List Event) (call : ℕ) (key : List ℕ) (datum : Datum) → StoodThroughout config past call key datum → value_at config past key ≡ Some datum
stands_now config [] call key datum s = absurd s
stands_now config (event ∷ past) call key datum s = s.0

-- and its key has a segment
pub key_segment : (config : Config) (past : List Event) (call : ℕ) (key : List ℕ) (datum : Datum) → KeysKept config past → StoodThroughout config past call key datum → (segment : ℕ) × (segment_number config.partition config.segments key ≡ Some segment)
key_segment config past call key datum keys s = by_found (segment_number config.partition config.segments key) refl (keys key (there (stands_at config past key) (stands_now config past call key datum s)))
  where
    there : (o : Option Stamped) → option_map (λ (x : Stamped). x.value) o ≡ Some datum → is_none o ≡ false
    there None e = absurd (cc)
    there (Some x) e = refl

    by_found : (found : Option ℕ) → segment_number config.partition config.segments key ≡ found → is_none found ≡ false → (segment : ℕ) × (segment_number config.partition config.segments key ≡ Some segment)
    by_found None e h = absurd (cc)
    by_found (Some segment) e h = (segment, e)

-- a test that all numbers of a row pass
row_all : (p : ℕ → Bool) (a n s : ℕ) → list_all p (range_with_len a n) ≡ true → a ≤ s → s < a + n → p s ≡ true
row_all p a zero s h l m = absurd (omega arith)
row_all p a (suc n) s h l m =
    let parts : (p a ≡ true) × (list_all p (range_with_len (a + 1) n) ≡ true) = and_parts (p a) (list_all p (range_with_len (a + 1) n)) h in
    by_test parts.0 (a == s) refl (λ more. row_all p (a + 1) n s parts.1 more (omega arith))
  where
    by_test : p a ≡ true → (b : Bool) → (a == s) ≡ b → (a + 1 ≤ s → p s ≡ true) → p s ≡ true
    by_test h true e f = ap p (sym (eqb-true a s e)) ∙ h
    by_test h false e f = f (omega (arith, eqb-false a s e))

module _ (config : Config) (past : List Event) (st : State) (a : AnswerEvent) (call : Call) (good : 0 < config.segments) (read_all : st.calling.segments ≡ config.segments) (links : LinksKept past st) (ends : AllByRecursion (EndTold past) st.calling.units) (keys : KeysKept config past) (rounds : rounds_in past a.call ≤ granted_rounds call.request.guarantee call.request.rounds) (whole : is_whole st.calling a.call call ≡ true) (known : EvidenceKnown config past st.calling.units a.call call.request (evidence config past a.call)) where
  -- the span ends at the answer
  span_here : span_end (Answer a ∷ past) a.call ≡ Answer a ∷ past
  span_here = ap (λ b. unwrap_or (if b then Some (Answer a ∷ past) else up_to_answer past a.call) (Answer a ∷ past)) (eq-eqb a.call a.call refl)

  -- the answer leaves the evidence
  same_evidence : evidence config (Answer a ∷ past) a.call ≡ evidence config past a.call
  unfolding evidence
  same_evidence = refl

  -- what is stable stood throughout before the answer
  through : (key : List ℕ) (datum : Datum) → Stable config (Answer a ∷ past) a.call key datum → StoodThroughout config past a.call key datum
  through key datum s = throughout_before config past (Answer a) a.call key datum refl (subst (λ span. StoodThroughout config span a.call key datum) span_here s)

  -- each entry of the evidence is held
  held : EachHeld config (Answer a ∷ past) a.call (evidence config (Answer a ∷ past) a.call)
  held =
      subst (EachHeld config (Answer a ∷ past) a.call) (sym same_evidence)
      (each_imply (λ (e : Entry). StoodOnce config past a.call e.key e.value) (λ (e : Entry). Held config (Answer a ∷ past) a.call e.key e.value)
      (λ e s. subst (λ span. StoodOnce config span a.call e.key e.value) (sym span_here) (once_later config past (Answer a) a.call e.key e.value refl s)) (evidence config past a.call) known.held)

  -- where all segments are complete, what stood throughout is there
  all_there : all_complete st.calling a.call ≡ true → (key : List ℕ) (datum : Datum) → Stable config (Answer a ∷ past) a.call key datum → 1 ≤ entry_times key datum (evidence config past a.call)
  all_there complete key datum s =
      let stood = through key datum s in
      let found = key_segment config past a.call key datum keys stood in
      let below = segment_below config.partition config.segments key found.0 good found.1 in
      let here = row_all (is_complete st.calling.units a.call) 0 st.calling.segments found.0 complete (omega arith) (let e = read_all in omega arith) in
      let one = known.there key datum found.0 below found.1 here stood in
      let more = entries_as_keys config past a.call key datum (evidence config past a.call) stood known.held in
      omega arith

  -- exactly once holds
  exact_right : call.request.guarantee ≡ Exact → IsExact config (Answer a ∷ past) a.call
  exact_right g = record {
    stable = λ key datum s.
        ap (entry_times key datum) same_evidence
        ∙ (let more = all_there (sym (ap (λ x. if asks_again x then all_complete st.calling a.call else rest) g) ∙ whole) key datum s in
        let less = entry_le key datum (evidence config past a.call) in
        let one = known.once (ap is_exact g) key in omega arith);
    once = λ key. subst (λ es. times key es ≤ 1) (sym same_evidence) (known.once (ap is_exact g) key);
    held = held;
  }
    where
      rest : Bool
      rest = not (call.rounds == 0) && not (has_open st.calling a.call)

  -- at least once holds
  least_right : call.request.guarantee ≡ AtLeast → IsAtLeast config (Answer a ∷ past) a.call
  least_right g = record {
    stable = λ key datum s. subst (λ es. 1 ≤ entry_times key datum es) (sym same_evidence) (all_there (sym (ap (λ x. if asks_again x then all_complete st.calling a.call else rest) g) ∙ whole) key datum s);
    held = held;
    by_rounds = λ key. subst (λ es. times key es ≤ rounds_in past a.call) (sym same_evidence) (known.by_rounds key);
    by_moves = λ key.
        subst (λ es. times key es ≤ 1 + moves_in (Answer a ∷ past) a.call) (sym same_evidence)
        (let b = known.by_moves key in let e = ap (λ span. since_invoke is_move span a.call) span_here in omega arith);
  }
    where
      rest : Bool
      rest = not (call.rounds == 0) && not (has_open st.calling a.call)

  -- at most once holds
  most_right : call.request.guarantee ≡ AtMost → IsAtMost config (Answer a ∷ past) a.call
  most_right g = record {
    once = λ key.
        subst (λ es. times key es ≤ 1) (sym same_evidence)
        (let b = known.by_rounds key in let e = ap (λ x. granted_rounds x call.request.rounds) g in omega arith);
    held = held;
    ended = λ key datum segment is ended s.
        subst (λ es. 1 ≤ entry_times key datum es) (sym same_evidence)
        (let stood = through key datum s in
        let below = segment_below config.partition config.segments key segment good is in
        let here = sym (ended_told past st.calling.units a.call segment links.asks ends) ∙ ended in
        let one = known.there key datum segment below is here stood in
        let more = entries_as_keys config past a.call key datum (evidence config past a.call) stood known.held in
        omega arith);
  }

  -- the guarantee holds
  pub keeps_right : Keeps call.request.guarantee config (Answer a ∷ past) a.call
  keeps_right = by_guarantee call.request.guarantee refl
    where
      by_guarantee : (g : Guarantee) → call.request.guarantee ≡ g → Keeps g config (Answer a ∷ past) a.call
      by_guarantee Exact e = exact_right e
      by_guarantee AtLeast e = least_right e
      by_guarantee AtMost e = most_right e
