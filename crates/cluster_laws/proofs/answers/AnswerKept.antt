-- All that is kept of a cluster, its units and its calls, event by event.
use Rattle.std.proofs.Common.{◌≡◌, ℕ, ◌+◌, ◌≤◌, ◌==◌, Bool, true, false, if◌then◌else◌, List, [], ◌∷◌, Option, None, Some, is_none, refl, sym, ap, subst, ◌∙◌, arith}
use Rattle.std.proofs.lemmas.Bool.{eqb-true, ltb-true}
use Rattle.std.specs.FinMap as map_of
use Rattle.std.specs.List.{AllByRecursion}
use Rattle.std.specs.Ordering.{nat_cmp}
use Rattle.grid_event.specs.Configs.{is_config}
use Rattle.grid_event.specs.Spans.{invoke_of, invokes}
use Rattle.grid_event.specs.declared.config.Config.{Config}
use Rattle.grid_event.specs.declared.event.Event.{Event}
use Rattle.grid_event.specs.declared.event.Event.TheVariants.{Invoke, Round, Take}
use Rattle.grid_event.specs.declared.request.Request.{Request}
use Rattle.suspect_retry.specs.Rounds.{granted_rounds}
use Rattle.cluster_model.specs.Calls.{granted}
use Rattle.cluster_model.specs.Evidence.{request_of}
use Rattle.cluster_model.specs.Guarantees.{rounds_in}
use Rattle.cluster_model.specs.Kept.{IsKept}
use Rattle.cluster_model.specs.State.{Call, State, call_of, start}
use Rattle.cluster_model.specs.Step.{allowed, changed}
use Rattle.cluster_laws.proofs.answers.AnswerBatches.{next_fit}
use Rattle.cluster_laws.proofs.answers.AnswerEvidence.{UnitKnown, units_known}
use Rattle.cluster_laws.proofs.answers.AnswerKeys.{KeysKept, keys_first, keys_kept}
use Rattle.cluster_laws.proofs.answers.AnswerTaking.{take_kept}
use Rattle.cluster_laws.proofs.answers.AnswerTakes.{FromSegment}
use Rattle.cluster_laws.proofs.answers.AnswerUnits.{HasUnits, has_kept, request_stays}
use Rattle.cluster_laws.proofs.answers.AnswerWalks.{WalksKept, still_kept, taken_of}
use Rattle.cluster_laws.proofs.units.CallLinks.{CallTold, CallsTold, EndTold, none_told, request_told}
use Rattle.cluster_laws.proofs.units.CallRequests.{take_facts}
use Rattle.cluster_laws.proofs.answers.AnswerLinks.{LinksKept, links_first, links_kept}
use Rattle.cluster_laws.proofs.units.CompletionRuns.{next_known, shown}
use Rattle.cluster_laws.proofs.Lists.{each_imply}
use Rattle.cluster_laws.proofs.units.PlaceKinds.{all_placed}
use Rattle.cluster_laws.proofs.units.ReadKinds.{units_kept}
use Rattle.cluster_laws.proofs.units.ReadSteps.{ReadKept, UnitsKept}
use Rattle.cluster_laws.proofs.Runs.{step_keeps}
use Rattle.cluster_laws.proofs.copies.Starts.{good_config, start_kept}
use Rattle.cluster_laws.proofs.units.UnitCounts.{CountsKept, counts_kept, due_closed, made_anew}
use Rattle.cluster_laws.proofs.units.UnitEffects.{effects}
use Rattle.cluster_laws.proofs.units.UnitFacts.{CanRound, round_facts}
use Rattle.cluster_laws.proofs.units.UnitPlaces.{AllPlaced}

-- a call has made no more rounds than it is granted
abbrev pub GrantedKept : List Event → Type 0
GrantedKept past = (call : ℕ) (request : Request) → request_of past call ≡ Some request → rounds_in past call ≤ granted_rounds request.guarantee request.rounds

-- all that is kept of a cluster, its units and its calls
pub record AllKept (config : Config) (past : List Event) (st : State) : Type 0 where
  pub kept : IsKept config past st
  pub units : UnitsKept config past st.calling.units
  pub placed : AllPlaced st.holding.coord st.calling.units
  pub links : LinksKept past st
  pub numbers : CountsKept past st.calling.units
  pub has : HasUnits config past st.calling.units
  pub walks : WalksKept config past st
  pub keys : KeysKept config past
  pub granted : GrantedKept past

-- every event that may happen keeps what is known of walks
walks_kept : (config : Config) (past : List Event) (st : State) (event : Event) → allowed st event ≡ true → AllKept config past st → WalksKept config (event ∷ past) (changed st event)
walks_kept config past st (Take t) may h =
    let facts = take_facts st t may in
    take_kept config past st t facts.0 facts.1.0 facts.1.1.0 facts.1.1.1 h.units.numbered h.links h.has.each h.units.read h.walks
walks_kept config past st event may h = still_kept config past st event may refl h.links (effects st event may h.units.numbered) h.walks

-- a call that wasn't made has made no round
none_made : (past : List Event) (st : State) (call : ℕ) → CallsTold past st → is_none (invoke_of past call) ≡ true → rounds_in past call ≡ 0
none_made past st call told none = by_found (call_of st.calling call) (told call) (sym (none_told past call (call_of st.calling call) (told call)) ∙ none)
  where
    by_found : (found : Option Call) → CallTold past call found → is_none found ≡ true → rounds_in past call ≡ 0
    by_found None h e = h.rounds
    by_found (Some x) h e = absurd (cc)

-- every event that may happen keeps the rounds within what is granted
granted_kept : (past : List Event) (st : State) (event : Event) → allowed st event ≡ true → LinksKept past st → GrantedKept past → GrantedKept (event ∷ past)
granted_kept past st (Invoke i) may links h call request asked = by_test (invokes call (Invoke i)) refl
  where
    by_test : (b : Bool) → invokes call (Invoke i) ≡ b → rounds_in past call ≤ granted_rounds request.guarantee request.rounds
    by_test true e = let none = none_made past st call links.calls (made_anew past st (Invoke i) call may links.calls e) in omega arith
    by_test false e = h call request (sym (request_stays past (Invoke i) call e) ∙ asked)
granted_kept past st (Round r) may links h call request asked =
    let found : (x : Call) × CanRound st r x = round_facts st r may in by_test found.0 found.1 (r.call == call) refl
  where
    by_test : (x : Call) → CanRound st r x → (b : Bool) → (r.call == call) ≡ b → (if b then 1 else 0) + rounds_in past call ≤ granted_rounds request.guarantee request.rounds
    by_test x can false e = let before = h call request asked in omega arith
    by_test x can true e =
        let there : call_of st.calling call ≡ Some x = ap (call_of st.calling) (sym (eqb-true r.call call e)) ∙ can.there in
        let told : CallTold past call (Some x) = subst (CallTold past call) there (links.calls call) in
        let same : x.request ≡ request = (let z : Some x.request ≡ Some request = sym (request_told past st call x links.calls there) ∙ asked in cc) in
        let left = ltb-true x.rounds (granted x) (due_closed st r.call x can.due).1 in
        let same_granted = ap (λ (q : Request). granted_rounds q.guarantee q.rounds) same in
        let made = told.rounds in
        omega arith
granted_kept past st _ may links h call request asked = h call request asked

-- every event that may happen keeps all
pub all_kept : (config : Config) (past : List Event) (st : State) (event : Event) → allowed st event ≡ true → AllKept config past st → AllKept config (event ∷ past) (changed st event)
all_kept config past st event may h = record {
  kept = step_keeps config past st event may h.kept;
  units = units_kept config past st event may (shown config past st h.kept h.placed) h.units;
  placed = all_placed config.segments st event may h.kept.parts.topologies h.units.numbered (next_known config past st event may h.kept) h.placed;
  links = links_kept past st event may h.units.numbered h.links;
  numbers = counts_kept past st event may h.units.numbered h.links h.numbers;
  has = has_kept config past st event may h.links h.units (next_fit config past st h.kept h.placed) h.has;
  walks = walks_kept config past st event may h;
  keys = keys_kept config past st event h.kept.told.settings may h.keys;
  granted = granted_kept past st event may h.links h.granted;
}

-- all is kept at the start
pub all_first : (config : Config) → is_config config ≡ true → AllKept config [] (start config)
all_first config good = record {
  kept = start_kept config (good_config config good);
  units = record { numbered = tt; unborn = λ id more. refl; read = tt };
  placed = tt;
  links = links_first config;
  numbers = record { one = λ call segment. omega arith; by_rounds = λ call segment. omega arith; by_moves = λ call segment. omega arith };
  has = record { each = tt; unborn = λ id more. refl };
  walks = record {
    held = λ call. tt;
    segments = λ call. subst (λ o. AllByRecursion (FromSegment config) (taken_of o)) (sym (map_of.get-empty nat_cmp call)) tt;
    plain = λ call request asked. absurd (cc);
    once = λ call request asked. absurd (cc);
    bound = λ call key. omega arith;
    reaches = tt;
  };
  keys = keys_first config;
  granted = λ call request asked. absurd (cc);
}

-- what is known of each unit
pub known_units : (config : Config) (past : List Event) (st : State) → AllKept config past st → AllByRecursion (UnitKnown config past) st.calling.units
known_units config past st h = units_known config past st.calling.units h.has.each h.units.read

-- that units have ended is told
pub end_told : (config : Config) (past : List Event) (st : State) → AllKept config past st → AllByRecursion (EndTold past) st.calling.units
end_told config past st h = each_imply (ReadKept config past) (EndTold past) (λ unit r. r.told) st.calling.units h.units.read
