-- The segments that a call noted as lost are those that the events tell.
use Rattle.std.proofs.Common.{◌≡◌, ℕ, ◌+◌, ◌≤◌, ◌<◌, ◌==◌, Bool, true, false, not, ◌&&◌, ◌||◌, ◌⊎◌, inl, inr, cond, if◌then◌else◌, List, [], ◌∷◌, map, length, None, Some, is_none, refl, sym, ap, ◌∙◌, arith, subst}
use Rattle.std.proofs.lemmas.Bool.{and_from, and_parts, cases_lt, or_cases, true≢false}
use Rattle.std.proofs.lemmas.List.{get_or_past}
use Rattle.std.specs.Cmp.{nat_cmp_total, nat_eq_equiv, unsigned_tied}
use Rattle.std.specs.FinSet as set_of
use Rattle.std.specs.List.{filter, list_any, range_with_len}
use Rattle.std.specs.Ordering.{nat_cmp}
use Rattle.delivery_mode.specs.Guarantee.{asks_again}
use Rattle.grid_event.specs.Members.{loses_segment}
use Rattle.grid_event.specs.UnitHistories.{has_ended_on}
use Rattle.grid_event.specs.declared.call_events.Ask.{Ask}
use Rattle.grid_event.specs.declared.call_events.InvokeEvent.{InvokeEvent}
use Rattle.grid_event.specs.declared.config.Config.{Config}
use Rattle.grid_event.specs.declared.event.Event.{Event}
use Rattle.grid_event.specs.declared.event.Event.TheVariants.{Write, Erase, Tick, Join, Depart, Announce, Install, Copy, Land, Invoke, Round, Begin, Scan, Fetch, Take, Done, Answer}
use Rattle.topology_coord.specs.Coordination.{Coordination, lives, lost_segments, loses, segment_count, some_live}
use Rattle.topology_coord.proofs.FirstNodes.{in_row}
use Rattle.topology_phase.specs.Laws.{IsOwned}
use Rattle.topology_phase.specs.Owners.{among, joined, owners_at}
use Rattle.topology_phase.specs.Phases.{by_phase}
use Rattle.topology_phase.specs.declared.phase.Phase.{Phase}
use Rattle.topology_phase.specs.declared.phase.Phase.TheVariants.{NoRebalance, ReadOld, ReadAll, ReadNew}
use Rattle.topology_phase.specs.Topologies.{Topology, holders}
use Rattle.topology_phase.proofs.OwnerLists.{among-filter}
use Rattle.cluster_model.specs.Calls.{new_call}
use Rattle.cluster_model.specs.Causes.{was_lost}
use Rattle.cluster_model.specs.Kept.{IsKept}
use Rattle.cluster_model.specs.Laws.{moves_calls}
use Rattle.cluster_model.specs.State.{Call, State, call_of}
use Rattle.cluster_model.specs.Step.{changed}
use Rattle.cluster_model.specs.Topologies.{all_noted, is_complete, notes_losses}
use Rattle.cluster_laws.proofs.causes.CauseCalls.{found_answered, found_aside, found_departed, found_invoked, found_rounded, found_taken}
use Rattle.cluster_laws.proofs.copies.Histories.{loses_told}

-- what is known of the noted segments of a call: while it is unanswered and asks again they are those that the events tell; one
-- that doesn't ask again has none; and each is one of the cluster's
pub record NotesOf (config : Config) (past : List Event) (number : ℕ) (call : Call) : Type 0 where
  pub told : call.outcome ≡ None → asks_again call.request.guarantee ≡ true → (segment : ℕ) → set_of.contains call.lost segment ≡ was_lost config past number segment
  pub none : asks_again call.request.guarantee ≡ false → (segment : ℕ) → set_of.contains call.lost segment ≡ false
  pub within : (segment : ℕ) → set_of.contains call.lost segment ≡ true → segment < config.segments

-- this is known of each call
abbrev pub AllNotes : Config → List Event → State → Type 0
AllNotes config past st = (number : ℕ) (call : Call) → call_of st.calling number ≡ Some call → NotesOf config past number call

-- ---- lost segments

-- a segment past the last one has no owner
none_past : (t : Topology) (s : ℕ) → IsOwned t → length t.current ≤ s → holders t s ≡ []
unfolding holders joined
none_past t s owned past = by_cases t.phase owned.same_length
  where
    none : owners_at t.current s ≡ []
    none = get_or_past t.current s [] past

    pending : length t.pending ≡ length t.current → owners_at t.pending s ≡ []
    pending same = get_or_past t.pending s [] (omega (arith, same))

    both : length t.pending ≡ length t.current → joined (owners_at t.current s) (owners_at t.pending s) ≡ []
    both same = λ i. joined (none i) (pending same i)

    by_cases : (phase : Phase) → (phase ≡ NoRebalance) ⊎ (length t.pending ≡ length t.current) →
        by_phase phase (owners_at t.current s) (owners_at t.current s) (joined (owners_at t.current s) (owners_at t.pending s)) (joined (owners_at t.current s) (owners_at t.pending s)) ≡ []
    by_cases NoRebalance h = none
    by_cases ReadOld h = none
    by_cases ReadAll (inl e) = absurd (cc)
    by_cases ReadAll (inr same) = both same
    by_cases ReadNew (inl e) = absurd (cc)
    by_cases ReadNew (inr same) = both same

-- a departure loses only segments of the cluster
loses_none : (c : Coordination) (node s : ℕ) → IsOwned c.newest → segment_count c ≤ s → loses c node s ≡ false
unfolding loses
loses_none c node s owned past = ap (λ nodes. some_live c nodes && not (list_any (λ other. lives c other && not (other == node)) nodes)) (none_past c.newest s owned past)

-- so a departure loses only segments of the cluster
loses_within : (c : Coordination) (node s : ℕ) → IsOwned c.newest → (loses c node s && among s (range_with_len 0 (segment_count c))) ≡ loses c node s
loses_within c node s owned = by_place (cases_lt s (segment_count c))
  where
    right_true : (a b : Bool) → b ≡ true → (a && b) ≡ a
    right_true true b e = e
    right_true false b e = refl

    by_place : (s < segment_count c) ⊎ (segment_count c ≤ s) → (loses c node s && among s (range_with_len 0 (segment_count c))) ≡ loses c node s
    by_place (inl below) = right_true (loses c node s) (among s (range_with_len 0 (segment_count c))) (in_row 0 (segment_count c) s (omega arith) (omega arith))
    by_place (inr past) =
        let lost : loses c node s ≡ false = loses_none c node s owned past in
        ap (λ b. b && among s (range_with_len 0 (segment_count c))) lost ∙ sym lost

-- which segments are noted after some more
contains_noted : (segments : List ℕ) (noted : set_of.FinSet nat_cmp) (s : ℕ) → set_of.contains (all_noted segments noted) s ≡ (among s segments || set_of.contains noted s)
contains_noted [] noted s = refl
contains_noted (segment ∷ segments) noted s =
    set_of.contains-insert nat_cmp_total (all_noted segments noted) segment s
    ∙ (λ i. (unsigned_tied s segment ∙ nat_eq_equiv.symm s segment) i || contains_noted segments noted s i)
    ∙ regrouped (segment == s) (among s segments) (set_of.contains noted s)
  where
    regrouped : (a b c : Bool) → (a || (b || c)) ≡ ((a || b) || c)
    regrouped true b c = refl
    regrouped false b c = refl

module _ (config : Config) (past : List Event) (st : State) (kept : IsKept config past st) (ends : (call segment : ℕ) → has_ended_on past call segment ≡ is_complete st.calling.units call segment) where
  -- a segment that a departure loses is one of the cluster's
  lost_inside : (node s : ℕ) → loses_segment config past node s ≡ true → s < config.segments
  lost_inside node s lost = by_place (cases_lt s (segment_count st.holding.coord))
    where
      by_place : (s < segment_count st.holding.coord) ⊎ (segment_count st.holding.coord ≤ s) → s < config.segments
      by_place (inl below) = let n = kept.parts.topologies.all_segments in omega arith
      by_place (inr beyond) =
          let none : loses st.holding.coord node s ≡ false = loses_none st.holding.coord node s kept.parts.topologies.owned beyond in
          absurd (true≢false (sym lost ∙ sym (λ i. loses_told config past st kept.told node i s) ∙ none))

  -- which of the segments that a departure loses are noted by a call
  noted_of : (node number s : ℕ) → among s (filter (λ segment. not (is_complete st.calling.units number segment)) (lost_segments st.holding.coord node)) ≡ (loses_segment config past node s && not (has_ended_on past number s))
  noted_of node number s =
      among-filter s (λ segment. not (is_complete st.calling.units number segment)) (lost_segments st.holding.coord node)
      ∙ ap (λ b. not (is_complete st.calling.units number s) && b) (among-filter s (loses st.holding.coord node) (range_with_len 0 (segment_count st.holding.coord)) ∙ loses_within st.holding.coord node s kept.parts.topologies.owned ∙ (λ i. loses_told config past st kept.told node i s))
      ∙ ap (λ b. not b && loses_segment config past node s) (sym (ends number s))
      ∙ flipped (not (has_ended_on past number s)) (loses_segment config past node s)
    where
      flipped : (a b : Bool) → (a && b) ≡ (b && a)
      flipped true true = refl
      flipped true false = refl
      flipped false true = refl
      flipped false false = refl

  -- a call notes what a departure loses
  notes_departed : (node number : ℕ) (call : Call) → NotesOf config past number call → NotesOf config (Depart node ∷ past) number (notes_losses st.calling.units (lost_segments st.holding.coord node) number call)
  notes_departed node number call h = record { told = told; none = none; within = λ s. within s (is_none call.outcome && asks_again call.request.guarantee) }
    where
      noted : Bool → set_of.FinSet nat_cmp
      noted b = cond b (all_noted (filter (λ segment. not (is_complete st.calling.units number segment)) (lost_segments st.holding.coord node)) call.lost) call.lost

      told : call.outcome ≡ None → asks_again call.request.guarantee ≡ true → (s : ℕ) → set_of.contains (noted (is_none call.outcome && asks_again call.request.guarantee)) s ≡ was_lost config (Depart node ∷ past) number s
      told unanswered asks s =
          ap (λ b. set_of.contains (noted b) s) (and_from (is_none call.outcome) (asks_again call.request.guarantee) (ap is_none unanswered) asks)
          ∙ contains_noted (filter (λ segment. not (is_complete st.calling.units number segment)) (lost_segments st.holding.coord node)) call.lost s
          ∙ (λ i. noted_of node number s i || h.told unanswered asks s i)

      and_never : (a b : Bool) → b ≡ false → (a && b) ≡ false
      and_never true b e = e
      and_never false b e = refl

      none : asks_again call.request.guarantee ≡ false → (s : ℕ) → set_of.contains (noted (is_none call.outcome && asks_again call.request.guarantee)) s ≡ false
      none asks s = ap (λ b. set_of.contains (noted b) s) (and_never (is_none call.outcome) (asks_again call.request.guarantee) asks) ∙ h.none asks s

      within : (s : ℕ) (b : Bool) → set_of.contains (noted b) s ≡ true → s < config.segments
      within s false there = h.within s there
      within s true there = elim (or_cases (loses_segment config past node s && not (has_ended_on past number s)) (set_of.contains call.lost s)
          (sym (contains_noted (filter (λ segment. not (is_complete st.calling.units number segment)) (lost_segments st.holding.coord node)) call.lost s ∙ ap (λ b. b || set_of.contains call.lost s) (noted_of node number s)) ∙ there)) [
            | inl lost ↦ lost_inside node s (and_parts (loses_segment config past node s) (not (has_ended_on past number s)) lost).0
            | inr before ↦ h.within s before
          ]

  -- a call that stays as it was, but for what isn't of its notes
  notes_carried : (later : List Event) (number : ℕ) (before after : Call) → ((s : ℕ) → was_lost config later number s ≡ was_lost config past number s) → (after.outcome ≡ None → before.outcome ≡ None) →
      after.request ≡ before.request → after.lost ≡ before.lost → NotesOf config past number before → NotesOf config later number after
  notes_carried later number before after same unanswered request lost h = record {
    told = λ u asks s. ap (λ l. set_of.contains l s) lost ∙ h.told (unanswered u) (ap (λ q. asks_again q.guarantee) (sym request) ∙ asks) s ∙ sym (same s);
    none = λ asks s. ap (λ l. set_of.contains l s) lost ∙ h.none (ap (λ q. asks_again q.guarantee) (sym request) ∙ asks) s;
    within = λ s there. h.within s (ap (λ l. set_of.contains l s) (sym lost) ∙ there);
  }

  -- a call that was just made has noted nothing
  notes_fresh : (i : InvokeEvent) (number : ℕ) → (i.call == number) ≡ true → NotesOf config (Invoke i ∷ past) number (new_call i.node i.request)
  notes_fresh i number here = record {
    told = λ u asks s. set_of.contains-empty nat_cmp s ∙ sym (ap (λ b. if b then false else was_lost config past number s) here);
    none = λ asks s. set_of.contains-empty nat_cmp s;
    within = λ s there. absurd (true≢false (sym there ∙ set_of.contains-empty nat_cmp s));
  }

  -- an event that changes no call
  aside : AllNotes config past st → (event : Event) → moves_calls event ≡ false → ((number s : ℕ) → was_lost config (event ∷ past) number s ≡ was_lost config past number s) → AllNotes config (event ∷ past) (changed st event)
  aside h event other same number call e = notes_carried (event ∷ past) number call call (same number) (λ u. u) refl refl (h number call (found_aside st event other number call e))

  -- each event keeps what is known of the noted segments
  pub notes_kept : (event : Event) → AllNotes config past st → AllNotes config (event ∷ past) (changed st event)
  notes_kept (Depart node) h number call e =
      let was = found_departed st node number call e in
      subst (NotesOf config (Depart node ∷ past) number) was.1.1 (notes_departed node number was.0 (h number was.0 was.1.0))
  notes_kept (Invoke i) h number call e = by_test (i.call == number) refl (found_invoked st i number call e)
    where
      by_test : (b : Bool) → (i.call == number) ≡ b → cond b (new_call i.node i.request ≡ call) (call_of st.calling number ≡ Some call) → NotesOf config (Invoke i ∷ past) number call
      by_test true t same = subst (NotesOf config (Invoke i ∷ past) number) same (notes_fresh i number t)
      by_test false t there = notes_carried (Invoke i ∷ past) number call call (λ s. ap (λ b. if b then false else was_lost config past number s) t) (λ u. u) refl refl (h number call there)
  notes_kept (Round r) h number call e = by_test (r.call == number) (found_rounded st r number call e)
    where
      by_test : (b : Bool) → (before : Call) × ((call_of st.calling number ≡ Some before) × cond b (record before { rounds = before.rounds + 1; last_round = map (λ (ask : Ask). ask.unit) r.asks } ≡ call) (before ≡ call)) → NotesOf config (Round r ∷ past) number call
      by_test true was = subst (NotesOf config (Round r ∷ past) number) was.1.1 (notes_carried (Round r ∷ past) number was.0 _ (λ s. refl) (λ u. u) refl refl (h number was.0 was.1.0))
      by_test false was = subst (NotesOf config (Round r ∷ past) number) was.1.1 (notes_carried (Round r ∷ past) number was.0 was.0 (λ s. refl) (λ u. u) refl refl (h number was.0 was.1.0))
  notes_kept (Take t) h number call e =
      let was = found_taken st t number call e in
      notes_carried (Take t ∷ past) number was.before call (λ s. refl) (λ u. sym was.outcome ∙ u) was.request was.lost (h number was.before was.there)
  notes_kept (Answer a) h number call e = by_test (a.call == number) (found_answered st a number call e)
    where
      by_test : (b : Bool) → (before : Call) × ((call_of st.calling number ≡ Some before) × cond b (record before { outcome = Some a.outcome } ≡ call) (before ≡ call)) → NotesOf config (Answer a ∷ past) number call
      by_test true was = subst (NotesOf config (Answer a ∷ past) number) was.1.1 (notes_carried (Answer a ∷ past) number was.0 (record was.0 { outcome = Some a.outcome }) (λ s. refl) (λ u. absurd (cc)) refl refl (h number was.0 was.1.0))
      by_test false was = subst (NotesOf config (Answer a ∷ past) number) was.1.1 (notes_carried (Answer a ∷ past) number was.0 was.0 (λ s. refl) (λ u. u) refl refl (h number was.0 was.1.0))
  notes_kept (Write w) h number call e = aside h (Write w) refl (λ n s. refl) number call e
  notes_kept (Erase w) h number call e = aside h (Erase w) refl (λ n s. refl) number call e
  notes_kept (Tick ticks) h number call e = aside h (Tick ticks) refl (λ n s. refl) number call e
  notes_kept (Join node) h number call e = aside h (Join node) refl (λ n s. refl) number call e
  notes_kept (Announce topology) h number call e = aside h (Announce topology) refl (λ n s. refl) number call e
  notes_kept (Install node id) h number call e = aside h (Install node id) refl (λ n s. refl) number call e
  notes_kept (Copy c) h number call e = aside h (Copy c) refl (λ n s. refl) number call e
  notes_kept (Land receiver segment) h number call e = aside h (Land receiver segment) refl (λ n s. refl) number call e
  notes_kept (Begin unit runs) h number call e = aside h (Begin unit runs) refl (λ n s. refl) number call e
  notes_kept (Scan scan) h number call e = aside h (Scan scan) refl (λ n s. refl) number call e
  notes_kept (Fetch fetch) h number call e = aside h (Fetch fetch) refl (λ n s. refl) number call e
  notes_kept (Done unit) h number call e = aside h (Done unit) refl (λ n s. refl) number call e
