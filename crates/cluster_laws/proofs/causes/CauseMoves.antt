-- What the events tell of a call's originator and of what moved between its rounds.
use Rattle.std.proofs.Common.{◌≡◌, ℕ, ◌+◌, ◌≤◌, ◌==◌, nat_lt, Bool, true, false, not, ◌&&◌, ◌||◌, inl, inr, cond, if◌then◌else◌, List, [], ◌∷◌, refl, sym, ap, ◌∙◌, arith, subst}
use Rattle.std.proofs.lemmas.Bool.{and_from, and_parts, eq-eqb, eqb-true, or_cases, or_right, true≢false}
use Rattle.std.specs.Cmp.{nat_eq_equiv}
use Rattle.std.specs.FinSet as set_of
use Rattle.grid_event.specs.Members.{is_live, was_member}
use Rattle.grid_event.specs.Spans.{invokes, since_invoke}
use Rattle.grid_event.specs.declared.call_events.InvokeEvent.{InvokeEvent}
use Rattle.grid_event.specs.declared.call_events.RoundEvent.{RoundEvent}
use Rattle.grid_event.specs.declared.config.Config.{Config}
use Rattle.grid_event.specs.declared.event.Event.{Event}
use Rattle.grid_event.specs.declared.event.Event.TheVariants.{Write, Erase, Tick, Join, Depart, Announce, Install, Copy, Land, Invoke, Round, Begin, Scan, Fetch, Take, Done, Answer}
use Rattle.topology_coord.proofs.MemberLaws.{installed-installs, installed-joins, lives-installs, lives-joins}
use Rattle.topology_coord.specs.Changes.{announces}
use Rattle.topology_coord.specs.Coordination.{Coordination, installed_id, lives}
use Rattle.cluster_model.proofs.Frames.{coord_stays}
use Rattle.cluster_model.specs.Causes.{left_since, moved_between_rounds, moved_since_round, moves_at}
use Rattle.cluster_model.specs.Guarantees.{rounds_in}
use Rattle.cluster_model.specs.Kept.{IsKept}
use Rattle.cluster_model.specs.Laws.{moves_members}
use Rattle.cluster_model.specs.State.{State}
use Rattle.cluster_model.specs.Step.{allowed, changed}
use Rattle.cluster_model.specs.Topologies.{announced, can_join, installed, joined, lost_by_installation}

-- the event is a round of the call
abbrev pub rounds_for : ℕ → Event → Bool
rounds_for call (Round r) = r.call == call
rounds_for call _ = false

-- what the events tell of a call whose originator is the node: the node has departed since where it doesn't live, and was a member;
-- between two rounds something moved; and there are at most as many rounds as moves, and one more where nothing moved since the last
pub record MovesOf (config : Config) (past : List Event) (call node : ℕ) : Type 0 where
  pub left : left_since past call node ≡ not (is_live config past node)
  pub member : was_member config past node ≡ true
  pub moved : moved_between_rounds past call node ≡ true
  pub enough : rounds_in past call ≤ since_invoke (moves_at node) past call + cond {A = ℕ} (moved_since_round past call node) 0 1

-- a node that departs, or had, is one that lives no longer
departed_left : (a b c : Bool) → b ≡ not c → (a || b) ≡ not (not a && c)
departed_left true b c e = refl
departed_left false b c e = e

-- a node that joins isn't one that was a member
joins_other : (config : Config) (past : List Event) (st : State) (q node : ℕ) → IsKept config past st → can_join st.holding q ≡ true → was_member config past node ≡ true → (q == node) ≡ false
unfolding can_join
joins_other config past st q node kept may member = by_test (q == node) refl
  where
    by_test : (b : Bool) → (q == node) ≡ b → b ≡ false
    by_test false e = refl
    by_test true e =
        let never = (and_parts (not (set_of.contains st.holding.coord.ever q)) (nat_lt q 16) may).0 in
        let there : set_of.contains st.holding.coord.ever q ≡ true = ap (set_of.contains st.holding.coord.ever) (eqb-true q node e) ∙ kept.told.member node ∙ member in
        absurd (cc)

-- a move is counted, and something moved since the last round
install_counts : (b m : Bool) (rounds moves : ℕ) → rounds ≤ moves + cond {A = ℕ} m 0 1 → rounds ≤ ((if b then 1 else 0) + moves) + cond {A = ℕ} (b || m) 0 1
install_counts true m rounds moves h = le_one m h
  where
    le_one : (m : Bool) → rounds ≤ moves + cond {A = ℕ} m 0 1 → rounds ≤ (1 + moves) + 0
    le_one true h = omega arith
    le_one false h = omega arith
install_counts false m rounds moves h = omega arith

-- an event that doesn't make the call, and is no round of it
pub moves_stay : (config : Config) (past : List Event) (st : State) (event : Event) → IsKept config past st → allowed st event ≡ true → (call node : ℕ) → invokes call event ≡ false → rounds_for call event ≡ false →
    MovesOf config past call node → MovesOf config (event ∷ past) call node
moves_stay config past st (Join q) kept may call node made round h = record {
  left = h.left ∙ ap (λ b. not (b || is_live config past node)) (sym (joins_other config past st q node kept may h.member));
  member = or_right (q == node) (was_member config past node) h.member;
  moved = h.moved;
  enough = let e = h.enough in omega arith;
}
moves_stay config past st (Depart q) kept may call node made round h = record {
  left = departed_left (q == node) (left_since past call node) (is_live config past node) h.left;
  member = h.member;
  moved = h.moved;
  enough = install_counts true (moved_since_round past call node) (rounds_in past call) (since_invoke (moves_at node) past call) h.enough;
}
moves_stay config past st (Install q id) kept may call node made round h = record {
  left = h.left;
  member = h.member;
  moved = h.moved;
  enough = install_counts (q == node) (moved_since_round past call node) (rounds_in past call) (since_invoke (moves_at node) past call) h.enough;
}
moves_stay config past st (Invoke i) kept may call node made round h = record {
  left = ap (λ b. if b then false else left_since past call node) made ∙ h.left;
  member = h.member;
  moved = h.moved;
  enough = subst (λ b. rounds_in past call ≤ (if b then 0 else 0 + since_invoke (moves_at node) past call) + cond {A = ℕ} (moved_since_round past call node) 0 1) (sym made) (let e = h.enough in omega arith);
}
moves_stay config past st (Round r) kept may call node made round h = record {
  left = h.left;
  member = h.member;
  moved = ap (λ b. (not b || ((rounds_in past call == 0) || moved_since_round past call node)) && moved_between_rounds past call node) round ∙ h.moved;
  enough = subst (λ b. (if b then 1 else 0) + rounds_in past call ≤ (0 + since_invoke (moves_at node) past call) + cond {A = ℕ} (if b then false else moved_since_round past call node) 0 1) (sym round) (let e = h.enough in omega arith);
}
moves_stay config past st (Write w) kept may call node made round h = record { left = h.left; member = h.member; moved = h.moved; enough = let e = h.enough in omega arith }
moves_stay config past st (Erase e) kept may call node made round h = record { left = h.left; member = h.member; moved = h.moved; enough = let e = h.enough in omega arith }
moves_stay config past st (Tick ticks) kept may call node made round h = record { left = h.left; member = h.member; moved = h.moved; enough = let e = h.enough in omega arith }
moves_stay config past st (Announce topology) kept may call node made round h = record { left = h.left; member = h.member; moved = h.moved; enough = let e = h.enough in omega arith }
moves_stay config past st (Copy c) kept may call node made round h = record { left = h.left; member = h.member; moved = h.moved; enough = let e = h.enough in omega arith }
moves_stay config past st (Land receiver segment) kept may call node made round h = record { left = h.left; member = h.member; moved = h.moved; enough = let e = h.enough in omega arith }
moves_stay config past st (Begin unit runs) kept may call node made round h = record { left = h.left; member = h.member; moved = h.moved; enough = let e = h.enough in omega arith }
moves_stay config past st (Scan s) kept may call node made round h = record { left = h.left; member = h.member; moved = h.moved; enough = let e = h.enough in omega arith }
moves_stay config past st (Fetch f) kept may call node made round h = record { left = h.left; member = h.member; moved = h.moved; enough = let e = h.enough in omega arith }
moves_stay config past st (Take t) kept may call node made round h = record { left = h.left; member = h.member; moved = h.moved; enough = let e = h.enough in omega arith }
moves_stay config past st (Done unit) kept may call node made round h = record { left = h.left; member = h.member; moved = h.moved; enough = let e = h.enough in omega arith }
moves_stay config past st (Answer a) kept may call node made round h = record { left = h.left; member = h.member; moved = h.moved; enough = let e = h.enough in omega arith }

-- a round of the call, where it is the first or something moved since the last
pub moves_round : (config : Config) (past : List Event) (r : RoundEvent) (node : ℕ) → ((rounds_in past r.call == 0) || moved_since_round past r.call node) ≡ true → MovesOf config past r.call node → MovesOf config (Round r ∷ past) r.call node
moves_round config past r node since h = record {
  left = h.left;
  member = h.member;
  moved =
      ap (λ b. (not b || ((rounds_in past r.call == 0) || moved_since_round past r.call node)) && moved_between_rounds past r.call node) (eq-eqb r.call r.call refl)
      ∙ and_from ((rounds_in past r.call == 0) || moved_since_round past r.call node) (moved_between_rounds past r.call node) since h.moved;
  enough =
      subst (λ b. (if b then 1 else 0) + rounds_in past r.call ≤ (0 + since_invoke (moves_at node) past r.call) + cond {A = ℕ} (if b then false else moved_since_round past r.call node) 0 1)
      (sym (eq-eqb r.call r.call refl)) (one_more (moved_since_round past r.call node) refl);
}
  where
    one_more : (m : Bool) → moved_since_round past r.call node ≡ m → 1 + rounds_in past r.call ≤ (0 + since_invoke (moves_at node) past r.call) + 1
    one_more true e = let x = subst (λ b. rounds_in past r.call ≤ since_invoke (moves_at node) past r.call + cond {A = ℕ} b 0 1) e h.enough in omega arith
    one_more false e = elim (or_cases (rounds_in past r.call == 0) (moved_since_round past r.call node) since) [
      | inl none ↦ let n = eqb-true (rounds_in past r.call) 0 none in omega arith
      | inr some ↦ absurd (true≢false (sym some ∙ e))
    ]

-- a call without a round
pub unrounded : (past : List Event) (call node : ℕ) → rounds_in past call ≡ 0 → moved_between_rounds past call node ≡ true
unrounded [] call node none = refl
unrounded (Round r ∷ past) call node none = by_test (r.call == call) none (unrounded past call node)
  where
    by_test : (b : Bool) → (if b then 1 else 0) + rounds_in past call ≡ 0 → (rounds_in past call ≡ 0 → moved_between_rounds past call node ≡ true) →
        ((not b || ((rounds_in past call == 0) || moved_since_round past call node)) && moved_between_rounds past call node) ≡ true
    by_test true none rest = absurd (omega arith)
    by_test false none rest = rest (omega arith)
unrounded (_ ∷ past) call node none = unrounded past call node none

-- a call that is just made
pub moves_fresh : (config : Config) (past : List Event) (i : InvokeEvent) → is_live config past i.node ≡ true → was_member config past i.node ≡ true → rounds_in past i.call ≡ 0 → MovesOf config (Invoke i ∷ past) i.call i.node
moves_fresh config past i live member none = record {
  left = ap (λ b. if b then false else left_since past i.call i.node) (eq-eqb i.call i.call refl) ∙ ap not (sym live);
  member = member;
  moved = unrounded past i.call i.node none;
  enough = omega arith;
}

-- ---- where nothing moved

-- nothing moved before either, the originator lived and had installed the same, and no node departs
pub record Unmoved (past : List Event) (st : State) (event : Event) (call node : ℕ) : Type 0 where
  pub moved : moved_since_round past call node ≡ false
  pub live : lives st.holding.coord node ≡ true
  pub same : installed_id (changed st event).holding.coord node ≡ installed_id st.holding.coord node
  pub nobody : (n : ℕ) → event ≡ Depart n → ⊥

-- an event that moves neither members nor topologies
unmoved_aside : (past : List Event) (st : State) (event : Event) (call node : ℕ) → moves_members event ≡ false → ((n : ℕ) → event ≡ Depart n → ⊥) → moved_since_round past call node ≡ false → lives (changed st event).holding.coord node ≡ true → Unmoved past st event call node
unmoved_aside past st event call node other nobody m live = record {
  moved = m;
  live = ap (λ (c : Coordination). lives c node) (sym (coord_stays st event other)) ∙ live;
  same = ap (λ (c : Coordination). installed_id c node) (coord_stays st event other);
  nobody = nobody;
}

-- where neither of two tests passes, each fails
pub either_false : (a b : Bool) → (a || b) ≡ false → (a ≡ false) × (b ≡ false)
either_false true b h = absurd (cc)
either_false false b h = (refl, h)

-- where nothing moved by an event that is no round of the call
pub unmoved_before : (config : Config) (past : List Event) (st : State) (event : Event) → IsKept config past st → allowed st event ≡ true → (call node : ℕ) → rounds_for call event ≡ false → was_member config past node ≡ true →
    moved_since_round (event ∷ past) call node ≡ false → lives (changed st event).holding.coord node ≡ true → Unmoved past st event call node
unfolding joined announced installed lost_by_installation announces
unmoved_before config past st (Join q) kept may call node round member m live =
    let other : (node == q) ≡ false = nat_eq_equiv.symm node q ∙ joins_other config past st q node kept may member in
    record {
      moved = m;
      live = sym (ap (λ b. b || lives st.holding.coord node) other) ∙ sym (lives-joins st.holding.coord q node) ∙ live;
      same = installed-joins st.holding.coord q node ∙ ap (λ b. cond b st.holding.coord.newest.id (installed_id st.holding.coord node)) other;
      nobody = λ n e. absurd (cc);
    }
unmoved_before config past st (Depart q) kept may call node round member m live = absurd (true≢false m)
unmoved_before config past st (Announce topology) kept may call node round member m live = record { moved = m; live = live; same = refl; nobody = λ n e. absurd (cc) }
unmoved_before config past st (Install q id) kept may call node round member m live =
    let both = either_false (q == node) (moved_since_round past call node) m in
    let other : (node == q) ≡ false = nat_eq_equiv.symm node q ∙ both.0 in
    record {
      moved = both.1;
      live = sym (ap (λ b. b || lives st.holding.coord node) other) ∙ sym (lives-installs st.holding.coord q node) ∙ live;
      same = installed-installs st.holding.coord q node ∙ ap (λ b. cond b st.holding.coord.newest.id (installed_id st.holding.coord node)) other;
      nobody = λ n e. absurd (cc);
    }
unmoved_before config past st (Round r) kept may call node round member m live =
    unmoved_aside past st (Round r) call node refl (λ n e. absurd (cc)) (sym (ap (λ b. if b then false else moved_since_round past call node) round) ∙ m) live
unmoved_before config past st (Write w) kept may call node round member m live = unmoved_aside past st (Write w) call node refl (λ n e. absurd (cc)) m live
unmoved_before config past st (Erase w) kept may call node round member m live = unmoved_aside past st (Erase w) call node refl (λ n e. absurd (cc)) m live
unmoved_before config past st (Tick ticks) kept may call node round member m live = unmoved_aside past st (Tick ticks) call node refl (λ n e. absurd (cc)) m live
unmoved_before config past st (Copy c) kept may call node round member m live = unmoved_aside past st (Copy c) call node refl (λ n e. absurd (cc)) m live
unmoved_before config past st (Land receiver segment) kept may call node round member m live = unmoved_aside past st (Land receiver segment) call node refl (λ n e. absurd (cc)) m live
unmoved_before config past st (Invoke i) kept may call node round member m live = unmoved_aside past st (Invoke i) call node refl (λ n e. absurd (cc)) m live
unmoved_before config past st (Begin unit runs) kept may call node round member m live = unmoved_aside past st (Begin unit runs) call node refl (λ n e. absurd (cc)) m live
unmoved_before config past st (Scan s) kept may call node round member m live = unmoved_aside past st (Scan s) call node refl (λ n e. absurd (cc)) m live
unmoved_before config past st (Fetch f) kept may call node round member m live = unmoved_aside past st (Fetch f) call node refl (λ n e. absurd (cc)) m live
unmoved_before config past st (Take t) kept may call node round member m live = unmoved_aside past st (Take t) call node refl (λ n e. absurd (cc)) m live
unmoved_before config past st (Done unit) kept may call node round member m live = unmoved_aside past st (Done unit) call node refl (λ n e. absurd (cc)) m live
unmoved_before config past st (Answer a) kept may call node round member m live = unmoved_aside past st (Answer a) call node refl (λ n e. absurd (cc)) m live
