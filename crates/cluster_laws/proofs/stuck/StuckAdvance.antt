-- As long as the topology isn't settled, Advance has an event.
use Rattle.std.proofs.Common.{◌≡◌, ℕ, ◌<◌, ◌==◌, Bool, true, false, not, ◌||◌, inl, inr, cond, if◌then◌else◌, List, [], ◌∷◌, ◌++◌, map, length, Option, None, Some, is_none, is_some, refl, sym, ap, ◌∙◌, arith}
use Rattle.std.proofs.lemmas.Bool.{and_from, and_parts, eq-eqb, ne_eqb, or_cases, or_left, or_right, true≢false}
use Rattle.std.specs.Bool.{beq}
use Rattle.std.specs.Cmp.Lexicographic.{pointwise}
use Rattle.std.specs.List.{flat_map, list_all, list_any}
use Rattle.std.specs.Option.{option_and_then}
use Rattle.grid_base.specs.Portion.{Portion}
use Rattle.grid_base.specs.declared.limits.TheConstants.{LAST_TOPOLOGY}
use Rattle.grid_base.specs.declared.stamped_entry.StampedEntry.{StampedEntry}
use Rattle.grid_event.specs.declared.event.Event.{Event}
use Rattle.grid_event.specs.declared.event.Event.TheVariants as events
use Rattle.state_transfer.specs.Chunks.{flies, may_send, provider_of}
use Rattle.state_transfer.specs.Copying.{Transfer, transfer_to}
use Rattle.topology_coord.proofs.MemberLaws.{among-live}
use Rattle.topology_coord.specs.Coordination.{Coordination, all_installed, first_live, installed_id, live_nodes, lives, some_live}
use Rattle.topology_coord.specs.Following.{aimed, following, needs_repair, rebalanced, receives, unrepaired}
use Rattle.topology_phase.proofs.Mending.{any_of}
use Rattle.topology_phase.specs.Following.{cancelled, completed, in_phase, names_departed, repaired}
use Rattle.topology_phase.specs.Owners.{among, owners_at}
use Rattle.topology_phase.specs.Phases.{by_phase, same_phase}
use Rattle.topology_phase.proofs.SameTopologies.{same_topology_itself}
use Rattle.topology_phase.specs.Topologies.{Topology, read_owners, same_hash}
use Rattle.topology_phase.specs.declared.phase.Phase.{Phase}
use Rattle.topology_phase.specs.declared.phase.Phase.TheVariants.{NoRebalance, ReadOld, ReadAll, ReadNew}
use Rattle.cluster_model.specs.Commands.{advance_event, announce_event, announce_with, cancel_event, copy_event, copy_of, copy_with, destinations, first_some, install_event, land_event}
use Rattle.cluster_model.specs.Kept.{KeepsTopologies}
use Rattle.cluster_model.specs.Same.{same_chunk, same_stamped}
use Rattle.cluster_model.specs.State.{State, segments_of}
use Rattle.cluster_model.specs.Topologies.{all_copied, can_announce, can_install, is_over, is_that, next_topology}
use Rattle.cluster_model.specs.Transfers.{can_copy, can_land, is_provided, next_chunk_of, provider, transfer_of}
use Rattle.cluster_laws.proofs.causes.CauseMoves.{either_false}
use Rattle.cluster_laws.proofs.causes.CauseWords.{any_left, row_below, some_fails}
use Rattle.cluster_laws.proofs.copies.SameChunks.{same_stamped_itself}
use Rattle.cluster_laws.proofs.stuck.StuckTopologies.{CurrentOwned, departed_named, unread_needs_repair}
use Rattle.cluster_laws.proofs.stuck.StuckUnits.{allowed_there, first_there, flag_itself, other_there, pointwise_itself, some_there}
use Rattle.cluster_laws.specs.Laws.{is_settled}

-- ---- lists

-- some of a list are some of a longer one
any_right : {A : Type 0} (p : A → Bool) (xs ys : List A) → list_any p ys ≡ true → list_any p (xs ++ ys) ≡ true
any_right p [] ys h = h
any_right p (x ∷ xs) ys h = or_right (p x) (list_any p (xs ++ ys)) (any_right p xs ys h)

-- some of a list that is changed
any_mapped : {A B : Type 0} (f : A → B) (p : B → Bool) (xs : List A) → list_any (λ x. p (f x)) xs ≡ true → list_any p (map f xs) ≡ true
any_mapped f p [] h = absurd (cc)
any_mapped f p (x ∷ xs) h = elim (or_cases (p (f x)) (list_any (λ y. p (f y)) xs) h) [
  | inl here ↦ or_left (p (f x)) (list_any p (map f xs)) here
  | inr there ↦ or_right (p (f x)) (list_any p (map f xs)) (any_mapped f p xs there)
]

-- where one of some lists has one that passes, so has their sequence
pub any_flat : {A B : Type 0} (f : A → List B) (p : B → Bool) (xs : List A) → list_any (λ x. list_any p (f x)) xs ≡ true → list_any p (flat_map f xs) ≡ true
any_flat f p [] h = absurd (cc)
any_flat f p (x ∷ xs) h = elim (or_cases (list_any p (f x)) (list_any (λ y. list_any p (f y)) xs) h) [
  | inl here ↦ any_left p (f x) (flat_map f xs) here
  | inr there ↦ any_right p (f x) (flat_map f xs) (any_flat f p xs there)
]

-- the first of some nodes that lives, where one does
first_live_there : (c : Coordination) (nodes : List ℕ) → some_live c nodes ≡ true → is_some (first_live c nodes) ≡ true
first_live_there c [] h = absurd (cc)
first_live_there c (n ∷ nodes) h = by_head (lives c n) h (first_live_there c nodes)
  where
    by_head : (b : Bool) → (b || some_live c nodes) ≡ true → (some_live c nodes ≡ true → is_some (first_live c nodes) ≡ true) → is_some (cond b (Some n) (first_live c nodes)) ≡ true
    by_head true h rest = refl
    by_head false h rest = rest h

-- a test whose negation fails passes
not_true : (b : Bool) → not b ≡ false → b ≡ true
not_true true e = refl
not_true false e = absurd (cc)

-- ---- what Advance chooses

module _ (segments : ℕ) (st : State) (kept : KeepsTopologies segments st.holding.coord) (same : st.holding.config.segments ≡ segments) (owned : CurrentOwned st.holding.coord.newest) (early : st.holding.coord.newest.id < LAST_TOPOLOGY) where
  -- an installation
  pub install_there : (n : ℕ) → lives st.holding.coord n ≡ true → (installed_id st.holding.coord n == st.holding.coord.newest.id) ≡ false → is_some (advance_event st.holding) ≡ true
  unfolding advance_event can_install
  install_there n live behind =
      first_there (first_some (install_event st.holding) (live_nodes st.holding.coord)) _
      (some_there (install_event st.holding) (live_nodes st.holding.coord)
      (any_of (λ m. is_some (install_event st.holding m)) (live_nodes st.holding.coord) n
      (allowed_there st (events.Install n st.holding.coord.newest.id)
      (and_from (lives st.holding.coord n) _ live
      (and_from (not (installed_id st.holding.coord n == st.holding.coord.newest.id)) _ (ap not behind) (eq-eqb st.holding.coord.newest.id st.holding.coord.newest.id refl))))
      (among-live st.holding.coord n ∙ live)))

  -- where not all live nodes have the newest topology there is an installation
  some_behind : all_installed st.holding.coord ≡ false → is_some (advance_event st.holding) ≡ true
  some_behind left =
      let one = some_fails (λ node. installed_id st.holding.coord node == st.holding.coord.newest.id) (live_nodes st.holding.coord) left in
      install_there one.0 (sym (among-live st.holding.coord one.0) ∙ one.1.1) one.1.0

  -- an announcement
  announce_there : (next : Topology) → next_topology st.holding ≡ Some next → is_some (advance_event st.holding) ≡ true
  unfolding advance_event can_announce
  announce_there next e =
      other_there (first_some (install_event st.holding) (live_nodes st.holding.coord)) _
      (other_there (cancel_event st.holding) _
      (other_there (first_some (λ d. land_event st.holding d.0 d.1) (destinations st.holding)) _
      (other_there (first_some (λ d. copy_event st.holding d.0 d.1) (destinations st.holding)) (announce_event st.holding)
      (ap (λ o. is_some (option_and_then (announce_with st.holding) o)) e
      ∙ allowed_there st (events.Announce next) (ap (is_that next) e ∙ same_topology_itself next)))))

  -- a landing or a copy
  at_destination : (f : ℕ → ℕ → Option Event) (n s : ℕ) → lives st.holding.coord n ≡ true → among s (segments_of st.holding) ≡ true → is_some (f n s) ≡ true → is_some (first_some (λ (d : ℕ × ℕ). f d.0 d.1) (destinations st.holding)) ≡ true
  at_destination f n s live within h =
      some_there (λ (d : ℕ × ℕ). f d.0 d.1) (destinations st.holding)
      (any_flat (λ node. map (λ segment. (node, segment)) (segments_of st.holding)) (λ (d : ℕ × ℕ). is_some (f d.0 d.1)) (live_nodes st.holding.coord)
      (any_of (λ node. list_any (λ (d : ℕ × ℕ). is_some (f d.0 d.1)) (map (λ segment. (node, segment)) (segments_of st.holding))) (live_nodes st.holding.coord) n
      (any_mapped (λ segment. (n, segment)) (λ (d : ℕ × ℕ). is_some (f d.0 d.1)) (segments_of st.holding) (any_of (λ segment. is_some (f n segment)) (segments_of st.holding) s h within))
      (among-live st.holding.coord n ∙ live)))

  -- a landing at a receiver
  land_there : (n s : ℕ) → lives st.holding.coord n ≡ true → among s (segments_of st.holding) ≡ true → is_some (land_event st.holding n s) ≡ true → is_some (advance_event st.holding) ≡ true
  unfolding advance_event
  land_there n s live within h =
      other_there (first_some (install_event st.holding) (live_nodes st.holding.coord)) _
      (other_there (cancel_event st.holding) _
      (first_there (first_some (λ d. land_event st.holding d.0 d.1) (destinations st.holding)) _ (at_destination (land_event st.holding) n s live within h)))

  -- a copy to a receiver
  copy_there : (n s : ℕ) → lives st.holding.coord n ≡ true → among s (segments_of st.holding) ≡ true → is_some (copy_event st.holding n s) ≡ true → is_some (advance_event st.holding) ≡ true
  unfolding advance_event
  copy_there n s live within h =
      other_there (first_some (install_event st.holding) (live_nodes st.holding.coord)) _
      (other_there (cancel_event st.holding) _
      (other_there (first_some (λ d. land_event st.holding d.0 d.1) (destinations st.holding)) _
      (first_there (first_some (λ d. copy_event st.holding d.0 d.1) (destinations st.holding)) (announce_event st.holding) (at_destination (copy_event st.holding) n s live within h))))

  -- the next chunk may be sent
  copies_on : all_installed st.holding.coord ≡ true → (n s node : ℕ) → receives st.holding.coord n s ≡ true → may_send (transfer_of st.holding n s) ≡ true → provider st.holding n s ≡ Some node → is_some (copy_event st.holding n s) ≡ true
  unfolding can_copy
  copies_on all n s node receiving may provides =
      ap (λ o. is_some (option_and_then (copy_with st.holding n s) o)) provides
      ∙ allowed_there st (events.Copy (copy_of st.holding n s node))
      (and_from (all_installed st.holding.coord) _ all
      (and_from (receives st.holding.coord n s) _ receiving
      (and_from (may_send (transfer_of st.holding n s)) _ may
      (and_from (is_provided node (provider st.holding n s)) _ (ap (is_provided node) provides ∙ eq-eqb node node refl) (chunk_itself (next_chunk_of st.holding n s node))))))
    where
      chunk_itself : (chunk : Portion StampedEntry) → same_chunk chunk chunk ≡ true
      chunk_itself chunk = and_from (pointwise same_stamped chunk.entries chunk.entries) (beq chunk.last chunk.last) (pointwise_itself same_stamped same_stamped_itself chunk.entries) (flag_itself chunk.last)

  -- a receiver lives
  receiver_lives : (n s : ℕ) → receives st.holding.coord n s ≡ true → lives st.holding.coord n ≡ true
  receiver_lives n s receiving = (and_parts (lives st.holding.coord n) _ (and_parts (same_phase st.holding.coord.newest.phase ReadOld) _ receiving).1).0

  -- what flies to a receiver may land
  lands_at : (n s : ℕ) → lives st.holding.coord n ≡ true → among s (segments_of st.holding) ≡ true → flies (transfer_of st.holding n s) ≡ true → is_some (advance_event st.holding) ≡ true
  unfolding can_land
  lands_at n s live within h = land_there n s live within (allowed_there st (events.Land n s) h)

  -- ---- where all live nodes have the newest topology

  -- the next topology where all live nodes have the newest one
  follows_by : (all : all_installed st.holding.coord ≡ true) (b : Bool) → needs_repair st.holding.coord ≡ b → next_topology st.holding ≡ (if b then Some (repaired st.holding.coord.newest (live_nodes st.holding.coord)) else unrepaired (all_copied st.holding) st.holding.coord)
  unfolding following
  follows_by all b e =
      ap (λ m. if m then if needs_repair st.holding.coord then Some (repaired st.holding.coord.newest (live_nodes st.holding.coord)) else unrepaired (all_copied st.holding) st.holding.coord else None)
      (and_from (all_installed st.holding.coord) (not (st.holding.coord.newest.id == LAST_TOPOLOGY)) all (ap not (ne_eqb st.holding.coord.newest.id LAST_TOPOLOGY (λ e. absurd (omega (arith, e, early))))))
      ∙ ap (λ m. if m then Some (repaired st.holding.coord.newest (live_nodes st.holding.coord)) else unrepaired (all_copied st.holding) st.holding.coord) e

  -- a repair
  pub repair_there : needs_repair st.holding.coord ≡ true → is_some (advance_event st.holding) ≡ true
  repair_there needs = by_all (all_installed st.holding.coord) refl
    where
      by_all : (b : Bool) → all_installed st.holding.coord ≡ b → is_some (advance_event st.holding) ≡ true
      by_all false left = some_behind left
      by_all true all = announce_there (repaired st.holding.coord.newest (live_nodes st.holding.coord)) (follows_by all true needs)

  -- where a segment has no live reader by the newest topology there is a step
  pub unread_there : (s : ℕ) → among s (segments_of st.holding) ≡ true → some_live st.holding.coord (read_owners st.holding.coord.newest s) ≡ false → is_some (advance_event st.holding) ≡ true
  unread_there s within none =
      repair_there (unread_needs_repair st.holding.coord s kept.owned owned (let b = row_below 0 st.holding.config.segments s within in let n = kept.all_segments in omega (arith, same)) none)

  -- a copy is still to be made
  moves_on : all_installed st.holding.coord ≡ true → needs_repair st.holding.coord ≡ false → all_copied st.holding ≡ false → is_some (advance_event st.holding) ≡ true
  moves_on all sound left = by_segment (some_fails (λ segment. list_all (λ node. not (receives st.holding.coord node segment) || is_over (transfer_to st.holding.copying.transfers node segment)) (owners_at st.holding.coord.newest.pending segment)) (segments_of st.holding) left)
    where
      -- a current owner of the segment lives
      owner_lives : (s : ℕ) → among s (segments_of st.holding) ≡ true → some_live st.holding.coord (owners_at st.holding.coord.newest.current s) ≡ true
      owner_lives s within =
          let inside : s < length st.holding.coord.newest.current = (let b = row_below 0 st.holding.config.segments s within in let n = kept.all_segments in omega (arith, same)) in
          let one = owned s inside in
          any_of (lives st.holding.coord) (owners_at st.holding.coord.newest.current s) one.0 (by_test inside one.0 one.1 (lives st.holding.coord one.0) refl) one.1
        where
          by_test : s < length st.holding.coord.newest.current → (n : ℕ) → among n (owners_at st.holding.coord.newest.current s) ≡ true → (b : Bool) → lives st.holding.coord n ≡ b → b ≡ true
          by_test inside n owns true e = refl
          by_test inside n owns false e = absurd (true≢false (sym (or_left (names_departed (live_nodes st.holding.coord) st.holding.coord.newest.current) _ (departed_named st.holding.coord st.holding.coord.newest.current s n inside owns e)) ∙ sound))

      at : (n s : ℕ) → among s (segments_of st.holding) ≡ true → receives st.holding.coord n s ≡ true → (t : Option Transfer) → transfer_of st.holding n s ≡ t → is_over t ≡ false → is_some (advance_event st.holding) ≡ true
      at n s within receiving None e over = by_found (first_live st.holding.coord (owners_at st.holding.coord.newest.current s)) refl (first_live_there st.holding.coord (owners_at st.holding.coord.newest.current s) (owner_lives s within))
        where
          by_found : (o : Option ℕ) → first_live st.holding.coord (owners_at st.holding.coord.newest.current s) ≡ o → is_some o ≡ true → is_some (advance_event st.holding) ≡ true
          by_found None f h = absurd (cc)
          by_found (Some node) f h =
              copy_there n s (receiver_lives n s receiving) within
              (copies_on all n s node receiving (ap may_send e) (ap (λ t. provider_of t (first_live st.holding.coord (owners_at st.holding.coord.newest.current s))) e ∙ f))
      at n s within receiving (Some v) e over = by_flying v.flying refl
        where
          by_last : (b : Bool) → v.last ≡ b → v.flying ≡ None → is_some (advance_event st.holding) ≡ true
          by_last true l f = absurd (true≢false (sym (and_from v.last (is_none v.flying) l (ap is_none f)) ∙ over))
          by_last false l f =
              copy_there n s (receiver_lives n s receiving) within
              (copies_on all n s v.provider receiving (ap may_send e ∙ and_from (not v.last) (is_none v.flying) (ap not l) (ap is_none f)) (ap (λ t. provider_of t (first_live st.holding.coord (owners_at st.holding.coord.newest.current s))) e))

          by_flying : (o : Option (List StampedEntry)) → v.flying ≡ o → is_some (advance_event st.holding) ≡ true
          by_flying (Some chunk) f = lands_at n s (receiver_lives n s receiving) within (ap flies e ∙ ap is_some f)
          by_flying None f = by_last v.last refl f

      by_segment : (s : ℕ) × ((list_all (λ node. not (receives st.holding.coord node s) || is_over (transfer_to st.holding.copying.transfers node s)) (owners_at st.holding.coord.newest.pending s) ≡ false) × (among s (segments_of st.holding) ≡ true)) → is_some (advance_event st.holding) ≡ true
      by_segment (s, (fails, within)) =
          let one = some_fails (λ node. not (receives st.holding.coord node s) || is_over (transfer_to st.holding.copying.transfers node s)) (owners_at st.holding.coord.newest.pending s) fails in
          let two = either_false (not (receives st.holding.coord one.0 s)) (is_over (transfer_to st.holding.copying.transfers one.0 s)) one.1.0 in
          at one.0 s within (not_true (receives st.holding.coord one.0 s) two.0) (transfer_of st.holding one.0 s) refl two.1

  -- as long as the topology isn't settled there is a step
  pub advances : is_settled st ≡ false → is_some (advance_event st.holding) ≡ true
  unfolding unrepaired
  advances unsettled = by_all (all_installed st.holding.coord) refl
    where
      by_phase_of : all_installed st.holding.coord ≡ true → needs_repair st.holding.coord ≡ false → next_topology st.holding ≡ None → (phase : Phase) → st.holding.coord.newest.phase ≡ phase →
          by_phase phase
          (if same_hash st.holding.coord.newest.current (aimed st.holding.coord) then None else Some (rebalanced st.holding.coord))
          (if not (same_hash st.holding.coord.newest.pending (aimed st.holding.coord)) then Some (cancelled st.holding.coord.newest) else if all_copied st.holding then Some (in_phase st.holding.coord.newest ReadAll) else None)
          (Some (in_phase st.holding.coord.newest ReadNew))
          (Some (completed st.holding.coord.newest)) ≡ None → is_some (advance_event st.holding) ≡ true
      by_phase_of all sound none NoRebalance e h =
          absurd
          (true≢false
          (sym
          (and_from (all_installed st.holding.coord) _ all (and_from (same_phase st.holding.coord.newest.phase NoRebalance) (is_none (next_topology st.holding)) (ap (λ p. same_phase p NoRebalance) e) (ap is_none none)))
          ∙ unsettled))
      by_phase_of all sound none ReadOld e h = moves_on all sound (by_aim (not (same_hash st.holding.coord.newest.pending (aimed st.holding.coord))) h)
        where
          by_copied : (b : Bool) → (if b then Some (in_phase st.holding.coord.newest ReadAll) else None) ≡ None → b ≡ false
          by_copied true h = absurd (cc)
          by_copied false h = refl

          by_aim : (b : Bool) → (if b then Some (cancelled st.holding.coord.newest) else if all_copied st.holding then Some (in_phase st.holding.coord.newest ReadAll) else None) ≡ None → all_copied st.holding ≡ false
          by_aim true h = absurd (cc)
          by_aim false h = by_copied (all_copied st.holding) h
      by_phase_of all sound none ReadAll e h = absurd (cc)
      by_phase_of all sound none ReadNew e h = absurd (cc)

      by_repair : all_installed st.holding.coord ≡ true → next_topology st.holding ≡ None → (b : Bool) → needs_repair st.holding.coord ≡ b → is_some (advance_event st.holding) ≡ true
      by_repair all none true needs = repair_there needs
      by_repair all none false sound = by_phase_of all sound none st.holding.coord.newest.phase refl (sym (follows_by all false sound) ∙ none)

      by_next : all_installed st.holding.coord ≡ true → (o : Option Topology) → next_topology st.holding ≡ o → is_some (advance_event st.holding) ≡ true
      by_next all (Some next) e = announce_there next e
      by_next all None e = by_repair all e (needs_repair st.holding.coord) refl

      by_all : (b : Bool) → all_installed st.holding.coord ≡ b → is_some (advance_event st.holding) ≡ true
      by_all false left = some_behind left
      by_all true all = by_next all (next_topology st.holding) refl
