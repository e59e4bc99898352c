-- What a store becomes by departures and installations.
use Rattle.std.proofs.Common.{◌≡◌, ℕ, ◌≤◌, ◌==◌, Bool, true, false, cond, not, ◌&&◌, ◌||◌, nat_lt, List, length, Option, Some, None, unwrap_or, refl, sym, ap, subst, ◌∙◌, inl, inr}
use Rattle.std.proofs.lemmas.Bool.{and_parts, eq-eqb, eqb-true, false_from_ne_true, or_cases, true≢false}
use Rattle.std.specs.Cmp.{nat_cmp_total, unsigned_tied}
use Rattle.std.specs.FinSet as set_of
use Rattle.grid_event.specs.declared.event.Event.TheVariants as events
use Rattle.state_transfer.specs.Calls.{ProvidesNone}
use Rattle.state_transfer.specs.Chunks.{flies}
use Rattle.state_transfer.specs.Copying.{Copying, Stores, Transfer, Transfers, copy_at, has_ended, transfer_to}
use Rattle.state_transfer.specs.Leaving.{cancels, drops, forgets, outlives, restarts}
use Rattle.state_transfer.proofs.LeavingLaws.{transfer-departs, transfer-drops}
use Rattle.topology_coord.specs.Changes.{departs, installs, may_depart}
use Rattle.topology_coord.specs.Coordination.{Coordination, lives, loses, some_live}
use Rattle.topology_coord.proofs.Living.{holders_past}
use Rattle.topology_coord.proofs.MemberLaws.{lives-departs, lives-installs}
use Rattle.topology_phase.specs.Owners.{among}
use Rattle.topology_phase.specs.Topologies.{IsTopology, Topology, write_owners}
use Rattle.topology_phase.proofs.Tables.{held_is_written}
use Rattle.cluster_model.specs.State.{Holding}
use Rattle.cluster_model.specs.Topologies.{can_depart, can_install, departed, installed}
use Rattle.cluster_laws.proofs.copies.Facts.{holders_old, receiver_written, turned}
use Rattle.cluster_laws.proofs.copies.ProviderSteps.{IsProvided}
use Rattle.cluster_store.specs.Insides.{IsStore, holding_of}
use Rattle.cluster_store.specs.Hints.{IsAhead, AreHints, hints_changed}
use Rattle.cluster_store.specs.declared.hints.Hints.{Hints}
use Rattle.cluster_store.specs.declared.hints.ahead.Ahead.{Ahead}
use Rattle.cluster_store.specs.declared.hints.ahead.Ahead.TheVariants.{Unknown}
use Rattle.cluster_store.specs.declared.store.Store.TheInside.{Inside}
use Rattle.cluster_store.proofs.HintLaws.{departs_none, hints_later}
use Rattle.cluster_store.proofs.LeftCopies.{drops_within}
use Rattle.cluster_store.proofs.Reached.{store_parts, store_providers}
use Rattle.cluster_store.proofs.Rows.{Becomes, becomes}

-- ---- departures

-- a departure that may happen is one that the coordinator takes
pub depart_may : (fields : Inside) (st : Holding) (node : ℕ) → holding_of fields ≡ st → can_depart st node ≡ true → may_depart fields.coord node ≡ true
unfolding can_depart
depart_may fields st node view may = ap (λ (x : Holding). may_depart x.coord node) view ∙ may

-- what is left of copies and transfers, step by step
pub left_step : (before cancelled restarted forgotten : Stores) (node : ℕ) (lost : ℕ → Bool) → cancelled ≡ record before { copying = cancels node before.copying }
    → restarted ≡ record cancelled { copying = restarts node cancelled.copying } → forgotten ≡ record restarted { copying = forgets lost restarted.copying }
    → forgotten ≡ record before { copying = forgets lost (restarts node (cancels node before.copying)) }
left_step before cancelled restarted forgotten node lost first second third =
    third ∙ ap (λ (x : Stores). record x { copying = forgets lost x.copying }) (second ∙ ap (λ (x : Stores). record x { copying = restarts node x.copying }) first)

module _ (before forgotten : Stores) (node : ℕ) (lost : ℕ → Bool) (is : forgotten ≡ record before { copying = forgets lost (restarts node (cancels node before.copying)) }) where
  found_left : (r s : ℕ) → Option Transfer
  found_left r s = cond (not (r == node)) (transfer_to before.copying.transfers r s) None

  transfer_left : (r s : ℕ)
      → transfer_to forgotten.copying.transfers r s
      ≡ cond (not (lost s)) (cond (outlives node (cond (not (r == node)) (transfer_to before.copying.transfers r s) None)) (cond (not (r == node)) (transfer_to before.copying.transfers r s) None) None) None
  transfer_left r s =
      ap (λ (x : Stores). transfer_to x.copying.transfers r s) is
      ∙ ap (λ (ts : Transfers). transfer_to ts r s) (sym (transfer-drops node (λ _. true) (forgets lost (restarts node (cancels node before.copying)))))
      ∙ transfer-departs node lost before.copying r s

  -- none leads to the node
  left_receiver : (s : ℕ) → transfer_to forgotten.copying.transfers node s ≡ None
  left_receiver s = transfer_left node s ∙ gone (not (lost s)) (node == node) (transfer_to before.copying.transfers node s) (eq-eqb node node refl)
    where
      gone : (kept same : Bool) (found : Option Transfer) → same ≡ true → cond kept (cond (outlives node (cond (not same) found None)) (cond (not same) found None) None) None ≡ None
      gone true true found e = refl
      gone false same found e = refl
      gone true false found e = absurd (cc)

  -- and the node provides none that hasn't ended
  left_provider : (r s : ℕ) (v : Transfer) → transfer_to forgotten.copying.transfers r s ≡ Some v → has_ended v ≡ false → (v.provider == node) ≡ false
  left_provider r s v there going = by_rest (not (lost s)) (cond (not (r == node)) (transfer_to before.copying.transfers r s) None) (sym (transfer_left r s) ∙ there)
    where
      by_rest : (kept : Bool) (found : Option Transfer) → cond kept (cond (outlives node found) found None) None ≡ Some v → (v.provider == node) ≡ false
      by_rest false found e = absurd (cc)
      by_rest true None e = absurd (cc)
      by_rest true (Some u) e = elim (has_ended u || not (u.provider == node)) as (λ b. (has_ended u || not (u.provider == node)) ≡ b → cond b (Some u) None ≡ Some v → (v.provider == node) ≡ false) [
        | true ↦ λ goes e. (
            let same : u ≡ v = ap (λ o. unwrap_or o u) e in
            elim (or_cases (has_ended u) (not (u.provider == node)) goes) [
              | inl ended ↦ absurd (true≢false (sym ended ∙ ap (λ (t : Transfer). has_ended t) same ∙ going))
              | inr differs ↦ ap (λ (t : Transfer). t.provider == node) (sym same) ∙ turned (u.provider == node) differs
            ]
            )
        | false ↦ λ _ e. absurd (cc)
      ] refl e

-- after a departure no transfer to the node is left
pub no_receiver_left : (before forgotten : Stores) (node : ℕ) (lost : ℕ → Bool) → forgotten ≡ record before { copying = forgets lost (restarts node (cancels node before.copying)) }
    → (s : ℕ) → transfer_to forgotten.copying.transfers node s ≡ None
no_receiver_left = left_receiver

-- and none from it that still goes on
pub no_provider_left : (before forgotten : Stores) (node : ℕ) (lost : ℕ → Bool) → forgotten ≡ record before { copying = forgets lost (restarts node (cancels node before.copying)) }
    → (r s : ℕ) (v : Transfer) → transfer_to forgotten.copying.transfers r s ≡ Some v → has_ended v ≡ false → (v.provider == node) ≡ false
no_provider_left = left_provider

-- the departure of a node makes of the store what the cluster's step makes of what it holds
pub depart_row : (fields : Inside) (st : Holding) (node : ℕ) (lost : ℕ → Bool) (coord : Coordination) (forgotten stores : Stores) (hints : Hints) → IsStore fields → holding_of fields ≡ st → can_depart st node ≡ true
    → ((s : ℕ) → lost s ≡ loses fields.coord node s) → coord ≡ departs fields.coord node
    → forgotten ≡ record fields.copies { copying = forgets lost (restarts node (cancels node fields.copies.copying)) }
    → stores ≡ record { nodes = set_of.remove forgotten.nodes node; copying = drops node (λ _. true) forgotten.copying }
    → hints ≡ hints_changed Unknown fields.hints → Becomes (record fields { coord = coord; copies = stores; hints = hints }) (departed st node)
unfolding departed
depart_row fields st node lost coord forgotten stores hints h view may same is left are so =
    let gone : stores ≡ record { nodes = set_of.remove fields.copies.nodes node; copying = drops node (λ _. true) (forgets lost (restarts node (cancels node fields.copies.copying))) } =
    are ∙ ap (λ (x : Stores). record { nodes = set_of.remove x.nodes node; copying = drops node (λ _. true) x.copying }) left in
    becomes fields (record fields { coord = coord; copies = stores; hints = hints }) st (departed st node) (events.Depart node) h view (λ _. may) (λ _. refl) refl
    (λ n.
    ap (λ (x : Stores). set_of.contains x.nodes n) gone
    ∙ set_of.contains-remove nat_cmp_total fields.copies.nodes node n
    ∙ (λ i. not (unsigned_tied n node i) && h.nodes n i)
    ∙ sym (lives-departs fields.coord node n)
    ∙ ap (λ (x : Coordination). lives x n) (sym is))
    ((λ i. record (holding_of fields) { coord = is i; copying = (gone i).copying })
    ∙ ap (λ f. record (holding_of fields) { coord = departs fields.coord node; copying = drops node (λ _. true) (forgets f (restarts node (cancels node fields.copies.copying))) }) (λ i s. same s i)
    ∙ ap (λ (x : Holding). departed x node) view)
    (subst (λ k. AreHints k (record (holding_of fields) { coord = coord; copying = stores.copying })) (sym so)
    (hints_later fields.hints (holding_of fields) Unknown coord stores.copying tt
    (λ r s none. ap (λ (x : Stores). flies (transfer_to x.copying.transfers r s)) gone ∙ departs_none node lost fields.copies.copying r s none) h.hints))

-- ---- installations

-- a node that may install lives
pub install_may : (fields : Inside) (st : Holding) (node id : ℕ) → holding_of fields ≡ st → can_install st node id ≡ true → lives fields.coord node ≡ true
unfolding can_install
install_may fields st node id view may = ap (λ (x : Holding). lives x.coord node) view ∙ (and_parts (lives st.coord node) _ may).0

-- an installation leaves the newest topology
newest_stays : (c : Coordination) (node : ℕ) → (installs c node).newest ≡ c.newest
unfolding installs
newest_stays c node = refl

-- the newest topology stays the newest
pub install_newest : (c coord : Coordination) (node : ℕ) → coord ≡ installs c node → coord.newest ≡ c.newest
install_newest c coord node is = ap (λ (x : Coordination). x.newest) is ∙ newest_stays c node

-- nothing is there where whatever is there is absurd
none_by : (found : Option Transfer) → ((v : Transfer) → found ≡ Some v → ⊥) → found ≡ None
none_by None never = refl
none_by (Some v) never = absurd (never v refl)

module _ (fields : Inside) (h : IsStore fields) (node : ℕ) (t : Topology) (newest : t ≡ fields.coord.newest) where
  -- a node that doesn't write a segment receives it in no transfer
  unwritten_receiver : (s : ℕ) → among node (write_owners t s) ≡ false → transfer_to fields.copies.copying.transfers node s ≡ None
  unwritten_receiver s none =
      none_by (transfer_to fields.copies.copying.transfers node s) (λ v there.
      true≢false (sym (receiver_written fields.coord.newest node s ((store_parts fields h).1.transfers node s v there).receives) ∙ ap (λ x. among node (write_owners x s)) (sym newest) ∙ none))

  -- and where it lives it provides none
  unwritten_provider : lives fields.coord node ≡ true → (s : ℕ) → among node (write_owners t s) ≡ false → ProvidesNone fields.copies.copying.transfers node s
  unwritten_provider live s none r v there = false_from_ne_true (v.provider == node) (λ same.
      let provided : IsProvided fields.coord node s = subst (λ n. IsProvided fields.coord n s) (eqb-true v.provider node same) (store_providers fields h r s v there) in
      let receives = ((store_parts fields h).1.transfers r s v there).receives in
      true≢false
      (sym (held_is_written fields.coord.newest node s (ap (among node) (holders_old fields.coord.newest s receives.phase) ∙ provided.owner live))
      ∙ ap (λ x. among node (write_owners x s)) (sym newest)
      ∙ none))

-- no transfer goes to a node of a segment that it doesn't own by the newest topology
pub install_receiver : (fields : Inside) (node : ℕ) (t : Topology) → IsStore fields → t ≡ fields.coord.newest → (s : ℕ) → among node (write_owners t s) ≡ false → transfer_to fields.copies.copying.transfers node s ≡ None
install_receiver fields node t h newest = unwritten_receiver fields h node t newest

-- nor does one come from it that still goes on
pub install_provider : (fields : Inside) (node : ℕ) (t : Topology) → IsStore fields → t ≡ fields.coord.newest → lives fields.coord node ≡ true
    → (s : ℕ) → among node (write_owners t s) ≡ false → ProvidesNone fields.copies.copying.transfers node s
install_provider fields node t h newest = unwritten_provider fields h node t newest

-- there are no copies past the last segment
no_copies_past : (fields : Inside) → IsStore fields → IsTopology fields.coord.newest → (node s : ℕ) (j : List ℕ) → length fields.coord.newest.current ≤ s → copy_at fields.copies.copying.cells node s j ≡ None
no_copies_past fields h kept node s j past =
    ((store_parts fields h).1.empty s (ap (some_live fields.coord) (holders_past fields.coord.newest s kept past))).no_copy node j

-- the installation of the newest topology makes of the store what the cluster's step makes of what it holds
pub install_row : (fields : Inside) (st : Holding) (node id : ℕ) (t : Topology) (coord : Coordination) (stores : Stores) (hints : Hints) (ahead : Ahead) → IsStore fields → holding_of fields ≡ st → can_install st node id ≡ true
    → coord ≡ installs fields.coord node → t ≡ fields.coord.newest → IsTopology t
    → stores ≡ record fields.copies { copying = drops node (λ s. nat_lt s (length t.current) && not (among node (write_owners t s))) fields.copies.copying }
    → hints ≡ hints_changed ahead fields.hints → IsAhead ahead coord → Becomes (record fields { coord = coord; copies = stores; hints = hints }) (installed st node id)
unfolding installed
install_row fields st node id t coord stores hints ahead h view may is newest kept are so follows =
    let live : lives fields.coord node ≡ true = install_may fields st node id view may in
    let dropped : stores ≡ record fields.copies { copying = drops node (λ s. not (among node (write_owners fields.coord.newest s))) fields.copies.copying } =
    are
    ∙ ap (λ (x : Topology). record fields.copies { copying = drops node (λ s. nat_lt s (length x.current) && not (among node (write_owners x s))) fields.copies.copying }) newest
    ∙ ap (λ (c : Copying). record fields.copies { copying = c })
    (drops_within node (λ s. not (among node (write_owners fields.coord.newest s))) (length fields.coord.newest.current) fields.copies.copying
    (λ s j past. no_copies_past fields h (subst (λ x. IsTopology x) newest kept) node s j past)) in
    becomes fields (record fields { coord = coord; copies = stores; hints = hints }) st (installed st node id) (events.Install node id) h view (λ _. may) (λ _. refl) refl
    (λ n.
    ap (λ (x : Stores). set_of.contains x.nodes n) dropped
    ∙ h.nodes n
    ∙ lived (n == node) (lives fields.coord n) (λ same. ap (lives fields.coord) (eqb-true n node same) ∙ live)
    ∙ sym (lives-installs fields.coord node n)
    ∙ ap (λ (x : Coordination). lives x n) (sym is))
    ((λ i. record (holding_of fields) { coord = is i; copying = (dropped i).copying }) ∙ ap (λ (x : Holding). installed x node id) view)
    (subst (λ k. AreHints k (record (holding_of fields) { coord = coord; copying = stores.copying })) (sym so)
    (hints_later fields.hints (holding_of fields) ahead coord stores.copying follows
    (λ r s none.
    ap (λ (x : Stores). flies (transfer_to x.copying.transfers r s)) dropped
    ∙ ap (λ (ts : Transfers). flies (transfer_to ts r s)) (transfer-drops node (λ u. not (among node (write_owners fields.coord.newest u))) fields.copies.copying)
    ∙ none)
    h.hints))
  where
    lived : (same live : Bool) → (same ≡ true → live ≡ true) → live ≡ (same || live)
    lived true live h = h refl
    lived false live h = refl
