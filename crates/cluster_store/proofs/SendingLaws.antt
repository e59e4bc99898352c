-- What is known where a node sends, and what the event of a copy is.
use Rattle.std.proofs.Common.{◌≡◌, ℕ, ◌==◌, ◌≤◌, Bool, true, false, not, ◌&&◌, if◌then◌else◌, Option, Some, None, is_some, nat_le, refl, sym, ap, subst, ◌∙◌}
use Rattle.std.proofs.lemmas.Bool.{and_parts, eq-eqb, eqb-true, false_from_ne_true, leb-true, or_right, true≢false}
use Rattle.std.specs.FinSet as set_of
use Rattle.std.specs.Option.{IfSome, option_map}
use Rattle.grid_base.specs.Portion.{Portion}
use Rattle.grid_base.specs.declared.stamped_entry.StampedEntry.{StampedEntry}
use Rattle.grid_base.specs.declared.limits.TheConstants.{MOST_NODES, MOST_OWNERS, MOST_SEGMENTS}
use Rattle.grid_event.specs.Configs.{is_config, is_up_to}
use Rattle.grid_event.specs.declared.config.Config.{Config}
use Rattle.grid_event.specs.declared.event.Event.TheVariants as events
use Rattle.grid_event.specs.declared.store_events.CopyEvent.{CopyEvent}
use Rattle.state_transfer.specs.Calls.{ProvidesNone, goes_on}
use Rattle.state_transfer.specs.Chunks.{chunk_of, may_send, sends}
use Rattle.state_transfer.specs.Copying.{Stores, Transfer, has_ended, transfer_to}
use Rattle.topology_coord.specs.Coordination.{all_installed, lives}
use Rattle.topology_coord.specs.Following.{receives}
use Rattle.topology_phase.specs.Owners.{among, owners_at}
use Rattle.topology_phase.specs.Phases.{same_phase}
use Rattle.topology_phase.specs.declared.phase.Phase.TheVariants.{ReadOld}
use Rattle.std.specs.Option.{option_and_then}
use Rattle.cluster_model.specs.Commands.{copy_event, copy_of, copy_with}
use Rattle.cluster_model.specs.Same.{same_chunk}
use Rattle.cluster_model.specs.State.{Holding}
use Rattle.cluster_model.specs.Transfers.{can_copy, is_provided, next_chunk_of, provider, transfer_of}
use Rattle.cluster_laws.proofs.copies.ProviderSteps.{IsProvided}
use Rattle.cluster_laws.proofs.copies.Requests.{is_sending}
use Rattle.cluster_laws.proofs.copies.SameChunks.{same_chunk_is, same_chunk_itself}
use Rattle.cluster_laws.proofs.copies.TransferSteps.{IsSending}
use Rattle.cluster_store.specs.Insides.{IsStore, holding_of}
use Rattle.cluster_store.specs.Sending.{sender}
use Rattle.cluster_store.specs.declared.store.Store.TheInside.{Inside}
use Rattle.cluster_store.proofs.Reached.{store_parts, store_providers}

-- what is there under a test is there, and the test passes
if_some : (b : Bool) (o : Option ℕ) (x : ℕ) → (if b then o else None) ≡ Some x → (b ≡ true) × (o ≡ Some x)
if_some true o x e = (refl, e)
if_some false o x e = absurd (cc)

-- what is known of a sender
pub record IsSender (st : Holding) (r s q : ℕ) : Type 0 where
  pub installed : all_installed st.coord ≡ true
  pub receiving : receives st.coord r s ≡ true
  pub may : may_send (transfer_of st r s) ≡ true
  pub gives : provider st r s ≡ Some q

-- where a node sends, all that sending asks for stands
pub is_sender : (st : Holding) (r s q : ℕ) → sender st r s ≡ Some q → IsSender st r s q
unfolding sender
is_sender st r s q e =
    let parts = if_some (all_installed st.coord && (receives st.coord r s && may_send (transfer_of st r s))) (provider st r s) q e in
    let first = and_parts (all_installed st.coord) (receives st.coord r s && may_send (transfer_of st r s)) parts.0 in
    let second = and_parts (receives st.coord r s) (may_send (transfer_of st r s)) first.1 in
    record { installed = first.0; receiving = second.0; may = second.1; gives = parts.1 }

-- ---- tests of a copy

-- tests before an option may be asked apart from it
apart_tests : (a b c : Bool) (p : ℕ) (o : Option ℕ) (s : Bool) → (a && (b && (c && (is_provided p o && s)))) ≡ (is_provided p (if a && (b && c) then o else None) && s)
apart_tests true true true p o s = refl
apart_tests true true false p o s = refl
apart_tests true false c p o s = refl
apart_tests false b c p o s = refl

-- a chunk may be sent where its provider is the sender, and it is the next one
pub can_copy-sender : (st : Holding) (e : CopyEvent) → can_copy st e ≡ (is_provided e.provider (sender st e.receiver e.segment) && same_chunk e.batch (next_chunk_of st e.receiver e.segment e.provider))
unfolding can_copy sender
can_copy-sender st e =
    apart_tests (all_installed st.coord) (receives st.coord e.receiver e.segment) (may_send (transfer_of st e.receiver e.segment)) e.provider (provider st e.receiver e.segment)
    (same_chunk e.batch (next_chunk_of st e.receiver e.segment e.provider))

-- who is the provider is there
is_provider : (q : ℕ) (found : Option ℕ) → is_provided q found ≡ true → found ≡ Some q
is_provider q None h = absurd (cc)
is_provider q (Some other) h = ap (λ n. Some n) (sym (eqb-true q other h))

-- a copy that may happen is sent by the sender, and is the next chunk
pub copy_parts : (st : Holding) (e : CopyEvent) → can_copy st e ≡ true → (sender st e.receiver e.segment ≡ Some e.provider) × (e.batch ≡ next_chunk_of st e.receiver e.segment e.provider)
copy_parts st e can =
    let parts = and_parts (is_provided e.provider (sender st e.receiver e.segment)) (same_chunk e.batch (next_chunk_of st e.receiver e.segment e.provider)) (sym (can_copy-sender st e) ∙ can) in
    (is_provider e.provider (sender st e.receiver e.segment) parts.0, same_chunk_is e.batch (next_chunk_of st e.receiver e.segment e.provider) parts.1)

-- the store's own chunk may be sent exactly where the provider is the sender
own_chunk : (st : Holding) (r s q : ℕ) → can_copy st (copy_of st r s q) ≡ is_provided q (sender st r s)
own_chunk st r s q =
    can_copy-sender st (copy_of st r s q)
    ∙ ap (λ b. is_provided q (sender st r s) && b) (same_chunk_itself (next_chunk_of st r s q))
    ∙ and_true (is_provided q (sender st r s))
  where
    and_true : (b : Bool) → (b && true) ≡ b
    and_true true = refl
    and_true false = refl

-- the event of a copy is that of the sender
pub copy_event-sender : (st : Holding) (r s : ℕ) → copy_event st r s ≡ option_map (λ q. events.Copy (copy_of st r s q)) (sender st r s)
unfolding sender
copy_event-sender st r s = by_provider (all_installed st.coord && (receives st.coord r s && may_send (transfer_of st r s))) (provider st r s) refl refl
  where
    by_provider : (b : Bool) (found : Option ℕ) → (all_installed st.coord && (receives st.coord r s && may_send (transfer_of st r s))) ≡ b → provider st r s ≡ found
        → option_and_then (copy_with st r s) found ≡ option_map (λ q. events.Copy (copy_of st r s q)) (if b then found else None)
    by_provider true None may is = refl
    by_provider false None may is = refl
    by_provider true (Some q) may is =
        ap (λ b. if b then Some (events.Copy (copy_of st r s q)) else None)
        (own_chunk st r s q ∙ (λ i. is_provided q (if may i then is i else None)) ∙ eq-eqb q q refl)
    by_provider false (Some q) may is =
        ap (λ b. if b then Some (events.Copy (copy_of st r s q)) else None)
        (own_chunk st r s q ∙ (λ i. is_provided q (if may i then is i else None)))

-- where there is no sender, there is none
pub copy_event-none : (st : Holding) (r s : ℕ) → sender st r s ≡ None → copy_event st r s ≡ None
copy_event-none st r s none = copy_event-sender st r s ∙ ap (option_map (λ q. events.Copy (copy_of st r s q))) none

-- no chunk is sent but in the first phase of a rebalance, where all live nodes have the newest topology
and_false : (b : Bool) → (b && false) ≡ false
and_false true = refl
and_false false = refl

-- outside the first phase of a rebalance nobody sends
pub unphased_sends : (st : Holding) → same_phase st.coord.newest.phase ReadOld ≡ false → (r s : ℕ) → sender st r s ≡ None
unfolding sender
unphased_sends st off r s =
    ap
    (λ b.
    if all_installed st.coord
    && ((b && (lives st.coord r && (among r (owners_at st.coord.newest.pending s) && not (among r (owners_at st.coord.newest.current s))))) && may_send (transfer_of st r s))
    then provider st r s
    else None) off
    ∙ ap (λ b. if b then provider st r s else None) (and_false (all_installed st.coord))

-- nor before all live nodes have installed the newest topology
pub uninstalled_sends : (st : Holding) → all_installed st.coord ≡ false → (r s : ℕ) → sender st r s ≡ None
unfolding sender
uninstalled_sends st off r s = ap (λ b. if b && (receives st.coord r s && may_send (transfer_of st r s)) then provider st r s else None) off

-- ---- what the copies ask for

-- both nodes are there and differ, a transfer that is there goes on, and neither node has another part in a transfer of the segment
pub record IsReady (fields : Inside) (r s q : ℕ) : Type 0 where
  pub receiver : set_of.contains fields.copies.nodes r ≡ true
  pub provider : set_of.contains fields.copies.nodes q ≡ true
  pub differ : (r == q) ≡ false
  pub most : 1 ≤ fields.config.chunk
  pub going : goes_on (transfer_to fields.copies.copying.transfers r s) q ≡ true
  pub no_provider : ProvidesNone fields.copies.copying.transfers r s
  pub no_receiver : transfer_to fields.copies.copying.transfers q s ≡ None
  pub may : may_send (transfer_to fields.copies.copying.transfers r s) ≡ true

-- a chunk has one entry at least
some_chunk : (config : Config) → is_config config ≡ true → 1 ≤ config.chunk
some_chunk config h =
    let nodes = and_parts (is_up_to MOST_NODES config.nodes) _ h in
    let segments = and_parts (is_up_to MOST_SEGMENTS config.segments) _ nodes.1 in
    let owners = and_parts (is_up_to MOST_OWNERS config.owners) _ segments.1 in
    leb-true 1 config.chunk (and_parts (nat_le 1 config.chunk) _ owners.1).0

-- a transfer goes on with a provider where whatever is there has it
goes_by : (found : Option Transfer) (q : ℕ) → ((v : Transfer) → found ≡ Some v → v.provider ≡ q) → goes_on found q ≡ true
goes_by None q same = refl
goes_by (Some v) q same = or_right (has_ended v) (v.provider == q) (eq-eqb v.provider q (same v refl))

-- nothing is there where whatever is there is absurd
none_by : (found : Option Transfer) → ((v : Transfer) → found ≡ Some v → ⊥) → found ≡ None
none_by None never = refl
none_by (Some v) never = absurd (never v refl)

-- where a node sends, the store is ready to make its chunk
pub ready : (fields : Inside) → IsStore fields → (r s q : ℕ) → sender (holding_of fields) r s ≡ Some q → IsReady fields r s q
ready fields h r s q e =
    let st : Holding = holding_of fields in
    let is : IsSender st r s q = is_sender st r s q e in
    let kept = store_parts fields h in
    let go : IsSending st.coord st.copying kept.0 r s q (chunk_of st.copying r s q st.config.chunk) (transfer_to st.copying.transfers r s) =
    is_sending fields.config.segments st.coord st.copying kept.0 kept.1 r s q (chunk_of st.copying r s q st.config.chunk) st.config.chunk is.installed is.receiving is.may
    (ap (is_provided q) is.gives ∙ eq-eqb q q refl) refl in
    record {
      receiver = h.nodes r ∙ go.live;
      provider = h.nodes q ∙ go.provides.0;
      differ = false_from_ne_true (r == q) (λ same. true≢false (sym go.provides.1 ∙ ap (λ n. among n (owners_at st.coord.newest.current s)) (sym (eqb-true r q same)) ∙ go.receives.current));
      most = some_chunk fields.config h.limits;
      going = goes_by (transfer_to st.copying.transfers r s) q go.provider;
      no_provider = λ x v there. false_from_ne_true (v.provider == r) (λ same.
          let provided : IsProvided st.coord v.provider s = store_providers fields h x s v there in
          let by_ : v.provider ≡ r = eqb-true v.provider r same in
          let owner : IsProvided st.coord r s = subst (λ n. IsProvided st.coord n s) by_ provided in
          true≢false (sym (owner.owner go.live) ∙ go.receives.current));
      no_receiver = none_by (transfer_to st.copying.transfers q s) (λ v there. true≢false (sym go.provides.1 ∙ (kept.1.transfers q s v there).receives.current));
      may = is.may;
    }

-- so it is for a sender, and for a copy that may happen
pub sender_ready : (fields : Inside) (st : Holding) → IsStore fields → holding_of fields ≡ st → (r s q : ℕ) → sender st r s ≡ Some q → IsReady fields r s q
sender_ready fields st h view r s q e = ready fields h r s q (ap (λ (x : Holding). sender x r s) view ∙ e)

-- and so it is where the event of a copy may happen
pub copy_ready : (fields : Inside) (st : Holding) (e : CopyEvent) → IsStore fields → holding_of fields ≡ st → can_copy st e ≡ true → IsReady fields e.receiver e.segment e.provider
copy_ready fields st e h view may = sender_ready fields st h view e.receiver e.segment e.provider (copy_parts st e may).0

-- the next chunk is that of the event
pub next_is : (fields : Inside) (st : Holding) (e : CopyEvent) → holding_of fields ≡ st → can_copy st e ≡ true
    → chunk_of fields.copies.copying e.receiver e.segment e.provider fields.config.chunk ≡ e.batch
next_is fields st e view may = ap (λ (x : Holding). next_chunk_of x e.receiver e.segment e.provider) view ∙ sym (copy_parts st e may).1

-- what was sent is the next chunk
pub sent_is : (sent : Option (Portion StampedEntry)) (next batch : Portion StampedEntry) (stores : Stores) (after : Portion StampedEntry → Stores) → is_some sent ≡ true
    → IfSome sent (λ chunk. chunk ≡ next) → IfSome sent (λ chunk. stores ≡ after chunk) → next ≡ batch → stores ≡ after batch
sent_is None next batch stores after there is are same = absurd (cc)
sent_is (Some chunk) next batch stores after there is are same = are ∙ ap after (is ∙ same)

-- so the copies are those behind the sending of the event's chunk
pub copy_sends : (fields : Inside) (st : Holding) (e : CopyEvent) (stores : Stores) (sent : Option (Portion StampedEntry)) → IsStore fields → holding_of fields ≡ st → can_copy st e ≡ true
    → is_some sent ≡ may_send (transfer_to fields.copies.copying.transfers e.receiver e.segment)
    → IfSome sent (λ chunk. chunk ≡ chunk_of fields.copies.copying e.receiver e.segment e.provider fields.config.chunk)
    → IfSome sent (λ chunk. stores ≡ record fields.copies { copying = sends e.receiver e.segment e.provider chunk fields.copies.copying })
    → stores ≡ record fields.copies { copying = sends e.receiver e.segment e.provider e.batch fields.copies.copying }
copy_sends fields st e stores sent h view may there is are =
    sent_is sent (chunk_of fields.copies.copying e.receiver e.segment e.provider fields.config.chunk) e.batch stores
    (λ (chunk : Portion StampedEntry). record fields.copies { copying = sends e.receiver e.segment e.provider chunk fields.copies.copying })
    (there ∙ (copy_ready fields st e h view may).may) is are (next_is fields st e view may)

-- a mapped option is there exactly where the option is
pub some_mapped : {A B : Type 0} (f : A → B) (o : Option A) → is_some (option_map f o) ≡ is_some o
some_mapped f None = refl
some_mapped f (Some x) = refl
