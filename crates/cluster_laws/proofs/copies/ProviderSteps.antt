-- Who provides a transfer, also one that has ended, by each kind of event.
use Rattle.std.proofs.Common.{◌≡◌, ℕ, ◌+◌, ◌==◌, Bool, true, false, cond, not, ◌&&◌, List, [], ◌∷◌, Option, Some, None, unwrap_or, refl, sym, ap, subst, ◌∙◌, inl, inr}
use Rattle.std.proofs.lemmas.Bool.{and_parts, cases_Bool, eqb-true, or_cases, or_right, true≢false}
use Rattle.std.specs.FinSet as set_of
use Rattle.std.specs.Option.{option_map}
use Rattle.grid_base.specs.Portion.{Portion}
use Rattle.grid_base.specs.declared.stamped.Stamped.{Stamped}
use Rattle.grid_base.specs.declared.stamped_entry.StampedEntry.{StampedEntry}
use Rattle.grid_event.specs.Configs.{is_config}
use Rattle.grid_event.specs.declared.config.Config.{Config}
use Rattle.grid_event.specs.declared.event.Event.{Event}
use Rattle.grid_event.specs.declared.event.Event.TheVariants.{Write, Erase, Tick, Join, Depart, Announce, Install, Copy, Land}
use Rattle.state_transfer.specs.Changes.{changes, marks, ticks}
use Rattle.state_transfer.specs.Chunks.{begun, lands, sends, with_chunk}
use Rattle.state_transfer.specs.Copying.{Copying, Transfer, Transfers, transfer_to}
use Rattle.state_transfer.specs.Leaving.{cancels, closes, drops, forgets, outlives, restarts}
use Rattle.state_transfer.proofs.CellLaws.{to, transfer-none}
use Rattle.state_transfer.proofs.LeavingLaws.{transfer-closes, transfer-departs, transfer-drops}
use Rattle.state_transfer.proofs.StepLaws.{emptied, thinned, transfer-changes, transfer-lands, transfer-sends, transfer-ticks}
use Rattle.topology_coord.specs.Changes.{announces, departs, installs, joins}
use Rattle.topology_coord.specs.Coordination.{Coordination, lives, loses}
use Rattle.topology_coord.proofs.MemberLaws.{lives-departs, lives-installs, lives-joins, member-joins}
use Rattle.topology_coord.proofs.NextLaws.{IsNext, next_follows}
use Rattle.topology_phase.specs.Laws.{Follows}
use Rattle.topology_phase.specs.Owners.{among, owners_at}
use Rattle.topology_phase.specs.Phases.{same_phase}
use Rattle.topology_phase.specs.Topologies.{Topology, write_owners}
use Rattle.topology_phase.specs.declared.phase.Phase.TheVariants.{ReadOld}
use Rattle.topology_phase.proofs.Mending.{any_of}
use Rattle.topology_phase.proofs.SameTopologies.{same_phase_is}
use Rattle.cluster_model.specs.Answers.{answered}
use Rattle.cluster_model.specs.Calls.{invoked, rounded}
use Rattle.cluster_model.specs.Kept.{IsKept, KeepsTransfers}
use Rattle.cluster_model.specs.State.{State, segment_of, start}
use Rattle.cluster_model.specs.Step.{allowed, changed, runs, state}
use Rattle.cluster_model.specs.Told.{Contents, contents_of}
use Rattle.cluster_model.specs.Topologies.{all_copied, announced, can_announce, can_install, can_join, departed, installed, joined, lost_by_departure, lost_by_installation}
use Rattle.cluster_model.specs.Transfers.{copied, landed}
use Rattle.cluster_model.specs.Units.{begun_unit, ended_unit, fetched, scanned, taken_by}
use Rattle.cluster_model.specs.Writes.{changed_key, erased, ticked, writers, written}
use Rattle.cluster_laws.proofs.copies.Facts.{changed_some, turned}
use Rattle.cluster_laws.proofs.copies.Requests.{may_announce, may_copy}
use Rattle.cluster_laws.proofs.Runs.{step_keeps}
use Rattle.cluster_laws.proofs.copies.Starts.{good_config, start_kept}
use Rattle.cluster_laws.proofs.copies.TransferSteps.{IsSending}

-- a node that provides a transfer was ever a member, and as long as it lives it owns the segment
pub record IsProvided (c : Coordination) (node segment : ℕ) : Type 0 where
  pub member : set_of.contains c.ever node ≡ true
  pub owner : lives c node ≡ true → among node (owners_at c.newest.current segment) ≡ true

-- each transfer is provided by such a node
abbrev pub KeepsProviders : Coordination → Transfers → Type 0
KeepsProviders c transfers =
    (receiver segment : ℕ) (transfer : Transfer) → transfer_to transfers receiver segment ≡ Some transfer → IsProvided c transfer.provider segment

module _ (c : Coordination) (p : Copying) (h : KeepsProviders c p.transfers) where
  -- transfers change, but for their providers
  changed_providers : (f : ℕ → ℕ → Transfer → Transfer) (later : Transfers) → ((r t : ℕ) → transfer_to later r t ≡ option_map (f r t) (transfer_to p.transfers r t))
      → ((r t : ℕ) (v : Transfer) → (f r t v).provider ≡ v.provider) → KeepsProviders c later
  changed_providers f later is keeps r t w there =
      let from = changed_some (f r t) (transfer_to p.transfers r t) w (sym (is r t) ∙ there) in
      subst (λ n. IsProvided c n t) (sym (keeps r t from.0) ∙ ap (λ (v : Transfer). v.provider) from.2) (h r t from.0 from.1)

  -- a node joins that was never a member
  joined_providers : (q : ℕ) → set_of.contains c.ever q ≡ false → KeepsProviders (joins c q) p.transfers
  unfolding joins
  joined_providers q absent r t v there =
      let was : IsProvided c v.provider t = h r t v there in
      record {
        member = member-joins c q v.provider ∙ or_right (v.provider == q) (set_of.contains c.ever v.provider) was.member;
        owner = λ l. elim (or_cases (v.provider == q) (lives c v.provider) (sym (lives-joins c q v.provider) ∙ l)) [
          | inl same ↦ absurd (true≢false (sym was.member ∙ ap (set_of.contains c.ever) (eqb-true v.provider q same) ∙ absent))
          | inr lived ↦ was.owner lived
        ];
      }

  -- a live node installs
  installed_providers : (q : ℕ) → lives c q ≡ true → KeepsProviders (installs c q) (drops q (λ segment. not (among q (write_owners c.newest segment))) p).transfers
  unfolding installs
  installed_providers q live r t v there =
      let test : ℕ → Bool = λ segment. not (among q (write_owners c.newest segment)) in
      let was : IsProvided c v.provider t = h r t v (ap (λ (ts : Transfers). transfer_to ts r t) (sym (transfer-drops q test p)) ∙ there) in
      record {
        member = was.member;
        owner = λ l. elim (or_cases (v.provider == q) (lives c v.provider) (sym (lives-installs c q v.provider) ∙ l)) [
          | inl same ↦ was.owner (ap (lives c) (eqb-true v.provider q same) ∙ live)
          | inr lived ↦ was.owner lived
        ];
      }

  -- a transfer that is still there was there
  remained : (a b : Bool) (found : Option Transfer) (v : Transfer) → cond a (cond b found None) None ≡ Some v → found ≡ Some v
  remained true true found v e = e
  remained true false found v e = absurd (cc)
  remained false b found v e = absurd (cc)

  -- a node departs
  departed_providers : (q : ℕ) → KeepsProviders (departs c q) (drops q (λ _. true) (forgets (loses c q) (restarts q (cancels q p)))).transfers
  unfolding departs
  departed_providers q r t v there =
      let kept : Option Transfer = cond (not (r == q)) (transfer_to p.transfers r t) None in
      let stays : kept ≡ Some v = remained (not (loses c q t)) (outlives q kept) kept v (sym (transfer-departs q (loses c q) p r t) ∙ there) in
      let was : IsProvided c v.provider t = h r t v (remained true (not (r == q)) (transfer_to p.transfers r t) v stays) in
      record {
        member = was.member;
        owner = λ l. was.owner (and_parts (not (v.provider == q)) (lives c v.provider) (sym (lives-departs c q v.provider) ∙ l)).1;
      }

  -- transfers stay over an announcement only where a repair goes on with the first phase, in which live owners stay owners
  announced_providers : (m : Contents) (next : Topology) → Follows c.newest next (lives c) → KeepsTransfers c p.cells p.transfers m
      → KeepsProviders (announces c next) (cond (same_phase next.phase ReadOld) p (closes p)).transfers
  unfolding announces
  announced_providers m next follows sound r t v =
      elim (same_phase next.phase ReadOld) as (λ b. same_phase next.phase ReadOld ≡ b → transfer_to (cond b p (closes p)).transfers r t ≡ Some v → IsProvided (announces c next) v.provider t) [
        | true ↦ λ first there. repaired (same_phase_is next.phase ReadOld first) there
        | false ↦ λ _ there. (let none = transfer-closes p r t in absurd (cc))
      ] refl
    where
      repaired : next.phase ≡ ReadOld → transfer_to p.transfers r t ≡ Some v → IsProvided (announces c next) v.provider t
      repaired phase there =
          let was : IsProvided c v.provider t = h r t v there in
          elim (follows.receives phase) [
            | inl still ↦ (let first = (sound r t v there).receives.phase in absurd (cc))
            | inr goes ↦ record {
              member = was.member;
              owner = λ l. (goes.1 t (any_of (lives c) (owners_at c.newest.current t) v.provider l (was.owner l))).current v.provider l ∙ was.owner l;
            }
          ]

  -- a transfer that begins or goes on has the node as its provider
  begun_provider : (v : Transfer) (q : ℕ) (found : Option Transfer) → ((u : Transfer) → found ≡ Some u → u.provider ≡ q) → (begun found q).provider ≡ q
  begun_provider v q None same = refl
  begun_provider v q (Some u) same = same u refl

  -- a chunk is sent by a live owner
  copied_providers : (m : Contents) (r s q : ℕ) (chunk : Portion StampedEntry) → ((n : ℕ) → lives c n ≡ true → set_of.contains c.ever n ≡ true)
      → IsSending c p m r s q chunk (transfer_to p.transfers r s) → KeepsProviders c (sends r s q chunk p).transfers
  copied_providers m r s q chunk member go x t v there =
      let sent : Transfer = with_chunk chunk (begun (transfer_to p.transfers r s) q) in
      elim (cases_Bool ((x == r) && (t == s))) [
        | inl here ↦
            let same : sent ≡ v = ap (λ o. unwrap_or o v) (ap (λ b. cond b (Some sent) (transfer_to p.transfers x t)) (sym here) ∙ sym (transfer-sends r s q chunk p x t) ∙ there) in
            let by_ : q ≡ v.provider = sym (begun_provider v q (transfer_to p.transfers r s) go.provider) ∙ ap (λ (u : Transfer). u.provider) same in
            let segment : s ≡ t = sym (eqb-true t s (and_parts (x == r) (t == s) here).1) in
            subst (λ n. IsProvided c n t) by_ (subst (λ z. IsProvided c q z) segment (record { member = member q go.provides.0; owner = λ _. go.provides.1 }))
        | inr away ↦ h x t v (ap (λ b. cond b (Some sent) (transfer_to p.transfers x t)) (sym away) ∙ sym (transfer-sends r s q chunk p x t) ∙ there)
      ]

-- a change of a key
changed_by : (st : State) (n : ℕ) (k : List ℕ) (o : Option Stamped) (found : Option ℕ) → KeepsProviders st.holding.coord st.holding.copying.transfers
    → KeepsProviders (changed_key st.holding n k o found).coord (changed_key st.holding n k o found).copying.transfers
changed_by st n k o None h = h
changed_by st n k o (Some s) h =
    changed_providers st.holding.coord st.holding.copying h (λ r t. marks (writers st.holding n s) s k (to r t)) (changes (writers st.holding n s) s k o st.holding.copying).transfers (transfer-changes (writers st.holding n s) s k o st.holding.copying) (λ r t v. refl)

-- each event keeps who provides
providers_step : (config : Config) (past : List Event) (st : State) (event : Event) → allowed st event ≡ true → IsKept config past st → KeepsProviders st.holding.coord st.holding.copying.transfers
    → KeepsProviders (changed st event).holding.coord (changed st event).holding.copying.transfers
unfolding can_join joined departed lost_by_departure can_announce announced can_install installed lost_by_installation written erased ticked copied landed invoked rounded begun_unit scanned fetched taken_by ended_unit answered
providers_step config past st (Write w) can kept h = changed_by st w.node w.key (Some (record { value = w.value; until = w.until })) (segment_of st.holding w.key) h
providers_step config past st (Erase e) can kept h = changed_by st e.node e.key None (segment_of st.holding e.key) h
providers_step config past st (Tick number) can kept h =
    changed_providers st.holding.coord st.holding.copying h (λ r t. thinned (st.holding.copying.clock + number)) (ticks (st.holding.copying.clock + number) st.holding.copying).transfers (transfer-ticks (st.holding.copying.clock + number) st.holding.copying) (λ r t v. refl)
providers_step config past st (Join q) can kept h = joined_providers st.holding.coord st.holding.copying h q (turned (set_of.contains st.holding.coord.ever q) (and_parts (not (set_of.contains st.holding.coord.ever q)) _ can).0)
providers_step config past st (Depart q) can kept h = departed_providers st.holding.coord st.holding.copying h q
providers_step config past st (Announce next) can kept h =
    let parts = kept.parts in
    let is : IsNext (all_copied st.holding) st.holding.coord next = may_announce config.segments st next parts.topologies can in
    announced_providers st.holding.coord st.holding.copying h (contents_of config past) next (next_follows (all_copied st.holding) st.holding.coord next parts.topologies.some_live parts.topologies.owned is) parts.transfers
providers_step config past st (Install q id) can kept h = installed_providers st.holding.coord st.holding.copying h q (and_parts (lives st.holding.coord q) _ can).0
providers_step config past st (Copy e) can kept h =
    copied_providers st.holding.coord st.holding.copying h (contents_of config past) e.receiver e.segment e.provider e.batch kept.parts.topologies.member (may_copy config.segments st (contents_of config past) e kept.parts can)
providers_step config past st (Land r s) can kept h =
    changed_providers st.holding.coord st.holding.copying h (λ q t. emptied r s q t) (lands r s st.holding.copying).transfers (transfer-lands r s st.holding.copying) (λ q t v. refl)
-- the others change calls and units alone
providers_step config past st event can kept h = h

-- a run keeps who provides
providers_run : (config : Config) (past : List Event) (st : State) (events : List Event) → runs st events ≡ true → IsKept config past st → KeepsProviders st.holding.coord st.holding.copying.transfers
    → KeepsProviders (state st events).holding.coord (state st events).holding.copying.transfers
providers_run config past st [] is kept h = h
providers_run config past st (event ∷ events) is kept h =
    let parts = and_parts (allowed st event) (runs (changed st event) events) is in
    providers_run config (event ∷ past) (changed st event) events parts.1 (step_keeps config past st event parts.0 kept) (providers_step config past st event parts.0 kept h)

-- in every run each transfer is provided by a node that was a member, and that owns the segment as long as it lives
pub providers_kept : (config : Config) (events : List Event) → is_config config ≡ true → runs (start config) events ≡ true
    → KeepsProviders (state (start config) events).holding.coord (state (start config) events).holding.copying.transfers
providers_kept config events good is =
    providers_run config [] (start config) events is (start_kept config (good_config config good)) (λ r s v there. (let none = transfer-none r s in absurd (cc)))
