-- Each transfer stays sound, by each kind of event.
use Rattle.std.proofs.Common.{◌≡◌, ℕ, ◌==◌, Bool, true, false, cond, not, ◌&&◌, ◌||◌, List, [], Option, Some, None, is_none, is_some, unwrap_or, refl, sym, ap, subst, ◌∙◌, inl, inr}
use Rattle.std.proofs.lemmas.Bool.{and_parts, and_from, eqb-true, eq-eqb, or_cases, or_right, true≢false, not_from_false, cases_Bool}
use Rattle.std.specs.Cmp.{nat_eq_equiv}
use Rattle.std.specs.FinSet as set_of
use Rattle.std.specs.Option.{option_map}
use Rattle.std.specs.Ordering.{eq_by_cmp}
use Rattle.container_seg.specs.Lifespans.{left}
use Rattle.container_seg.specs.Places.{key_cmp}
use Rattle.container_seg.specs.Scans.{comes_after}
use Rattle.grid_base.specs.Portion.{Portion}
use Rattle.grid_base.specs.declared.stamped.Stamped.{Stamped}
use Rattle.grid_base.specs.declared.stamped_entry.StampedEntry.{StampedEntry}
use Rattle.state_transfer.specs.Cells.{Cells, Keys}
use Rattle.state_transfer.specs.Changes.{changes, marks, ticks, unexpired}
use Rattle.state_transfer.specs.Chunks.{begun, lands, last_sent, may_send, sends, sent_of, with_chunk}
use Rattle.state_transfer.specs.Copying.{Copying, Transfer, Transfers, copy_at, has_ended, transfer_to}
use Rattle.state_transfer.specs.Faithful.{IsFaithful, flying_of, has_each_once, stamped_in}
use Rattle.state_transfer.specs.Leaving.{cancels, closes, drops, forgets, outlives, restarts}
use Rattle.state_transfer.proofs.CellLaws.{contains-touched, either, once-unexpired, stamped-unexpired, to}
use Rattle.state_transfer.proofs.ChunkLaws.{IsChunk}
use Rattle.state_transfer.proofs.FaithfulLaws.{faithful_change, faithful_copy, faithful_land, faithful_start, faithful_tick}
use Rattle.state_transfer.proofs.LeavingLaws.{copy-departs, copy-drops, transfer-closes, transfer-departs, transfer-drops}
use Rattle.state_transfer.proofs.StepLaws.{copy-changes, copy-lands, copy-sends, copy-ticks, emptied, thinned, transfer-changes, transfer-lands, transfer-sends, transfer-ticks}
use Rattle.topology_coord.specs.Changes.{announces, departs, installs, joins}
use Rattle.topology_coord.specs.Coordination.{Coordination, live_of, lives, loses, some_live, topology_of}
use Rattle.topology_coord.proofs.MemberLaws.{lives-departs, lives-installs, lives-joins, topology-departs, topology-installs, topology-joins}
use Rattle.topology_phase.specs.Laws.{Follows}
use Rattle.topology_phase.specs.Owners.{among, owners_at}
use Rattle.topology_phase.specs.Phases.{same_phase}
use Rattle.topology_phase.specs.Topologies.{Topology, write_owners}
use Rattle.topology_phase.specs.declared.phase.Phase.TheVariants.{ReadOld}
use Rattle.topology_phase.proofs.SameTopologies.{same_phase_is}
use Rattle.cluster_model.specs.Kept.{IsSound, KeepsEmpty, KeepsTransfers, Receives}
use Rattle.cluster_model.specs.Told.{Contents}
use Rattle.cluster_laws.proofs.copies.ContentSteps.{changed_contents, lost_contents, ticked_contents}
use Rattle.cluster_laws.proofs.copies.Facts.{among-writers, changed_some, holders_old, receiver_written, transfer_held, turned}

-- what is faithful by some words is so by equal ones
pub faithful_as : (t p l : Bool) (f a b : Option Stamped) (t2 : Bool) (f2 a2 b2 : Option Stamped) → t ≡ t2 → f ≡ f2 → a ≡ a2 → b ≡ b2 → IsFaithful t p l f a b → IsFaithful t2 p l f2 a2 b2
faithful_as t p l f a b t2 f2 a2 b2 ts fs as_ bs h =
    subst (λ x. IsFaithful t2 p l f2 a2 x) bs (subst (λ x. IsFaithful t2 p l f2 x b) as_ (subst (λ x. IsFaithful t2 p l x a b) fs (subst (λ x. IsFaithful x p l f a b) ts h)))

-- what is known where a chunk is sent: the receiver lives and receives the segment, by the topology that all have; a transfer that is
-- there goes on, with nothing flying, and is provided by the node; the node lives, owns the segment, and has what the map has of it;
-- and the chunk is the next one
pub record IsSending (c : Coordination) (p : Copying) (m : Contents) (r s q : ℕ) (chunk : Portion StampedEntry) (found : Option Transfer) : Type 0 where
  pub live : lives c r ≡ true
  pub receives : Receives c.newest r s
  pub everywhere : (n : ℕ) → lives c n ≡ true → Receives (topology_of c n) r s
  pub may : may_send found ≡ true
  pub provider : (v : Transfer) → found ≡ Some v → v.provider ≡ q
  pub provides : (lives c q ≡ true) × (among q (owners_at c.newest.current s) ≡ true)
  pub right : (j : List ℕ) → copy_at p.cells q s j ≡ m s j
  pub next : IsChunk p.cells q s (sent_of found) chunk

-- ---- writes and erasures

-- a key is touched after a change where it was, or where the change touches it
touched_or : (b : Bool) (touched : Keys) (k j : List ℕ) → cond b (eq_by_cmp key_cmp j k || set_of.contains touched j) (set_of.contains touched j) ≡ set_of.contains (cond b (set_of.insert touched k) touched) j
touched_or true touched k j = sym (contains-touched touched k j)
touched_or false touched k j = refl

module _ (c : Coordination) (p : Copying) (m : Contents) (h : KeepsTransfers c p.cells p.transfers m) where
  -- the receiver is written by every node, so a key that is changed is changed at it too, and touched
  pub changed_transfers : (n s : ℕ) (k : List ℕ) (o : Option Stamped) → lives c n ≡ true
      → KeepsTransfers c (changes (live_of c (write_owners (topology_of c n) s)) s k o p).cells (changes (live_of c (write_owners (topology_of c n) s)) s k o p).transfers (changed_contents s k o m)
  changed_transfers n s k o live r t w is =
      let writers : List ℕ = live_of c (write_owners (topology_of c n) s) in
      let from = changed_some (marks writers s k (to r t)) (transfer_to p.transfers r t) w (sym (transfer-changes writers s k o p r t) ∙ is) in
      let v : Transfer = from.0 in
      let sound : IsSound c p.cells m r t v = h r t v from.1 in
      let written : (t == s) ≡ true → among r writers ≡ true =
      λ same. among-writers c (topology_of c n) s r ∙ and_from (lives c r) (among r (write_owners (topology_of c n) s)) sound.live
      (ap (λ z. among r (write_owners (topology_of c n) z)) (sym (eqb-true t s same)) ∙ receiver_written (topology_of c n) r t (sound.everywhere n live)) in
      subst (λ x. IsSound c (changes writers s k o p).cells (changed_contents s k o m) r t x) from.2 (record {
        live = sound.live;
        receives = sound.receives;
        everywhere = sound.everywhere;
        provided = sound.provided;
        once = sound.once;
        faithful = λ j.
            faithful_as
            (cond (among r writers && (t == s)) (eq_by_cmp key_cmp j k || set_of.contains v.touched j) (set_of.contains v.touched j))
            (comes_after v.provider v.sent j) v.last (stamped_in (flying_of v) j)
            (cond (among r writers && ((t == s) && eq_by_cmp key_cmp j k)) o (copy_at p.cells r t j))
            (changed_contents s k o m t j)
            (set_of.contains (cond (among r writers && (t == s)) (set_of.insert v.touched k) v.touched) j)
            (stamped_in (flying_of v) j)
            (copy_at (changes writers s k o p).cells r t j)
            (changed_contents s k o m t j)
            (touched_or (among r writers && (t == s)) v.touched k j) refl (sym (copy-changes writers s k o p r t j)) refl
            (faithful_change (among r writers) (t == s) (eq_by_cmp key_cmp j k) (set_of.contains v.touched j) (comes_after v.provider v.sent j) v.last (stamped_in (flying_of v) j) (copy_at p.cells r t j) (m t j) o written (sound.faithful j));
      })

  -- ---- joins, installations and departures

  -- who receives a segment by the newest topology, and by the other where that is chosen, receives it by the chosen one
  receives_put : (b : Bool) (s t : Topology) (r z : ℕ) → t ≡ cond b c.newest s → Receives c.newest r z → (b ≡ false → Receives s r z) → Receives t r z
  receives_put true s t r z e first rest = subst (λ x. Receives x r z) (sym e) first
  receives_put false s t r z e first rest = subst (λ x. Receives x r z) (sym e) (rest refl)

  -- a node that joins has the newest topology
  pub joined_transfers : (q : ℕ) → KeepsTransfers (joins c q) p.cells p.transfers m
  unfolding joins
  joined_transfers q r t v is =
      let sound : IsSound c p.cells m r t v = h r t v is in
      let later = λ (n : ℕ) (l : lives c n ≡ true). lives-joins c q n ∙ or_right (n == q) (lives c n) l in
      record {
        live = later r sound.live;
        receives = sound.receives;
        everywhere = λ n l. receives_put (n == q) (topology_of c n) (topology_of (joins c q) n) r t (topology-joins c q n) sound.receives (λ other. sound.everywhere n (was_live n other l));
        provided = λ going. (let there = sound.provided going in (later v.provider there.0, there.1));
        once = sound.once;
        faithful = sound.faithful;
      }
    where
      was_live : (n : ℕ) → (n == q) ≡ false → lives (joins c q) n ≡ true → lives c n ≡ true
      was_live n other l = elim (or_cases (n == q) (lives c n) (sym (lives-joins c q n) ∙ l)) [
        | inl same ↦ absurd (true≢false (sym same ∙ other))
        | inr lived ↦ lived
      ]

  -- what is chosen by a true test is what it was
  kept_here : (b : Bool) (o : Option Stamped) → b ≡ true → o ≡ cond b o None
  kept_here true o e = refl
  kept_here false o e = absurd (cc)

  -- a node that installs has the newest topology, by which a receiver is written
  pub installed_transfers : (q : ℕ) → lives c q ≡ true
      → KeepsTransfers (installs c q) (drops q (λ segment. not (among q (write_owners c.newest segment))) p).cells (drops q (λ segment. not (among q (write_owners c.newest segment))) p).transfers m
  unfolding installs
  installed_transfers q live r t v is =
      let test : ℕ → Bool = λ segment. not (among q (write_owners c.newest segment)) in
      let sound : IsSound c p.cells m r t v = h r t v (ap (λ (ts : Transfers). transfer_to ts r t) (sym (transfer-drops q test p)) ∙ is) in
      let later = λ (n : ℕ) (l : lives c n ≡ true). lives-installs c q n ∙ or_right (n == q) (lives c n) l in
      record {
        live = later r sound.live;
        receives = sound.receives;
        everywhere = λ n l. receives_put (n == q) (topology_of c n) (topology_of (installs c q) n) r t (topology-installs c q n) sound.receives (λ other. sound.everywhere n (was_live n other l));
        provided = λ going. (let there = sound.provided going in (later v.provider there.0, there.1));
        once = sound.once;
        faithful = λ j.
            subst (λ x. IsFaithful (set_of.contains v.touched j) (comes_after v.provider v.sent j) v.last (stamped_in (flying_of v) j) x (m t j))
            (kept_here (not ((r == q) && test t)) (copy_at p.cells r t j) (stays (r == q) (among q (write_owners c.newest t)) (λ same. ap (λ x. among x (write_owners c.newest t)) (sym (eqb-true r q same)) ∙ receiver_written c.newest r t sound.receives)) ∙ sym (copy-drops q test p r t j))
            (sound.faithful j);
      }
    where
      was_live : (n : ℕ) → (n == q) ≡ false → lives (installs c q) n ≡ true → lives c n ≡ true
      was_live n other l = elim (or_cases (n == q) (lives c n) (sym (lives-installs c q n) ∙ l)) [
        | inl same ↦ absurd (true≢false (sym same ∙ other))
        | inr lived ↦ lived
      ]

      stays : (a b : Bool) → (a ≡ true → b ≡ true) → not (a && not b) ≡ true
      stays true true f = refl
      stays true false f = absurd (true≢false (sym (f refl)))
      stays false b f = refl

  -- what is known of a transfer that a departure leaves
  record Stays (q r t : ℕ) (lost : Bool) (v : Transfer) : Type 0 where
    kept : lost ≡ false
    other : (r == q) ≡ false
    was : transfer_to p.transfers r t ≡ Some v
    provides : has_ended v ≡ false → (v.provider == q) ≡ false

  -- a transfer that outlives a departure is to another node, of a segment that isn't lost, and of another provider unless it has ended
  stays_by : (q r t : ℕ) (lost same : Bool) (found : Option Transfer) (v : Transfer) → (r == q) ≡ same → transfer_to p.transfers r t ≡ found
      → cond (not lost) (cond (outlives q (cond (not same) found None)) (cond (not same) found None) None) None ≡ Some v → Stays q r t lost v
  stays_by q r t true same found v s f e = absurd (cc)
  stays_by q r t false true found v s f e = absurd (cc)
  stays_by q r t false false None v s f e = absurd (cc)
  stays_by q r t false false (Some u) v s f e =
      elim (has_ended u || not (u.provider == q)) as (λ b. (has_ended u || not (u.provider == q)) ≡ b → cond b (Some u) None ≡ Some v → Stays q r t false v) [
        | true ↦ λ goes e. (let is : u ≡ v = ap (λ o. unwrap_or o u) e in subst (λ x. Stays q r t false x) is (record {
          kept = refl;
          other = s;
          was = f;
          provides = λ going. elim (or_cases (has_ended u) (not (u.provider == q)) goes) [ inl ended ↦ absurd (true≢false (sym ended ∙ going)) | inr differs ↦ turned (u.provider == q) differs ];
        }))
        | false ↦ λ _ e. absurd (cc)
      ] refl e

  -- a transfer that a departure leaves has another receiver, another provider as long as it goes on, and a segment that isn't lost
  pub departed_transfers : (q : ℕ)
      → KeepsTransfers (departs c q) (drops q (λ _. true) (forgets (loses c q) (restarts q (cancels q p)))).cells (drops q (λ _. true) (forgets (loses c q) (restarts q (cancels q p)))).transfers (lost_contents (loses c q) m)
  unfolding departs
  departed_transfers q r t v is =
      let stays = stays_by q r t (loses c q t) (r == q) (transfer_to p.transfers r t) v refl refl (sym (transfer-departs q (loses c q) p r t) ∙ is) in
      let sound : IsSound c p.cells m r t v = h r t v stays.was in
      let on = λ (n : ℕ) (other : (n == q) ≡ false) (l : lives c n ≡ true). lives-departs c q n ∙ and_from (not (n == q)) (lives c n) (not_from_false (n == q) other) l in
      record {
        live = on r stays.other sound.live;
        receives = sound.receives;
        everywhere = λ n l.
            subst (λ x. Receives x r t) (sym (topology-departs c q n l)) (sound.everywhere n (and_parts (not (n == q)) (lives c n) (sym (lives-departs c q n) ∙ l)).1);
        provided = λ going. (let there = sound.provided going in (on v.provider (stays.provides going) there.0, there.1));
        once = sound.once;
        faithful = λ j.
            faithful_as (set_of.contains v.touched j) (comes_after v.provider v.sent j) v.last (stamped_in (flying_of v) j) (copy_at p.cells r t j) (m t j)
            (set_of.contains v.touched j) (stamped_in (flying_of v) j) (copy_at (drops q (λ _. true) (forgets (loses c q) (restarts q (cancels q p)))).cells r t j) (lost_contents (loses c q) m t j)
            refl refl
            (kept_here (not (r == q) && not (loses c q t)) (copy_at p.cells r t j) (and_from (not (r == q)) (not (loses c q t)) (not_from_false (r == q) stays.other) (not_from_false (loses c q t) stays.kept)) ∙ sym (copy-departs q (loses c q) p r t j))
            (ap (λ b. cond b None (m t j)) (sym stays.kept))
            (sound.faithful j);
      }

  -- ---- announcements

  -- transfers stay only in the first phase of a rebalance, by a repair, which keeps receivers
  pub announced_transfers : (next : Topology) → Follows c.newest next (lives c) → KeepsEmpty c p m
      → ((n : ℕ) → lives c n ≡ true → topology_of (announces c next) n ≡ c.newest)
      → KeepsTransfers (announces c next) (cond (same_phase next.phase ReadOld) p (closes p)).cells (cond (same_phase next.phase ReadOld) p (closes p)).transfers m
  unfolding announces
  announced_transfers next follows empty then r t v =
      elim (same_phase next.phase ReadOld) as (λ b. same_phase next.phase ReadOld ≡ b → transfer_to (cond b p (closes p)).transfers r t ≡ Some v → IsSound (announces c next) (cond b p (closes p)).cells m r t v) [
        | true ↦ λ first is. repaired (same_phase_is next.phase ReadOld first) is
        | false ↦ λ _ is. (let none = transfer-closes p r t in absurd (cc))
      ] refl
    where
      repaired : next.phase ≡ ReadOld → transfer_to p.transfers r t ≡ Some v → IsSound (announces c next) p.cells m r t v
      repaired phase is =
          let sound : IsSound c p.cells m r t v = h r t v is in
          elim (follows.receives phase) [
            | inl still ↦ (let first = sound.receives.phase in absurd (cc))
            | inr goes ↦ (
                let keeps = goes.1 t (ap (some_live c) (sym (holders_old c.newest t goes.0)) ∙ transfer_held c p m r t v empty is) in
                record {
                  live = sound.live;
                  receives = record {
                    phase = phase;
                    pending = keeps.pending r sound.live sound.receives.pending;
                    current = keeps.current r sound.live ∙ sound.receives.current;
                  };
                  everywhere = λ n l. subst (λ x. Receives x r t) (sym (then n l)) sound.receives;
                  provided = λ going. (let there = sound.provided going in (there.0, keeps.current v.provider there.0 ∙ there.1));
                  once = sound.once;
                  faithful = sound.faithful;
                }
                )
          ]

  -- ---- landings and ticks

  -- a transfer that goes on without what flew went on with it
  ended_emptied : (last b : Bool) (flying : Option (List StampedEntry)) → (last && is_none (cond b None flying)) ≡ false → (last && is_none flying) ≡ false
  ended_emptied last true flying e = not_last last (is_none flying) e
    where
      not_last : (l n : Bool) → (l && true) ≡ false → (l && n) ≡ false
      not_last true n e = absurd (cc)
      not_last false n e = refl
  ended_emptied last false flying e = e

  -- a chunk that lands: what flew and isn't touched stands at the receiver
  pub landed_transfers : (r s : ℕ) (u : Transfer) → transfer_to p.transfers r s ≡ Some u → KeepsTransfers c (lands r s p).cells (lands r s p).transfers m
  landed_transfers r s u there q t w is =
      let from = changed_some (emptied r s q t) (transfer_to p.transfers q t) w (sym (transfer-lands r s p q t) ∙ is) in
      let v : Transfer = from.0 in
      let sound : IsSound c p.cells m q t v = h q t v from.1 in
      subst (λ x. IsSound c (lands r s p).cells m q t x) from.2 (record {
        live = sound.live;
        receives = sound.receives;
        everywhere = sound.everywhere;
        provided = λ going. sound.provided (ended_emptied v.last ((q == r) && (t == s)) v.flying going);
        once = once_emptied ((q == r) && (t == s)) v.flying sound.once;
        faithful = λ j. elim (cases_Bool ((q == r) && (t == s))) [
          | inl here ↦ (
              let places = and_parts (q == r) (t == s) here in
              let same : u ≡ v = ap (λ o. unwrap_or o u) (sym there ∙ (λ i. transfer_to p.transfers (sym (eqb-true q r places.0) i) (sym (eqb-true t s places.1) i)) ∙ from.1) in
              let back : ((r == q) && (t == s)) ≡ true = and_from (r == q) (t == s) (eq-eqb r q (sym (eqb-true q r places.0))) places.1 in
              faithful_as (set_of.contains v.touched j) (comes_after v.provider v.sent j) v.last None
              (cond (not (set_of.contains v.touched j)) (either (stamped_in (flying_of v) j) (copy_at p.cells q t j)) (copy_at p.cells q t j)) (m t j)
              (set_of.contains v.touched j) (stamped_in (unwrap_or (cond ((q == r) && (t == s)) None v.flying) []) j) (copy_at (lands r s p).cells q t j) (m t j)
              refl
              (ap (λ b. stamped_in (unwrap_or (cond b None v.flying) []) j) (sym here))
              (sym (copy-lands r s u p there q t j ∙ (λ i. cond (back i && not (set_of.contains (same i).touched j)) (either (stamped_in (flying_of (same i)) j) (copy_at p.cells q t j)) (copy_at p.cells q t j))))
              refl
              (faithful_land (set_of.contains v.touched j) (comes_after v.provider v.sent j) v.last (stamped_in (flying_of v) j) (copy_at p.cells q t j) (m t j) (sound.faithful j))
              )
          | inr away ↦
              faithful_as (set_of.contains v.touched j) (comes_after v.provider v.sent j) v.last (stamped_in (flying_of v) j) (copy_at p.cells q t j) (m t j)
              (set_of.contains v.touched j) (stamped_in (unwrap_or (cond ((q == r) && (t == s)) None v.flying) []) j) (copy_at (lands r s p).cells q t j) (m t j)
              refl
              (ap (λ b. stamped_in (unwrap_or (cond b None v.flying) []) j) (sym away))
              (sym (copy-lands r s u p there q t j ∙ elsewhere ((r == q) && (t == s)) (set_of.contains u.touched j) (either (stamped_in (flying_of u) j) (copy_at p.cells q t j)) (copy_at p.cells q t j) (flip_away away)))
              refl (sound.faithful j)
        ];
      })
    where
      once_emptied : (b : Bool) (flying : Option (List StampedEntry)) → has_each_once (unwrap_or flying []) ≡ true → has_each_once (unwrap_or (cond b None flying) []) ≡ true
      once_emptied true flying e = refl
      once_emptied false flying e = e

      elsewhere : (a b : Bool) (x y : Option Stamped) → a ≡ false → cond (a && not b) x y ≡ y
      elsewhere true b x y e = absurd (true≢false e)
      elsewhere false b x y e = refl

      flip_away : ((q == r) && (t == s)) ≡ false → ((r == q) && (t == s)) ≡ false
      flip_away away = ap (λ b. b && (t == s)) (nat_eq_equiv.symm r q) ∙ away

  -- a transfer that goes on after a tick went on before it
  ended_thinned : (last : Bool) (clock : ℕ) (flying : Option (List StampedEntry)) → (last && is_none (option_map (unexpired clock) flying)) ≡ false → (last && is_none flying) ≡ false
  ended_thinned last clock None e = e
  ended_thinned last clock (Some es) e = e

  -- what flies at a key after a tick is what is left at the clock of what flew
  thinned_at : (clock : ℕ) (flying : Option (List StampedEntry)) (j : List ℕ) → has_each_once (unwrap_or flying []) ≡ true
      → left clock (stamped_in (unwrap_or flying []) j) ≡ stamped_in (unwrap_or (option_map (unexpired clock) flying) []) j
  thinned_at clock None j once = refl
  thinned_at clock (Some es) j once = sym (stamped-unexpired clock es j once)

  -- no key stands twice in what still flies after a tick
  once_thinned : (clock : ℕ) (flying : Option (List StampedEntry)) → has_each_once (unwrap_or flying []) ≡ true → has_each_once (unwrap_or (option_map (unexpired clock) flying) []) ≡ true
  once_thinned clock None once = refl
  once_thinned clock (Some es) once = once-unexpired clock es once

  -- what has expired leaves copies, flying chunks and the map alike
  pub ticked_transfers : (clock : ℕ) → KeepsTransfers c (ticks clock p).cells (ticks clock p).transfers (ticked_contents clock m)
  ticked_transfers clock q t w is =
      let from = changed_some (thinned clock) (transfer_to p.transfers q t) w (sym (transfer-ticks clock p q t) ∙ is) in
      let v : Transfer = from.0 in
      let sound : IsSound c p.cells m q t v = h q t v from.1 in
      subst (λ x. IsSound c (ticks clock p).cells (ticked_contents clock m) q t x) from.2 (record {
        live = sound.live;
        receives = sound.receives;
        everywhere = sound.everywhere;
        provided = λ going. sound.provided (ended_thinned v.last clock v.flying going);
        once = once_thinned clock v.flying sound.once;
        faithful = λ j.
            faithful_as (set_of.contains v.touched j) (comes_after v.provider v.sent j) v.last (left clock (stamped_in (flying_of v) j)) (left clock (copy_at p.cells q t j)) (left clock (m t j))
            (set_of.contains v.touched j) (stamped_in (unwrap_or (option_map (unexpired clock) v.flying) []) j) (copy_at (ticks clock p).cells q t j) (ticked_contents clock m t j)
            refl (thinned_at clock v.flying j sound.once) (sym (copy-ticks clock p q t j)) refl
            (faithful_tick clock (set_of.contains v.touched j) (comes_after v.provider v.sent j) v.last (stamped_in (flying_of v) j) (copy_at p.cells q t j) (m t j) (sound.faithful j));
      })

  -- ---- chunks that are sent

  -- the cells are as they were where a transfer was there, and else the receiver's copies of the segment are gone
  sound_chunk : (r s q : ℕ) (chunk : Portion StampedEntry) (found : Option Transfer) → transfer_to p.transfers r s ≡ found → IsSending c p m r s q chunk found
      → (cells : Cells) → ((j : List ℕ) → copy_at cells r s j ≡ cond (is_some found || false) (copy_at p.cells r s j) None) → IsSound c cells m r s (with_chunk chunk (begun found q))
  sound_chunk r s q chunk None is go cells held = record {
    live = go.live;
    receives = go.receives;
    everywhere = go.everywhere;
    provided = λ _. go.provides;
    once = go.next.once;
    faithful = λ j.
        faithful_copy (set_of.contains set_of.empty j) true (comes_after q (last_sent chunk.entries None) j) false chunk.last (stamped_in chunk.entries j) (copy_at cells r s j) (m s j)
        (subst (λ b. IsFaithful b true false None (copy_at cells r s j) (m s j)) (sym (set_of.contains-empty key_cmp j)) (faithful_start (copy_at cells r s j) (m s j) (held j)))
        (go.next.given j ∙ ap (λ o. cond (true && not (comes_after q (last_sent chunk.entries None) j)) o None) (go.right j))
        (go.next.further j) (λ last ahead. sym (go.right j) ∙ go.next.whole last j ahead);
  }
  sound_chunk r s q chunk (Some v) is go cells held =
      let sound : IsSound c p.cells m r s v = h r s v is in
      let parts = and_parts (not v.last) (is_none v.flying) go.may in
      let same : v.provider ≡ q = go.provider v refl in
      record {
        live = go.live;
        receives = go.receives;
        everywhere = go.everywhere;
        provided = λ _. subst (λ n. (lives c n ≡ true) × (among n (owners_at c.newest.current s) ≡ true)) (sym same) go.provides;
        once = go.next.once;
        faithful = λ j.
            faithful_copy (set_of.contains v.touched j) (comes_after v.provider v.sent j) (comes_after v.provider (last_sent chunk.entries v.sent) j) v.last chunk.last (stamped_in chunk.entries j) (copy_at cells r s j) (m s j)
            (faithful_as (set_of.contains v.touched j) (comes_after v.provider v.sent j) v.last (stamped_in (flying_of v) j) (copy_at p.cells r s j) (m s j) (set_of.contains v.touched j) None (copy_at cells r s j) (m s j)
            refl (none_flies v.flying j parts.1) (sym (held j)) refl (sound.faithful j))
            (go.next.given j ∙ (λ i. cond (comes_after (sym same i) v.sent j && not (comes_after (sym same i) (last_sent chunk.entries v.sent) j)) (go.right j i) None))
            (subst (λ n. comes_after n (last_sent chunk.entries v.sent) j ≡ true → comes_after n v.sent j ≡ true) (sym same) (go.next.further j))
            (λ last ahead. sym (go.right j) ∙ go.next.whole last j (ap (λ n. comes_after n (last_sent chunk.entries v.sent) j) (sym same) ∙ ahead));
      }
    where
      none_flies : (flying : Option (List StampedEntry)) (j : List ℕ) → is_none flying ≡ true → stamped_in (unwrap_or flying []) j ≡ None
      none_flies None j e = refl
      none_flies (Some es) j e = absurd (cc)

  -- a chunk is sent: it has what the map has between the last key sent before and the last key sent now
  pub copied_transfers : (r s q : ℕ) (chunk : Portion StampedEntry) → IsSending c p m r s q chunk (transfer_to p.transfers r s) → KeepsTransfers c (sends r s q chunk p).cells (sends r s q chunk p).transfers m
  copied_transfers r s q chunk go x t w is = elim (cases_Bool ((x == r) && (t == s))) [
    | inl here ↦ (
        let places = and_parts (x == r) (t == s) here in
        let put : with_chunk chunk (begun (transfer_to p.transfers r s) q) ≡ w = ap (λ o. unwrap_or o w) (ap (λ b. cond b (Some (with_chunk chunk (begun (transfer_to p.transfers r s) q))) (transfer_to p.transfers x t)) (sym here) ∙ sym (transfer-sends r s q chunk p x t) ∙ is) in
        let sound = sound_chunk r s q chunk (transfer_to p.transfers r s) refl go (sends r s q chunk p).cells
        (λ j. copy-sends r s q chunk p r s j ∙ ap (λ b. cond (is_some (transfer_to p.transfers r s) || not b) (copy_at p.cells r s j) None) (and_from (r == r) (s == s) (eq-eqb r r refl) (eq-eqb s s refl))) in
        subst (λ y. IsSound c (sends r s q chunk p).cells m x t y) put
        (subst (λ y. IsSound c (sends r s q chunk p).cells m x y (with_chunk chunk (begun (transfer_to p.transfers r s) q))) (sym (eqb-true t s places.1))
        (subst (λ y. IsSound c (sends r s q chunk p).cells m y s (with_chunk chunk (begun (transfer_to p.transfers r s) q))) (sym (eqb-true x r places.0)) sound))
        )
    | inr away ↦ (
        let sound : IsSound c p.cells m x t w = h x t w (ap (λ b. cond b (Some (with_chunk chunk (begun (transfer_to p.transfers r s) q))) (transfer_to p.transfers x t)) (sym away) ∙ sym (transfer-sends r s q chunk p x t) ∙ is) in
        record {
          live = sound.live;
          receives = sound.receives;
          everywhere = sound.everywhere;
          provided = sound.provided;
          once = sound.once;
          faithful = λ j.
              subst (λ o. IsFaithful (set_of.contains w.touched j) (comes_after w.provider w.sent j) w.last (stamped_in (flying_of w) j) o (m t j))
              (sym (copy-sends r s q chunk p x t j ∙ elsewhere (is_some (transfer_to p.transfers r s)) ((x == r) && (t == s)) (copy_at p.cells x t j) away))
              (sound.faithful j);
        }
        )
  ]
    where
      elsewhere : (a b : Bool) (o : Option Stamped) → b ≡ false → cond (a || not b) o None ≡ o
      elsewhere a true o e = absurd (true≢false e)
      elsewhere true false o e = refl
      elsewhere false false o e = refl
