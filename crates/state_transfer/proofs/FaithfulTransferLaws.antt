-- What keeps transfers faithful to their providers.
use Rattle.std.proofs.Common.{◌≡◌, ℕ, Bool, true, false, cond, not, ◌&&◌, ◌||◌, ◌==◌, List, [], Option, Some, None, is_some, is_none, refl, sym, ap, subst, ◌∙◌, inl, inr}
use Rattle.std.proofs.lemmas.Bool.{and_parts, cases_Bool, cases_eq, eq-eqb, ne_eqb, true≢false}
use Rattle.std.proofs.lemmas.Option.{none-some}
use Rattle.std.specs.Cmp.{nat_cmp_total, nat_eq_equiv, unsigned_tied}
use Rattle.std.specs.FinMap as map_of
use Rattle.std.specs.FinSet as set_of
use Rattle.std.specs.Option.{option_map, unwrap_or}
use Rattle.std.specs.Ordering.{eq_by_cmp, nat_cmp}
use Rattle.grid_base.specs.Portion.{Portion}
use Rattle.grid_base.specs.declared.stamped.Stamped.{Stamped}
use Rattle.grid_base.specs.declared.stamped_entry.StampedEntry.{StampedEntry}
use Rattle.container_seg.specs.Lifespans.{left}
use Rattle.container_seg.specs.Places.{key_cmp}
use Rattle.container_seg.specs.Scans.{comes_after}
use Rattle.topology_phase.specs.Owners.{among}
use Rattle.state_transfer.specs.Calls.{ProvidesNone, goes_on}
use Rattle.state_transfer.specs.Cells.{Cells, Destination, Keys}
use Rattle.state_transfer.specs.Changes.{changes, marks, ticks, unexpired}
use Rattle.state_transfer.specs.Chunks.{begun, chunk_of, landed, last_sent, lands, may_send, sends, sent_of, with_chunk}
use Rattle.state_transfer.specs.Copying.{Copying, Stores, Transfer, Transfers, copy_at, has_ended, transfer_to}
use Rattle.state_transfer.specs.Faithful.{IsFaithful, IsFaithfulAt, flying_of, has_each_once, stamped_in}
use Rattle.state_transfer.specs.FaithfulTransfers as words
use Rattle.state_transfer.specs.FaithfulTransfers.{AreFaithful, NamesBothOrNeither}
use Rattle.state_transfer.specs.Leaving.{cancels, closes, drops, forgets, outlives, restarts}
use Rattle.state_transfer.proofs.CellLaws.{contains-touched, either, once-unexpired, stamped-unexpired, transfer-kept, transfer-none}
use Rattle.state_transfer.proofs.ChunkLaws.{IsChunk, next_is_chunk}
use Rattle.state_transfer.proofs.FaithfulLaws.{faithful_change, faithful_copy, faithful_ended, faithful_land, faithful_start, faithful_tick}
use Rattle.state_transfer.proofs.LeavingLaws.{copy-drops, copy-forgets, transfer-closes, transfer-drops, transfer-forgets}
use Rattle.state_transfer.proofs.StepLaws.{copy-changes, copy-lands, copy-sends, copy-ticks, emptied, thinned, transfer-changes, transfer-lands, transfer-sends, transfer-ticks}

-- the place of a transfer: its receiver and its segment
abbrev to : ℕ → ℕ → Destination
to receiver segment = record { receiver = receiver; segment = segment }

-- the same facts by other words
by_other_words : (t u p l : Bool) (f g a c b d : Option Stamped) → u ≡ t → g ≡ f → c ≡ a → d ≡ b → IsFaithful t p l f a b → IsFaithful u p l g c d
by_other_words t u p l f g a c b d et ef ea eb h =
    subst (λ x. IsFaithful x p l g c d) (sym et) (subst (λ x. IsFaithful t p l x c d) (sym ef) (subst (λ x. IsFaithful t p l f x d) (sym ea) (subst (λ x. IsFaithful t p l f a x) (sym eb) h)))

-- a changed transfer that is there was there before
mapped_some : {f : Transfer → Transfer} (o : Option Transfer) (w : Transfer) → option_map f o ≡ Some w → (v : Transfer) × (o ≡ Some v) × (w ≡ f v)
mapped_some None w e = absurd (none-some w e)
mapped_some {f = f} (Some v) w e = (v, refl, sym (ap (λ o. unwrap_or o w) e))

-- a transfer that was kept by a test was there, and the test is true
kept_some : (b : Bool) (o : Option Transfer) (w : Transfer) → cond b o None ≡ Some w → (b ≡ true) × (o ≡ Some w)
kept_some true o w e = (refl, e)
kept_some false o w e = absurd (none-some w e)

-- what is chosen by a true test is the first
one_of : (b : Bool) (a w : Transfer) (o : Option Transfer) → b ≡ true → cond b (Some a) o ≡ Some w → w ≡ a
one_of b a w o h e = sym (ap (λ u. unwrap_or u w) (sym (ap (λ c. cond c (Some a) o) h) ∙ e))

-- a test of equal numbers may be turned
flip : (a b : ℕ) → (a == b) ≡ (b == a)
flip a b = nat_eq_equiv.symm a b

-- numbers that pass the test are equal
same : (a b : ℕ) → (a == b) ≡ true → a ≡ b
same a b h = elim (cases_eq a b) [ inl e ↦ e | inr differ ↦ absurd (true≢false (sym h ∙ ne_eqb a b differ)) ]

-- two tests aren't both true where the second excludes the first
not_both : (a b : Bool) → (b ≡ true → a ≡ false) → (a && b) ≡ false
not_both true true h = h refl
not_both true false h = refl
not_both false b h = refl

-- ---- the end and the start

-- an ended transfer whose provider is there has equal copies at both nodes
pub ended_are_equal : words.EndedTransfersAreEqual
ended_are_equal stores kept r s v is ended there k =
    let parts = and_parts v.last (is_none v.flying) ended in
    let quiet : flying_of v ≡ [] = nothing v.flying parts.1 in
    let facts = kept.faithful r s v is there k in
    let f : IsFaithful (set_of.contains v.touched k) (comes_after v.provider v.sent k) true None (copy_at stores.copying.cells r s k) (copy_at stores.copying.cells v.provider s k) =
    subst (λ l. IsFaithful (set_of.contains v.touched k) (comes_after v.provider v.sent k) l None (copy_at stores.copying.cells r s k) (copy_at stores.copying.cells v.provider s k)) parts.0
    (by_other_words _ _ _ _ _ _ _ _ _ _ refl (ap (λ es. stamped_in es k) (sym quiet)) refl refl facts) in
    faithful_ended (set_of.contains v.touched k) (comes_after v.provider v.sent k) (copy_at stores.copying.cells r s k) (copy_at stores.copying.cells v.provider s k) f
  where
    nothing : (o : Option (List StampedEntry)) → is_none o ≡ true → unwrap_or o [] ≡ []
    nothing None h = refl
    nothing (Some es) h = absurd (true≢false (sym h))

-- where nothing is held all transfers are faithful
pub nothing_is_faithful : words.NothingIsFaithful
nothing_is_faithful = record {
  faithful = λ r s v is there k. absurd (none-some v (sym (transfer-none r s) ∙ is));
  once = λ r s v is. absurd (none-some v (sym (transfer-none r s) ∙ is));
  apart = λ r q s v w is other. absurd (none-some v (sym (transfer-none r s) ∙ is));
}

-- ---- what leaves

-- fewer transfers, whose providers and copies are what they were
fewer : (a b : Stores) → AreFaithful a → ((r s : ℕ) (v : Transfer) → transfer_to b.copying.transfers r s ≡ Some v → transfer_to a.copying.transfers r s ≡ Some v)
    → ((r s : ℕ) (v : Transfer) → transfer_to b.copying.transfers r s ≡ Some v → set_of.contains b.nodes v.provider ≡ true →
    (set_of.contains a.nodes v.provider ≡ true) × (((k : List ℕ) → copy_at b.copying.cells r s k ≡ copy_at a.copying.cells r s k) × ((k : List ℕ) → copy_at b.copying.cells v.provider s k ≡ copy_at a.copying.cells v.provider s k)))
    → AreFaithful b
fewer a b kept less alike = record {
  faithful = λ r s v is there k.
      let facts = alike r s v is there in
      by_other_words _ _ _ _ _ _ _ _ _ _ refl refl (facts.1.0 k) (facts.1.1 k) (kept.faithful r s v (less r s v is) facts.0 k);
  once = λ r s v is. kept.once r s v (less r s v is);
  apart = λ r q s v w is other. kept.apart r q s v w (less r s v is) (less q s w other);
}

-- a join leaves them faithful
pub joins_stay : words.JoinsStayFaithful
joins_stay stores node none kept = fewer stores (record stores { nodes = set_of.insert stores.nodes node }) kept (λ r s v is. is) (λ r s v is there.
    (before v.provider (none s r v is) there, ((λ k. refl), (λ k. refl))))
  where
    before : (p : ℕ) → (p == node) ≡ false → set_of.contains (set_of.insert stores.nodes node) p ≡ true → set_of.contains stores.nodes p ≡ true
    before p differ there =
        ap (λ b. b || set_of.contains stores.nodes p) (sym (unsigned_tied p node ∙ differ)) ∙ sym (set_of.contains-insert nat_cmp_total stores.nodes node p) ∙ there

-- a node that drops segments leaves them faithful
pub drops_stay : words.DropsStayFaithful
drops_stay stores node segment none provides kept =
    let after : Stores = record stores { copying = drops node (λ s. s == segment) stores.copying } in
    let less : (r s : ℕ) (v : Transfer) → transfer_to after.copying.transfers r s ≡ Some v → transfer_to stores.copying.transfers r s ≡ Some v =
    λ r s v is. ap (λ ts. transfer_to ts r s) (sym (transfer-drops node (λ s. s == segment) stores.copying)) ∙ is in
    fewer stores after kept less (λ r s v is there.
    let was = less r s v is in
    let receiver : ((r == node) && (s == segment)) ≡ false = elim (cases_Bool ((r == node) && (s == segment))) [
      | inl both ↦
          let e = and_parts (r == node) (s == segment) both in
          absurd (none-some v (sym none ∙ (λ i. transfer_to stores.copying.transfers (sym (same r node e.0) i) (sym (same s segment e.1) i)) ∙ was))
      | inr differ ↦ differ
    ] in
    let provider : ((v.provider == node) && (s == segment)) ≡ false = not_both (v.provider == node) (s == segment) (λ e. provides r v (ap (transfer_to stores.copying.transfers r) (sym (same s segment e)) ∙ was)) in (
      there,
      (
        (λ k. copy-drops node (λ s. s == segment) stores.copying r s k ∙ ap (λ b. cond (not b) (copy_at stores.copying.cells r s k) None) receiver),
        (λ k. copy-drops node (λ s. s == segment) stores.copying v.provider s k ∙ ap (λ b. cond (not b) (copy_at stores.copying.cells v.provider s k) None) provider),
      ),
    ))

-- a departure leaves them faithful
pub departures_stay : words.DeparturesStayFaithful
departures_stay stores node none kept =
    let after : Stores = record { nodes = set_of.remove stores.nodes node; copying = drops node (λ _. true) stores.copying } in
    let less : (r s : ℕ) (v : Transfer) → transfer_to after.copying.transfers r s ≡ Some v → transfer_to stores.copying.transfers r s ≡ Some v =
    λ r s v is. ap (λ ts. transfer_to ts r s) (sym (transfer-drops node (λ _. true) stores.copying)) ∙ is in
    fewer stores after kept less (λ r s v is there.
    let was = less r s v is in
    let stays = and_parts (not (eq_by_cmp nat_cmp v.provider node)) (set_of.contains stores.nodes v.provider) (sym (set_of.contains-remove nat_cmp_total stores.nodes node v.provider) ∙ there) in
    let provider : (v.provider == node) ≡ false = not_true (v.provider == node) (ap not (sym (unsigned_tied v.provider node)) ∙ stays.0) in
    let receiver : (r == node) ≡ false = elim (cases_Bool (r == node)) [
      | inl e ↦ absurd (none-some v (sym (none s) ∙ ap (λ n. transfer_to stores.copying.transfers n s) (sym (same r node e)) ∙ was))
      | inr differ ↦ differ
    ] in (
      stays.1,
      (
        (λ k. copy-drops node (λ _. true) stores.copying r s k ∙ ap (λ b. cond (not (b && true)) (copy_at stores.copying.cells r s k) None) receiver),
        (λ k. copy-drops node (λ _. true) stores.copying v.provider s k ∙ ap (λ b. cond (not (b && true)) (copy_at stores.copying.cells v.provider s k) None) provider),
      ),
    ))
  where
    not_true : (b : Bool) → not b ≡ true → b ≡ false
    not_true true h = absurd (true≢false (sym h))
    not_true false h = refl

-- which transfers are there once a provider has restarted
transfer-kept-by : (ts : Transfers) (provider r s : ℕ) → transfer_to (map_of.retain_keys ts (λ d. outlives provider (map_of.get ts d))) r s ≡ cond (outlives provider (transfer_to ts r s)) (transfer_to ts r s) None
transfer-kept-by ts provider r s = transfer-kept ts (λ d. outlives provider (map_of.get ts d)) r s

-- a restart of a provider leaves them faithful
pub restarts_stay : words.RestartsStayFaithful
unfolding restarts
restarts_stay stores provider kept =
    fewer stores (record stores { copying = restarts provider stores.copying }) kept
    (λ r s v is. (kept_some (outlives provider (transfer_to stores.copying.transfers r s)) (transfer_to stores.copying.transfers r s) v (sym (transfer-kept-by stores.copying.transfers provider r s) ∙ is)).1)
    (λ r s v is there. (there, ((λ k. refl), (λ k. refl))))

-- transfers to a node that are cancelled leave the others faithful
pub cancels_stay : words.CancelsStayFaithful
unfolding cancels
cancels_stay stores receiver kept =
    fewer stores (record stores { copying = cancels receiver stores.copying }) kept
    (λ r s v is. (kept_some (not (r == receiver)) (transfer_to stores.copying.transfers r s) v (sym (transfer-kept stores.copying.transfers (λ d. not (d.receiver == receiver)) r s) ∙ is)).1)
    (λ r s v is there. (there, ((λ k. refl), (λ k. refl))))

-- a forgotten segment leaves the others faithful
pub forgotten_stay : words.ForgottenStayFaithful
forgotten_stay stores segment kept =
    let after : Stores = record stores { copying = forgets (λ s. s == segment) stores.copying } in
    let parts : (r s : ℕ) (v : Transfer) → transfer_to after.copying.transfers r s ≡ Some v → (not (s == segment) ≡ true) × (transfer_to stores.copying.transfers r s ≡ Some v) =
    λ r s v is. kept_some (not (s == segment)) (transfer_to stores.copying.transfers r s) v (sym (transfer-forgets (λ s. s == segment) stores.copying r s) ∙ is) in
    fewer stores after kept (λ r s v is. (parts r s v is).1) (λ r s v is there. (
      there,
      (
        (λ k. copy-forgets (λ s. s == segment) stores.copying r s k ∙ ap (λ b. cond b (copy_at stores.copying.cells r s k) None) (parts r s v is).0),
        (λ k. copy-forgets (λ s. s == segment) stores.copying v.provider s k ∙ ap (λ b. cond b (copy_at stores.copying.cells v.provider s k) None) (parts r s v is).0),
      ),
    ))

-- where all transfers are closed they are faithful
pub closed_stay : words.ClosedStayFaithful
closed_stay stores kept = fewer stores (record stores { copying = closes stores.copying }) kept
    (λ r s v is. absurd (none-some v (sym (transfer-closes stores.copying r s) ∙ is)))
    (λ r s v is there. absurd (none-some v (sym (transfer-closes stores.copying r s) ∙ is)))

-- ---- what changes

-- a write at receiver and provider alike, or at neither, leaves a transfer faithful at a key
faithful_both : (r q b c t p l : Bool) (f a x o : Option Stamped) → (b ≡ true → r ≡ q) → IsFaithful t p l f a x
    → IsFaithful (cond (r && b) (c || t) t) p l f (cond (r && (b && c)) o a) (cond (q && (b && c)) o x)
faithful_both true true b c t p l f a x o alike h = faithful_change true b c t p l f a x o (λ _. refl) h
faithful_both false false b c t p l f a x o alike h = h
faithful_both true false true c t p l f a x o alike h = absurd (true≢false (alike refl))
faithful_both true false false c t p l f a x o alike h = h
faithful_both false true true c t p l f a x o alike h = absurd (true≢false (sym (alike refl)))
faithful_both false true false c t p l f a x o alike h = h

-- a key is touched after a write where it was, or where the write touches it
touched_so : (b : Bool) (ks : Keys) (k j : List ℕ) → set_of.contains (cond b (set_of.insert ks k) ks) j ≡ cond b (eq_by_cmp key_cmp j k || set_of.contains ks j) (set_of.contains ks j)
touched_so true ks k j = contains-touched ks k j
touched_so false ks k j = refl

-- a write leaves all transfers faithful
pub writes_stay : words.WritesStayFaithful
writes_stay stores nodes segment key stamped names kept =
    let p = stores.copying in
    let was : (r s : ℕ) (w : Transfer) → transfer_to (changes nodes segment key stamped p).transfers r s ≡ Some w → (v : Transfer) × (transfer_to p.transfers r s ≡ Some v) × (w ≡ marks nodes segment key (to r s) v) =
    λ r s w is. mapped_some (transfer_to p.transfers r s) w (sym (transfer-changes nodes segment key stamped p r s) ∙ is) in
    record {
      faithful = λ r s w is there j.
          let v = (was r s w is).0 in
          let e = (was r s w is).2 in
          let provided : set_of.contains stores.nodes v.provider ≡ true = ap (λ (x : Transfer). set_of.contains stores.nodes x.provider) (sym e) ∙ there in
          subst (λ (x : Transfer). IsFaithfulAt (changes nodes segment key stamped p).cells r s x j (copy_at (changes nodes segment key stamped p).cells x.provider s j)) (sym e)
          (by_other_words _ _ _ _ _ _ _ _ _ _
          (touched_so (among r nodes && (s == segment)) v.touched key j) refl
          (copy-changes nodes segment key stamped p r s j) (copy-changes nodes segment key stamped p v.provider s j)
          (faithful_both (among r nodes) (among v.provider nodes) (s == segment) (eq_by_cmp key_cmp j key) (set_of.contains v.touched j) (comes_after v.provider v.sent j) v.last (stamped_in (flying_of v) j)
          (copy_at p.cells r s j) (copy_at p.cells v.provider s j) stamped
          (λ here. names r v (ap (transfer_to p.transfers r) (sym (same s segment here)) ∙ (was r s w is).1) provided)
          (kept.faithful r s v (was r s w is).1 provided j)));
      once = λ r s w is.
          ap (λ (x : Transfer). has_each_once (flying_of x)) (was r s w is).2 ∙ kept.once r s (was r s w is).0 (was r s w is).1;
      apart = λ r q s w x is other.
          ap (λ (y : Transfer). y.provider == r) (was q s x other).2 ∙ kept.apart r q s (was r s w is).0 (was q s x other).0 (was r s w is).1 (was q s x other).1;
    }

-- a tick leaves all transfers faithful
pub ticks_stay : words.TicksStayFaithful
ticks_stay stores clock kept =
    let p = stores.copying in
    let was : (r s : ℕ) (w : Transfer) → transfer_to (ticks clock p).transfers r s ≡ Some w → (v : Transfer) × (transfer_to p.transfers r s ≡ Some v) × (w ≡ thinned clock v) =
    λ r s w is. mapped_some (transfer_to p.transfers r s) w (sym (transfer-ticks clock p r s) ∙ is) in
    record {
      faithful = λ r s w is there j.
          let v = (was r s w is).0 in
          let e = (was r s w is).2 in
          let provided : set_of.contains stores.nodes v.provider ≡ true = ap (λ (x : Transfer). set_of.contains stores.nodes x.provider) (sym e) ∙ there in
          subst (λ (x : Transfer). IsFaithfulAt (ticks clock p).cells r s x j (copy_at (ticks clock p).cells x.provider s j)) (sym e)
          (by_other_words _ _ _ _ _ _ _ _ _ _
          refl (thinned_at v.flying j (kept.once r s v (was r s w is).1))
          (copy-ticks clock p r s j) (copy-ticks clock p v.provider s j)
          (faithful_tick clock (set_of.contains v.touched j) (comes_after v.provider v.sent j) v.last (stamped_in (flying_of v) j) (copy_at p.cells r s j) (copy_at p.cells v.provider s j)
          (kept.faithful r s v (was r s w is).1 provided j)));
      once = λ r s w is.
          ap (λ (x : Transfer). has_each_once (flying_of x)) (was r s w is).2 ∙ thinned_once (was r s w is).0.flying (kept.once r s (was r s w is).0 (was r s w is).1);
      apart = λ r q s w x is other.
          ap (λ (y : Transfer). y.provider == r) (was q s x other).2 ∙ kept.apart r q s (was r s w is).0 (was q s x other).0 (was r s w is).1 (was q s x other).1;
    }
  where
    thinned_at : (o : Option (List StampedEntry)) (j : List ℕ) → has_each_once (unwrap_or o []) ≡ true → stamped_in (unwrap_or (option_map (unexpired clock) o) []) j ≡ left clock (stamped_in (unwrap_or o []) j)
    thinned_at None j h = refl
    thinned_at (Some es) j h = stamped-unexpired clock es j h

    thinned_once : (o : Option (List StampedEntry)) → has_each_once (unwrap_or o []) ≡ true → has_each_once (unwrap_or (option_map (unexpired clock) o) []) ≡ true
    thinned_once None h = refl
    thinned_once (Some es) h = once-unexpired clock es h

-- ---- chunks

-- where a chunk may be sent, the last one wasn't and nothing flies
quiet : (v : Transfer) → may_send (Some v) ≡ true → (v.last ≡ false) × (flying_of v ≡ [])
quiet v may =
    let parts = and_parts (not v.last) (is_none v.flying) may in
    (unfinished v.last parts.0, nothing v.flying parts.1)
  where
    unfinished : (b : Bool) → not b ≡ true → b ≡ false
    unfinished true h = absurd (true≢false (sym h))
    unfinished false h = refl

    nothing : (o : Option (List StampedEntry)) → is_none o ≡ true → unwrap_or o [] ≡ []
    nothing None h = refl
    nothing (Some es) h = absurd (true≢false (sym h))

-- a transfer that may be sent a chunk, where it is to have this provider: it has that one, goes on behind the last key sent, and
-- is faithful with nothing in flight, where with the first chunk the receiver's copies go
pub record IsReady (stores : Stores) (r s provider : ℕ) (o : Option Transfer) (v : Transfer) : Type 0 where
  pub provided : v.provider ≡ provider
  pub behind : v.sent ≡ sent_of o
  pub faithful : (j : List ℕ) → IsFaithful (set_of.contains v.touched j) (comes_after v.provider v.sent j) v.last None (cond (is_some o || false) (copy_at stores.copying.cells r s j) None) (copy_at stores.copying.cells v.provider s j)

-- such a transfer is ready to be sent a chunk
ready : (stores : Stores) (r s provider : ℕ) (o : Option Transfer) → transfer_to stores.copying.transfers r s ≡ o → set_of.contains stores.nodes provider ≡ true → goes_on o provider ≡ true → may_send o ≡ true → AreFaithful stores
    → IsReady stores r s provider o (begun o provider)
ready stores r s provider None e there goes may kept = record {
  provided = refl;
  behind = refl;
  faithful = λ j. by_other_words _ _ _ _ _ _ _ _ _ _ (set_of.contains-empty key_cmp j) refl refl refl (faithful_start None (copy_at stores.copying.cells provider s j) refl);
}
ready stores r s provider (Some v) e there goes may kept =
    let calm = quiet v may in
    let unended : has_ended v ≡ false = ap (λ b. b && is_none v.flying) calm.0 in
    let own : v.provider ≡ provider = same v.provider provider (ap (λ b. b || (v.provider == provider)) (sym unended) ∙ goes) in
    record {
      provided = own;
      behind = refl;
      faithful = λ j.
          by_other_words _ _ _ _ _ _ _ _ _ _ refl (sym (ap (λ es. stamped_in es j) calm.1)) refl refl
          (kept.faithful r s v e (ap (set_of.contains stores.nodes) own ∙ there) j);
    }

-- what is there stays where it is another place
stays : (b c : Bool) (o : Option Stamped) → c ≡ false → cond (b || not c) o None ≡ o
stays true c o h = refl
stays false c o h = ap (λ x. cond (not x) o None) h

module _ (stores : Stores) (r s provider most : ℕ) (differ : (r == provider) ≡ false) (provides : ProvidesNone stores.copying.transfers r s)
    (none : transfer_to stores.copying.transfers provider s ≡ None) (kept : AreFaithful stores)
    (found : IsReady stores r s provider (transfer_to stores.copying.transfers r s) (begun (transfer_to stores.copying.transfers r s) provider)) where
  -- what is copied before the chunk is sent
  abbrev p : Copying
  p = stores.copying

  -- the chunk that is sent
  abbrev chunk : Portion StampedEntry
  chunk = chunk_of p r s provider most

  -- what is copied after it
  abbrev after : Copying
  after = sends r s provider chunk p

  -- the transfer, begun or going on
  abbrev going : Transfer
  going = begun (transfer_to p.transfers r s) provider

  -- whether a place is that of the transfer
  abbrev is_it : ℕ → ℕ → Bool
  is_it q t = (q == r) && (t == s)

  -- the transfer of which the chunk is sent, and the others
  it : (q t : ℕ) (w : Transfer) → is_it q t ≡ true → transfer_to after.transfers q t ≡ Some w → w ≡ with_chunk chunk going
  it q t w here is = one_of (is_it q t) (with_chunk chunk going) w (transfer_to p.transfers q t) here (sym (transfer-sends r s provider chunk p q t) ∙ is)

  -- another transfer that is there was there
  another : (q t : ℕ) (w : Transfer) → is_it q t ≡ false → transfer_to after.transfers q t ≡ Some w → transfer_to p.transfers q t ≡ Some w
  another q t w other is = ap (λ b. cond b (Some (with_chunk chunk going)) (transfer_to p.transfers q t)) (sym other) ∙ sym (transfer-sends r s provider chunk p q t) ∙ is

  -- what is sent is the next chunk behind the last key sent
  sent_chunk : IsChunk p.cells going.provider s going.sent chunk
  sent_chunk =
      subst (λ n. IsChunk p.cells n s going.sent chunk) (sym found.provided)
      (subst (λ o. IsChunk p.cells provider s o chunk) (sym found.behind) (next_is_chunk p.cells provider s (sent_of (transfer_to p.transfers r s)) most))

  -- the provider isn't the receiver
  turned : (going.provider == r) ≡ false
  turned = ap (λ n. n == r) found.provided ∙ flip provider r ∙ differ

  -- the transfer with the chunk is faithful
  sent_faithful : (j : List ℕ) → IsFaithfulAt after.cells r s (with_chunk chunk going) j (copy_at after.cells going.provider s j)
  sent_faithful j =
      let itself : (not ((r == r) && (s == s))) ≡ false = ap (λ b. not b) (λ i. eq-eqb r r refl i && eq-eqb s s refl i) in
      by_other_words _ _ _ _ _ _ _ _ _ _ refl refl
      (copy-sends r s provider chunk p r s j ∙ ap (λ b. cond (is_some (transfer_to p.transfers r s) || b) (copy_at p.cells r s j) None) itself)
      (copy-sends r s provider chunk p going.provider s j
      ∙ stays (is_some (transfer_to p.transfers r s)) ((going.provider == r) && (s == s)) (copy_at p.cells going.provider s j) (ap (λ b. b && (s == s)) turned))
      (faithful_copy (set_of.contains going.touched j) (comes_after going.provider going.sent j) (comes_after going.provider (last_sent chunk.entries going.sent) j) going.last chunk.last
      (stamped_in chunk.entries j) (cond (is_some (transfer_to p.transfers r s) || false) (copy_at p.cells r s j) None) (copy_at p.cells going.provider s j)
      (found.faithful j) (sent_chunk.given j) (sent_chunk.further j) (λ last ahead. sent_chunk.whole last j ahead))

  -- so all transfers stay faithful
  chunk_stays : AreFaithful (record stores { copying = after })
  chunk_stays = record {
    faithful = λ q t w is held j. elim (cases_Bool (is_it q t)) [
      | inl here ↦
          let places = and_parts (q == r) (t == s) here in
          subst (λ (x : ℕ × ℕ). IsFaithfulAt after.cells x.0 x.1 w j (copy_at after.cells w.provider x.1 j)) (λ i. (sym (same q r places.0) i, sym (same t s places.1) i))
          (subst (λ (x : Transfer). IsFaithfulAt after.cells r s x j (copy_at after.cells x.provider s j)) (sym (it q t w here is)) (sent_faithful j))
      | inr other ↦
          let was = another q t w other is in
          by_other_words _ _ _ _ _ _ _ _ _ _ refl refl
          (copy-sends r s provider chunk p q t j ∙ stays (is_some (transfer_to p.transfers r s)) ((q == r) && (t == s)) (copy_at p.cells q t j) other)
          (copy-sends r s provider chunk p w.provider t j
          ∙ stays (is_some (transfer_to p.transfers r s)) ((w.provider == r) && (t == s)) (copy_at p.cells w.provider t j)
          (not_both (w.provider == r) (t == s) (λ h. provides q w (ap (transfer_to p.transfers q) (sym (same t s h)) ∙ was))))
          (kept.faithful q t w was held j)
    ];
    once = λ q t w is. elim (cases_Bool (is_it q t)) [
      | inl here ↦ ap (λ (x : Transfer). has_each_once (flying_of x)) (it q t w here is) ∙ sent_chunk.once
      | inr other ↦ kept.once q t w (another q t w other is)
    ];
    apart = λ a b t v w is other. elim (cases_Bool (is_it b t)) [
      | inl here ↦
          let places = and_parts (b == r) (t == s) here in
          let provided : w.provider ≡ provider = ap (λ (x : Transfer). x.provider) (it b t w here other) ∙ found.provided in
          elim (cases_Bool (is_it a t)) [
            | inl also ↦ ap (λ n. n == a) provided ∙ ap (λ n. provider == n) (same a r (and_parts (a == r) (t == s) also).0) ∙ flip provider r ∙ differ
            | inr before ↦ elim (cases_Bool (w.provider == a)) [
              | inl e ↦ absurd (none-some v (sym none ∙ (λ i. transfer_to p.transfers ((sym provided ∙ same w.provider a e) i) (sym (same t s places.1) i)) ∙ another a t v before is))
              | inr e ↦ e
            ]
          ]
      | inr before ↦
          let was = another b t w before other in
          elim (cases_Bool (is_it a t)) [
            | inl also ↦
                let places = and_parts (a == r) (t == s) also in
                ap (λ n. w.provider == n) (same a r places.0) ∙ provides b w (ap (transfer_to p.transfers b) (sym (same t s places.1)) ∙ was)
            | inr apart ↦ kept.apart a b t v w (another a t v apart is) was
          ]
    ];
  }

-- a chunk that is sent leaves all transfers faithful
pub chunks_stay : words.ChunksStayFaithful
chunks_stay stores r s provider most there differ goes provides none may kept =
    chunk_stays stores r s provider most differ provides none kept (ready stores r s provider (transfer_to stores.copying.transfers r s) refl there goes may kept)

-- ---- landings

-- no cell changes where no transfer is
cells-unlanded : (r s : ℕ) (p : Copying) → transfer_to p.transfers r s ≡ None → (lands r s p).cells ≡ p.cells
unfolding lands
cells-unlanded r s p absent = ap (λ o. landed r s o p.cells) absent

-- nothing lands where no transfer is
unlanded : (stores : Stores) (r s : ℕ) → transfer_to stores.copying.transfers r s ≡ None → AreFaithful stores → AreFaithful (record stores { copying = lands r s stores.copying })
unlanded stores r s absent kept =
    let p = stores.copying in
    let was : (q t : ℕ) (w : Transfer) → transfer_to (lands r s p).transfers q t ≡ Some w → transfer_to p.transfers q t ≡ Some w =
    λ q t w is.
    let found = mapped_some (transfer_to p.transfers q t) w (sym (transfer-lands r s p q t) ∙ is) in
    let elsewhere : ((q == r) && (t == s)) ≡ false = elim (cases_Bool ((q == r) && (t == s))) [
      | inl here ↦
          let places = and_parts (q == r) (t == s) here in
          absurd (none-some found.0 (sym absent ∙ (λ i. transfer_to p.transfers (sym (same q r places.0) i) (sym (same t s places.1) i)) ∙ found.1))
      | inr other ↦ other
    ] in
    found.1 ∙ ap Some ((λ i. record found.0 { flying = cond (sym elsewhere i) None found.0.flying }) ∙ sym found.2) in
    let cells : (q t : ℕ) (j : List ℕ) → copy_at (lands r s p).cells q t j ≡ copy_at p.cells q t j = λ q t j. ap (λ (m : Cells). copy_at m q t j) (cells-unlanded r s p absent) in
    fewer stores (record stores { copying = lands r s p }) kept was (λ q t w is there. (there, ((λ j. cells q t j), (λ j. cells w.provider t j))))

module _ (stores : Stores) (r s : ℕ) (v0 : Transfer) (here : transfer_to stores.copying.transfers r s ≡ Some v0) (kept : AreFaithful stores) where
  -- what is copied before the landing
  abbrev from : Copying
  from = stores.copying

  -- what is copied after it
  abbrev done : Copying
  done = lands r s from

  -- a transfer after the landing is one before it, with what flew there gone
  emptied_from : (q t : ℕ) (w : Transfer) → transfer_to done.transfers q t ≡ Some w → (v : Transfer) × (transfer_to from.transfers q t ≡ Some v) × (w ≡ emptied r s q t v)
  emptied_from q t w is = mapped_some (transfer_to from.transfers q t) w (sym (transfer-lands r s from q t) ∙ is)

  -- two tests of equal numbers, the first one turned
  turned_test : (a b c d : ℕ) → ((a == b) && (c == d)) ≡ ((b == a) && (c == d))
  turned_test a b c d = ap (λ x. x && (c == d)) (flip a b)

  -- at any other place the landing moves nothing
  unmoved : (n t : ℕ) (j : List ℕ) → ((r == n) && (t == s)) ≡ false → copy_at done.cells n t j ≡ copy_at from.cells n t j
  unmoved n t j other = copy-lands r s v0 from here n t j ∙ ap (λ b. cond (b && not (set_of.contains v0.touched j)) (either (stamped_in (flying_of v0) j) (copy_at from.cells n t j)) (copy_at from.cells n t j)) other

  -- the transfer that lands is faithful with nothing in flight
  landed_faithful : (j : List ℕ) → set_of.contains stores.nodes v0.provider ≡ true → IsFaithful (set_of.contains v0.touched j) (comes_after v0.provider v0.sent j) v0.last None (copy_at done.cells r s j) (copy_at done.cells v0.provider s j)
  landed_faithful j held =
      let itself : ((r == r) && (s == s)) ≡ true = λ i. eq-eqb r r refl i && eq-eqb s s refl i in
      by_other_words _ _ _ _ _ _ _ _ _ _ refl refl
      (copy-lands r s v0 from here r s j ∙ ap (λ b. cond (b && not (set_of.contains v0.touched j)) (either (stamped_in (flying_of v0) j) (copy_at from.cells r s j)) (copy_at from.cells r s j)) itself)
      (unmoved v0.provider s j (turned_test r v0.provider s s ∙ ap (λ b. b && (s == s)) (kept.apart r r s v0 v0 here here)))
      (faithful_land (set_of.contains v0.touched j) (comes_after v0.provider v0.sent j) v0.last (stamped_in (flying_of v0) j) (copy_at from.cells r s j) (copy_at from.cells v0.provider s j) (kept.faithful r s v0 here held j))

  -- so all transfers stay faithful
  landing_stays : AreFaithful (record stores { copying = done })
  landing_stays = record {
    faithful = λ q t w is held j.
        let found = emptied_from q t w is in
        let v = found.0 in
        let provided : set_of.contains stores.nodes v.provider ≡ true = ap (λ (x : Transfer). set_of.contains stores.nodes x.provider) (sym found.2) ∙ held in
        subst (λ (x : Transfer). IsFaithfulAt done.cells q t x j (copy_at done.cells x.provider t j)) (sym found.2)
        (elim (cases_Bool ((q == r) && (t == s))) [
          | inl it ↦
              let places = and_parts (q == r) (t == s) it in
              let alike : v ≡ v0 = ap (λ o. unwrap_or o v) (sym found.1 ∙ (λ i. transfer_to from.transfers (same q r places.0 i) (same t s places.1 i)) ∙ here) in
              by_other_words _ _ _ _ _ _ _ _ _ _ refl (ap (λ b. stamped_in (unwrap_or (cond b None v.flying) []) j) it)
              (λ i. copy_at done.cells (same q r places.0 i) (same t s places.1 i) j) (λ i. copy_at done.cells v.provider (same t s places.1 i) j)
              (subst (λ (x : Transfer). IsFaithful (set_of.contains x.touched j) (comes_after x.provider x.sent j) x.last None (copy_at done.cells r s j) (copy_at done.cells x.provider s j)) (sym alike)
              (landed_faithful j (ap (λ (x : Transfer). set_of.contains stores.nodes x.provider) (sym alike) ∙ provided)))
          | inr other ↦
              by_other_words _ _ _ _ _ _ _ _ _ _ refl (ap (λ b. stamped_in (unwrap_or (cond b None v.flying) []) j) other)
              (unmoved q t j (turned_test r q t s ∙ other))
              (unmoved v.provider t j (turned_test r v.provider t s ∙ not_both (v.provider == r) (t == s) (λ h. kept.apart r q s v0 v here (ap (transfer_to from.transfers q) (sym (same t s h)) ∙ found.1))))
              (kept.faithful q t v found.1 provided j)
        ]);
    once = λ q t w is.
        let found = emptied_from q t w is in
        ap (λ (x : Transfer). has_each_once (flying_of x)) found.2 ∙ emptied_once ((q == r) && (t == s)) found.0.flying (kept.once q t found.0 found.1);
    apart = λ a b t v w is other.
        let one = emptied_from a t v is in
        let two = emptied_from b t w other in
        ap (λ (x : Transfer). x.provider == a) two.2 ∙ kept.apart a b t one.0 two.0 one.1 two.1;
  }
    where
      emptied_once : (b : Bool) (o : Option (List StampedEntry)) → has_each_once (unwrap_or o []) ≡ true → has_each_once (unwrap_or (cond b None o) []) ≡ true
      emptied_once true o h = refl
      emptied_once false o h = h

-- a landing leaves all transfers faithful
pub landings_stay : words.LandingsStayFaithful
landings_stay stores r s kept = by_case (transfer_to stores.copying.transfers r s) refl
  where
    by_case : (o : Option Transfer) → transfer_to stores.copying.transfers r s ≡ o → AreFaithful (record stores { copying = lands r s stores.copying })
    by_case None e = unlanded stores r s e kept
    by_case (Some v) e = landing_stays stores r s v e kept
