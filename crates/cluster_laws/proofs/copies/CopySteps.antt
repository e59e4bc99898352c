-- Each live holder keeps exactly the map's part, by each kind of event.
use Rattle.std.proofs.Common.{◌≡◌, ℕ, ◌==◌, Bool, true, false, cond, not, ◌&&◌, ◌||◌, List, [], unwrap_or, Option, Some, None, is_none, is_some, refl, sym, ap, ◌∙◌, inl, inr}
use Rattle.std.proofs.lemmas.Bool.{and_parts, and_from, eqb-true, or_cases, true≢false, not_from_false}
use Rattle.std.specs.FinSet as set_of
use Rattle.std.specs.List.{list_any}
use Rattle.std.specs.Ordering.{eq_by_cmp}
use Rattle.container_seg.specs.Lifespans.{left}
use Rattle.container_seg.specs.Places.{key_cmp}
use Rattle.container_seg.specs.Scans.{comes_after}
use Rattle.grid_base.specs.Portion.{Portion}
use Rattle.grid_base.specs.declared.stamped.Stamped.{Stamped}
use Rattle.grid_base.specs.declared.stamped_entry.StampedEntry.{StampedEntry}
use Rattle.state_transfer.specs.Changes.{changes, ticks}
use Rattle.state_transfer.specs.Chunks.{lands, sends}
use Rattle.state_transfer.specs.Copying.{Copying, Transfer, copy_at, has_ended, transfer_to}
use Rattle.state_transfer.specs.Faithful.{IsFaithful, flying_of, stamped_in}
use Rattle.state_transfer.specs.Leaving.{cancels, closes, drops, forgets, restarts}
use Rattle.state_transfer.proofs.CellLaws.{either}
use Rattle.state_transfer.proofs.FaithfulLaws.{faithful_ended}
use Rattle.state_transfer.proofs.LeavingLaws.{cells-closes, copy-departs, copy-drops}
use Rattle.state_transfer.proofs.StepLaws.{copy-changes, copy-lands, copy-sends, copy-ticks}
use Rattle.topology_coord.specs.Changes.{announces, departs, installs, joins}
use Rattle.topology_coord.specs.Coordination.{Coordination, live_of, lives, loses, some_live, topology_of}
use Rattle.topology_coord.proofs.MemberLaws.{lives-departs, lives-installs, lives-joins}
use Rattle.topology_phase.specs.Laws.{Follows}
use Rattle.topology_phase.specs.Owners.{among, owners_at}
use Rattle.topology_phase.specs.Topologies.{Topology, holders, read_owners, write_owners}
use Rattle.topology_phase.specs.declared.phase.Phase.TheVariants.{ReadOld, ReadAll}
use Rattle.topology_phase.proofs.Mending.{any_of}
use Rattle.topology_phase.proofs.Tables.{held_is_named, held_is_written}
use Rattle.cluster_model.specs.Kept.{IsComplete, KeepsCopies, KeepsEmpty, KeepsTopologies, KeepsTransfers, Receives}
use Rattle.cluster_model.specs.Told.{Contents}
use Rattle.cluster_laws.proofs.copies.ContentSteps.{changed_contents, lost_contents, ticked_contents}
use Rattle.cluster_laws.proofs.copies.Facts.{among-writers, receiver_not_held, written_by}

-- a node that is written where the segment is changed has what the map has
changed_alike : (w b c : Bool) (o a x : Option Stamped) → (b ≡ true → w ≡ true) → a ≡ x → cond (w && (b && c)) o a ≡ cond (b && c) o x
changed_alike true b c o a x written same = ap (λ z. cond (b && c) o z) same
changed_alike false true c o a x written same = absurd (true≢false (sym (written refl)))
changed_alike false false c o a x written same = same

-- a transfer that has ended has sent its last chunk, and nothing of it flies
ended_parts : (v : Transfer) → has_ended v ≡ true → (v.last ≡ true) × (v.flying ≡ None)
ended_parts v e = let parts = and_parts v.last (is_none v.flying) e in (parts.0, none_is v.flying parts.1)
  where
    none_is : (o : Option (List StampedEntry)) → is_none o ≡ true → o ≡ None
    none_is None h = refl
    none_is (Some es) h = absurd (cc)

-- where a faithful transfer has ended, the receiver has what the map has at the key
faithful_last : (t p last : Bool) (flying : Option (List StampedEntry)) (k : List ℕ) (a b : Option Stamped) → last ≡ true → flying ≡ None
    → IsFaithful t p last (stamped_in (unwrap_or flying []) k) a b → a ≡ b
faithful_last t p true None k a b e none h = faithful_ended t p a b h
faithful_last t p true (Some es) k a b e none h = absurd (cc)
faithful_last t p false flying k a b e none h = absurd (cc)

-- where a transfer has ended, its receiver has what the map has
pub ended_complete : (c : Coordination) (p : Copying) (m : Contents) (r s : ℕ) (v : Transfer) → KeepsTransfers c p.cells p.transfers m → transfer_to p.transfers r s ≡ Some v → has_ended v ≡ true → IsComplete p.cells m r s
ended_complete c p m r s v h is ended k =
    let parts = ended_parts v ended in
    faithful_last (set_of.contains v.touched k) (comes_after v.provider v.sent k) v.last v.flying k (copy_at p.cells r s k) (m s k) parts.0 parts.1 ((h r s v is).faithful k)

-- what stays here is what it was
stays_here : (b : Bool) (o x : Option Stamped) → b ≡ true → o ≡ x → cond b o None ≡ x
stays_here true o x e same = same
stays_here false o x e same = absurd (cc)

module _ (c : Coordination) (p : Copying) (m : Contents) (h : KeepsCopies c p.cells m) where
  -- each live holder is written
  pub changed_copies : (segments : ℕ) → KeepsTopologies segments c → (n s : ℕ) (k : List ℕ) (o : Option Stamped) → some_live c (read_owners (topology_of c n) s) ≡ true
      → KeepsCopies c (changes (live_of c (write_owners (topology_of c n) s)) s k o p).cells (changed_contents s k o m)
  changed_copies segments topologies n s k o reads q t l held j =
      copy-changes (live_of c (write_owners (topology_of c n) s)) s k o p q t j
      ∙ changed_alike (among q (live_of c (write_owners (topology_of c n) s))) (t == s) (eq_by_cmp key_cmp j k) o (copy_at p.cells q t j) (m t j)
      (λ same.
      among-writers c (topology_of c n) s q
      ∙ and_from (lives c q) (among q (write_owners (topology_of c n) s)) l
      (written_by segments c topologies n s q reads l (ap (λ z. among q (holders c.newest z)) (sym (eqb-true t s same)) ∙ held)))
      (h q t l held j)

  -- a node that joins holds nothing, as no topology names it
  pub joined_copies : (segments : ℕ) → KeepsTopologies segments c → (q : ℕ) → set_of.contains c.ever q ≡ false → KeepsCopies (joins c q) p.cells m
  unfolding joins
  joined_copies segments topologies q absent n t l held = elim (or_cases (n == q) (lives c n) (sym (lives-joins c q n) ∙ l)) [
    | inl same ↦ absurd (true≢false (sym (topologies.named n t (held_is_named c.newest n t held)) ∙ ap (set_of.contains c.ever) (eqb-true n q same) ∙ absent))
    | inr lived ↦ h n t lived held
  ]

  -- a segment that has a live holder after a departure isn't lost by it
  pub departed_copies : (q : ℕ) → KeepsCopies (departs c q) (drops q (λ _. true) (forgets (loses c q) (restarts q (cancels q p)))).cells (lost_contents (loses c q) m)
  unfolding departs loses
  departed_copies q n t l held j =
      let was = and_parts (not (n == q)) (lives c n) (sym (lives-departs c q n) ∙ l) in
      let some : list_any (λ o. lives c o && not (o == q)) (holders c.newest t) ≡ true = any_of (λ o. lives c o && not (o == q)) (holders c.newest t) n (and_from (lives c n) (not (n == q)) was.1 was.0) held in
      let stays : loses c q t ≡ false = not_lost (some_live c (holders c.newest t)) (list_any (λ o. lives c o && not (o == q)) (holders c.newest t)) some in
      copy-departs q (loses c q) p n t j
      ∙ stays_here (not (n == q) && not (loses c q t)) (copy_at p.cells n t j) (m t j) (and_from (not (n == q)) (not (loses c q t)) was.0 (not_from_false (loses c q t) stays)) (h n t was.1 held j)
      ∙ ap (λ b. cond b None (m t j)) (sym stays)
    where
      not_lost : (a b : Bool) → b ≡ true → (a && not b) ≡ false
      not_lost true true e = refl
      not_lost false true e = refl
      not_lost a false e = absurd (cc)

  -- a holder by the next topology was one, or its segment is empty, or it has received the segment
  pub announced_copies : (next : Topology) (stays : Bool) → Follows c.newest next (lives c) → KeepsEmpty c p m → KeepsTransfers c p.cells p.transfers m
      → ((n t : ℕ) → c.newest.phase ≡ ReadOld → next.phase ≡ ReadAll → lives c n ≡ true → among n (owners_at c.newest.pending t) ≡ true → among n (owners_at c.newest.current t) ≡ false
      → (v : Transfer) × (transfer_to p.transfers n t ≡ Some v) × (has_ended v ≡ true))
      → KeepsCopies (announces c next) (cond stays p (closes p)).cells m
  unfolding announces
  announced_copies next stays follows empty transfers over n t l held j =
      same_cells stays
      ∙ elim (follows.held_before n t l held) [
        | inl before ↦ h n t l before j
        | inr other ↦ elim other [
          | inl none ↦ (empty t none).no_copy n j ∙ sym ((empty t none).no_entry j)
          | inr ends ↦ (let x = over n t ends.0.0 ends.0.1 l ends.1.0 ends.1.1 in ended_complete c p m n t x.0 transfers x.1 x.2 j)
        ]
      ]
    where
      same_cells : (b : Bool) → copy_at (cond b p (closes p)).cells n t j ≡ copy_at p.cells n t j
      same_cells true = refl
      same_cells false = ap (λ cells. copy_at cells n t j) (cells-closes p)

  -- a holder is written by the newest topology, and drops nothing of that
  pub installed_copies : (q : ℕ) → lives c q ≡ true → KeepsCopies (installs c q) (drops q (λ segment. not (among q (write_owners c.newest segment))) p).cells m
  unfolding installs
  installed_copies q live n t l held j =
      let lived : lives c n ≡ true = elim (or_cases (n == q) (lives c n) (sym (lives-installs c q n) ∙ l)) [
        | inl same ↦ ap (lives c) (eqb-true n q same) ∙ live
        | inr lived ↦ lived
      ] in
      copy-drops q (λ segment. not (among q (write_owners c.newest segment))) p n t j
      ∙ stays_here (not ((n == q) && not (among q (write_owners c.newest t)))) (copy_at p.cells n t j) (m t j)
      (kept (n == q) (among q (write_owners c.newest t)) (λ same. ap (λ x. among x (write_owners c.newest t)) (sym (eqb-true n q same)) ∙ held_is_written c.newest n t held))
      (h n t lived held j)
    where
      kept : (a b : Bool) → (a ≡ true → b ≡ true) → not (a && not b) ≡ true
      kept true true f = refl
      kept true false f = absurd (true≢false (sym (f refl)))
      kept false b f = refl

  -- a receiver is no holder
  pub copied_copies : (r s q : ℕ) (chunk : Portion StampedEntry) → Receives c.newest r s → KeepsCopies c (sends r s q chunk p).cells m
  copied_copies r s q chunk receives n t l held j =
      copy-sends r s q chunk p n t j
      ∙ stays_here (is_some (transfer_to p.transfers r s) || not ((n == r) && (t == s))) (copy_at p.cells n t j) (m t j)
      (away (is_some (transfer_to p.transfers r s)) ((n == r) && (t == s)) (λ both.
      let parts = and_parts (n == r) (t == s) both in
      receiver_not_held c.newest r s receives ((λ i. among (sym (eqb-true n r parts.0) i) (holders c.newest (sym (eqb-true t s parts.1) i))) ∙ held)))
      (h n t l held j)
    where
      away : (a b : Bool) → (b ≡ true → ⊥) → (a || not b) ≡ true
      away true b f = refl
      away false true f = absurd (f refl)
      away false false f = refl

  -- nor is the receiver of a chunk that lands
  pub landed_copies : (r s : ℕ) (v : Transfer) → transfer_to p.transfers r s ≡ Some v → Receives c.newest r s → KeepsCopies c (lands r s p).cells m
  landed_copies r s v is receives n t l held j =
      copy-lands r s v p is n t j
      ∙ away ((r == n) && (t == s)) (set_of.contains v.touched j) (either (stamped_in (flying_of v) j) (copy_at p.cells n t j)) (copy_at p.cells n t j) (λ both.
      let parts = and_parts (r == n) (t == s) both in
      receiver_not_held c.newest r s receives ((λ i. among (eqb-true r n parts.0 i) (holders c.newest (sym (eqb-true t s parts.1) i))) ∙ held))
      ∙ h n t l held j
    where
      away : (a b : Bool) (x y : Option Stamped) → (a ≡ true → ⊥) → cond (a && not b) x y ≡ y
      away true b x y f = absurd (f refl)
      away false b x y f = refl

  -- what has expired is gone from both
  pub ticked_copies : (clock : ℕ) → KeepsCopies c (ticks clock p).cells (ticked_contents clock m)
  ticked_copies clock n t l held j = copy-ticks clock p n t j ∙ ap (left clock) (h n t l held j)
