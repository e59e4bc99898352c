-- A segment without a live holder stays empty, by each kind of event.
use Rattle.std.proofs.Common.{◌≡◌, ℕ, ◌==◌, Bool, true, false, cond, not, ◌&&◌, ◌||◌, List, Option, Some, None, is_some, refl, sym, ap, ◌∙◌, inl, inr}
use Rattle.std.proofs.lemmas.Bool.{and_parts, and_from, or_right, true≢false, false_from_ne_true, not_from_false, cases_Bool}
use Rattle.std.specs.FinSet as set_of
use Rattle.std.specs.List.{list_any}
use Rattle.std.specs.Ordering.{eq_by_cmp}
use Rattle.std.specs.Option.{option_map}
use Rattle.container_seg.specs.Lifespans.{left}
use Rattle.container_seg.specs.Places.{key_cmp}
use Rattle.grid_base.specs.Portion.{Portion}
use Rattle.grid_base.specs.declared.stamped.Stamped.{Stamped}
use Rattle.grid_base.specs.declared.stamped_entry.StampedEntry.{StampedEntry}
use Rattle.state_transfer.specs.Changes.{changes, marks, ticks}
use Rattle.state_transfer.specs.Chunks.{begun, lands, sends, with_chunk}
use Rattle.state_transfer.specs.Copying.{Copying, Transfer, copy_at, transfer_to}
use Rattle.state_transfer.specs.Leaving.{cancels, closes, drops, forgets, outlives, restarts}
use Rattle.state_transfer.proofs.LeavingLaws.{cells-closes, copy-departs, copy-drops, remains, transfer-closes, transfer-departs, transfer-drops}
use Rattle.state_transfer.specs.Faithful.{flying_of, stamped_in}
use Rattle.state_transfer.proofs.CellLaws.{either}
use Rattle.state_transfer.proofs.StepLaws.{copy-changes, copy-lands, copy-sends, copy-ticks, emptied, thinned, transfer-changes, transfer-lands, transfer-sends, transfer-ticks}
use Rattle.topology_coord.specs.Changes.{announces, departs, installs, joins}
use Rattle.topology_coord.specs.Coordination.{Coordination, live_of, lives, loses, some_live, topology_of}
use Rattle.topology_coord.proofs.MemberLaws.{lives-departs, lives-installs, lives-joins}
use Rattle.topology_phase.specs.Laws.{Follows}
use Rattle.topology_phase.specs.Owners.{among}
use Rattle.topology_phase.specs.Topologies.{Topology, holders, read_owners, write_owners}
use Rattle.cluster_model.specs.Kept.{HasNothing, KeepsEmpty, KeepsTopologies}
use Rattle.cluster_model.specs.Told.{Contents}
use Rattle.cluster_laws.proofs.copies.ContentSteps.{changed_contents, lost_contents, ticked_contents}
use Rattle.cluster_laws.proofs.copies.Facts.{apart_from, held_where_read, transfer_held, wider}

-- ---- what leaves an empty segment empty

-- nothing is put at another place, with two further tests
elsewhere : (a b c : Bool) (o x : Option Stamped) → b ≡ false → x ≡ None → cond (a && (b && c)) o x ≡ None
elsewhere true true c o x other none = absurd (true≢false other)
elsewhere true false c o x other none = none
elsewhere false b c o x other none = none

-- nothing is put at another place
elsewhere_set : (b c : Bool) (o x : Option Stamped) → b ≡ false → x ≡ None → cond (b && c) o x ≡ None
elsewhere_set true c o x other none = absurd (true≢false other)
elsewhere_set false c o x other none = none

-- where nothing was, nothing is kept
none_kept : {A : Type 0} (b : Bool) (o : Option A) → o ≡ None → cond b o None ≡ None
none_kept true o e = e
none_kept false o e = refl

-- where nothing was, nothing is after a loss
none_lost : {A : Type 0} (b : Bool) (o : Option A) → o ≡ None → cond b None o ≡ None
none_lost true o e = refl
none_lost false o e = e

-- a write or an erasure in another segment
changed_nothing : (nodes : List ℕ) (s : ℕ) (k : List ℕ) (o : Option Stamped) (p : Copying) (m : Contents) (t : ℕ) → (t == s) ≡ false → HasNothing p m t
    → HasNothing (changes nodes s k o p) (changed_contents s k o m) t
changed_nothing nodes s k o p m t other h = record {
  no_entry = λ j. elsewhere_set (t == s) (eq_by_cmp key_cmp j k) o (m t j) other (h.no_entry j);
  no_copy = λ q j. copy-changes nodes s k o p q t j ∙ elsewhere (among q nodes) (t == s) (eq_by_cmp key_cmp j k) o (copy_at p.cells q t j) other (h.no_copy q j);
  no_transfer = λ r. transfer-changes nodes s k o p r t ∙ ap (option_map (marks nodes s k (record { receiver = r; segment = t }))) (h.no_transfer r);
}

-- the departure of a node
departed_nothing : (node : ℕ) (lost : ℕ → Bool) (p : Copying) (m : Contents) (t : ℕ) → HasNothing p m t
    → HasNothing (drops node (λ _. true) (forgets lost (restarts node (cancels node p)))) (lost_contents lost m) t
departed_nothing node lost p m t h = record {
  no_entry = λ j. none_lost (lost t) (m t j) (h.no_entry j);
  no_copy = λ q j. copy-departs node lost p q t j ∙ none_kept (not (q == node) && not (lost t)) (copy_at p.cells q t j) (h.no_copy q j);
  no_transfer = λ r. transfer-departs node lost p r t ∙ none_kept (not (lost t)) (remains node r (transfer_to p.transfers r t)) (ap (remains node r) (h.no_transfer r) ∙ nothing_remains node (not (r == node)));
}
  where
    nothing_remains : (n : ℕ) (b : Bool) → cond (outlives n (cond b None None)) (cond {A = Option Transfer} b None None) None ≡ None
    nothing_remains n true = refl
    nothing_remains n false = refl

-- a departure that loses the segment
lost_nothing : (node : ℕ) (lost : ℕ → Bool) (p : Copying) (m : Contents) (t : ℕ) → lost t ≡ true
    → HasNothing (drops node (λ _. true) (forgets lost (restarts node (cancels node p)))) (lost_contents lost m) t
lost_nothing node lost p m t gone = record {
  no_entry = λ j. ap (λ b. cond b None (m t j)) gone;
  no_copy = λ q j. copy-departs node lost p q t j ∙ ap (λ b. cond (not (q == node) && not b) (copy_at p.cells q t j) None) gone ∙ never (not (q == node)) (copy_at p.cells q t j);
  no_transfer = λ r. transfer-departs node lost p r t ∙ ap (λ b. cond (not b) (remains node r (transfer_to p.transfers r t)) None) gone;
}
  where
    never : (b : Bool) (o : Option Stamped) → cond (b && false) o None ≡ None
    never true o = refl
    never false o = refl

-- all transfers go, or none
closed_nothing : (stays : Bool) (p : Copying) (m : Contents) (t : ℕ) → HasNothing p m t → HasNothing (cond stays p (closes p)) m t
closed_nothing true p m t h = h
closed_nothing false p m t h = record {
  no_entry = h.no_entry;
  no_copy = λ q j. ap (λ cells. copy_at cells q t j) (cells-closes p) ∙ h.no_copy q j;
  no_transfer = λ r. transfer-closes p r t;
}

-- a node drops its copies of some segments
dropped_nothing : (node : ℕ) (test : ℕ → Bool) (p : Copying) (m : Contents) (t : ℕ) → HasNothing p m t → HasNothing (drops node test p) m t
dropped_nothing node test p m t h = record {
  no_entry = h.no_entry;
  no_copy = λ q j. copy-drops node test p q t j ∙ none_kept (not ((q == node) && test t)) (copy_at p.cells q t j) (h.no_copy q j);
  no_transfer = λ r. ap (λ ts. transfer_to ts r t) (transfer-drops node test p) ∙ h.no_transfer r;
}

-- a chunk of another segment is sent
sent_nothing : (r s q : ℕ) (chunk : Portion StampedEntry) (p : Copying) (m : Contents) (t : ℕ) → (t == s) ≡ false → HasNothing p m t → HasNothing (sends r s q chunk p) m t
sent_nothing r s q chunk p m t other h = record {
  no_entry = h.no_entry;
  no_copy = λ n j.
      copy-sends r s q chunk p n t j
      ∙ none_kept (is_some (transfer_to p.transfers r s) || not ((n == r) && (t == s))) (copy_at p.cells n t j) (h.no_copy n j);
  no_transfer = λ n.
      transfer-sends r s q chunk p n t
      ∙ away (n == r) (t == s) (Some (with_chunk chunk (begun (transfer_to p.transfers r s) q))) (transfer_to p.transfers n t) other (h.no_transfer n);
}
  where
    away : (a b : Bool) (o x : Option Transfer) → b ≡ false → x ≡ None → cond (a && b) o x ≡ None
    away true true o x other none = absurd (true≢false other)
    away true false o x other none = none
    away false b o x other none = none

-- a chunk of another segment lands
landed_nothing : (r s : ℕ) (v : Transfer) (p : Copying) (m : Contents) (t : ℕ) → transfer_to p.transfers r s ≡ Some v → (t == s) ≡ false → HasNothing p m t → HasNothing (lands r s p) m t
landed_nothing r s v p m t is other h = record {
  no_entry = h.no_entry;
  no_copy = λ n j.
      copy-lands r s v p is n t j
      ∙ away (r == n) (t == s) (set_of.contains v.touched j) (either (stamped_in (flying_of v) j) (copy_at p.cells n t j)) (copy_at p.cells n t j) other (h.no_copy n j);
  no_transfer = λ n. transfer-lands r s p n t ∙ ap (option_map (emptied r s n t)) (h.no_transfer n);
}
  where
    away : (a b c : Bool) (o x : Option Stamped) → b ≡ false → x ≡ None → cond ((a && b) && not c) o x ≡ None
    away a true c o x other none = absurd (true≢false other)
    away true false c o x other none = none
    away false false c o x other none = none

-- the clock goes on
ticked_nothing : (clock : ℕ) (p : Copying) (m : Contents) (t : ℕ) → HasNothing p m t → HasNothing (ticks clock p) (ticked_contents clock m) t
ticked_nothing clock p m t h = record {
  no_entry = λ j. ap (left clock) (h.no_entry j);
  no_copy = λ n j. copy-ticks clock p n t j ∙ ap (left clock) (h.no_copy n j);
  no_transfer = λ n. transfer-ticks clock p n t ∙ ap (option_map (thinned clock)) (h.no_transfer n);
}

-- ---- segments without a live holder

-- where no node of a list passes the wider test, none passes the narrower one
none_wider : (p q : ℕ → Bool) (xs : List ℕ) → ((n : ℕ) → p n ≡ true → q n ≡ true) → list_any q xs ≡ false → list_any p xs ≡ false
none_wider p q xs keeps none = false_from_ne_true (list_any p xs) (λ h. true≢false (sym (wider p q xs keeps h) ∙ none))

module _ (c : Coordination) (p : Copying) (m : Contents) (h : KeepsEmpty c p m) where
  -- a segment that is written has a live reader, and so a live holder
  pub changed_empty : (segments : ℕ) → KeepsTopologies segments c → (n s : ℕ) (k : List ℕ) (o : Option Stamped) → some_live c (read_owners (topology_of c n) s) ≡ true
      → KeepsEmpty c (changes (live_of c (write_owners (topology_of c n) s)) s k o p) (changed_contents s k o m)
  changed_empty segments topologies n s k o reads t none =
      changed_nothing (live_of c (write_owners (topology_of c n) s)) s k o p m t (apart_from c t s none (held_where_read segments c topologies n s reads)) (h t none)

  -- who lived before a join lives
  pub joined_empty : (q : ℕ) → KeepsEmpty (joins c q) p m
  unfolding joins
  joined_empty q t none = h t (none_wider (lives c) (lives (joins c q)) (holders c.newest t) (λ n l. lives-joins c q n ∙ or_right (n == q) (lives c n) l) none)

  -- a segment that has no live holder after a departure is lost by it, or had none
  pub departed_empty : (q : ℕ) → KeepsEmpty (departs c q) (drops q (λ _. true) (forgets (loses c q) (restarts q (cancels q p)))) (lost_contents (loses c q) m)
  unfolding departs loses
  departed_empty q t none =
      let no_other : list_any (λ n. lives c n && not (n == q)) (holders c.newest t) ≡ false =
      none_wider (λ n. lives c n && not (n == q)) (lives (departs c q)) (holders c.newest t)
      (λ n l. (let both = and_parts (lives c n) (not (n == q)) l in lives-departs c q n ∙ and_from (not (n == q)) (lives c n) both.1 both.0)) none in
      elim (cases_Bool (some_live c (holders c.newest t))) [
        | inl held ↦ lost_nothing q (loses c q) p m t (and_from (some_live c (holders c.newest t)) (not (list_any (λ n. lives c n && not (n == q)) (holders c.newest t))) held (not_from_false (list_any (λ n. lives c n && not (n == q)) (holders c.newest t)) no_other))
        | inr no_holder ↦ departed_nothing q (loses c q) p m t (h t no_holder)
      ]

  -- a segment with a live holder has one by the next topology too
  pub announced_empty : (next : Topology) (stays : Bool) → Follows c.newest next (lives c) → KeepsEmpty (announces c next) (cond stays p (closes p)) m
  unfolding announces
  announced_empty next stays follows t none =
      closed_nothing stays p m t (h t (false_from_ne_true (some_live c (holders c.newest t)) (λ held. true≢false (sym (follows.still_held t held) ∙ none))))

  -- who lived before an installation lives
  pub installed_empty : (q : ℕ) (test : ℕ → Bool) → KeepsEmpty (installs c q) (drops q test p) m
  unfolding installs
  installed_empty q test t none =
      dropped_nothing q test p m t (h t (none_wider (lives c) (lives (installs c q)) (holders c.newest t) (λ n l. lives-installs c q n ∙ or_right (n == q) (lives c n) l) none))

  -- a segment that is copied has a live holder
  pub copied_empty : (r s q : ℕ) (chunk : Portion StampedEntry) → some_live c (holders c.newest s) ≡ true → KeepsEmpty c (sends r s q chunk p) m
  copied_empty r s q chunk held t none = sent_nothing r s q chunk p m t (apart_from c t s none held) (h t none)

  -- a segment of which a chunk lands has a live holder
  pub landed_empty : (r s : ℕ) (v : Transfer) → transfer_to p.transfers r s ≡ Some v → KeepsEmpty c (lands r s p) m
  landed_empty r s v is t none = landed_nothing r s v p m t is (apart_from c t s none (transfer_held c p m r s v h is)) (h t none)

  -- a tick adds nothing
  pub ticked_empty : (clock : ℕ) → KeepsEmpty c (ticks clock p) (ticked_contents clock m)
  ticked_empty clock t none = ticked_nothing clock p m t (h t none)
