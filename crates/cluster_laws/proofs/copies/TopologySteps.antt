-- Topologies are kept by each event that changes them; the others leave them as they are.
use Rattle.std.proofs.Common.{◌≡◌, ℕ, ◌==◌, Bool, true, false, cond, not, ◌||◌, ◌⊎◌, refl, sym, ap, ◌∙◌, inl, inr}
use Rattle.std.proofs.lemmas.Bool.{and_parts, eqb-true, or_cases, or_right, true≢false}
use Rattle.std.specs.FinSet as set_of
use Rattle.topology_coord.specs.Changes.{announces, departs, installs, joins, may_depart, may_install, may_join}
use Rattle.topology_coord.specs.Coordination.{Coordination, installed_id, lives}
use Rattle.topology_coord.proofs.MemberLaws.{has_newest, installed-departs, installed-installs, installed-joins, lives-departs, lives-installs, lives-joins, member-joins, some-departs, some-installs, some-joins}
use Rattle.topology_coord.proofs.NextLaws.{IsNext, next_follows}
use Rattle.topology_phase.specs.Laws.{Follows, Names}
use Rattle.topology_phase.specs.Topologies.{Topology}
use Rattle.topology_phase.proofs.Tables.{safe_later}
use Rattle.cluster_model.specs.Kept.{KeepsTopologies}
use Rattle.cluster_laws.proofs.copies.Facts.{second_of, turned}

-- the number that a node has installed is that of the newest topology or of the one before it, where a number that is put is
number_put : (b : Bool) (i j newest before : ℕ) → i ≡ cond b newest j → (b ≡ false → (j ≡ newest) ⊎ (j ≡ before)) → (i ≡ newest) ⊎ (i ≡ before)
number_put true i j newest before e h = inl e
number_put false i j newest before e h = elim (h refl) [ inl a ↦ inl (e ∙ a) | inr a ↦ inr (e ∙ a) ]

module _ (segments : ℕ) (c : Coordination) (h : KeepsTopologies segments c) where
  -- a node that the newest topology or the one before it names is a member
  named_member : (n s : ℕ) → (Names c.before n s) ⊎ (Names c.newest n s) → set_of.contains c.ever n ≡ true
  named_member n s named = elim named [ inl before ↦ h.named_before n s before | inr newest ↦ h.named n s newest ]

  -- a node joins that no topology names, as it was never a member
  pub joined_topologies : (q : ℕ) → may_join c q ≡ true → KeepsTopologies segments (joins c q)
  unfolding joins
  joined_topologies q may =
      let absent : set_of.contains c.ever q ≡ false = turned (set_of.contains c.ever q) (and_parts (not (set_of.contains c.ever q)) _ may).0 in
      let later = λ (n : ℕ) (known : set_of.contains c.ever n ≡ true). member-joins c q n ∙ or_right (n == q) (set_of.contains c.ever n) known in
      record {
        some_owner = h.some_owner;
        some_live = some-joins c q h.some_live;
        all_segments = h.all_segments;
        numbered = h.numbered;
        installed = λ n l.
            number_put (n == q) (installed_id (joins c q) n) (installed_id c n) c.newest.id c.before.id (installed-joins c q n)
            (λ other. h.installed n (second_of (n == q) (lives c n) other (sym (lives-joins c q n) ∙ l)));
        safe = safe_later c.before c.newest (lives c) (lives (joins c q)) h.safe (λ n s l named.
            elim (or_cases (n == q) (lives c n) (sym (lives-joins c q n) ∙ l)) [
              | inl same ↦ absurd (true≢false (sym (named_member n s named) ∙ ap (set_of.contains c.ever) (eqb-true n q same) ∙ absent))
              | inr lived ↦ lived
            ]);
        member = λ n l. member-joins c q n ∙ elim (or_cases (n == q) (lives c n) (sym (lives-joins c q n) ∙ l)) [
          | inl same ↦ ap (λ b. b || set_of.contains c.ever n) same
          | inr lived ↦ or_right (n == q) (set_of.contains c.ever n) (h.member n lived)
        ];
        named = λ n s named. later n (h.named n s named);
        named_before = λ n s named. later n (h.named_before n s named);
        owned = h.owned;
      }

  -- a node departs, and the others live on
  pub departed_topologies : (q : ℕ) → may_depart c q ≡ true → KeepsTopologies segments (departs c q)
  unfolding departs
  departed_topologies q may =
      let was = λ (n : ℕ) (l : lives (departs c q) n ≡ true). and_parts (not (n == q)) (lives c n) (sym (lives-departs c q n) ∙ l) in
      record {
        some_owner = h.some_owner;
        some_live = some-departs c q may;
        all_segments = h.all_segments;
        numbered = h.numbered;
        installed = λ n l.
            let same : installed_id (departs c q) n ≡ installed_id c n = installed-departs c q n ∙ ap (λ b. cond b 0 (installed_id c n)) (turned (n == q) (was n l).0) in
            elim (h.installed n (was n l).1) [ inl a ↦ inl (same ∙ a) | inr a ↦ inr (same ∙ a) ];
        safe = safe_later c.before c.newest (lives c) (lives (departs c q)) h.safe (λ n s l named. (was n l).1);
        member = λ n l. h.member n (was n l).1;
        named = h.named;
        named_before = h.named_before;
        owned = h.owned;
      }

  -- the next topology is announced: a neighbour of the newest, for the live nodes
  pub announced_topologies : (copied : Bool) (next : Topology) → IsNext copied c next → KeepsTopologies segments (announces c next)
  unfolding announces
  announced_topologies copied next is =
      let follows : Follows c.newest next (lives c) = next_follows copied c next h.some_live h.owned is in
      record {
        some_owner = h.some_owner;
        some_live = h.some_live;
        all_segments = is.as_long ∙ h.all_segments;
        numbered = inr follows.next_id;
        installed = λ n l. inr (has_newest c is.installed n l);
        safe = follows.safe;
        member = h.member;
        named = λ n s named. elim (follows.named n s named) [ inl before ↦ h.named n s before | inr lived ↦ h.member n lived ];
        named_before = h.named;
        owned = follows.owned;
      }

  -- a live node installs the newest topology
  pub installed_topologies : (q id : ℕ) → may_install c q id ≡ true → KeepsTopologies segments (installs c q)
  unfolding installs
  installed_topologies q id may =
      let live : lives c q ≡ true = (and_parts (lives c q) _ may).0 in
      let was = λ (n : ℕ) (l : lives (installs c q) n ≡ true). install_lived n l live in
      record {
        some_owner = h.some_owner;
        some_live = some-installs c q h.some_live;
        all_segments = h.all_segments;
        numbered = h.numbered;
        installed = λ n l.
            number_put (n == q) (installed_id (installs c q) n) (installed_id c n) c.newest.id c.before.id (installed-installs c q n) (λ _. h.installed n (was n l));
        safe = safe_later c.before c.newest (lives c) (lives (installs c q)) h.safe (λ n s l named. was n l);
        member = λ n l. h.member n (was n l);
        named = h.named;
        named_before = h.named_before;
        owned = h.owned;
      }
    where
      install_lived : (n : ℕ) → lives (installs c q) n ≡ true → lives c q ≡ true → lives c n ≡ true
      install_lived n l live = elim (or_cases (n == q) (lives c n) (sym (lives-installs c q n) ∙ l)) [
        | inl same ↦ ap (lives c) (eqb-true n q same) ∙ live
        | inr lived ↦ lived
      ]
