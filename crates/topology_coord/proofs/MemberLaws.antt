-- Who lives, with which topology, after each change.
use Rattle.std.proofs.Common.{◌≡◌, ℕ, ◌+◌, ◌<◌, ◌==◌, Bool, true, false, cond, not, ◌&&◌, ◌||◌, List, [], ◌∷◌, length, Option, Some, None, is_some, unwrap_or, refl, sym, ap, ◌∙◌, arith, inl, inr}
use Rattle.std.proofs.lemmas.Bool.{and_parts, or_cases, eqb-true, ne_eqb, ltb-true, true≢false}
use Rattle.std.specs.Cmp.{nat_cmp_total, unsigned_tied, nat_eq_equiv}
use Rattle.std.specs.FinMap as map_of
use Rattle.std.specs.FinSet as set_of
use Rattle.std.specs.List.{list_all}
use Rattle.topology_phase.specs.Owners.{among}
use Rattle.topology_phase.specs.Topologies.{Topology}
use Rattle.topology_coord.specs.Changes.{announces, departs, installs, joins, may_depart}
use Rattle.topology_coord.specs.Coordination.{Coordination, all_installed, installed_id, live_nodes, lives, topology_of}
use Rattle.topology_coord.proofs.Living.{among_keys, live_left, live_more}

-- a node is among the live ones where it lives
pub among-live : (c : Coordination) (n : ℕ) → among n (live_nodes c) ≡ lives c n
among-live c n = among_keys c.installed n

-- what is chosen by a test or was there is there
there_or : {A : Type 0} (b : Bool) (v : A) (o : Option A) → is_some (cond b (Some v) o) ≡ (b || is_some o)
there_or true v o = refl
there_or false v o = refl

-- what was there is there, unless a test takes it away
there_but : {A : Type 0} (b : Bool) (o : Option A) → is_some (cond b None o) ≡ (not b && is_some o)
there_but true o = refl
there_but false o = refl

-- the number of what is chosen by a test, or else of what was there
number_or : (b : Bool) (id : ℕ) (o : Option ℕ) → unwrap_or (cond b (Some id) o) 0 ≡ cond b id (unwrap_or o 0)
number_or true id o = refl
number_or false id o = refl

-- the number of what was there, and 0 where a test takes it away
number_but : (b : Bool) (o : Option ℕ) → unwrap_or (cond b None o) 0 ≡ cond b 0 (unwrap_or o 0)
number_but true o = refl
number_but false o = refl

-- what is found after a node's number is put there
put_at : (c : Coordination) (q id n : ℕ) → map_of.get (map_of.insert c.installed q id) n ≡ cond (n == q) (Some id) (map_of.get c.installed n)
put_at c q id n = map_of.get-insert nat_cmp_total c.installed q id n ∙ ap (λ b. cond b (Some id) (map_of.get c.installed n)) (unsigned_tied n q)

-- what is found after a node's number is removed
gone_at : (c : Coordination) (q n : ℕ) → map_of.get (map_of.remove c.installed q) n ≡ cond (n == q) None (map_of.get c.installed n)
gone_at c q n = map_of.get-remove nat_cmp_total c.installed q n ∙ ap (λ b. cond b None (map_of.get c.installed n)) (unsigned_tied n q)

-- a node that joins lives then, and the others as before
pub lives-joins : (c : Coordination) (q n : ℕ) → lives (joins c q) n ≡ ((n == q) || lives c n)
unfolding joins
lives-joins c q n = ap is_some (put_at c q c.newest.id n) ∙ there_or (n == q) c.newest.id (map_of.get c.installed n)

-- a node that joins has the newest topology, and the others what they had
pub installed-joins : (c : Coordination) (q n : ℕ) → installed_id (joins c q) n ≡ cond (n == q) c.newest.id (installed_id c n)
unfolding joins
installed-joins c q n = ap (λ o. unwrap_or o 0) (put_at c q c.newest.id n) ∙ number_or (n == q) c.newest.id (map_of.get c.installed n)

-- a node that joins was a member from then on
pub member-joins : (c : Coordination) (q n : ℕ) → set_of.contains (joins c q).ever n ≡ ((n == q) || set_of.contains c.ever n)
unfolding joins
member-joins c q n = set_of.contains-insert nat_cmp_total c.ever q n ∙ ap (λ b. b || set_of.contains c.ever n) (unsigned_tied n q)

-- a node that departs lives no longer, and the others as before
pub lives-departs : (c : Coordination) (q n : ℕ) → lives (departs c q) n ≡ (not (n == q) && lives c n)
unfolding departs
lives-departs c q n = ap is_some (gone_at c q n) ∙ there_but (n == q) (map_of.get c.installed n)

-- where a node departs, what the others have installed stays
pub installed-departs : (c : Coordination) (q n : ℕ) → installed_id (departs c q) n ≡ cond (n == q) 0 (installed_id c n)
unfolding departs
installed-departs c q n = ap (λ o. unwrap_or o 0) (gone_at c q n) ∙ number_but (n == q) (map_of.get c.installed n)

-- a node that installs lives, and the others as before
pub lives-installs : (c : Coordination) (q n : ℕ) → lives (installs c q) n ≡ ((n == q) || lives c n)
unfolding installs
lives-installs c q n = ap is_some (put_at c q c.newest.id n) ∙ there_or (n == q) c.newest.id (map_of.get c.installed n)

-- a node that installs has the newest topology, and the others what they had
pub installed-installs : (c : Coordination) (q n : ℕ) → installed_id (installs c q) n ≡ cond (n == q) c.newest.id (installed_id c n)
unfolding installs
installed-installs c q n = ap (λ o. unwrap_or o 0) (put_at c q c.newest.id n) ∙ number_or (n == q) c.newest.id (map_of.get c.installed n)

-- some live after a join
pub some-joins : (c : Coordination) (q : ℕ) → 0 < length (live_nodes c) → 0 < length (live_nodes (joins c q))
unfolding joins
some-joins c q h = live_more c.installed q c.newest.id

-- some live after an installation
pub some-installs : (c : Coordination) (q : ℕ) → 0 < length (live_nodes c) → 0 < length (live_nodes (installs c q))
unfolding installs
some-installs c q h = live_more c.installed q c.newest.id

-- some live after the departure of one of several
pub some-departs : (c : Coordination) (q : ℕ) → may_depart c q ≡ true → 0 < length (live_nodes (departs c q))
unfolding departs
some-departs c q h =
    let may = and_parts (lives c q) _ h in
    live_left c.installed q may.0 (ltb-true 1 (length (live_nodes c)) may.1)

-- the topology of a number that is the newest's by a test is the newest, and else that of the number before
by_number : (b : Bool) (id : ℕ) (i : ℕ) (newest before : Topology) → id ≡ newest.id → cond (cond b id i == newest.id) newest before ≡ cond b newest (cond (i == newest.id) newest before)
by_number true id i newest before e = ap (λ b. cond b newest before) (nat_eq_equiv.congr id newest.id newest.id (ap (λ k. k == newest.id) e ∙ nat_eq_equiv.refl newest.id) ∙ nat_eq_equiv.refl newest.id)
by_number false id i newest before e = refl

-- who joins has the newest, and the others what they had
pub topology-joins : (c : Coordination) (q n : ℕ) → topology_of (joins c q) n ≡ cond (n == q) c.newest (topology_of c n)
unfolding joins
topology-joins c q n = ap (λ i. cond (i == c.newest.id) c.newest c.before) (installed-joins c q n) ∙ by_number (n == q) c.newest.id (installed_id c n) c.newest c.before refl

-- who installs has the newest, and the others what they had
pub topology-installs : (c : Coordination) (q n : ℕ) → topology_of (installs c q) n ≡ cond (n == q) c.newest (topology_of c n)
unfolding installs
topology-installs c q n = ap (λ i. cond (i == c.newest.id) c.newest c.before) (installed-installs c q n) ∙ by_number (n == q) c.newest.id (installed_id c n) c.newest c.before refl

-- who stays has what it had
pub topology-departs : (c : Coordination) (q n : ℕ) → lives (departs c q) n ≡ true → topology_of (departs c q) n ≡ topology_of c n
unfolding departs
topology-departs c q n l =
    let other = and_parts (not (n == q)) (lives c n) (sym (lives-departs c q n) ∙ l) in
    ap (λ i. cond (i == c.newest.id) c.newest c.before) (installed-departs c q n ∙ ap (λ b. cond b 0 (installed_id c n)) (turned (n == q) other.0))
  where
    turned : (b : Bool) → not b ≡ true → b ≡ false
    turned true h = absurd (true≢false (sym h))
    turned false h = refl

-- where all of a list pass a test, each that is in it does
pub each_of : (p : ℕ → Bool) (xs : List ℕ) (n : ℕ) → list_all p xs ≡ true → among n xs ≡ true → p n ≡ true
each_of p [] n all h = absurd (cc)
each_of p (x ∷ xs) n all h = elim (or_cases (x == n) (among n xs) h) [
  | inl same ↦ ap p (sym (eqb-true x n same)) ∙ (and_parts (p x) (list_all p xs) all).0
  | inr there ↦ each_of p xs n (and_parts (p x) (list_all p xs) all).1 there
]

-- where all live nodes have the newest topology, each has it
pub has_newest : (c : Coordination) → all_installed c ≡ true → (n : ℕ) → lives c n ≡ true → installed_id c n ≡ c.newest.id
has_newest c all n l = eqb-true (installed_id c n) c.newest.id (each_of (λ m. installed_id c m == c.newest.id) (live_nodes c) n all (among-live c n ∙ l))

-- and its topology is the newest
pub topology_newest : (c : Coordination) → all_installed c ≡ true → (n : ℕ) → lives c n ≡ true → topology_of c n ≡ c.newest
topology_newest c all n l =
    ap (λ b. cond b c.newest c.before) (ap (λ i. i == c.newest.id) (has_newest c all n l) ∙ nat_eq_equiv.refl c.newest.id)

-- after an announcement each has the one before it, under which it lived
pub topology-announces : (c : Coordination) (next : Topology) → all_installed c ≡ true → next.id ≡ c.newest.id + 1 → (n : ℕ) → lives c n ≡ true → topology_of (announces c next) n ≡ c.newest
unfolding announces
topology-announces c next all more n l =
    ap (λ b. cond b next c.newest) (ne_eqb (installed_id c n) next.id (λ e. absurd (omega (arith, has_newest c all n l))))
