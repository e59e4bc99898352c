-- Which topologies the live nodes have installed.
use Rattle.std.proofs.Common.{◌≡◌, ℕ, zero, suc, ◌+◌, ◌==◌, Bool, true, false, cond, not, ◌&&◌, ◌⊎◌, if◌then◌else◌, List, [], ◌∷◌, Option, Some, None, is_some, add-one, refl, sym, ap, ◌∙◌, inl, inr}
use Rattle.std.proofs.lemmas.Bool.{and_parts, cases_eq, eq-eqb, eqb-true, or_cases}
use Rattle.std.specs.Cmp.{nat_cmp_total}
use Rattle.std.specs.FinMap as map_of
use Rattle.std.specs.FinMap.{FinMap}
use Rattle.std.specs.List.{list_all}
use Rattle.std.specs.Option.{unwrap_or}
use Rattle.std.specs.Ordering.{nat_cmp, eq_by_cmp}
use Rattle.grid_base.specs.Nodes.{alike, apart}
use Rattle.grid_base.specs.declared.limits.TheConstants.{LAST_TOPOLOGY}
use Rattle.topology_phase.specs.Owners.{among}
use Rattle.topology_phase.specs.Topologies.{Topology}
use Rattle.topology_phase.specs.Following.{repaired}
use Rattle.topology_coord.specs.Coordination.{Coordination, HaveEither, all_installed, first_installed, installed_id, live_nodes, lives, topology_of}
use Rattle.topology_coord.specs.Following.{following, may_follow, needs_repair, unrepaired}
use Rattle.topology_coord.proofs.FirstNodes.{installed_more}
use Rattle.topology_coord.proofs.Living.{among_keys}

-- what is there is what it is equal to
same_some : (a b : ℕ) → Some a ≡ Some b → a ≡ b
same_some a b e = ap (λ (o : Option ℕ). unwrap_or o a) e

-- a node that installs the first of the two keeps it so
pub either_more : (m : FinMap nat_cmp ℕ) (n one other : ℕ) → HaveEither m one other → HaveEither (map_of.insert m n one) one other
either_more m n one other known node id has = elim (cases_eq node n) [
  | inl same ↦ inl (sym (same_some one id (sym (told ∙ ap (λ b. cond b (Some one) (map_of.get m node)) (ap (λ x. eq_by_cmp nat_cmp x n) same ∙ alike n)) ∙ has)))
  | inr differ ↦ known node id (sym (told ∙ ap (λ b. cond b (Some one) (map_of.get m node)) (apart node n differ)) ∙ has)
]
  where
    told : map_of.get (map_of.insert m n one) node ≡ cond (eq_by_cmp nat_cmp node n) (Some one) (map_of.get m node)
    told = map_of.get-insert nat_cmp_total m n one node

-- and so does one that departs
pub either_left : (m : FinMap nat_cmp ℕ) (n one other : ℕ) → HaveEither m one other → HaveEither (map_of.remove m n) one other
either_left m n one other known node id has = by_node (eq_by_cmp nat_cmp node n) refl
  where
    by_node : (b : Bool) → eq_by_cmp nat_cmp node n ≡ b → (id ≡ one) ⊎ (id ≡ other)
    by_node true e =
        let none : None ≡ Some id = sym (map_of.get-remove nat_cmp_total m n node ∙ ap (λ b. cond b None (map_of.get m node)) e) ∙ has in absurd (cc)
    by_node false e = known node id (sym (map_of.get-remove nat_cmp_total m n node ∙ ap (λ b. cond b None (map_of.get m node)) e) ∙ has)

-- the first nodes have installed topology 1
pub first_have : (nodes node id : ℕ) → map_of.get (first_installed nodes) node ≡ Some id → id ≡ 1
first_have zero node id has = let none : None ≡ Some id = sym (map_of.get-from_entries {X = ℕ} nat_cmp_total [] node) ∙ has in absurd (cc)
first_have (suc n) node id has =
    let more : first_installed (suc n) ≡ map_of.insert (first_installed n) n 1 = ap first_installed (sym (add-one n)) ∙ installed_more n in
    elim (either_more (first_installed n) n 1 1 (λ q x h. inl (first_have n q x h)) node id (ap (λ m. map_of.get m node) (sym more) ∙ has)) [ inl e ↦ e | inr e ↦ e ]

-- each of a list passes a test that all of it pass
all_of : (p : ℕ → Bool) (xs : List ℕ) (n : ℕ) → list_all p xs ≡ true → among n xs ≡ true → p n ≡ true
all_of p [] n all there = absurd (cc)
all_of p (x ∷ xs) n all there =
    let parts = and_parts (p x) (list_all p xs) all in
    elim (or_cases (x == n) (among n xs) there) [
      | inl here ↦ ap p (sym (eqb-true x n here)) ∙ parts.0
      | inr later ↦ all_of p xs n parts.1 later
    ]

-- a topology follows only where every live node has installed the newest
installed_before : (copied : Bool) (c : Coordination) (next : Topology) → following copied c ≡ Some next → all_installed c ≡ true
unfolding following
installed_before copied c next follows = (and_parts (all_installed c) (not (c.newest.id == LAST_TOPOLOGY)) (by_test (may_follow c) refl follows)).0
  where
    by_test : (b : Bool) → may_follow c ≡ b → (if b then (if needs_repair c then Some (repaired c.newest (live_nodes c)) else unrepaired copied c) else None) ≡ Some next → may_follow c ≡ true
    by_test true e f = e
    by_test false e f = absurd (cc)

-- so each live node has the newest then
pub all_have : (copied : Bool) (c : Coordination) (next : Topology) → following copied c ≡ Some next → (node id : ℕ) → map_of.get c.installed node ≡ Some id → id ≡ c.newest.id
all_have copied c next follows node id has =
    let live : lives c node ≡ true = ap is_some has in
    let all = all_of (λ n. installed_id c n == c.newest.id) (live_nodes c) node (installed_before copied c next follows) (among_keys c.installed node ∙ live) in
    ap (λ (o : Option ℕ). unwrap_or o 0) (sym has) ∙ eqb-true (installed_id c node) c.newest.id all

-- of a live node the newest topology, or the one before it, is that of the number that it has installed
pub own_topology : (c : Coordination) (n : ℕ) → HaveEither c.installed c.newest.id c.before.id → lives c n ≡ true → (topology_of c n).id ≡ installed_id c n
own_topology c n known live = by_place (map_of.get c.installed n) refl live
  where
    by_newest : (b : Bool) → (installed_id c n == c.newest.id) ≡ b → (installed_id c n ≡ c.newest.id) ⊎ (installed_id c n ≡ c.before.id) → (cond b c.newest c.before).id ≡ installed_id c n
    by_newest true e either = sym (eqb-true (installed_id c n) c.newest.id e)
    by_newest false e (inl newest) = let is : true ≡ false = sym (eq-eqb (installed_id c n) c.newest.id newest) ∙ e in absurd (cc)
    by_newest false e (inr before) = sym before

    by_place : (o : Option ℕ) → map_of.get c.installed n ≡ o → is_some o ≡ true → (topology_of c n).id ≡ installed_id c n
    by_place None e some = absurd (cc)
    by_place (Some id) e some =
        let is : installed_id c n ≡ id = ap (λ (o : Option ℕ). unwrap_or o 0) e in
        by_newest (installed_id c n == c.newest.id) refl (elim (known n id e) [ inl one ↦ inl (is ∙ one) | inr other ↦ inr (is ∙ other) ])
