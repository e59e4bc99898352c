-- The first nodes, of a new cluster.
use Rattle.std.proofs.Common.{◌≡◌, ◌≢◌, ℕ, suc, zero, ◌+◌, ◌-◌, ◌<◌, ◌≤◌, ◌==◌, Bool, true, false, cond, ◌||◌, List, [], ◌∷◌, ◌++◌, map, length, Some, None, arith, add-one, refl, ap, ◌∙◌, inl, inr}
use Rattle.std.proofs.lemmas.Bool.{eq-eqb, ne_eqb, cases_eq, or_left, or_right}
use Rattle.std.proofs.lemmas.List.{map-append}
use Rattle.std.specs.List.{filter, range_with_len}
use Rattle.std.specs.Ordering.{nat_cmp}
use Rattle.std.specs.FinMap as map_of
use Rattle.std.specs.FinMap.{nat_cmp-IsAntisymmetric}
use Rattle.std.specs.FinMap.Entries.{find}
use Rattle.std.specs.Cmp.{nat_cmp_total}
use Rattle.std.specs.FinSet as set_of
use Rattle.grid_base.specs.Nodes.{apart}
use Rattle.topology_phase.specs.declared.phase.Phase.TheVariants.{NoRebalance}
use Rattle.topology_phase.specs.Owners.{Hash, among, members, owners_at}
use Rattle.topology_phase.specs.Topologies.{IsTopology}
use Rattle.topology_phase.proofs.TopologyParts.{none_at}
use Rattle.hash_factory.specs.Formulas.{created}
use Rattle.hash_factory.proofs.Made.{few_created, length-created}
use Rattle.topology_phase.proofs.OwnerLists.{range_push}
use Rattle.topology_coord.specs.Coordination.{first_installed}
use Rattle.topology_coord.proofs.Living.{live_more}

-- a range of one number more has that number at its end
row_more : (n : ℕ) → range_with_len 0 (n + 1) ≡ range_with_len 0 n ++ n ∷ []
row_more n = ap (range_with_len 0) (add-one n) ∙ range_push 0 n ∙ ap (λ k. range_with_len 0 n ++ k ∷ []) (omega arith)

-- the set of one node more
pub nodes_more : (n : ℕ) → set_of.from_list {R = nat_cmp} (range_with_len 0 (n + 1)) ≡ set_of.insert (set_of.from_list (range_with_len 0 n)) n
nodes_more n = ap set_of.from_list (row_more n) ∙ set_of.from_list_push nat_cmp_total nat_cmp-IsAntisymmetric (range_with_len 0 n) n

-- a number isn't found among smaller ones
none_found : (a n q : ℕ) → a + n ≤ q → find {X = ℕ} nat_cmp q (map (λ node. (node, 1)) (range_with_len a n)) ≡ None
none_found a zero q h = refl
none_found a (suc n) q h =
    let differ : q ≢ a = omega arith in
    let one : ℕ = 1 in
    ap (λ b. cond b (Some one) (find {X = ℕ} nat_cmp q (map (λ node. (node, 1)) (range_with_len (a + 1) n)))) (apart q a differ) ∙ none_found (a + 1) n q (omega arith)

-- one node more that has installed the first topology
pub installed_more : (n : ℕ) → first_installed (n + 1) ≡ map_of.insert (first_installed n) n 1
installed_more n =
    ap (λ ns. map_of.from_entries {R = nat_cmp} (map (λ node. (node, 1)) ns)) (row_more n)
    ∙ ap (map_of.from_entries {R = nat_cmp}) (map-append (λ node. (node, 1)) (range_with_len 0 n) (n ∷ []))
    ∙ map_of.from_entries_push nat_cmp_total nat_cmp-IsAntisymmetric (map (λ node. (node, 1)) (range_with_len 0 n)) n 1 (none_found 0 n n (omega arith))

-- a number of a row is in it
pub in_row : (a n q : ℕ) → a ≤ q → q < a + n → among q (range_with_len a n) ≡ true
in_row a zero q h below = absurd (omega arith)
in_row a (suc n) q h below = elim (cases_eq a q) [
  | inl same ↦ or_left (a == q) (among q (range_with_len (a + 1) n)) (eq-eqb a q same)
  | inr differ ↦ or_right (a == q) (among q (range_with_len (a + 1) n)) (in_row (a + 1) n q (omega (arith, differ)) (omega arith))
]

-- and a number past it isn't
past_row : (a n q : ℕ) → a + n ≤ q → among q (range_with_len a n) ≡ false
past_row a zero q h = refl
past_row a (suc n) q h =
    let differ : a ≢ q = omega arith in
    ap (λ b. b || among q (range_with_len (a + 1) n)) (ne_eqb a q differ) ∙ past_row (a + 1) n q (omega arith)

-- none of a row pass a test that fails from its first number on
none_kept : (p : ℕ → Bool) (a n : ℕ) → ((q : ℕ) → a ≤ q → p q ≡ false) → filter p (range_with_len a n) ≡ []
none_kept p a zero h = refl
none_kept p a (suc n) h =
    let others = filter p (range_with_len (a + 1) n) in
    ap (λ b. cond b (a ∷ others) others) (h a (omega arith)) ∙ none_kept p (a + 1) n (λ q from. h q (omega arith))

-- those of a longer row that pass a test of the first ones are the first ones
first_kept : (p : ℕ → Bool) (a n more : ℕ) → ((q : ℕ) → a ≤ q → q < a + n → p q ≡ true) → ((q : ℕ) → a + n ≤ q → p q ≡ false) → filter p (range_with_len a (n + more)) ≡ range_with_len a n
first_kept p a zero more passes fails = ap (λ k. filter p (range_with_len a k)) (omega arith) ∙ none_kept p a more (λ q from. fails q (omega arith))
first_kept p a (suc n) more passes fails =
    let others = filter p (range_with_len (a + 1) (n + more)) in
    let rest : others ≡ range_with_len (a + 1) n = first_kept p (a + 1) n more (λ q from below. passes q (omega arith) (omega arith)) (λ q past. fails q (omega arith)) in
    ap (λ k. filter p (range_with_len a k)) (one_later n more)
    ∙ ap (λ b. cond b (a ∷ others) others) (passes a (omega arith) (omega arith))
    ∙ ap (λ ks. a ∷ ks) rest
  where
    one_later : (n more : ℕ) → suc n + more ≡ suc (n + more)
    one_later n more = omega arith

-- the nodes of the set of the first ones
pub first_members : (n : ℕ) → n ≤ 16 → members (set_of.from_list (range_with_len 0 n)) ≡ range_with_len 0 n
unfolding members
first_members n few =
    let p = set_of.contains (set_of.from_list {R = nat_cmp} (range_with_len 0 n)) in
    let tells : (q : ℕ) → p q ≡ among q (range_with_len 0 n) = λ q. set_of.contains-from_list_nat (range_with_len 0 n) q in
    ap (λ k. filter p (range_with_len 0 k)) (whole n few)
    ∙ first_kept p 0 n (16 - n) (λ q from below. tells q ∙ in_row 0 n q from below) (λ q past. tells q ∙ past_row 0 n q past)
  where
    whole : (n : ℕ) → n ≤ 16 → 16 ≡ n + (16 - n)
    whole n few = omega arith

-- of one node or more some is live
pub first_some : (n : ℕ) → 1 ≤ n → 0 < length (map_of.keys (first_installed n))
first_some zero h = absurd (omega arith)
first_some (suc n) h = live_more (map_of.from_entries (map (λ node. (node, 1)) (range_with_len 1 n))) 0 1

-- the first topology keeps what each topology keeps
pub whole_first : (id : ℕ) (live : List ℕ) (segments owners : ℕ) (hash : Hash) → hash ≡ created live segments owners → 1 ≤ segments → owners ≤ 4
    → IsTopology (record { id = id; phase = NoRebalance; current = hash; pending = [] })
whole_first id live segments owners hash e some few = record {
  some_segment = omega (arith, some, ap length e, length-created live segments owners);
  settled = λ _. refl;
  as_long = λ out. absurd (cc);
  few_current = λ s. omega (arith, few, ap (λ h. length (owners_at h s)) e, few_created live segments owners s);
  few_pending = none_at;
}
