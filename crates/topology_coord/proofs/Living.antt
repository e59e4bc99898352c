-- Who lives, and who is left after a departure.
use Rattle.std.proofs.Common.{◌≡◌, ℕ, ◌-◌, ◌<◌, ◌≤◌, ◌==◌, Bool, true, false, cond, not, ◌&&◌, ◌||◌, List, [], ◌∷◌, length, Option, Some, None, is_some, arith, refl, sym, ap, ◌∙◌, inl, inr}
use Rattle.std.proofs.lemmas.Bool.{cases_eq, cases_Bool}
use Rattle.std.proofs.lemmas.List.{get_or_past, length-map}
use Rattle.std.specs.Option.{unwrap_or}
use Rattle.std.specs.List.{filter, list_any, range_with_len}
use Rattle.std.specs.Cmp.{nat_cmp_total, unsigned_tied, nat_eq_equiv}
use Rattle.std.specs.Ordering.{nat_cmp, eq_by_cmp}
use Rattle.std.specs.FinMap as map_of
use Rattle.std.specs.FinMap.{FinMap, nat_cmp-IsAntisymmetric}
use Rattle.std.specs.FinSet as set_of
use Rattle.grid_base.specs.Nodes.{Nodes, apart, alike}
use Rattle.topology_phase.specs.Owners.{among, is_ownerless, members, owners_at, joined}
use Rattle.topology_phase.specs.declared.phase.Phase.{Phase}
use Rattle.topology_phase.specs.declared.phase.Phase.TheVariants.{NoRebalance, ReadOld, ReadAll, ReadNew}
use Rattle.topology_phase.specs.Phases.{by_phase, same_phase}
use Rattle.topology_phase.specs.Topologies.{Topology, IsTopology, holders}
use Rattle.topology_phase.proofs.OwnerLists.{among-filter}
use Rattle.topology_coord.specs.Coordination.{Coordination, live_nodes, lives, loses, installed_id}
use Rattle.topology_coord.specs.Changes.{installs}

-- two numbers tie where they are equal, read either way round
tied_flipped : (n m : ℕ) → eq_by_cmp nat_cmp n m ≡ (m == n)
tied_flipped n m = unsigned_tied n m ∙ nat_eq_equiv.symm n m

-- a node is among the keys of a map where it is one
pub among_keys : (m : FinMap nat_cmp ℕ) (n : ℕ) → among n (map_of.keys m) ≡ map_of.contains_key m n
among_keys m n = sym (map_of.contains_key-keys m n ∙ (λ i. list_any (λ k. tied_flipped n k i) (map_of.keys m)))

-- an owner passes a test where the list of those that do isn't empty
pub some_kept : (p : ℕ → Bool) (xs : List ℕ) → is_ownerless (filter p xs) ≡ not (list_any p xs)
some_kept p [] = refl
some_kept p (x ∷ xs) = elim (p x) as (λ b. is_ownerless (cond b (x ∷ filter p xs) (filter p xs)) ≡ not (b || list_any p xs)) [ true ↦ refl | false ↦ some_kept p xs ]

-- three tests in another order
regrouped : (a b r : Bool) → ((not a && b) && r) ≡ ((b && r) && not a)
regrouped true true true = refl
regrouped true true false = refl
regrouped true false r = refl
regrouped false true true = refl
regrouped false true false = refl
regrouped false false r = refl

-- among those that are left after a node departs are the live ones but for it
pub among_left : (live : Nodes) (n m : ℕ) → among m (members (set_of.remove live n)) ≡ (among m (members live) && not (m == n))
unfolding members
among_left live n m =
    let row = among m (range_with_len 0 16) in
    among-filter m (set_of.contains (set_of.remove live n)) (range_with_len 0 16)
    ∙ ap (λ b. b && row) (set_of.contains-remove nat_cmp_total live n m ∙ ap (λ b. not b && set_of.contains live m) (unsigned_tied m n))
    ∙ regrouped (m == n) (set_of.contains live m) row
    ∙ ap (λ b. b && not (m == n)) (sym (among-filter m (set_of.contains live) (range_with_len 0 16)))

-- what the departure of a node loses, told of the nodes that live before and after
pub loses_told : (c : Coordination) (live : Nodes) (n s : ℕ) → members live ≡ live_nodes c
    → (list_any (λ m. among m (members live)) (holders c.newest s) && not (list_any (λ m. among m (members (set_of.remove live n))) (holders c.newest s))) ≡ loses c n s
unfolding loses
loses_told c live n s e =
    let known : (m : ℕ) → among m (members live) ≡ lives c m = λ m. ap (among m) e ∙ among_keys c.installed m in
    let left : (m : ℕ) → among m (members (set_of.remove live n)) ≡ (lives c m && not (m == n)) = λ m. among_left live n m ∙ ap (λ b. b && not (m == n)) (known m) in
    λ i. list_any (λ m. known m i) (holders c.newest s) && not (list_any (λ m. left m i) (holders c.newest s))

-- the node that has the newest topology stays as it is when it installs it
pub installs_again : (c : Coordination) (n : ℕ) → lives c n ≡ true → installed_id c n ≡ c.newest.id → c ≡ installs c n
unfolding installs
installs_again c n live has =
    let here : map_of.get c.installed n ≡ Some c.newest.id = present (map_of.get c.installed n) c.newest.id live has in
    let same : c.installed ≡ map_of.insert c.installed n c.newest.id =
    map_of.same_map nat_cmp_total nat_cmp-IsAntisymmetric _ _ (λ q. sym (map_of.get-insert nat_cmp_total c.installed n c.newest.id q ∙ elim (cases_eq q n) [
      | inl e ↦ ap (λ x. cond (eq_by_cmp nat_cmp x n) (Some c.newest.id) (map_of.get c.installed q)) e ∙ ap (λ b. cond b (Some c.newest.id) (map_of.get c.installed q)) (alike n) ∙ sym here ∙ ap (map_of.get c.installed) (sym e)
      | inr other ↦ ap (λ b. cond b (Some c.newest.id) (map_of.get c.installed q)) (apart q n other)
    ])) in
    λ i. record c { installed = same i }
  where
    present : (o : Option ℕ) (id : ℕ) → is_some o ≡ true → unwrap_or o 0 ≡ id → o ≡ Some id
    present None id live has = absurd (cc)
    present (Some x) id live has = ap (λ (y : ℕ). Some y) has

-- a live node more, or a live node again, leaves some live
pub live_more : (m : FinMap nat_cmp ℕ) (n id : ℕ) → 0 < length (map_of.keys (map_of.insert m n id))
live_more m n id = some_key (map_of.keys (map_of.insert m n id)) n (among_keys (map_of.insert m n id) n ∙ ap is_some (map_of.get-insert nat_cmp_total m n id n ∙ ap (λ b. cond b (Some id) (map_of.get m n)) (alike n)))
  where
    some_key : (ks : List ℕ) (n : ℕ) → among n ks ≡ true → 0 < length ks
    some_key [] n h = absurd (cc)
    some_key (k ∷ ks) n h = omega arith

-- where more than one node is live, some is after the departure of one
pub live_left : (m : FinMap nat_cmp ℕ) (n : ℕ) → map_of.contains_key m n ≡ true → 1 < length (map_of.keys m) → 0 < length (map_of.keys (map_of.remove m n))
live_left m n live more =
    let before : length (map_of.keys m) ≡ map_of.len m = length-map (map_of.entries m) (λ e. e.0) ∙ sym (map_of.len-entries m) in
    let after : length (map_of.keys (map_of.remove m n)) ≡ map_of.len (map_of.remove m n) = length-map (map_of.entries (map_of.remove m n)) (λ e. e.0) ∙ sym (map_of.len-entries (map_of.remove m n)) in
    let fewer : map_of.len (map_of.remove m n) ≡ map_of.len m - 1 = map_of.len-remove nat_cmp_total m n ∙ ap (λ b. cond b (map_of.len m - 1) (map_of.len m)) live in
    omega (arith, before, after, fewer)

-- a segment that isn't there has no holders
pub holders_past : (t : Topology) (s : ℕ) → IsTopology t → length t.current ≤ s → holders t s ≡ []
unfolding holders joined
holders_past t s kept past =
    let none : owners_at t.current s ≡ [] = get_or_past t.current s [] past in
    let pending : owners_at t.pending s ≡ [] = elim (cases_Bool (same_phase t.phase NoRebalance)) [
      | inl settled ↦ get_or_past t.pending s [] (omega (arith, ap length (kept.settled settled)))
      | inr moves ↦ get_or_past t.pending s [] (omega (arith, past, kept.as_long moves))
    ] in
    (λ i. by_phase t.phase (none i) (none i) (joined (none i) (pending i)) (joined (none i) (pending i))) ∙ each_none t.phase
  where
    each_none : (phase : Phase) → by_phase phase [] [] (joined [] []) (joined [] []) ≡ []
    each_none NoRebalance = refl
    each_none ReadOld = refl
    each_none ReadAll = refl
    each_none ReadNew = refl
