-- What sixteen places tell of the live nodes and their topologies, as the places change.
use Rattle.std.proofs.Common.{◌≡◌, ◌≢◌, ℕ, suc, zero, ◌+◌, ◌<◌, ◌≤◌, ◌==◌, Bool, true, false, cond, not, ◌&&◌, ◌||◌, List, [], ◌∷◌, map, length, get_or, set, replicate, nat_lt, Option, Some, None, is_some, arith, add-one, refl, sym, ap, ◌∙◌, inl, inr}
use Rattle.std.proofs.lemmas.Bool.{cases_eq, cases_lt, ne_eqb, both_ways, lt-ltb}
use Rattle.std.proofs.lemmas.List.{get_or-set_same, get_or-set_other, get_or_past}
use Rattle.std.specs.List.{filter, list_all, range_with_len}
use Rattle.std.specs.Option.{unwrap_or}
use Rattle.std.specs.Cmp.{nat_cmp_total, nat_cmp_is}
use Rattle.std.specs.declared.cmp.Ordering.TheVariants.{Less}
use Rattle.std.specs.Ordering.{nat_cmp, eq_by_cmp}
use Rattle.std.specs.FinMap as map_of
use Rattle.std.specs.FinMap.{FinMap, nat_cmp-IsAntisymmetric}
use Rattle.std.specs.FinMap.Entries.{put, by_order}
use Rattle.grid_base.specs.Nodes.{apart, alike}
use Rattle.topology_coord.specs.Slots.{slots_from}

-- what a place says of its node: nothing where it is 0
abbrev pub stored : ℕ → Option ℕ
stored id = cond (id == 0) None (Some id)

-- no node before the first place is live
none_before : (n : ℕ) (ids : List ℕ) (q : ℕ) → q < n → map_of.get (slots_from n ids) q ≡ None
unfolding slots_from
none_before n [] q h = map_of.get-empty nat_cmp q
none_before n (id ∷ ids) q h =
    let rest = none_before (suc n) ids q (omega arith) in
    let differ : q ≢ n = omega arith in
    elim (id == 0) as (λ b. map_of.get (cond b (slots_from (suc n) ids) (map_of.insert (slots_from (suc n) ids) n id)) q ≡ None) [
      | true ↦ rest
      | false ↦ map_of.get-insert nat_cmp_total (slots_from (suc n) ids) n id q ∙ ap (λ b. cond b (Some id) (map_of.get (slots_from (suc n) ids) q)) (apart q n differ) ∙ rest
    ]

-- what is known of a node is what its place says
get_from : (n : ℕ) (ids : List ℕ) (k q : ℕ) → q ≡ n + k → map_of.get (slots_from n ids) q ≡ stored (get_or ids k 0)
unfolding slots_from
get_from n [] k q e = map_of.get-empty nat_cmp q
get_from n (id ∷ ids) zero q e =
    let same : q ≡ n = omega arith in
    let tied : eq_by_cmp nat_cmp q n ≡ true = ap (λ x. eq_by_cmp nat_cmp x n) same ∙ alike n in
    elim (id == 0) as (λ b. map_of.get (cond b (slots_from (suc n) ids) (map_of.insert (slots_from (suc n) ids) n id)) q ≡ cond b None (Some id)) [
      | true ↦ none_before (suc n) ids q (omega arith)
      | false ↦ map_of.get-insert nat_cmp_total (slots_from (suc n) ids) n id q ∙ ap (λ b. cond b (Some id) (map_of.get (slots_from (suc n) ids) q)) tied
    ]
get_from n (id ∷ ids) (suc k) q e =
    let rest = get_from (suc n) ids k q (omega arith) in
    let differ : q ≢ n = omega arith in
    elim (id == 0) as (λ b. map_of.get (cond b (slots_from (suc n) ids) (map_of.insert (slots_from (suc n) ids) n id)) q ≡ stored (get_or ids k 0)) [
      | true ↦ rest
      | false ↦ map_of.get-insert nat_cmp_total (slots_from (suc n) ids) n id q ∙ ap (λ b. cond b (Some id) (map_of.get (slots_from (suc n) ids) q)) (apart q n differ) ∙ rest
    ]

-- what is known of a node is what its place says, where the first place is that of node 0
pub get_slots : (ids : List ℕ) (q : ℕ) → map_of.get (slots_from 0 ids) q ≡ stored (get_or ids q 0)
get_slots ids q = get_from 0 ids q q (omega arith)

-- a number above 0 isn't 0
not_zero : (id : ℕ) → (suc id == 0) ≡ false
not_zero id = ne_eqb (suc id) 0 (omega arith)

-- the number that a place stores is read back, and 0 where it stores none
id_stored : (id : ℕ) → unwrap_or (stored id) 0 ≡ id
id_stored zero = refl
id_stored (suc id) = ap (λ b. unwrap_or (cond b None (Some (suc id))) 0) (not_zero id)

-- a place stores a number exactly where it isn't 0
some_stored : (id : ℕ) → is_some (stored id) ≡ not (id == 0)
some_stored zero = refl
some_stored (suc id) = ap (λ b. is_some (cond b None (Some (suc id)))) (not_zero id) ∙ ap not (sym (not_zero id))

-- the number that stands in a place, told of a map that is held so
pub id_at : (ids : List ℕ) (m : FinMap nat_cmp ℕ) (q : ℕ) → slots_from 0 ids ≡ m → get_or ids q 0 ≡ unwrap_or (map_of.get m q) 0
id_at ids m q e = sym (id_stored (get_or ids q 0)) ∙ ap (λ o. unwrap_or o 0) (sym (get_slots ids q)) ∙ ap (λ v. unwrap_or (map_of.get v q) 0) e

-- whether a place isn't 0, told of a map that is held so
pub live_at : (ids : List ℕ) (m : FinMap nat_cmp ℕ) (q : ℕ) → slots_from 0 ids ≡ m → not (get_or ids q 0 == 0) ≡ map_of.contains_key m q
live_at ids m q e = sym (some_stored (get_or ids q 0)) ∙ ap is_some (sym (get_slots ids q)) ∙ ap (λ v. map_of.contains_key v q) e

-- a node is live only if it has a place
pub live_within : (ids : List ℕ) (m : FinMap nat_cmp ℕ) (q : ℕ) → slots_from 0 ids ≡ m → length ids ≡ 16 → map_of.contains_key m q ≡ true → q ≤ 15
live_within ids m q e whole live = elim (cases_lt q 16) [
  | inl within ↦ omega arith
  | inr past ↦ absurd (both_ways (map_of.contains_key m q) (sym (live_at ids m q e) ∙ ap (λ id. not (id == 0)) (get_or_past ids q 0 (omega (arith, past, whole)))) live)
]

-- the live ones among all nodes are the live ones
pub all_told : (ids : List ℕ) (m : FinMap nat_cmp ℕ) (q : ℕ) → slots_from 0 ids ≡ m → length ids ≡ 16 → (nat_lt q 16 && not (get_or ids q 0 == 0)) ≡ map_of.contains_key m q
all_told ids m q e whole = elim (cases_lt q 16) [
  | inl within ↦ ap (λ b. b && not (get_or ids q 0 == 0)) (lt-ltb q 16 within) ∙ live_at ids m q e
  | inr past ↦ ap (λ id. nat_lt q 16 && not (id == 0)) (get_or_past ids q 0 (omega (arith, past, whole))) ∙ and_no (nat_lt q 16) ∙ sym (ap (λ id. not (id == 0)) (get_or_past ids q 0 (omega (arith, past, whole)))) ∙ live_at ids m q e
]
  where
    and_no : (b : Bool) → (b && false) ≡ false
    and_no true = refl
    and_no false = refl

-- one place, once a number is written into another or the same
stored_at : (ids : List ℕ) (k id q : ℕ) → k < length ids → stored (get_or (set ids k id) q 0) ≡ cond (eq_by_cmp nat_cmp q k) (stored id) (stored (get_or ids q 0))
stored_at ids k id q h = elim (cases_eq q k) [
  | inl same ↦ ap (λ j. stored (get_or (set ids k id) j 0)) same ∙ ap stored (get_or-set_same ids k id 0 h)
      ∙ ap (λ b. cond b (stored id) (stored (get_or ids q 0))) (sym (ap (λ x. eq_by_cmp nat_cmp x k) same ∙ alike k))
  | inr differ ↦ ap stored (get_or-set_other ids k q id 0 differ) ∙ ap (λ b. cond b (stored id) (stored (get_or ids q 0))) (sym (apart q k differ))
]

-- a number from 1 on is stored
stored_some : (id : ℕ) → 1 ≤ id → stored id ≡ Some id
stored_some zero h = absurd (omega arith)
stored_some (suc id) h = ap (λ b. cond b None (Some (suc id))) (not_zero id)

-- a number from 1 on that is written into a place puts its node in
pub slots_set : (ids : List ℕ) (k id : ℕ) → k < length ids → 1 ≤ id → slots_from 0 (set ids k id) ≡ map_of.insert (slots_from 0 ids) k id
slots_set ids k id h some =
    map_of.same_map nat_cmp_total nat_cmp-IsAntisymmetric _ _
    (λ q. get_slots (set ids k id) q ∙ stored_at ids k id q h ∙ ap (λ o. cond (eq_by_cmp nat_cmp q k) o (stored (get_or ids q 0))) (stored_some id some)
    ∙ ap (cond (eq_by_cmp nat_cmp q k) (Some id)) (sym (get_slots ids q)) ∙ sym (map_of.get-insert nat_cmp_total (slots_from 0 ids) k id q))

-- a 0 that is written into a place takes its node out
pub slots_clear : (ids : List ℕ) (k : ℕ) → k < length ids → slots_from 0 (set ids k 0) ≡ map_of.remove (slots_from 0 ids) k
slots_clear ids k h =
    map_of.same_map nat_cmp_total nat_cmp-IsAntisymmetric _ _
    (λ q. get_slots (set ids k 0) q ∙ stored_at ids k 0 q h
    ∙ ap (cond (eq_by_cmp nat_cmp q k) None) (sym (get_slots ids q)) ∙ sym (map_of.get-remove nat_cmp_total (slots_from 0 ids) k q))

-- the places that aren't 0, with their nodes
abbrev placed : ℕ → List ℕ → List (ℕ × ℕ)
placed n [] = []
placed n (id ∷ ids) = cond (id == 0) (placed (suc n) ids) ((n, id) ∷ placed (suc n) ids)

-- the order of a lesser number chooses the first
ranked_below : (n m : ℕ) (x y z : List (ℕ × ℕ)) → n < m → by_order (nat_cmp n m) x y z ≡ x
ranked_below n m x y z h = ap (λ r. by_order r x y z) (sym (nat_cmp_is n m Less h))

-- a node before the first place goes in front
put_before : (n v m : ℕ) (ids : List ℕ) → n < m → put nat_cmp n v (placed m ids) ≡ (n, v) ∷ placed m ids
put_before n v m [] h = refl
put_before n v m (id ∷ ids) h =
    elim (id == 0) as (λ b. put nat_cmp n v (cond b (placed (suc m) ids) ((m, id) ∷ placed (suc m) ids)) ≡ (n, v) ∷ cond b (placed (suc m) ids) ((m, id) ∷ placed (suc m) ids)) [
      | true ↦ put_before n v (suc m) ids (omega arith)
      | false ↦ ranked_below n m ((n, v) ∷ (m, id) ∷ placed (suc m) ids) ((m, v) ∷ placed (suc m) ids) ((m, id) ∷ put nat_cmp n v (placed (suc m) ids)) h
    ]

-- a list of length 0 is empty
nothing_in : (es : List (ℕ × ℕ)) → length es ≡ 0 → es ≡ []
nothing_in [] e = refl
nothing_in (x ∷ es) e = absurd (omega arith)

-- the entries are the places that aren't 0
entries_placed : (n : ℕ) (ids : List ℕ) → map_of.entries (slots_from n ids) ≡ placed n ids
unfolding slots_from
entries_placed n [] = nothing_in (map_of.entries map_of.empty) (sym (map_of.len-entries map_of.empty) ∙ map_of.len-empty nat_cmp ℕ)
entries_placed n (id ∷ ids) =
    let rest = entries_placed (suc n) ids in
    elim (id == 0) as (λ b. map_of.entries (cond b (slots_from (suc n) ids) (map_of.insert (slots_from (suc n) ids) n id)) ≡ cond b (placed (suc n) ids) ((n, id) ∷ placed (suc n) ids)) [
      | true ↦ rest
      | false ↦ map_of.entries-insert nat_cmp_total (slots_from (suc n) ids) n id ∙ ap (put nat_cmp n id) rest ∙ put_before n id (suc n) ids (omega arith)
    ]

-- the nodes whose places aren't 0 are those of a row that pass a test which tells so
kept_placed : (p : ℕ → Bool) (n : ℕ) (ids : List ℕ) → ((k : ℕ) → p (n + k) ≡ not (get_or ids k 0 == 0)) → filter p (range_with_len n (length ids)) ≡ map (λ e. e.0) (placed n ids)
kept_placed p n [] h = refl
kept_placed p n (id ∷ ids) h =
    let first : p n ≡ not (id == 0) = ap p (omega arith) ∙ h 0 in
    let later : (k : ℕ) → p (suc n + k) ≡ not (get_or ids k 0 == 0) = λ k. ap p (omega arith) ∙ h (suc k) in
    let rest : filter p (range_with_len (n + 1) (length ids)) ≡ map (λ e. e.0) (placed (suc n) ids) = ap (λ a. filter p (range_with_len a (length ids))) (add-one n) ∙ kept_placed p (suc n) ids later in
    let others = filter p (range_with_len (n + 1) (length ids)) in
    elim (id == 0) as (λ b. p n ≡ not b → cond (p n) (n ∷ others) others ≡ map (λ e. e.0) (cond b (placed (suc n) ids) ((n, id) ∷ placed (suc n) ids))) [
      | true ↦ λ e. ap (λ b. cond b (n ∷ others) others) e ∙ rest
      | false ↦ λ e. ap (λ b. cond b (n ∷ others) others) e ∙ ap (λ ns. n ∷ ns) rest
    ] first

-- 0 and a number are that number
zero_plus : (k : ℕ) → 0 + k ≡ k
zero_plus k = omega arith

-- the live nodes, ascending, are those of the row of all nodes that pass a test which tells whether a node is live
pub keys_kept : (p : ℕ → Bool) (ids : List ℕ) (m : FinMap nat_cmp ℕ) → slots_from 0 ids ≡ m → length ids ≡ 16 → ((q : ℕ) → p q ≡ map_of.contains_key m q) → filter p (range_with_len 0 16) ≡ map_of.keys m
keys_kept p ids m e whole tells =
    ap (λ n. filter p (range_with_len 0 n)) (sym whole)
    ∙ kept_placed p 0 ids (λ k. ap p (zero_plus k) ∙ tells k ∙ sym (live_at ids m k e))
    ∙ ap (map (λ r. r.0)) (sym (entries_placed 0 ids)) ∙ ap map_of.keys e

-- all nodes whose places aren't 0 pass a test
all_placed : (p : ℕ → Bool) (id n : ℕ) (ids : List ℕ) → ((k : ℕ) → not (get_or ids k 0 == 0) ≡ true → p (n + k) ≡ (get_or ids k 0 == id)) → list_all (λ has. (has == 0) || (has == id)) ids ≡ list_all p (map (λ e. e.0) (placed n ids))
all_placed p id n [] h = refl
all_placed p id n (has ∷ ids) h =
    let later : (k : ℕ) → not (get_or ids k 0 == 0) ≡ true → p (suc n + k) ≡ (get_or ids k 0 == id) = λ k some. ap p (omega arith) ∙ h (suc k) some in
    let rest = all_placed p id (suc n) ids later in
    elim (has == 0) as (λ b. (not b ≡ true → p (n + 0) ≡ (has == id)) → ((b || (has == id)) && list_all (λ x. (x == 0) || (x == id)) ids) ≡ list_all p (map (λ e. e.0) (cond b (placed (suc n) ids) ((n, has) ∷ placed (suc n) ids)))) [
      | true ↦ λ e. rest
      | false ↦ λ e. λ i. sym (ap p (n_zero n) ∙ e refl) i && rest i
    ] (h 0)
  where
    n_zero : (n : ℕ) → n ≡ n + 0
    n_zero n = omega arith

-- all live nodes have a topology where each place is 0 or has its number
pub all_slots : (id : ℕ) (ids : List ℕ) (m : FinMap nat_cmp ℕ) → slots_from 0 ids ≡ m → list_all (λ has. (has == 0) || (has == id)) ids ≡ list_all (λ n. unwrap_or (map_of.get m n) 0 == id) (map_of.keys m)
all_slots id ids m e =
    all_placed (λ n. unwrap_or (map_of.get m n) 0 == id) id 0 ids (λ k some. ap (λ n. unwrap_or (map_of.get m n) 0 == id) (zero_plus k) ∙ ap (λ x. x == id) (sym (id_at ids m k e)))
    ∙ ap (λ es. list_all (λ n. unwrap_or (map_of.get m n) 0 == id) (map (λ r. r.0) es)) (sym (entries_placed 0 ids))
    ∙ ap (λ v. list_all (λ n. unwrap_or (map_of.get m n) 0 == id) (map_of.keys v)) e

-- no place is live where all are 0
pub slots_none : (n m : ℕ) → slots_from n (replicate m 0) ≡ map_of.empty
unfolding slots_from
slots_none n zero = refl
slots_none n (suc m) = slots_none (suc n) m
