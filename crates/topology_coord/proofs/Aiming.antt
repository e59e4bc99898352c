-- The hash that a rebalance leads to.
use Rattle.std.proofs.Common.{◌≡◌, ℕ, ◌<◌, ◌≤◌, Bool, true, false, T, not, ◌&&◌, ◌||◌, List, [], ◌∷◌, map, length, nat_eq, arith, refl, sym, ap, subst, ◌∙◌, inl, inr, ◌==◌, cond, Less, Equal, Greater}
use Rattle.std.proofs.lemmas.Bool.{and_parts, and_from, or_parts, cases_lt, ne_eqb, both_ways, le-ltb}
use Rattle.std.specs.FinMap as map_of
use Rattle.std.specs.FinMap.Entries.{below_all}
use Rattle.std.specs.List.{AllByRecursion, IsDistinct, list_all, list_any}
use Rattle.std.specs.Ordering.{nat_cmp, is_lt}
use Rattle.topology_phase.specs.Aims.{by_aim}
use Rattle.topology_phase.specs.declared.aim.Aim.{Aim}
use Rattle.topology_phase.specs.declared.aim.Aim.TheVariants.{Create, Least}
use Rattle.topology_phase.specs.Following.{is_owned_by, names_departed}
use Rattle.topology_phase.specs.Owners.{Hash, among, owners_at}
use Rattle.hash_factory.specs.Formulas.{created}
use Rattle.hash_factory.specs.Least.{least}
use Rattle.hash_factory.proofs.Made.{few_created, length-created, owned_created}
use Rattle.hash_factory.proofs.LeastMoves.{length-least}
use Rattle.hash_factory.proofs.LeastRows.{few_least, owned_least}
use Rattle.topology_coord.specs.Coordination.{Coordination, live_nodes, segment_count}
use Rattle.topology_coord.specs.Following.{aimed, needs_repair}

-- the aim has as many segments
pub length-aimed : (c : Coordination) → length (aimed c) ≡ segment_count c
unfolding aimed
length-aimed c = by_kind c.aim
  where
    by_kind : (aim : Aim) → length (by_aim aim (created (live_nodes c) (segment_count c) c.owners) (least (live_nodes c) c.owners c.newest.current)) ≡ segment_count c
    by_kind Create = length-created (live_nodes c) (segment_count c) c.owners
    by_kind Least = length-least (live_nodes c) c.owners c.newest.current

-- no segment of it has more owners than a segment is to have
pub few_aimed : (c : Coordination) (s : ℕ) → 0 < length (live_nodes c) → 0 < c.owners → length (owners_at (aimed c) s) ≤ c.owners
unfolding aimed
few_aimed c s some owners = by_kind c.aim
  where
    by_kind : (aim : Aim) → length (owners_at (by_aim aim (created (live_nodes c) (segment_count c) c.owners) (least (live_nodes c) c.owners c.newest.current)) s) ≤ c.owners
    by_kind Create = few_created (live_nodes c) (segment_count c) c.owners s
    by_kind Least = few_least (live_nodes c) c.owners c.newest.current s some owners

-- no two live nodes are alike
is_true : (b : Bool) → T b → b ≡ true
is_true true h = refl
is_true false h = absurd h

-- a number that is less than another isn't equal to it
below_apart : (x y : ℕ) → is_lt (nat_cmp x y) ≡ true → nat_eq x y ≡ false
below_apart x y h = elim (cases_lt x y) [
  | inl less ↦ ne_eqb x y (omega arith)
  | inr no_less ↦ absurd (both_ways (is_lt (nat_cmp x y)) (not_less no_less) h)
]
  where
    not_less : y ≤ x → is_lt (nat_cmp x y) ≡ false
    not_less no_less = ap (λ b. is_lt (cond b Less (cond (x == y) Equal Greater))) (le-ltb x y no_less) ∙ (elim (x == y) as (λ b. is_lt (cond b Equal Greater) ≡ false) [ true ↦ refl | false ↦ refl ])

-- a number below all keys of a list is none of them
above : (x : ℕ) (es : List (ℕ × ℕ)) → below_all nat_cmp x es ≡ true → AllByRecursion (λ y. nat_eq x y ≡ false) (map (λ e. e.0) es)
above x [] h = tt
above x (e ∷ es) h =
    let parts = and_parts (is_lt (nat_cmp x e.0)) (below_all nat_cmp x es) h in
    (below_apart x e.0 parts.0, above x es parts.1)

-- so no two keys of a sorted list are equal
distinct_entries : (es : List (ℕ × ℕ)) → map_of.is_sorted nat_cmp es ≡ true → IsDistinct nat_eq (map (λ e. e.0) es)
unfolding IsDistinct
distinct_entries [] h = tt
distinct_entries (e ∷ es) h =
    let parts = and_parts (below_all nat_cmp e.0 es) (map_of.is_sorted nat_cmp es) h in
    (above e.0 es parts.0, distinct_entries es parts.1)

-- no two live nodes are alike
pub distinct_live : (c : Coordination) → IsDistinct nat_eq (live_nodes c)
distinct_live c = distinct_entries (map_of.entries c.installed) (is_true (map_of.is_sorted nat_cmp (map_of.entries c.installed)) (map_of.entries_sorted c.installed))

-- where no departed node is named, all owners live
all_live : (live : List ℕ) (hash : Hash) → names_departed live hash ≡ false → list_all (λ row. list_all (λ n. among n live) row) hash ≡ true
all_live live [] h = refl
all_live live (row ∷ hash) h =
    let parts = or_parts (list_any (λ n. not (among n live)) row) (names_departed live hash) h in
    and_from (list_all (λ n. among n live) row) (list_all (λ row. list_all (λ n. among n live) row) hash) (each row parts.0) (all_live live hash parts.1)
  where
    passes : (b : Bool) → not b ≡ false → b ≡ true
    passes true h = refl
    passes false h = sym h

    each : (xs : List ℕ) → list_any (λ n. not (among n live)) xs ≡ false → list_all (λ n. among n live) xs ≡ true
    each [] h = refl
    each (x ∷ xs) h =
        let parts = or_parts (not (among x live)) (list_any (λ n. not (among n live)) xs) h in
        and_from (among x live) (list_all (λ n. among n live) xs) (passes (among x live) parts.0) (each xs parts.1)

-- each segment of it has an owner, and each owner lives, where no repair is needed
pub owned_aimed : (c : Coordination) → 0 < length (live_nodes c) → 0 < c.owners → needs_repair c ≡ false → is_owned_by (live_nodes c) (aimed c) ≡ true
unfolding aimed
owned_aimed c some owners none = by_kind c.aim
  where
    by_kind : (aim : Aim) → is_owned_by (live_nodes c) (by_aim aim (created (live_nodes c) (segment_count c) c.owners) (least (live_nodes c) c.owners c.newest.current)) ≡ true
    by_kind Create = owned_created (live_nodes c) (segment_count c) c.owners some owners
    by_kind Least =
        let parts = or_parts (names_departed (live_nodes c) c.newest.current) (names_departed (live_nodes c) c.newest.pending) none in
        owned_least (live_nodes c) c.owners c.newest.current (distinct_live c) some owners (all_live (live_nodes c) c.newest.current parts.0)
