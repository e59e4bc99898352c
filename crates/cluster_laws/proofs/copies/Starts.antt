-- All parts are kept at the start of a cluster.
use Rattle.std.proofs.Common.{◌≡◌, ℕ, suc, zero, ◌+◌, ◌<◌, ◌==◌, Bool, true, false, cond, not, ◌&&◌, ◌||◌, nat_le, nat_lt, List, [], ◌∷◌, map, length, Option, Some, None, is_some, unwrap_or, refl, sym, ap, ◌∙◌, inl, inr, arith}
use Rattle.std.proofs.lemmas.Bool.{and_parts, leb-true, lt-ltb}
use Rattle.std.proofs.lemmas.Bool.Decides.{nat_tests}
use Rattle.std.specs.Cmp.{nat_cmp_total, nat_eq_equiv, unsigned_tied}
use Rattle.std.specs.FinMap as map_of
use Rattle.std.specs.FinSet as set_of
use Rattle.std.specs.List.{list_all, range_with_len}
use Rattle.std.specs.Ordering.{nat_cmp}
use Rattle.container_seg.specs.Places.{key_cmp}
use Rattle.grid_base.specs.declared.limits.TheConstants.{MOST_NODES, MOST_OWNERS, MOST_SEGMENTS}
use Rattle.grid_base.specs.declared.stamped.Stamped.{Stamped}
use Rattle.grid_event.specs.Configs.{is_config, is_up_to}
use Rattle.grid_event.specs.declared.config.Config.{Config}
use Rattle.grid_event.specs.Maps.{entries_of}
use Rattle.hash_factory.specs.Formulas.{created}
use Rattle.hash_factory.proofs.Made.{length-created, owned_created}
use Rattle.segment_hash.specs.Segments.{segment_number}
use Rattle.state_transfer.specs.Cells.{cell_cmp, destination_cmp}
use Rattle.state_transfer.specs.Copying.{copy_at, transfer_to}
use Rattle.topology_coord.specs.Coordination.{Coordination, first_coordination, first_installed, installed_id, live_nodes, lives}
use Rattle.topology_coord.proofs.MemberLaws.{among-live, each_of}
use Rattle.topology_phase.specs.Laws.{Names}
use Rattle.topology_phase.specs.Owners.{Hash, among, is_ownerless, owners_at}
use Rattle.topology_phase.proofs.Mending.{owned_within}
use Rattle.topology_phase.proofs.NeighbourLaws.{each_row}
use Rattle.topology_phase.proofs.Tables.{safe_alone}
use Rattle.cluster_model.specs.Kept.{IsKept, KeepsParts, KeepsTopologies}
use Rattle.cluster_model.specs.State.{start}
use Rattle.cluster_model.specs.Told.{IsTold, contents_of, is_segment}

-- the settings in their limits
pub record IsGood (config : Config) : Type 0 where
  pub nodes : 0 < config.nodes
  pub segments : 0 < config.segments
  pub owners : 0 < config.owners

-- settings in their limits have some node, some segment, and some owner for each
pub good_config : (config : Config) → is_config config ≡ true → IsGood config
good_config config h =
    let nodes = and_parts (is_up_to MOST_NODES config.nodes) _ h in
    let segments = and_parts (is_up_to MOST_SEGMENTS config.segments) _ nodes.1 in
    let owners = and_parts (is_up_to MOST_OWNERS config.owners) _ segments.1 in
    record {
      nodes = omega (arith, leb-true 1 config.nodes (and_parts (nat_le 1 config.nodes) _ nodes.0).0);
      segments = omega (arith, leb-true 1 config.segments (and_parts (nat_le 1 config.segments) _ segments.0).0);
      owners = omega (arith, leb-true 1 config.owners (and_parts (nat_le 1 config.owners) _ owners.0).0);
    }

-- no number is in an empty range
none_within : (a n : ℕ) → (nat_le a n && nat_lt n (a + 0)) ≡ false
none_within a n = grind (arith, nat_tests)

-- a number is the first of a range or in the rest exactly where it is in the range
one_more_within : (a k n : ℕ) → ((a == n) || (nat_le (a + 1) n && nat_lt n ((a + 1) + k))) ≡ (nat_le a n && nat_lt n (a + suc k))
one_more_within a k n = grind (arith, nat_tests)

-- a range from 0 has the numbers below its length
from_zero : (k n : ℕ) → (nat_le 0 n && nat_lt n (0 + k)) ≡ nat_lt n k
from_zero k n = grind (arith, nat_tests)

-- which numbers are in a row
row : (a k n : ℕ) → among n (range_with_len a k) ≡ (nat_le a n && nat_lt n (a + k))
row a zero n = sym (none_within a n)
row a (suc k) n = ap (λ b. (a == n) || b) (row (a + 1) k n) ∙ one_more_within a k n

-- a node is one of the first where its number is below theirs
pub first_node : (k n : ℕ) → among n (range_with_len 0 k) ≡ nat_lt n k
first_node k n = row 0 k n ∙ from_zero k n

-- a choice of topology 1 by two tests is one by either of them
same_first : (a b : Bool) (o : Option ℕ) → o ≡ cond b (Some 1) None → cond a (Some 1) o ≡ cond (a || b) (Some 1) None
same_first true b o e = refl
same_first false b o e = e

-- at the start a node has installed topology 1 exactly where it is a first node
found_first : (ks : List ℕ) (n : ℕ) → map_of.find {X = ℕ} nat_cmp n (map (λ node. (node, 1)) ks) ≡ cond (among n ks) (Some 1) None
found_first [] n = refl
found_first (k ∷ ks) n =
    ap (λ b. cond b (Some 1) (map_of.find {X = ℕ} nat_cmp n (map (λ node. (node, 1)) ks))) (unsigned_tied n k ∙ nat_eq_equiv.symm n k)
    ∙ same_first (k == n) (among n ks) (map_of.find {X = ℕ} nat_cmp n (map (λ node. (node, 1)) ks)) (found_first ks n)

-- each of the first nodes has installed the first topology
first_at : (k n : ℕ) → map_of.get (first_installed k) n ≡ cond (nat_lt n k) (Some 1) None
first_at k n =
    map_of.get-from_entries nat_cmp_total (map (λ node. (node, 1)) (range_with_len 0 k)) n
    ∙ found_first (range_with_len 0 k) n
    ∙ ap (λ b. cond b (Some 1) None) (first_node k n)

-- a choice of topology 1 is there exactly where the test is true
there : (b : Bool) → is_some (cond {A = Option ℕ} b (Some 1) None) ≡ b
there true = refl
there false = refl

-- a list that has something isn't empty
some_among : (n : ℕ) (xs : List ℕ) → among n xs ≡ true → 0 < length xs
some_among n [] h = absurd (cc)
some_among n (x ∷ xs) h = omega arith

module _ (config : Config) (good : IsGood config) where
  -- the coordination at the start
  abbrev first : Coordination
  first = (start config).holding.coord

  -- a node is live at the start exactly where it is a first node
  live_first : (n : ℕ) → lives first n ≡ nat_lt n config.nodes
  unfolding first_coordination
  live_first n = ap is_some (first_at config.nodes n) ∙ there (nat_lt n config.nodes)

  -- and a member exactly then
  member_first : (n : ℕ) → set_of.contains first.ever n ≡ nat_lt n config.nodes
  unfolding first_coordination
  member_first n = set_of.contains-from_list_nat (range_with_len 0 config.nodes) n ∙ first_node config.nodes n

  -- each live node has installed topology 1
  installed_first : (n : ℕ) → lives first n ≡ true → installed_id first n ≡ 1
  unfolding first_coordination
  installed_first n l =
      ap (λ o. unwrap_or o 0) (first_at config.nodes n)
      ∙ ap (λ b. unwrap_or (cond {A = Option ℕ} b (Some 1) None) 0) (sym (live_first n) ∙ l)

  -- some node lives
  some_first : 0 < length (live_nodes first)
  some_first = some_among 0 (live_nodes first) (among-live first 0 ∙ live_first 0 ∙ lt-ltb 0 config.nodes good.nodes)

  -- the current hash of the first topology
  abbrev hash : Hash
  hash = created (range_with_len 0 config.nodes) config.segments config.owners

  -- there are some first nodes
  long_row : 0 < length (range_with_len 0 config.nodes)
  long_row = some_among 0 (range_with_len 0 config.nodes) (first_node config.nodes 0 ∙ lt-ltb 0 config.nodes good.nodes)

  -- each owner is a member
  owner_first : (n s : ℕ) → among n (owners_at hash s) ≡ true → set_of.contains first.ever n ≡ true
  owner_first n s h =
      let owned = each_row hash s (λ owners. not (is_ownerless owners) && list_all (λ m. among m (range_with_len 0 config.nodes)) owners) (owned_within hash s n h) (owned_created (range_with_len 0 config.nodes) config.segments config.owners long_row good.owners) in
      let each = (and_parts (not (is_ownerless (owners_at hash s))) (list_all (λ m. among m (range_with_len 0 config.nodes)) (owners_at hash s)) owned).1 in
      member_first n ∙ sym (first_node config.nodes n) ∙ each_of (λ m. among m (range_with_len 0 config.nodes)) (owners_at hash s) n each h

  -- each node that the first topology names is a member
  named_first : (n s : ℕ) → Names first.newest n s → set_of.contains first.ever n ≡ true
  unfolding first_coordination
  named_first n s named = elim named [
    | inl current ↦ owner_first n s current
    | inr pending ↦ absurd (no_owner pending)
  ]
    where
      no_owner : among n (owners_at [] s) ≡ true → ⊥
      no_owner h = let none : Hash = [] in let within : s < 0 = owned_within none s n h in omega arith

  -- at the start the part of topologies stands
  topologies_first : KeepsTopologies config.segments first
  unfolding first_coordination
  topologies_first = record {
    some_owner = good.owners;
    some_live = some_first;
    all_segments = length-created (range_with_len 0 config.nodes) config.segments config.owners;
    numbered = inl refl;
    installed = λ n l. inl (installed_first n l);
    safe = safe_alone first.newest (lives first);
    member = λ n l. member_first n ∙ sym (live_first n) ∙ l;
    named = named_first;
    named_before = named_first;
    owned = record { pending = λ s n h. inl refl; same_length = inl refl };
  }

  -- the map at the start
  abbrev no_contents : ℕ → List ℕ → Option Stamped
  no_contents = contents_of config []

  -- nothing stands in it
  nothing_there : (s : ℕ) (k : List ℕ) → no_contents s k ≡ None
  unfolding entries_of
  nothing_there s k = ap (λ o. cond (is_segment (segment_number config.partition config.segments k) s) o None) (map_of.get-empty key_cmp k) ∙ none (is_segment (segment_number config.partition config.segments k) s)
    where
      none : (b : Bool) → cond {A = Option Stamped} b None None ≡ None
      none true = refl
      none false = refl

  -- no node has a copy
  no_copies : (n s : ℕ) (k : List ℕ) → copy_at (start config).holding.copying.cells n s k ≡ None
  no_copies n s k = map_of.get-empty cell_cmp (record { node = n; segment = s; key = k })

  -- no transfer is there
  no_transfers : (r s : ℕ) → transfer_to (start config).holding.copying.transfers r s ≡ None
  no_transfers r s = map_of.get-empty destination_cmp (record { receiver = r; segment = s })

  -- so the four parts stand at the start
  parts_first : KeepsParts config.segments first (start config).holding.copying no_contents
  parts_first = record {
    topologies = topologies_first;
    empty = λ s none. record { no_entry = nothing_there s; no_copy = λ n k. no_copies n s k; no_transfer = λ r. no_transfers r s };
    copies = λ n s l held k. no_copies n s k ∙ sym (nothing_there s k);
    transfers = λ r s v is. (let none = no_transfers r s in absurd (cc));
  }

  -- and the events tell the start
  told_first : IsTold config [] (start config)
  unfolding first_coordination
  told_first = record {
    settings = refl;
    segments = refl;
    live = live_first;
    member = member_first;
    newest = refl;
    installed = installed_first;
    newest_numbered = refl;
    before_numbered = refl;
    clock = refl;
  }

  -- all is kept at the start
  pub start_kept : IsKept config [] (start config)
  start_kept = record { told = told_first; parts = parts_first }
