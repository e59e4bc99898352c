-- The table after an event is the one of the past with the event.
use Rattle.std.proofs.Common.{◌≡◌, ℕ, suc, ◌+◌, ◌<◌, ◌==◌, Bool, not, ◌&&◌, ◌||◌, if◌then◌else◌, List, ◌∷◌, length, slice_index_or, ap, ◌∙◌, arith}
use Rattle.std.specs.Cmp.{nat_cmp_total, nat_eq_equiv, unsigned_tied}
use Rattle.std.specs.FinSet as set
use Rattle.grid_base.specs.Nodes.{Nodes}
use Rattle.grid_event.specs.Members.{is_live, was_member}
use Rattle.grid_event.specs.declared.event.Event.{Event}
use Rattle.grid_event.specs.declared.event.Event.TheVariants.{Depart, Install, Join}
use Rattle.topology_phase.specs.Owners.{among}
use Rattle.topology_phase.specs.Topologies.{read_owners}
use Rattle.history_members.specs.Cells.{place_in}
use Rattle.history_members.specs.Told.{AreMembersOf}
use Rattle.history_members.specs.declared.members.Members.{Members}

-- a set with one node more, and with one less
with_node : (nodes changed : Nodes) (node q : ℕ) (was : Bool) → changed ≡ set.insert nodes node → set.contains nodes q ≡ was → set.contains changed q ≡ ((node == q) || was)
with_node nodes changed node q was e told =
    ap (λ s. set.contains s q) e
    ∙ set.contains-insert nat_cmp_total nodes node q
    ∙ (λ i. (unsigned_tied q node ∙ nat_eq_equiv.symm q node) i || told i)

without_node : (nodes changed : Nodes) (node q : ℕ) (was : Bool) → changed ≡ set.remove nodes node → set.contains nodes q ≡ was → set.contains changed q ≡ (not (node == q) && was)
without_node nodes changed node q was e told =
    ap (λ s. set.contains s q) e
    ∙ set.contains-remove nat_cmp_total nodes node q
    ∙ (λ i. not ((unsigned_tied q node ∙ nat_eq_equiv.symm q node) i) && told i)

-- the number of one node is another, and those of the others stay
abbrev pub IsPut : List ℕ → List ℕ → ℕ → ℕ → Type 0
IsPut numbers changed node number =
    (other otherwise : ℕ) → slice_index_or changed other otherwise ≡ (if node == other then number else slice_index_or numbers other otherwise)

-- a node joins
pub joined : (past : List Event) (table : Members) (node : ℕ) (ever live : Nodes) (ids : List ℕ) (id : ℕ) → AreMembersOf past table
    → ever ≡ set.insert table.ever node → live ≡ set.insert table.live node → id ≡ table.newest.id → IsPut table.installed ids node id
    → AreMembersOf (Join node ∷ past) (record table { ever = ever; live = live; installed = ids })
joined past table node ever live ids id t more lives newest put = record {
  ever = λ q. with_node table.ever ever node q (was_member table.config past q) more (t.ever q);
  live = λ q. with_node table.live live node q (is_live table.config past q) lives (t.live q);
  installed = λ q. put q 1 ∙ (λ i. if node == q then (newest ∙ ap (λ topology. topology.id) t.newest) i else t.installed q i);
  newest = t.newest;
  departed = t.departed;
  segments = t.segments;
  unread = t.unread;
  clock = t.clock;
  moves = t.moves;
}

-- a node departs
pub departed : (past : List Event) (table : Members) (node place : ℕ) (live : Nodes) (places : List ℕ) → AreMembersOf past table
    → place ≡ length past → live ≡ set.remove table.live node → IsPut table.departed places node (place + 1)
    → AreMembersOf (Depart node ∷ past) (record table { live = live; departed = places; moves = table.moves + 1 })
departed past table node place live places t placed lives put =
    let next : place + 1 ≡ suc (length past) = omega (arith, placed) in
    record {
      ever = t.ever;
      live = λ q. without_node table.live live node q (is_live table.config past q) lives (t.live q);
      installed = t.installed;
      newest = t.newest;
      departed = λ q. put q 0 ∙ (λ i. if node == q then next i else t.departed q i);
      segments = t.segments;
      unread = t.unread;
      clock = t.clock;
      moves = ap (λ n. n + 1) t.moves;
    }

-- a node installs a topology
pub installed : (past : List Event) (table : Members) (node id place : ℕ) (ids : List ℕ) (unread : List (List ℕ)) → AreMembersOf past table
    → place ≡ length past → IsPut table.installed ids node id → length unread ≡ length table.unread
    → ((other segment : ℕ) → segment < table.config.segments → place_in unread other segment
    ≡ (if (node == other) && not (among node (read_owners table.newest segment)) then place + 1 else place_in table.unread other segment))
    → AreMembersOf (Install node id ∷ past) (record table { installed = ids; unread = unread; moves = table.moves + 1 })
installed past table node id place ids unread t placed put segments left =
    let next : place + 1 ≡ suc (length past) = omega (arith, placed) in
    record {
      ever = t.ever;
      live = t.live;
      installed = λ q. put q 1 ∙ ap (λ n. if node == q then id else n) (t.installed q);
      newest = t.newest;
      departed = t.departed;
      segments = segments ∙ t.segments;
      unread = λ q segment known. left q segment known ∙ (λ i. if (node == q) && not (among node (read_owners (t.newest i) segment)) then next i else t.unread q segment known i);
      clock = t.clock;
      moves = ap (λ n. n + 1) t.moves;
    }
