-- What the departure of a node loses.
use Rattle.std.proofs.Common.{◌≡◌, ℕ, ◌==◌, Bool, true, false, not, ◌&&◌, List, refl, ap, ◌∙◌}
use Rattle.std.specs.Cmp.{nat_cmp_total, unsigned_tied}
use Rattle.std.specs.FinSet as set
use Rattle.std.specs.List.{list_any}
use Rattle.grid_base.specs.Nodes.{Nodes}
use Rattle.grid_event.specs.Members.{is_live, loses_segment, newest_topology}
use Rattle.grid_event.specs.declared.event.Event.{Event}
use Rattle.topology_phase.specs.Topologies.{holders}
use Rattle.history_members.specs.Told.{AreMembersOf}
use Rattle.history_members.specs.declared.members.Members.{Members}

-- of the holders one is live, and none of them is where the node has left
pub lost : (past : List Event) (table : Members) (node segment : ℕ) (owners : List ℕ) (left : Nodes) → AreMembersOf past table
    → owners ≡ holders table.newest segment → left ≡ set.remove table.live node
    → (list_any (set.contains table.live) owners && not (list_any (set.contains left) owners)) ≡ loses_segment table.config past node segment
lost past table node segment owners left t held leaves = λ i.
    list_any (λ q. t.live q i) (held_by i) && not (list_any (λ q. others q i) (held_by i))
  where
    held_by : owners ≡ holders (newest_topology table.config past) segment
    held_by = held ∙ ap (λ topology. holders topology segment) t.newest

    and_swap : (a b : Bool) → (not a && b) ≡ (b && not a)
    and_swap true true = refl
    and_swap true false = refl
    and_swap false true = refl
    and_swap false false = refl

    others : (q : ℕ) → set.contains left q ≡ (is_live table.config past q && not (q == node))
    others q =
        ap (λ s. set.contains s q) leaves
        ∙ set.contains-remove nat_cmp_total table.live node q
        ∙ (λ i. not (unsigned_tied q node i) && t.live q i)
        ∙ and_swap (q == node) (is_live table.config past q)
