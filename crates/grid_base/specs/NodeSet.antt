-- How a set of nodes lies in sixteen flags.
use Rattle.std.specs.Prelude.{◌≡◌, length, ℕ}
use Rattle.std.proofs.Common.{arith, sym, ◌∙◌, ap}
use Rattle.std.specs.FinSet as sets
use Rattle.grid_base.specs.Nodes.{Nodes, flagged, flags_of, contains-flagged, flags_of-tells}
use Rattle.grid_base.specs.declared.node_set.NodeSet.TheInside.{Inside}

-- there is a flag for each of sixteen nodes
abbrev pub IsNodeSet : Inside → Type 0
IsNodeSet a = length a.flags ≡ 16

-- the nodes whose flag is up
abbrev pub nodes_in : Inside → Nodes
nodes_in a = flagged 0 a.flags

-- the flags of a set
abbrev pub inside_of : Nodes → Inside
inside_of nodes = record { flags = flags_of 0 16 nodes }

-- a set gives back the flags that it was made of
pub inside_of-view : (a : Inside) → IsNodeSet a → inside_of (nodes_in a) ≡ a
inside_of-view a h =
    let told : flags_of 0 (length a.flags) (nodes_in a) ≡ a.flags =
    flags_of-tells 0 a.flags (nodes_in a) (λ k. ap (sets.contains (nodes_in a)) (omega arith) ∙ contains-flagged a.flags k) in
    let same : flags_of 0 16 (nodes_in a) ≡ a.flags = ap (λ (n : ℕ). flags_of 0 n (nodes_in a)) (sym h) ∙ told in
    λ i. record { flags = same i }
