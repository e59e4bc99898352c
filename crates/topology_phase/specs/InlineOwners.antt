-- How owners lie in place: eight nodes, of which the first ones are the owners and the rest are zeros.
use Rattle.std.specs.Prelude.{◌≡◌, ℕ, ◌≤◌, List, length, take, nat_eq}
use Rattle.std.specs.List.{IsDistinct}
use Rattle.std.proofs.Common.{arith}
use Rattle.std.proofs.lemmas.List.{length-take-le}
use Rattle.grid_base.specs.Padded.{pad}
use Rattle.topology_phase.specs.declared.owners.Owners.TheInside.{Inside}

-- the first `len` nodes are the owners, no two of them alike, and zeros fill the rest
pub record IsInlineOwners (a : Inside) : Type 0 where
  pub fits : a.len ≤ 8
  pub whole : length a.nodes ≡ 8
  pub distinct : IsDistinct nat_eq (take a.len a.nodes)
  pub padded : pad 8 (take a.len a.nodes) ≡ a.nodes

-- the nodes and the number in which owners lie
abbrev pub inside_of : List ℕ → Inside
inside_of owners = record { nodes = pad 8 owners; len = length owners }

-- owners give back the nodes and the number in which they lie
pub inside_of-view : (a : Inside) → IsInlineOwners a → inside_of (take a.len a.nodes) ≡ a
inside_of-view a h =
    let short : length (take a.len a.nodes) ≡ a.len = length-take-le a.len a.nodes (omega (arith, h.fits, h.whole)) in
    λ i. record { nodes = h.padded i; len = short i }
