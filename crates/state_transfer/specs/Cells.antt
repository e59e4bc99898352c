-- Where copies lie, and where transfers lead to.
use Rattle.std.specs.Prelude.{ℕ, List, refl}
use Rattle.std.specs.Coded.{Coded, code_by, coded×, coded_list, coded_ℕ}
use Rattle.std.specs.declared.cmp.Ordering.{Ordering}
use Rattle.std.specs.FinMap as map_of
use Rattle.std.specs.FinSet as set_of
use Rattle.std.specs.Ordering.{nat_cmp, ordering_then}
use Rattle.grid_base.specs.declared.stamped.Stamped.{Stamped}
use Rattle.container_seg.specs.Places.{key_cmp}

-- where a copy of an entry lies: at a node, in a segment, under the entry's key
pub record Cell : Type 0 where
  pub node : ℕ
  pub segment : ℕ
  pub key : List ℕ

-- cells by node, then by segment, then by the bytes of the key
abbrev pub cell_cmp : Cell → Cell → Ordering
cell_cmp a b =
    ordering_then (nat_cmp a.node b.node) (ordering_then (nat_cmp a.segment b.segment) (key_cmp a.key b.key))

-- a cell is stored as its fields
abbrev pub cell_code : Coded Cell
cell_code =
    code_by (ℕ × (ℕ × List ℕ)) (coded× coded_ℕ (coded× coded_ℕ (coded_list coded_ℕ))) (λ c. (c.node, (c.segment, c.key)))
    (λ p. record { node = p.0; segment = p.1.0; key = p.1.1 }) (λ _. refl)

-- the copies of all nodes, each with its deadline
abbrev pub Cells : Type 0
Cells = map_of.FinMap cell_cmp Stamped

-- a set of keys
abbrev pub Keys : Type 0
Keys = set_of.FinSet key_cmp

-- where a transfer leads to: the node that receives, and the segment
pub record Destination : Type 0 where
  pub receiver : ℕ
  pub segment : ℕ

-- destinations by receiver, then by segment
abbrev pub destination_cmp : Destination → Destination → Ordering
destination_cmp a b = ordering_then (nat_cmp a.receiver b.receiver) (nat_cmp a.segment b.segment)

-- a destination is stored as its fields
abbrev pub destination_code : Coded Destination
destination_code =
    code_by (ℕ × ℕ) (coded× coded_ℕ coded_ℕ) (λ d. (d.receiver, d.segment)) (λ p. record { receiver = p.0; segment = p.1 })
    (λ _. refl)
