-- Where an entry lies: its segment and its key.
use Rattle.std.specs.Prelude.{ℕ, List, refl}
use Rattle.std.specs.Coded.{Coded, code_by, coded×, coded_list, coded_ℕ}
use Rattle.std.specs.declared.cmp.Ordering.{Ordering}
use Rattle.std.specs.Ordering.{nat_cmp, ordering_then}
use Rattle.std.specs.Cmp.Lexicographic.{slice_cmp}

-- a segment, and a key in it
pub record Place : Type 0 where
  pub segment : ℕ
  pub key : List ℕ

-- the byte order of keys
abbrev pub key_cmp : List ℕ → List ℕ → Ordering
key_cmp = slice_cmp nat_cmp

-- places are ordered by segment, and then by key
abbrev pub place_cmp : Place → Place → Ordering
place_cmp p q = ordering_then (nat_cmp p.segment q.segment) (key_cmp p.key q.key)

-- a place is stored as the pair of its fields
abbrev pub place_code : Coded Place
place_code = code_by (ℕ × List ℕ) (coded× coded_ℕ (coded_list coded_ℕ)) (λ p. (p.segment, p.key)) (λ p. record { segment = p.0; key = p.1 }) (λ _. refl)
