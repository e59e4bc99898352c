-- The places of units.
use Rattle.std.specs.Prelude.{ℕ, refl}
use Rattle.std.specs.Coded.{Coded, code_by, coded×, coded_ℕ}
use Rattle.std.specs.declared.cmp.Ordering.{Ordering}
use Rattle.std.specs.Ordering.{nat_cmp, ordering_then}
use Rattle.loss_listener.specs.declared.place.Place.{Place}

-- a place is stored as the pair of its node and its segment
abbrev pub coded_place : Coded Place
coded_place = code_by (ℕ × ℕ) (coded× coded_ℕ coded_ℕ) (λ p. (p.node, p.segment)) (λ pair. record { node = pair.0; segment = pair.1 }) (λ _. refl)

-- places are ordered by node, and then by segment
abbrev pub place_cmp : Place → Place → Ordering
place_cmp a b = ordering_then (nat_cmp a.node b.node) (nat_cmp a.segment b.segment)
