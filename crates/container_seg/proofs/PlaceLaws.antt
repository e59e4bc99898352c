-- The order of places.
use Rattle.std.proofs.Common.{◌≡◌, ℕ, ◌&&◌, List, sym, ap, ◌∙◌}
use Rattle.std.proofs.lemmas.Bool.{and_parts}
use Rattle.std.specs.Cmp.{IsTotalOrder, then_total, on_total, tied_then, Equal-is, nat_cmp_total}
use Rattle.std.specs.Cmp.Lexicographic.{nat_list_cmp_total}
use Rattle.std.specs.FinMap.{IsAntisymmetric, nat_cmp-IsAntisymmetric}
use Rattle.std.specs.Ordering.{nat_cmp, is_eq, eq_by_cmp}
use Rattle.container_seg.specs.Places.{Place, place_cmp, key_cmp}
use Rattle.container_seg.specs.Contents.{place}
use Rattle.container_seg.proofs.Trees.{exact_keys}

-- the order of places is total
pub place_total : IsTotalOrder place_cmp
place_total = then_total (on_total (λ (p : Place). p.segment) nat_cmp_total) (on_total (λ (p : Place). p.key) nat_list_cmp_total)

-- places tie where their segments and their keys do
pub places_tie : (t s : ℕ) (j k : List ℕ) → eq_by_cmp place_cmp (place t j) (place s k) ≡ (eq_by_cmp nat_cmp t s && eq_by_cmp key_cmp j k)
places_tie t s j k = sym (tied_then (nat_cmp t s) (key_cmp j k))

-- places that tie are equal
pub exact_places : IsAntisymmetric place_cmp
exact_places p q e =
    let both = and_parts (is_eq (nat_cmp p.segment q.segment)) (is_eq (key_cmp p.key q.key)) (tied_then (nat_cmp p.segment q.segment) (key_cmp p.key q.key) ∙ ap is_eq e) in
    let segments = nat_cmp-IsAntisymmetric p.segment q.segment ((Equal-is (nat_cmp p.segment q.segment)).0 both.0) in
    let keys = exact_keys p.key q.key ((Equal-is (key_cmp p.key q.key)).0 both.1) in
    λ i. record { segment = segments i; key = keys i }
