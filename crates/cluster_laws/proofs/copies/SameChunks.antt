-- Chunks that pass the test for the same chunk are equal.
use Rattle.std.proofs.Common.{◌≡◌, ℕ, true, ◌==◌, Option, Some, None, refl, sym, ap, ◌∙◌}
use Rattle.std.proofs.lemmas.Bool.{and_parts, and_from, eqb-true, eq-eqb}
use Rattle.std.specs.Bool.{Decides, beq}
use Rattle.std.specs.Cmp.{booleans_Decides}
use Rattle.std.specs.Cmp.Lexicographic.{pointwise, pointwise_decides, bytes_decides}
use Rattle.grid_base.specs.Datum.{same_bytes, same_datum}
use Rattle.grid_base.specs.Portion.{Portion}
use Rattle.grid_base.specs.declared.stamped_entry.StampedEntry.{StampedEntry}
use Rattle.grid_base.proofs.DatumLemmas.{same_datum-exact, same_datum-itself}
use Rattle.cluster_model.specs.Same.{same_chunk, same_option, same_stamped}

-- deadlines that pass the test of sameness are equal
same_deadline_is : (a b : Option ℕ) → same_option (λ m n. m == n) a b ≡ true → a ≡ b
same_deadline_is None None h = refl
same_deadline_is None (Some n) h = absurd (cc)
same_deadline_is (Some m) None h = absurd (cc)
same_deadline_is (Some m) (Some n) h = ap (λ k. Some k) (eqb-true m n h)

-- a deadline is the same as itself
same_deadline_itself : (a : Option ℕ) → same_option (λ m n. m == n) a a ≡ true
same_deadline_itself None = refl
same_deadline_itself (Some m) = eq-eqb m m refl

-- entries with deadlines that pass the test are equal
same_stamped_is : (a b : StampedEntry) → same_stamped a b ≡ true → a ≡ b
same_stamped_is a b h =
    let outer = and_parts (same_bytes a.key b.key) _ h in
    let inner = and_parts (same_datum a.stamped.value b.stamped.value) _ outer.1 in
    let keys = (bytes_decides a.key b.key).0 outer.0 in
    let values = same_datum-exact a.stamped.value b.stamped.value inner.0 in
    let deadlines = same_deadline_is a.stamped.until b.stamped.until inner.1 in
    λ i. record { key = keys i; stamped = record { value = values i; until = deadlines i } }

-- an entry with its deadline is the same as itself
pub same_stamped_itself : (a : StampedEntry) → same_stamped a a ≡ true
same_stamped_itself a =
    and_from (same_bytes a.key a.key) _ ((bytes_decides a.key a.key).1 refl)
    (and_from (same_datum a.stamped.value a.stamped.value) _ (same_datum-itself a.stamped.value) (same_deadline_itself a.stamped.until))

-- so the test decides whether they are equal
same_stamped_decides : (a b : StampedEntry) → Decides (same_stamped a b) (a ≡ b)
same_stamped_decides a b = (same_stamped_is a b, λ e. ap (same_stamped a) (sym e) ∙ same_stamped_itself a)

-- chunks that pass the test are equal
pub same_chunk_is : (a b : Portion StampedEntry) → same_chunk a b ≡ true → a ≡ b
same_chunk_is a b h =
    let parts = and_parts (pointwise same_stamped a.entries b.entries) (beq a.last b.last) h in
    let entries = (pointwise_decides same_stamped_decides a.entries b.entries).0 parts.0 in
    let lasts = (booleans_Decides a.last b.last).0 parts.1 in
    λ i. record { entries = entries i; last = lasts i }

-- and a chunk passes the test with itself
pub same_chunk_itself : (a : Portion StampedEntry) → same_chunk a a ≡ true
same_chunk_itself a =
    and_from (pointwise same_stamped a.entries a.entries) (beq a.last a.last) ((pointwise_decides same_stamped_decides a.entries a.entries).1 refl) ((booleans_Decides a.last a.last).1 refl)
