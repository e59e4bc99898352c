-- The order of elements is total, and only equal elements tie.
use Rattle.std.proofs.Common.{◌≡◌, ℕ, refl, sym, ◌∙◌, ap, subst}
use Rattle.std.specs.declared.cmp.Ordering.{Ordering}
use Rattle.std.specs.Cmp.{IsTotalOrder}
use Rattle.std.specs.Cmp.Lexicographic.{slice_cmp, nat_list_cmp_total}
use Rattle.std.specs.FinSet.{IsAntisymmetric}
use Rattle.std.specs.Ordering.{is_eq, then_cmp, on, nat_cmp, ordering_then}
use Rattle.std.proofs.lemmas.Cmp.{nat_cmp_total, on_total, then_total}
use Rattle.grid_base.proofs.DatumLemmas.{same_item-exact}
use Rattle.grid_base.specs.contracts.datum.DatumOrd.TheImpl as datum_ord
use Rattle.grid_base.specs.declared.datum.Datum.{Datum}
use Rattle.grid_base.specs.declared.datum.Datum.TheVariants.{Int, Text, Flag}
use Rattle.grid_base.specs.declared.item.Item.{Item}
use Rattle.grid_base.specs.declared.item.Item.TheVariants as items
use Rattle.pipeline_eval.proofs.OrderLemmas.{datum_cmp_total}
use Rattle.pipeline_eval.proofs.SeenLemmas.{tied_same}
use Rattle.pipeline_eval.specs.Evaluation.{key_of, datum_of}
use Rattle.pipeline_eval.specs.Seen.{item_cmp}
use Rattle.pipeline_eval.specs.Values.{datum_cmp}

-- values compare as `datum_cmp` says
datum_cmp_is : (a b : Datum) → datum_cmp a b ≡ (datum_ord.ghosts).cmp a b
datum_cmp_is (Int m) (Int n) = refl
datum_cmp_is (Int m) (Text t) = refl
datum_cmp_is (Int m) (Flag c) = refl
datum_cmp_is (Text s) (Int n) = refl
datum_cmp_is (Text s) (Text t) = refl
datum_cmp_is (Text s) (Flag c) = refl
datum_cmp_is (Flag b) (Int n) = refl
datum_cmp_is (Flag b) (Text t) = refl
datum_cmp_is (Flag b) (Flag c) = refl

-- entries stand before values
rank : Item → ℕ
rank (items.Entry e) = 0
rank (items.Datum d) = 1

-- elements compare by their kind, then by key, then by value
abbrev by_parts : Item → Item → Ordering
by_parts = then_cmp (on rank nat_cmp) (then_cmp (on key_of (slice_cmp nat_cmp)) (on datum_of datum_cmp))

-- and no otherwise by the order that the type derives
by_parts_is : (a b : Item) → by_parts a b ≡ item_cmp a b
unfolding rank
by_parts_is (items.Entry a) (items.Entry b) = ap (ordering_then (slice_cmp nat_cmp a.key b.key)) (datum_cmp_is a.value b.value)
by_parts_is (items.Entry a) (items.Datum b) = refl
by_parts_is (items.Datum a) (items.Entry b) = refl
by_parts_is (items.Datum a) (items.Datum b) = datum_cmp_is a b

-- the order of elements is total
pub item_total : IsTotalOrder item_cmp
item_total =
    subst (λ R. IsTotalOrder R) (λ i a b. by_parts_is a b i)
    (then_total (on_total rank nat_cmp_total) (then_total (on_total key_of nat_list_cmp_total) (on_total datum_of datum_cmp_total)))

-- elements that tie are equal
pub item_exact : IsAntisymmetric item_cmp
item_exact a b tie = same_item-exact a b (sym (tied_same a b) ∙ ap is_eq tie)
