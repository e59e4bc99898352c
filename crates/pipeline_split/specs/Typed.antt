-- Elements and their kinds.
use Rattle.std.specs.Prelude.{◌≡◌, List, [], ◌∷◌}
use Rattle.grid_base.specs.declared.entry.Entry as base
use Rattle.grid_base.specs.declared.item.Item.{Item}
use Rattle.grid_base.specs.declared.item.Item.TheVariants as items
use Rattle.pipeline_expr.specs.Kinds.{kind_of_datum, kind_of_values}
use Rattle.pipeline_expr.specs.declared.kind.Kind.{Kind}
use Rattle.pipeline_expr.specs.declared.kind.Kind.TheVariants.{Entry, Int, Text, Flag}
use Rattle.pipeline_expr.specs.declared.kind.ValueKind.{ValueKind}
use Rattle.pipeline_eval.specs.Pipes.{as_items}

-- an element of a kind: an entry whose value has the cluster's kind, or a value of that kind
abbrev pub IsOfKind : ValueKind → Kind → Item → Type 0
IsOfKind values Entry (items.Entry entry) = kind_of_datum entry.value ≡ kind_of_values values
IsOfKind values Entry (items.Datum d) = ⊥
IsOfKind values Int (items.Entry entry) = ⊥
IsOfKind values Int (items.Datum d) = kind_of_datum d ≡ Int
IsOfKind values Text (items.Entry entry) = ⊥
IsOfKind values Text (items.Datum d) = kind_of_datum d ≡ Text
IsOfKind values Flag (items.Entry entry) = ⊥
IsOfKind values Flag (items.Datum d) = kind_of_datum d ≡ Flag

-- all elements of a list are of a kind
abbrev pub AreOfKind : ValueKind → Kind → List Item → Type 0
AreOfKind values kind [] = Unit {0}
AreOfKind values kind (x ∷ xs) = IsOfKind values kind x × AreOfKind values kind xs

-- all values of some entries have the cluster's kind
abbrev pub HaveValuesOf : ValueKind → List base.Entry → Type 0
HaveValuesOf values entries = AreOfKind values Entry (as_items entries)
