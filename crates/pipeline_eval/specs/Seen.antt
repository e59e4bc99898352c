-- The set of elements that were seen, beside the list of those that are kept.
use Rattle.std.specs.Prelude.{◌≡◌, List}
use Rattle.std.specs.List.{list_any}
use Rattle.std.specs.BTreeSet.{BTreeSet, contains}
use Rattle.std.specs.declared.cmp.Ordering.{Ordering}
use Rattle.grid_base.specs.contracts.item.ItemOrd.TheImpl as item_ord
use Rattle.grid_base.specs.Datum.{same_item}
use Rattle.grid_base.specs.declared.item.Item.{Item}
use Rattle.pipeline_eval.specs.Lists.{distinct}

-- the order of elements by which the set is kept
abbrev pub item_cmp : Item → Item → Ordering
item_cmp = (item_ord.ghosts).cmp

-- the set has exactly the elements of a list
abbrev pub Holds : BTreeSet Item → List Item → Type 0
Holds seen done = (x : Item) → contains item_cmp seen x ≡ list_any (λ y. same_item y x) done

-- of the elements that are done, the set has all, and the list has the first of equal ones
abbrev pub Keeps : BTreeSet Item → List Item → List Item → Type 0
Keeps seen kept done = Holds seen done × (kept ≡ distinct done)
