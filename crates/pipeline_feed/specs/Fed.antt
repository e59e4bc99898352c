-- What a pipeline remembers of the entries that it was fed.
use Rattle.std.specs.Prelude.{◌≡◌, List, [], ◌∷◌, ◌++◌}
use Rattle.std.specs.FinSet as set
use Rattle.grid_base.specs.declared.entry.Entry.{Entry}
use Rattle.grid_base.specs.declared.item.Item.{Item}
use Rattle.pipeline_expr.specs.declared.op.Op.{Op}
use Rattle.pipeline_expr.specs.declared.op.Op.TheVariants as op
use Rattle.pipeline_eval.specs.Lists.{distinct}
use Rattle.pipeline_eval.specs.Pipes.{as_items, op_items, ops_items}
use Rattle.pipeline_eval.specs.Seen.{item_cmp}

-- a set of elements
abbrev pub Elements : Type 0
Elements = set.FinSet item_cmp

-- for each `distinct` in turn, the elements that come to it where the operations are given a list
abbrev pub arrivals : List Op → List Item → List Elements
arrivals [] xs = []
arrivals (op.Distinct ∷ ops) xs = set.from_list xs ∷ arrivals ops (distinct xs)
arrivals (o ∷ ops) xs = arrivals ops (op_items o xs)

-- the sets are those of a pipeline that was fed these entries
abbrev pub IsFed : List Elements → List Op → List Entry → Type 0
IsFed feed ops fed = feed ≡ arrivals ops (as_items fed)

-- behind any list of which these are the sets, the operations make these further elements of the items
abbrev pub Gives : List Elements → List Op → List Item → List Item → Type 0
Gives sets ops items further = (done : List Item) → sets ≡ arrivals ops done → ops_items ops (done ++ items) ≡ ops_items ops done ++ further

-- sets of any list become those of the list with the items behind it
abbrev pub Learns : List Elements → List Op → List Item → List Elements → Type 0
Learns sets ops items learnt = (done : List Item) → sets ≡ arrivals ops done → learnt ≡ arrivals ops (done ++ items)
