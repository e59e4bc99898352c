-- A longer list of entries never takes back an element that a pipeline has come to.
use Rattle.std.proofs.Common.{◌≡◌, List, [], ◌∷◌, ◌++◌, refl, ◌∙◌, ap}
use Rattle.std.proofs.lemmas.List.{map-append}
use Rattle.std.proofs.lemmas.List.Concat.{flat_map-append}
use Rattle.std.proofs.lemmas.List.Elements.{filter-append}
use Rattle.std.specs.List.{filter, flat_map}
use Rattle.std.specs.Prelude.{map}
use Rattle.grid_base.specs.declared.entry.Entry.{Entry}
use Rattle.grid_base.specs.declared.item.Item.{Item}
use Rattle.grid_base.specs.declared.item.Item.TheVariants as items
use Rattle.pipeline_expr.specs.declared.op.Op.{Op}
use Rattle.pipeline_expr.specs.declared.op.Op.TheVariants as op
use Rattle.pipeline_expr.specs.declared.pipeline.Pipeline.{Pipeline}
use Rattle.pipeline_eval.specs.Values.{is_on}
use Rattle.pipeline_eval.specs.Evaluation.{value_of}
use Rattle.pipeline_eval.specs.Pipes.{spread_items, op_items, ops_items, as_items, pipe_items}
use Rattle.pipeline_eval.proofs.ListLemmas.{distinct_grows}

-- what an operation makes of two lists joined begins with what it makes of the first
pub op_grows : (o : Op) (xs ys : List Item) → (more : List Item) × (op_items o (xs ++ ys) ≡ op_items o xs ++ more)
op_grows (op.Filter e) xs ys = (filter (λ x. is_on (value_of e x)) ys, filter-append (λ x. is_on (value_of e x)) xs ys)
op_grows (op.Map e) xs ys = (map (λ x. items.Datum (value_of e x)) ys, map-append (λ x. items.Datum (value_of e x)) xs ys)
op_grows (op.FlatMap spread) xs ys = (flat_map (spread_items spread) ys, flat_map-append (spread_items spread) xs ys)
op_grows op.Distinct xs ys = distinct_grows xs ys

-- so it is for several operations in turn
pub ops_grow : (ops : List Op) (xs ys : List Item) → (more : List Item) × (ops_items ops (xs ++ ys) ≡ ops_items ops xs ++ more)
ops_grow [] xs ys = (ys, refl)
ops_grow (o ∷ ops) xs ys =
    let first = op_grows o xs ys in
    let rest = ops_grow ops (op_items o xs) first.0 in
    (rest.0, ap (ops_items ops) first.1 ∙ rest.1)

-- and for a pipeline
pub pipe_items_grow : (p : Pipeline) (taken more : List Entry) → (rest : List Item) × (pipe_items p (taken ++ more) ≡ pipe_items p taken ++ rest)
pipe_items_grow p taken more =
    let grown = ops_grow p.ops (as_items taken) (as_items more) in
    (grown.0, ap (ops_items p.ops) (map-append (λ entry. items.Entry entry) taken more) ∙ grown.1)
