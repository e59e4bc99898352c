-- The plain pipeline: each operation is applied to the whole list in turn, and then the end.
use Rattle.std.specs.Prelude.{List, [], ◌∷◌, map, length}
use Rattle.std.specs.List.{filter, flat_map}
use Rattle.grid_base.specs.declared.datum.Datum.TheVariants.{Text}
use Rattle.grid_base.specs.declared.entry.Entry.{Entry}
use Rattle.grid_base.specs.declared.item.Item.{Item}
use Rattle.grid_base.specs.declared.item.Item.TheVariants as items
use Rattle.pipeline_expr.specs.declared.answer.Answer.{Answer}
use Rattle.pipeline_expr.specs.declared.answer.Answer.TheVariants as answer
use Rattle.pipeline_expr.specs.declared.end.End.{End}
use Rattle.pipeline_expr.specs.declared.end.End.TheVariants as end
use Rattle.pipeline_expr.specs.declared.op.Op.{Op}
use Rattle.pipeline_expr.specs.declared.op.Op.TheVariants as op
use Rattle.pipeline_expr.specs.declared.pipeline.Pipeline.{Pipeline}
use Rattle.pipeline_expr.specs.declared.spread.Spread.{Spread}
use Rattle.pipeline_expr.specs.declared.spread.Spread.TheVariants.{Each, Words}
use Rattle.pipeline_eval.specs.Values.{bytes_of, is_on, wrapped}
use Rattle.pipeline_eval.specs.Evaluation.{value_of}
use Rattle.pipeline_eval.specs.Lists.{distinct, words, total, least, greatest}

-- what a flatmap replaces an element by: the values of its expressions, or the words of a text
abbrev pub spread_items : Spread → Item → List Item
spread_items (Each list) x = map (λ e. items.Datum (value_of e x)) (list.first ∷ list.rest)
spread_items (Words e) x = map (λ word. items.Datum (Text word)) (words (bytes_of (value_of e x)))

-- what an operation makes of a whole list
abbrev pub op_items : Op → List Item → List Item
op_items (op.Filter e) xs = filter (λ x. is_on (value_of e x)) xs
op_items (op.Map e) xs = map (λ x. items.Datum (value_of e x)) xs
op_items (op.FlatMap spread) xs = flat_map (spread_items spread) xs
op_items op.Distinct xs = distinct xs

-- what several operations in turn make of it
abbrev pub ops_items : List Op → List Item → List Item
ops_items [] xs = xs
ops_items (o ∷ ops) xs = ops_items ops (op_items o xs)

-- what an end answers of a list
abbrev pub end_answer : End → List Item → Answer
end_answer end.Count xs = answer.Count (length xs)
end_answer end.Sum xs = answer.Sum (wrapped (total xs))
end_answer end.Min xs = answer.Best (least xs)
end_answer end.Max xs = answer.Best (greatest xs)
end_answer end.Collect xs = answer.List xs
end_answer end.Each xs = answer.List xs

-- entries as the first elements
abbrev pub as_items : List Entry → List Item
as_items entries = map (λ entry. items.Entry entry) entries

-- the elements of a list of entries that a pipeline comes to before its end
abbrev pub pipe_items : Pipeline → List Entry → List Item
pipe_items p entries = ops_items p.ops (as_items entries)

-- the answer of the plain pipeline over a list of entries
abbrev pub pipe : Pipeline → List Entry → Answer
pipe p entries = end_answer p.end (pipe_items p entries)
