-- Pieces: what a remote half makes of some entries, how pieces join, and what a local half makes of
-- them.
use Rattle.std.specs.Prelude.{◌+◌, ◌^◌, nat_lt, ◌+ℤ◌, Bool, true, false, List, [], ◌++◌, length, Option, Some, None}
use Rattle.grid_base.specs.declared.datum.Datum.{Datum}
use Rattle.grid_base.specs.declared.datum.Datum.TheVariants as datum
use Rattle.grid_base.specs.declared.entry.Entry.{Entry}
use Rattle.grid_base.specs.declared.item.Item.{Item}
use Rattle.pipeline_expr.specs.declared.answer.Answer.{Answer}
use Rattle.pipeline_expr.specs.declared.answer.Answer.TheVariants as answer
use Rattle.pipeline_expr.specs.declared.end.End.{End}
use Rattle.pipeline_expr.specs.declared.end.End.TheVariants as end
use Rattle.pipeline_eval.specs.Values.{wrapped}
use Rattle.pipeline_eval.specs.Lists.{total, lesser, greater, least, greatest}
use Rattle.pipeline_eval.specs.Pipes.{ops_items, end_answer, as_items}
use Rattle.pipeline_split.specs.declared.halves.Remote.{Remote}
use Rattle.pipeline_split.specs.declared.halves.Local.{Local}
use Rattle.pipeline_split.specs.declared.piece.Piece.{Piece}
use Rattle.pipeline_split.specs.declared.piece.Piece.TheVariants.{Nothing, Count, Sum, Min, Max, «List» as Items}

-- what is kept of a list: its count, its sum or its best, by the end, or the list itself
abbrev pub kept_by : Option End → List Item → Piece
kept_by None xs = Items xs
kept_by (Some end.Count) xs = Count (length xs)
kept_by (Some end.Sum) xs = Sum (wrapped (total xs))
kept_by (Some end.Min) xs = Min (least xs)
kept_by (Some end.Max) xs = Max (greatest xs)
kept_by (Some end.Collect) xs = Items xs
kept_by (Some end.Each) xs = Items xs

-- what a remote half makes of some entries
abbrev pub piece : Remote → List Entry → Piece
piece r entries = kept_by r.end (ops_items r.ops (as_items entries))

-- what a local half makes of a piece; Nothing counts as the piece of no entries
abbrev pub finished : Local → Piece → Answer
finished l Nothing = end_answer l.end (ops_items l.ops [])
finished l (Count n) = answer.Count n
finished l (Sum n) = answer.Sum n
finished l (Min best) = answer.Best best
finished l (Max best) = answer.Best best
finished l (Items xs) = end_answer l.end (ops_items l.ops xs)

-- two bests that may be missing compare where both are ints or both are texts
abbrev pub comparable : Option Datum → Option Datum → Bool
comparable None b = true
comparable (Some a) None = true
comparable (Some (datum.Int m)) (Some (datum.Int n)) = true
comparable (Some (datum.Text s)) (Some (datum.Text t)) = true
comparable _ _ = false

-- pieces fit where they have one form, or one is Nothing, where bests compare, and where the count
-- of both stays below 2^64
abbrev pub fitting : Piece → Piece → Bool
fitting Nothing b = true
fitting (Count m) Nothing = true
fitting (Count m) (Count n) = nat_lt (m + n) (2 ^ 64)
fitting (Sum m) Nothing = true
fitting (Sum m) (Sum n) = true
fitting (Min a) Nothing = true
fitting (Min a) (Min b) = comparable a b
fitting (Max a) Nothing = true
fitting (Max a) (Max b) = comparable a b
fitting (Items xs) Nothing = true
fitting (Items xs) (Items ys) = true
fitting _ _ = false

-- the piece of two lists of entries, one behind the other; pieces that don't fit leave the first
abbrev pub joined : Piece → Piece → Piece
joined Nothing b = b
joined (Count m) (Count n) = Count (m + n)
joined (Sum m) (Sum n) = Sum (wrapped (m +ℤ n))
joined (Min a) (Min b) = Min (lesser a b)
joined (Max a) (Max b) = Max (greater a b)
joined (Items xs) (Items ys) = Items (xs ++ ys)
joined a _ = a
