-- The value of an expression at an element of a list.
use Rattle.std.specs.Prelude.{ℕ, pos, ◌+ℤ◌, ◌-ℤ◌, ◌*ℤ◌, ◌&&◌, ◌||◌, not, List, [], length}
use Rattle.grid_base.specs.Datum.{same_datum}
use Rattle.grid_base.specs.declared.datum.Datum.{Datum}
use Rattle.grid_base.specs.declared.datum.Datum.TheVariants.{Int, Text, Flag}
use Rattle.grid_base.specs.declared.item.Item.{Item}
use Rattle.grid_base.specs.declared.item.Item.TheVariants as items
use Rattle.pipeline_expr.specs.declared.expr.Expr.{Expr}
use Rattle.pipeline_expr.specs.declared.expr.Expr.TheOpen.{Expr-F}
use Rattle.pipeline_expr.specs.declared.expr.Expr.TheFolds.{fold-Expr}
use Rattle.pipeline_eval.specs.Values.{number_of, bytes_of, is_on, wrapped, is_less, has_prefix}

-- the key of an entry
abbrev pub key_of : Item → List ℕ
key_of (items.Entry entry) = entry.key
key_of (items.Datum d) = []

-- the value of an entry, or the value that an element is
abbrev pub datum_of : Item → Datum
datum_of (items.Entry entry) = entry.value
datum_of (items.Datum d) = d

-- The table of values: a form, its parts already evaluated, at an element. Both sides of `and` and
-- of `or` are evaluated.
abbrev pub value_step : Item → Expr-F Datum → Datum
value_step x Expr-F.Key = Text (key_of x)
value_step x Expr-F.Value = datum_of x
value_step x Expr-F.It = datum_of x
value_step x (Expr-F.Lit d) = d
value_step x (Expr-F.Add a b) = Int (wrapped (number_of a +ℤ number_of b))
value_step x (Expr-F.Sub a b) = Int (wrapped (number_of a -ℤ number_of b))
value_step x (Expr-F.Mul a b) = Int (wrapped (number_of a *ℤ number_of b))
value_step x (Expr-F.Same a b) = Flag (same_datum a b)
value_step x (Expr-F.Less a b) = Flag (is_less a b)
value_step x (Expr-F.And a b) = Flag (is_on a && is_on b)
value_step x (Expr-F.Or a b) = Flag (is_on a || is_on b)
value_step x (Expr-F.Not a) = Flag (not (is_on a))
value_step x (Expr-F.Length a) = Int (pos (length (bytes_of a)))
value_step x (Expr-F.Starts a b) = Flag (has_prefix a b)

-- the value of an expression at an element
abbrev pub value_of : Expr → Item → Datum
value_of e x = fold-Expr Datum (value_step x) e
