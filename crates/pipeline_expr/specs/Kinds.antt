-- The kinds of expressions: what each form needs of its parts, and the kind that it then has.
use Rattle.std.specs.Prelude.{Bool, true, false, Option, Some, None, option_and_then, if◌then◌else◌}
use Rattle.grid_base.specs.declared.datum.Datum.{Datum}
use Rattle.grid_base.specs.declared.datum.Datum.TheVariants as datum
use Rattle.pipeline_expr.specs.declared.kind.Kind.{Kind}
use Rattle.pipeline_expr.specs.declared.kind.Kind.TheVariants.{Entry, Int, Text, Flag}
use Rattle.pipeline_expr.specs.declared.kind.ValueKind.{ValueKind}
use Rattle.pipeline_expr.specs.declared.kind.ValueKind.TheVariants as values
use Rattle.pipeline_expr.specs.declared.expr.Expr.{Expr}
use Rattle.pipeline_expr.specs.declared.expr.Expr.TheOpen.{Expr-F}
use Rattle.pipeline_expr.specs.declared.expr.Expr.TheFolds.{fold-Expr}

infixl 10 ◌>>=◌
abbrev pub ◌>>=◌ : {A B : Type 0} → Option A → (A → Option B) → Option B
o >>= f = option_and_then f o

-- whether two kinds are one
abbrev pub same_kind : Kind → Kind → Bool
same_kind Entry Entry = true
same_kind Int Int = true
same_kind Text Text = true
same_kind Flag Flag = true
same_kind _ _ = false

-- the kind of a value
abbrev pub kind_of_datum : Datum → Kind
kind_of_datum (datum.Int n) = Int
kind_of_datum (datum.Text t) = Text
kind_of_datum (datum.Flag b) = Flag

-- the kind of the cluster's values
abbrev pub kind_of_values : ValueKind → Kind
kind_of_values values.Int = Int
kind_of_values values.Text = Text
kind_of_values values.Flag = Flag

-- a key or a value is had of an entry alone
abbrev pub part_kind : Kind → Kind → Option Kind
part_kind Entry part = Some part
part_kind _ part = None

-- the element itself is a value where it is no entry
abbrev pub it_kind : Kind → Option Kind
it_kind Entry = None
it_kind Int = Some Int
it_kind Text = Some Text
it_kind Flag = Some Flag

-- a sum, a difference or a product: two Ints
abbrev pub arithmetic_kind : Kind → Kind → Option Kind
arithmetic_kind Int Int = Some Int
arithmetic_kind _ _ = None

-- an equation: two of one kind
abbrev pub equation_kind : Kind → Kind → Option Kind
equation_kind a b = if same_kind a b then Some Flag else None

-- an order: two Ints or two Texts
abbrev pub order_kind : Kind → Kind → Option Kind
order_kind Int Int = Some Flag
order_kind Text Text = Some Flag
order_kind _ _ = None

-- and, or: two Flags
abbrev pub logic_kind : Kind → Kind → Option Kind
logic_kind Flag Flag = Some Flag
logic_kind _ _ = None

-- a negation: a Flag
abbrev pub negation_kind : Kind → Option Kind
negation_kind Flag = Some Flag
negation_kind _ = None

-- a length: a Text
abbrev pub length_kind : Kind → Option Kind
length_kind Text = Some Int
length_kind _ = None

-- a test of a prefix: two Texts
abbrev pub prefix_kind : Kind → Kind → Option Kind
prefix_kind Text Text = Some Flag
prefix_kind _ _ = None

-- a rule over two parts, both of which have a kind
abbrev pub of_two : (Kind → Kind → Option Kind) → Option Kind → Option Kind → Option Kind
of_two rule a b = do
  first ← a
  second ← b
  rule first second

-- The table of kinds: a form, its parts already seen by their kinds, over elements of a kind.
abbrev pub kind_step : Kind → ValueKind → Expr-F (Option Kind) → Option Kind
kind_step elements values Expr-F.Key = part_kind elements Text
kind_step elements values Expr-F.Value = part_kind elements (kind_of_values values)
kind_step elements values Expr-F.It = it_kind elements
kind_step elements values (Expr-F.Lit d) = Some (kind_of_datum d)
kind_step elements values (Expr-F.Add a b) = of_two arithmetic_kind a b
kind_step elements values (Expr-F.Sub a b) = of_two arithmetic_kind a b
kind_step elements values (Expr-F.Mul a b) = of_two arithmetic_kind a b
kind_step elements values (Expr-F.Same a b) = of_two equation_kind a b
kind_step elements values (Expr-F.Less a b) = of_two order_kind a b
kind_step elements values (Expr-F.And a b) = of_two logic_kind a b
kind_step elements values (Expr-F.Or a b) = of_two logic_kind a b
kind_step elements values (Expr-F.Not a) = option_and_then negation_kind a
kind_step elements values (Expr-F.Length a) = option_and_then length_kind a
kind_step elements values (Expr-F.Starts a b) = of_two prefix_kind a b

-- the kind of an expression over elements of a kind; none where a need isn't met
abbrev pub kind_of_expr : Kind → ValueKind → Expr → Option Kind
kind_of_expr elements values = fold-Expr (Option Kind) (kind_step elements values)
