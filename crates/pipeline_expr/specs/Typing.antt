-- The typing of pipelines: the limits and the needs of operations, and the first fault.
use Rattle.std.specs.Prelude.{◌≡◌, ℕ, ◌<◌, Bool, true, false, ◌&&◌, ◌||◌, nat_le, List, [], ◌∷◌, ◌++◌, length, take, Option, Some, None, is_some, Result, Ok, Err, if◌then◌else◌, slice_get}
use Rattle.std.specs.List.{list_any, list_all}
use Rattle.pipeline_expr.specs.Kinds.{◌>>=◌, same_kind, kind_of_expr}
use Rattle.pipeline_expr.specs.declared.kind.Kind.{Kind}
use Rattle.pipeline_expr.specs.declared.kind.Kind.TheVariants.{Entry, Int, Text, Flag}
use Rattle.pipeline_expr.specs.declared.kind.ValueKind.{ValueKind}
use Rattle.pipeline_expr.specs.declared.expr.Expr.{Expr}
use Rattle.pipeline_expr.specs.declared.spread.Spread.{Spread}
use Rattle.pipeline_expr.specs.declared.spread.Spread.TheVariants.{Each, Words}
use Rattle.pipeline_expr.specs.declared.op.Op.{Op}
use Rattle.pipeline_expr.specs.declared.op.Op.TheVariants as op
use Rattle.pipeline_expr.specs.declared.end.End.{End}
use Rattle.pipeline_expr.specs.declared.end.End.TheVariants as end
use Rattle.pipeline_expr.specs.declared.pipeline.Pipeline.{Pipeline}
use Rattle.pipeline_expr.specs.declared.check_fault.CheckFault.{CheckFault}
use Rattle.pipeline_expr.specs.declared.check_fault.CheckFault.TheVariants.{Over, Mistyped}

-- whether an expression has a kind
abbrev pub has_kind : Kind → ValueKind → Kind → Expr → Bool
has_kind elements values kind e = is_wanted (kind_of_expr elements values e)
  where
    is_wanted : Option Kind → Bool
    is_wanted None = false
    is_wanted (Some found) = same_kind kind found

-- a kind, where a test says so
abbrev pub only_if : Bool → Kind → Option Kind
only_if b kind = if b then Some kind else None

-- a list of expressions needs all of them to be of one kind, and has that kind; words need a Text
abbrev pub spread_kind : Kind → ValueKind → Spread → Option Kind
spread_kind elements values (Each list) = do
  kind ← kind_of_expr elements values list.first
  only_if (list_all (has_kind elements values kind) list.rest) kind
spread_kind elements values (Words e) = only_if (has_kind elements values Text e) Text

-- the kind of the elements behind an operation; none where its need isn't met
abbrev pub op_kind : ValueKind → Kind → Op → Option Kind
op_kind values elements (op.Filter e) = only_if (has_kind elements values Flag e) elements
op_kind values elements (op.Map e) = kind_of_expr elements values e
op_kind values elements (op.FlatMap spread) = spread_kind elements values spread
op_kind values elements op.Distinct = Some elements

-- whether an end takes elements of a kind
abbrev pub end_takes : End → Kind → Bool
end_takes end.Sum kind = same_kind Int kind
end_takes end.Min kind = same_kind Int kind || same_kind Text kind
end_takes end.Max kind = same_kind Int kind || same_kind Text kind
end_takes _ kind = true

abbrev pub is_flatmap : Op → Bool
is_flatmap (op.FlatMap spread) = true
is_flatmap _ = false

-- whether an operation has a list of more than eight expressions
abbrev pub is_long : Op → Bool
is_long (op.FlatMap (Each list)) = nat_le 8 (length list.rest)
is_long _ = false

-- an operation is past a limit where it is the ninth, a second flatmap, or too long a list
abbrev pub is_over : List Op → Op → Bool
is_over before o = nat_le 8 (length before) || ((is_flatmap o && list_any is_flatmap before) || is_long o)

-- the kind of the elements behind several operations in turn
abbrev pub kind_through : ValueKind → Kind → List Op → Option Kind
kind_through values elements [] = Some elements
kind_through values elements (o ∷ ops) = do
  next ← op_kind values elements o
  kind_through values next ops

-- whether the operation at a place is past a limit; the end never is
abbrev pub is_over_at : List Op → ℕ → Bool
is_over_at ops place = is_over_one (slice_get ops place)
  where
    is_over_one : Option Op → Bool
    is_over_one None = false
    is_over_one (Some o) = is_over (take place ops) o

-- whether the need of the operation at a place is met, with the end behind the last one
abbrev pub takes_at : Pipeline → ValueKind → Kind → ℕ → Bool
takes_at p values elements place = takes_one (slice_get p.ops place)
  where
    takes_one : Option Op → Bool
    takes_one None = end_takes p.end elements
    takes_one (Some o) = is_some (op_kind values elements o)

-- nothing is at fault before a place, and the elements there have a kind
pub record Stands (p : Pipeline) (values : ValueKind) (place : ℕ) (elements : Kind) : Type 0 where
  pub within : (k : ℕ) → k < place → is_over_at p.ops k ≡ false
  pub kind : kind_through values Entry (take place p.ops) ≡ Some elements

-- a pipeline is typed, and the elements before its end have a kind
abbrev pub Typed : Pipeline → ValueKind → Kind → Type 0
Typed p values kind = Stands p values (length p.ops) kind × (end_takes p.end kind ≡ true)

-- what a check tells: the kind before the end, or the first operation at fault, Over first
abbrev pub Tells : Pipeline → ValueKind → Result Kind CheckFault → Type 0
Tells p values (Ok kind) = Typed p values kind
Tells p values (Err (Over place)) = (elements : Kind) × Stands p values place elements × (is_over_at p.ops place ≡ true)
Tells p values (Err (Mistyped place)) =
    (elements : Kind) × Stands p values place elements × (is_over_at p.ops place ≡ false) × (takes_at p values elements place ≡ false)

abbrev pub next_or : {A : Type 0} → Option A → ℕ → (A → Result Kind CheckFault) → Result Kind CheckFault
next_or None place go = Err (Mistyped place)
next_or (Some kind) place go = go kind

-- the check of the operations behind those before, over elements of a kind
abbrev pub checked_from : ValueKind → End → List Op → Kind → List Op → Result Kind CheckFault
checked_from values last before elements [] = if end_takes last elements then Ok elements else Err (Mistyped (length before))
checked_from values last before elements (o ∷ ops) =
    if is_over before o then Err (Over (length before)) else next_or (op_kind values elements o) (length before) (λ next. checked_from values last (before ++ o ∷ []) next ops)

-- the kind before the end, or the first operation at fault
unfoldable pub checked : Pipeline → ValueKind → Result Kind CheckFault
checked p values = checked_from values p.end [] Entry p.ops
