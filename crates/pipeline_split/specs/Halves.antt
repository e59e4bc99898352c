-- The two halves of a pipeline: what is done where the entries lie, and what is done with what
-- came of it.
use Rattle.std.specs.Prelude.{Bool, true, false, List, [], ◌∷◌, Some, None, if◌then◌else◌}
use Rattle.std.specs.List.{list_any}
use Rattle.pipeline_expr.specs.declared.op.Op.{Op}
use Rattle.pipeline_expr.specs.declared.op.Op.TheVariants.{Filter, Map, FlatMap, Distinct}
use Rattle.pipeline_expr.specs.declared.pipeline.Pipeline.{Pipeline}
use Rattle.pipeline_split.specs.declared.halves.Remote.{Remote}
use Rattle.pipeline_split.specs.declared.halves.Local.{Local}

abbrev pub is_distinct : Op → Bool
is_distinct Distinct = true
is_distinct (Filter e) = false
is_distinct (Map e) = false
is_distinct (FlatMap spread) = false

-- the operations before the first distinct; all, where there is none
abbrev pub before_distinct : List Op → List Op
before_distinct [] = []
before_distinct (o ∷ ops) = if is_distinct o then [] else o ∷ before_distinct ops

-- the first distinct and all operations behind it; none, where there is no distinct
abbrev pub from_distinct : List Op → List Op
from_distinct [] = []
from_distinct (o ∷ ops) = if is_distinct o then o ∷ ops else from_distinct ops

-- the remote half: the operations before the first distinct, and the end where there is no distinct
abbrev pub remote_of : Pipeline → Remote
remote_of p = record { ops = before_distinct p.ops; end = if list_any is_distinct p.ops then None else Some p.end }

-- the local half: the first distinct and the operations behind it, and the end
abbrev pub local_of : Pipeline → Local
local_of p = record { ops = from_distinct p.ops; end = p.end }
