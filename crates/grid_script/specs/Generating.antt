-- The scripts of the generator.
use Rattle.std.specs.Prelude.{ℕ, zero, suc, ◌+◌, ◌*◌, ◌/◌, ◌%◌, ◌^◌, List, [], ◌∷◌, ◌++◌, codes, decimal, None, ℤ, pos, negsuc, ◌==◌, if◌then◌else◌}
use Rattle.delivery_mode.specs.declared.guarantee.Guarantee.TheVariants.{Exact}
use Rattle.grid_base.specs.declared.datum.Datum.TheVariants as datum
use Rattle.grid_event.specs.declared.command.Command.TheVariants as command
use Rattle.grid_event.specs.declared.config.Config.{Config}
use Rattle.pipeline_expr.specs.declared.end.End.{End}
use Rattle.pipeline_expr.specs.declared.end.End.TheVariants as end
use Rattle.pipeline_expr.specs.declared.expr.Expr.TheVariants as expr
use Rattle.pipeline_expr.specs.declared.kind.ValueKind.TheVariants as values
use Rattle.pipeline_expr.specs.declared.op.Op.TheVariants.{Filter}
use Rattle.pipeline_expr.specs.declared.pipeline.Pipeline.{Pipeline}
use Rattle.segment_hash.specs.declared.partition.Partition.TheVariants.{Plain}
use Rattle.topology_phase.specs.declared.aim.Aim.TheVariants.{Create}
use Rattle.grid_script.specs.declared.order.Order.{Order}
use Rattle.grid_script.specs.declared.order.Order.TheVariants.{One, Finish}
use Rattle.grid_script.specs.declared.step_line.StepLine.{StepLine}
use Rattle.grid_script.specs.Scripts.{Steps}

-- a draw replaces the state by this one
abbrev pub drawn : ℕ → ℕ
drawn x = (x * 6364136223846793005 + 1442695040888963407) % 2 ^ 64

-- what a draw gives modulo 4, of the state behind it
abbrev pub quarter : ℕ → ℕ
quarter x = x / 2 ^ 33 % 4

-- the settings: 4 nodes, 64 segments, 2 owners, keys divided by their hash, ints, and chunks of 100 entries
abbrev pub settings : Config
settings = record { nodes = 4; segments = 64; owners = 2; partition = Plain; values = values.Int; chunk = 100; aim = Create }

-- `put NODE kI I`
abbrev pub key_order : ℕ → ℕ → Order
key_order node i = One (command.Put 0 node (107 ∷ decimal i) (datum.Int (pos i)) None)

-- the state behind so many draws
abbrev pub state_after : ℕ → ℕ → ℕ
state_after x zero = x
state_after x (suc n) = drawn (state_after x n)

-- the puts of so many keys, each at a node that is drawn
abbrev pub key_orders : ℕ → ℕ → List Order
key_orders x zero = []
key_orders x (suc n) = key_orders x n ++ key_order (quarter (state_after x (suc n))) n ∷ []

-- `filter (-1 < value) | END`
abbrev pub pipeline : End → Pipeline
pipeline last = record { ops = Filter (expr.Less (expr.Lit (datum.Int (negsuc 0))) expr.Value) ∷ []; end = last }

-- `call CALL NODE exact 64 100 PIPELINE`
abbrev pub call_order : ℕ → ℕ → End → Order
call_order call node last = One (command.Call 0 call node (record { guarantee = Exact; rounds = 64; batch = 100; pipeline = pipeline last }))

-- `put 0 x I`
abbrev pub spare_order : ℤ → Order
spare_order i = One (command.Put 0 0 (codes "x") (datum.Int i) None)

-- between the keys and the steps: a put, two calls with a round each, and a join
abbrev pub calls_orders : List Order
calls_orders =
    spare_order (negsuc 0) ∷ call_order 1 0 end.Count ∷ call_order 2 1 end.Each
    ∷ One (command.Round 1) ∷ One (command.Round 2) ∷ One (command.Join 4) ∷ []

-- a step by a draw: a put below zero, an advance, or a drive of one of the calls
abbrev pub step_order : ℕ → ℕ → Order
step_order draw j =
    if draw == 0 then spare_order (negsuc j)
    else (if draw == 1 then One command.Advance else (if draw == 2 then One (command.Drive 1) else One (command.Drive 2)))

-- so many steps, each by a draw
abbrev pub step_orders : ℕ → ℕ → List Order
step_orders x zero = []
step_orders x (suc n) = step_orders x n ++ step_order (quarter (state_after x (suc n))) n ∷ []

-- all orders
abbrev pub orders : ℕ → ℕ → ℕ → List Order
orders seed keys steps = key_orders seed keys ++ (calls_orders ++ (step_orders (state_after seed keys) steps ++ (Finish 1 ∷ Finish 2 ∷ [])))

-- lines from a number on
abbrev pub numbered : ℕ → List Order → List StepLine
numbered n [] = []
numbered n (order ∷ orders) = record { line = n; order = order } ∷ numbered (suc n) orders

-- the script of a seed, of so many keys and steps: its lines are numbered from 8
unfoldable pub generated : ℕ → ℕ → ℕ → Steps
generated seed keys steps = record { config = settings; lines = numbered 8 (orders seed keys steps) }
