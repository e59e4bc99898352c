-- The rules that a line has to keep, each with the reason why a line is refused that breaks it.
use Rattle.std.specs.Prelude.{ℕ, zero, suc, ◌+◌, Bool, true, false, ◌&&◌, ◌||◌, ◌==◌, not, nat_le, nat_lt, List, Option, Some, None, is_some, Result, Ok, Err, if◌then◌else◌}
use Rattle.std.specs.Ordering.{nat_cmp}
use Rattle.std.specs.FinSet as set
use Rattle.grid_base.specs.declared.datum.Datum.{Datum}
use Rattle.grid_base.specs.declared.datum.Datum.TheVariants as datum
use Rattle.grid_base.specs.declared.limits.TheConstants.{LAST_CALL, LAST_CLOCK, MOST_BATCH, MOST_ROUNDS}
use Rattle.grid_event.specs.declared.config.Config.{Config}
use Rattle.grid_event.specs.declared.request.Request.{Request}
use Rattle.pipeline_expr.specs.declared.check_fault.CheckFault.{CheckFault}
use Rattle.pipeline_expr.specs.declared.check_fault.CheckFault.TheVariants as check_fault
use Rattle.pipeline_expr.specs.declared.kind.Kind.{Kind}
use Rattle.pipeline_expr.specs.declared.kind.ValueKind.{ValueKind}
use Rattle.pipeline_expr.specs.declared.kind.ValueKind.TheVariants as values
use Rattle.pipeline_expr.specs.declared.pipeline.Pipeline.{Pipeline}
use Rattle.pipeline_expr.specs.Typing.{checked}
use Rattle.segment_hash.specs.Segments.{segment_number}
use Rattle.grid_script.specs.declared.asked.Asked.{Asked}
use Rattle.grid_script.specs.declared.members.Members.{Members}
use Rattle.grid_script.specs.declared.reason.Reason.TheVariants.{OverLimit, NodeUnknown, NodeGone, NodeTwice, LastNode, CallUnknown, CallTwice, KeyUngrouped, Mistyped}
use Rattle.grid_script.specs.Judging.{Judged, ◌>>=◌, needs}
use Rattle.grid_script.specs.Sets.{Calls}

-- a number from a least one to a greatest one
abbrev pub within : ℕ → ℕ → ℕ → Judged ℕ
within least most n = if nat_le least n && nat_le n most then Ok n else Err OverLimit

-- a node has a number from 0 to 15
abbrev pub node_within : ℕ → Judged ℕ
node_within n = within 0 15 n

-- a segment is below the number of segments
abbrev pub segment_within : Config → ℕ → Judged ℕ
segment_within config n = if nat_lt n config.segments then Ok n else Err OverLimit

-- a call has a number from 1 to 4,096
abbrev pub call_within : ℕ → Judged ℕ
call_within n = within 1 LAST_CALL n

-- a lifespan, where there is one, is at least 1
abbrev pub lifespan_within : Option ℕ → Judged (Option ℕ)
lifespan_within None = Ok None
lifespan_within (Some n) = if nat_le 1 n then Ok (Some n) else Err OverLimit

-- a tick is at least 1, and with those before it at most 1,000,000,000
abbrev pub ticks_within : ℕ → ℕ → Judged ℕ
ticks_within before n = if nat_le 1 n && nat_le (before + n) LAST_CLOCK then Ok n else Err OverLimit

-- what is asked for has 1 to 64 rounds and batches of 1 to 1,000 entries
unfoldable pub request_within : Asked → Judged Request
request_within asked = do
  rounds ← within 1 MOST_ROUNDS asked.rounds
  batch ← within 1 MOST_BATCH asked.batch
  Ok (record { guarantee = asked.guarantee; rounds = rounds; batch = batch; pipeline = asked.pipeline })

-- the nodes from 0 on, so many
abbrev pub first_nodes : ℕ → set.FinSet nat_cmp
first_nodes zero = set.empty
first_nodes (suc n) = set.insert (first_nodes n) n

-- the first members
abbrev pub first_members : ℕ → Members
first_members n = record { ever = first_nodes n; live = first_nodes n }

-- a node is live: it was a member at some time, and hasn't departed
unfoldable pub needs_live : Members → ℕ → Judged (Unit {0})
needs_live members node = do
  known ← needs (set.contains members.ever node) NodeUnknown
  needs (set.contains members.live node) NodeGone

-- a node may join that was never a member: it hasn't departed, and isn't live
unfoldable pub may_join : Members → ℕ → Judged (Unit {0})
may_join members node = do
  new ← needs (not (set.contains members.ever node) || set.contains members.live node) NodeGone
  needs (not (set.contains members.live node)) NodeTwice

-- a live node may depart that isn't the only one
unfoldable pub may_depart : Members → ℕ → Judged (Unit {0})
may_depart members node = do
  live ← needs_live members node
  needs (not (set.len members.live == 1)) LastNode

-- the members behind a join
abbrev pub with_joined : Members → ℕ → Members
with_joined members node = record { ever = set.insert members.ever node; live = set.insert members.live node }

-- the members behind a departure
abbrev pub with_departed : Members → ℕ → Members
with_departed members node = record { ever = members.ever; live = set.remove members.live node }

-- a call was made by a line before
abbrev pub needs_made : Calls → ℕ → Judged (Unit {0})
needs_made calls call = needs (set.contains calls call) CallUnknown

-- a call is new
abbrev pub needs_new : Calls → ℕ → Judged (Unit {0})
needs_new calls call = needs (not (set.contains calls call)) CallTwice

-- a key has a segment
abbrev pub needs_segment : Config → List ℕ → Judged (Unit {0})
needs_segment config key = needs (is_some (segment_number config.partition config.segments key)) KeyUngrouped

-- whether a value is of a kind
abbrev pub is_kind : ValueKind → Datum → Bool
is_kind values.Int (datum.Int n) = true
is_kind values.Text (datum.Text t) = true
is_kind values.Flag (datum.Flag b) = true
is_kind _ _ = false

-- a value is of the kind that the settings name
abbrev pub needs_kind : Config → Datum → Judged (Unit {0})
needs_kind config value = needs (is_kind config.values value) Mistyped

-- an operation past a limit, or one whose need isn't met
abbrev pub typed : Result Kind CheckFault → Judged (Unit {0})
typed (Ok kind) = Ok tt
typed (Err (check_fault.Over op)) = Err OverLimit
typed (Err (check_fault.Mistyped op)) = Err Mistyped

-- a pipeline keeps its limits, and its operations' needs are met
abbrev pub needs_typed : Config → Pipeline → Judged (Unit {0})
needs_typed config pipeline = typed (checked pipeline config.values)
