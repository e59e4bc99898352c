-- How much of a journal's room for entries and items its events take.
use Rattle.std.specs.Prelude.{ℕ, ◌+◌, List, [], ◌∷◌, length}
use Rattle.pipeline_expr.specs.declared.answer.Answer.TheVariants as answers
use Rattle.grid_event.specs.declared.event.Event.{Event}
use Rattle.grid_event.specs.declared.event.Event.TheVariants.{Copy, Scan, Fetch, Take, Answer}
use Rattle.grid_event.specs.declared.outcome.Outcome.{Outcome}
use Rattle.grid_event.specs.declared.outcome.Outcome.TheVariants as outcomes

-- an answered list has its items, and no other outcome has any
abbrev pub items_in : Outcome → ℕ
items_in (outcomes.Value (answers.List items)) = length items
items_in _ = 0

-- the entries of a chunk, of a scan and of a fetch count, the entries and the items of a taking, and
-- the items of an answered list; nothing else does
abbrev pub weight_of : Event → ℕ
weight_of (Copy copy) = length copy.batch.entries
weight_of (Scan scan) = length scan.batch.entries
weight_of (Fetch fetch) = length fetch.batch.entries
weight_of (Take take) = length take.entries + length take.given
weight_of (Answer answer) = items_in answer.outcome
weight_of _ = 0

-- the weight of all events
abbrev pub total_weight : List Event → ℕ
total_weight [] = 0
total_weight (event ∷ events) = weight_of event + total_weight events
