-- Entries that a walk takes.
use Rattle.std.specs.Prelude.{◌≡◌, ◌≤◌, ◌<◌, ℕ, true, List, map, length, take}
use Rattle.grid_base.specs.declared.entry.Entry.{Entry}
use Rattle.grid_event.specs.declared.request.Request.{Request}
use Rattle.pipeline_eval.specs.Pipes.{pipe_items}
use Rattle.pipeline_expr.specs.declared.pipeline.Pipeline.{Pipeline}
use Rattle.pipeline_feed.specs.Fed.{Elements, IsFed}
use Rattle.seen_keys.specs.Passed.{Passed, has_passed}
use Rattle.cluster_model.specs.State.{Taken, is_exact}
use Rattle.cluster_model.specs.Units.{was_taken}

-- the entries, as taken from the segment
abbrev pub taken_in : ℕ → List Entry → List Taken
taken_in segment entries = map (λ (e : Entry). record { segment = segment; entry_of = e }) entries

-- the rounds that are stated fit in a byte, and for exactly once the keys that have passed are those of the entries taken
pub record IsSeen (request : Request) (taken : List Taken) (passed : Passed) : Type 0 where
  pub stated : request.rounds < 256
  pub seen : is_exact request.guarantee ≡ true → (s : ℕ) (k : List ℕ) → has_passed passed s k ≡ was_taken taken s k

-- the entries that were taken
abbrev pub entries_in : List Taken → List Entry
entries_in taken = map (λ (t : Taken). t.entry_of) taken

-- the pipeline was fed the first entries taken, of which it makes so many items, and of all of them it makes those that were given
pub record IsFollowing (pipeline : Pipeline) (taken : List Taken) (given : ℕ) (feed : List Elements) (fed shown : ℕ) : Type 0 where
  pub within : fed ≤ length taken
  pub fed_with : IsFed feed pipeline.ops (take fed (entries_in taken))
  pub shown_of : shown ≡ length (pipe_items pipeline (take fed (entries_in taken)))
  pub given_of : given ≡ length (pipe_items pipeline (entries_in taken))

-- what is kept beside the entries taken is right: the keys that have passed, and what the pipeline was fed
pub record IsTaking (request : Request) (taken : List Taken) (passed : Passed) (given : ℕ) (feed : List Elements) (fed shown : ℕ) : Type 0 where
  pub keys : IsSeen request taken passed
  pub items : IsFollowing request.pipeline taken given feed fed shown
