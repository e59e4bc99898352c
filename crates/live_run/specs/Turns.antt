-- What a turn of a session adds to what it did.
use Rattle.std.specs.Prelude.{◌≡◌, ℕ, ◌+◌, List, length, slice_get, Some}
use Rattle.grid_event.specs.declared.request.Request.{Request}
use Rattle.grid_script.specs.declared.deed.Deed.{Deed}
use Rattle.grid_script.specs.declared.deed.Deed.TheVariants as deeds
use Rattle.live_run.specs.declared.turns.Turn.{Turn}
use Rattle.live_run.specs.declared.turns.Turn.TheVariants as turns

-- how many orders were done in the turn
abbrev pub ordered : Turn → ℕ
ordered turns.Ordered = 1
ordered _ = 0

-- the last of some deeds makes this call
abbrev pub EndsInCall : List Deed → ℕ → Type 0
EndsInCall did call = (i : ℕ) × (request : Request) × (i + 1 ≡ length did) × (slice_get did i ≡ Some (deeds.Call call request))
