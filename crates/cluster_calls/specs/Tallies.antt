-- When what is kept up to date of a call's units is right.
use Rattle.std.specs.Prelude.{◌≡◌, ◌<◌, ℕ, not, ◌&&◌, List, length, slice_get, Option, None, Some}
use Rattle.std.specs.List.{filter, range_with_len}
use Rattle.std.specs.FinSet as set_of
use Rattle.cluster_model.specs.State.{Unit, is_of, is_open_unit}
use Rattle.cluster_model.specs.Topologies.{is_complete}
use Rattle.cluster_model.specs.Commands.{newest_in}
use Rattle.cluster_calls.specs.Tallied.{Tallied}

-- how many units of the call are open
abbrev pub count_open : ℕ → List Unit → ℕ
count_open call units = length (filter (λ unit. is_of call unit && is_open_unit unit) units)

-- the number of a unit, and 0 where there is none
abbrev pub number_of : Option Unit → ℕ
number_of None = 0
number_of (Some unit) = unit.work.id

-- it is a tally of the call's units: open ones are counted, complete segments are in the set and incomplete ones are counted,
-- and each segment has the number of its newest unit
pub record IsTally (segments : ℕ) (units : List Unit) (call : ℕ) (tallied : Tallied) : Type 0 where
  pub unended : tallied.unended ≡ count_open call units
  pub complete : (s : ℕ) → set_of.contains tallied.complete s ≡ is_complete units call s
  pub left : tallied.left ≡ length (filter (λ s. not (set_of.contains tallied.complete s)) (range_with_len 0 segments))
  pub wide : length tallied.newest ≡ segments
  pub newest : (s : ℕ) → s < segments → slice_get tallied.newest s ≡ Some (number_of (newest_in units call s))
