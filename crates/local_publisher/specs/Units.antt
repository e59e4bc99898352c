-- How a unit goes from stage to stage.
use Rattle.std.specs.Prelude.{ℕ, Bool, false, [], ◌++◌, Option, if◌then◌else◌}
use Rattle.grid_base.specs.Portion.{Portion}
use Rattle.grid_base.specs.declared.entry.Entry.{Entry}
use Rattle.local_publisher.specs.declared.unit_state.UnitState.TheVariants.{Asked, Running, Refused, Lost, Ended}
use Rattle.local_publisher.specs.Work.{Work}

-- a unit that was just asked, for which nothing was read
abbrev pub asked_unit : ℕ → ℕ → ℕ → ℕ → ℕ → Work
asked_unit id call segment node at = record { id = id; call = call; segment = segment; node = node; asked_at = at; state = Asked; entries = []; last = false }

-- the unit runs where its node reads the segment, and else it is refused at the node's topology
abbrev pub begun : Work → Bool → ℕ → Work
begun unit runs at = record unit { state = if runs then Running else Refused at }

-- the entries of the batch are read after those read before
abbrev pub extended : Work → Portion Entry → Work
extended unit batch = record unit { entries = unit.entries ++ batch.entries; last = batch.last }

-- the unit is lost by an installation, or by a departure where there is no topology
abbrev pub lost : Work → Option ℕ → Work
lost unit at = record unit { state = Lost at }

-- the unit has ended
abbrev pub ended : Work → Work
ended unit = record unit { state = Ended }
