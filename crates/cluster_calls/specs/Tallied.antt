-- What a contract sees of what is kept up to date of a call's units.
use Rattle.std.specs.Prelude.{ℕ, ◌+◌, ◌-◌, ◌<◌, List, [], ◌∷◌, length, replicate, slice_set}
use Rattle.std.specs.List.{All}
use Rattle.std.specs.FinSet as set_of
use Rattle.std.specs.Ordering.{nat_cmp}
use Rattle.grid_event.specs.declared.call_events.Ask.{Ask}

-- how many units are open; the complete segments, and how many aren't; and by segment the number of the newest
-- unit, 0 for none
pub record Tallied : Type 0 where
  pub unended : ℕ
  pub complete : set_of.FinSet nat_cmp
  pub left : ℕ
  pub newest : List ℕ

-- the asked units are the newest ones on their segments
abbrev pub with_newest : List ℕ → List Ask → List ℕ
with_newest newest [] = newest
with_newest newest (ask ∷ asks) = with_newest (slice_set newest ask.segment ask.unit) asks

-- these units are asked
abbrev pub with_asks : List Ask → Tallied → Tallied
with_asks asks tallied =
    record tallied { unended = tallied.unended + length asks; newest = with_newest tallied.newest asks }

-- an open unit is open no longer
abbrev pub without_open : Tallied → Tallied
without_open tallied = record tallied { unended = tallied.unended - 1 }

-- an open unit has ended, by which the segment is complete
abbrev pub with_end : ℕ → Tallied → Tallied
with_end segment tallied = record tallied {
  unended = tallied.unended - 1;
  complete = set_of.insert tallied.complete segment;
  left = tallied.left - 1;
}

-- no unit was asked
abbrev pub nothing_tallied : ℕ → Tallied
nothing_tallied segments = record { unended = 0; complete = set_of.empty; left = segments; newest = replicate segments 0 }

-- each ask is of one of so many segments
abbrev pub AreAsked : ℕ → List Ask → Type 0
AreAsked segments asks = All (λ (ask : Ask). ask.segment < segments) asks
