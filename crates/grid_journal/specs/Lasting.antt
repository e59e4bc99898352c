-- The keys whose deadline the clock hasn't reached.
use Rattle.std.specs.Prelude.{ℕ, Bool, true, false, Option, None, Some}
use Rattle.std.specs.FinMap as map_of
use Rattle.grid_base.specs.declared.stamped.Stamped.{Stamped}
use Rattle.grid_event.specs.Maps.{ClusterMap, is_ahead}

-- a deadline is none, or isn't reached by the clock; without a clock none is
abbrev pub lasts : Option ℕ → Option ℕ → Bool
lasts None until = true
lasts (Some clock) until = is_ahead clock until

-- a key stands with a deadline that isn't reached
abbrev pub still_stands : Option ℕ → Option Stamped → Bool
still_stands reached None = false
still_stands reached (Some stamped) = lasts reached stamped.until

-- the keys whose deadline isn't reached
abbrev pub lasting : Option ℕ → ClusterMap → ClusterMap
lasting reached keys = map_of.retain_keys keys (λ key. still_stands reached (map_of.get keys key))
