-- The limits of a configuration.
use Rattle.std.specs.Prelude.{ℕ, Bool, nat_le, ◌&&◌}
use Rattle.grid_base.specs.declared.limits.TheConstants.{MOST_CHUNK, MOST_NODES, MOST_OWNERS, MOST_SEGMENTS}
use Rattle.grid_event.specs.declared.config.Config.{Config}

-- a number is from 1 to a greatest one
abbrev pub is_up_to : ℕ → ℕ → Bool
is_up_to most n = nat_le 1 n && nat_le n most

-- 1 to 16 nodes, 1 to 256 segments, 1 to 4 owners, and chunks of 1 to 1,000 entries
abbrev pub is_config : Config → Bool
is_config config =
    is_up_to MOST_NODES config.nodes
    && (is_up_to MOST_SEGMENTS config.segments && (is_up_to MOST_OWNERS config.owners && is_up_to MOST_CHUNK config.chunk))
