-- What the shape of an event gives to the table.
use Rattle.std.proofs.Common.{◌≡◌, ℕ, ◌+◌, ◌≤◌, true, nat_lt, nat_le, List, [], ◌∷◌, arith}
use Rattle.std.proofs.lemmas.Bool.{and_parts, leb-true, ltb-true}
use Rattle.std.specs.List.{list_all}
use Rattle.grid_base.specs.declared.limits.TheConstants.{LAST_CLOCK, LONGEST_LIFESPAN, MOST_NODES, MOST_OWNERS, MOST_SEGMENTS}
use Rattle.grid_event.specs.Configs.{is_config, is_up_to}
use Rattle.grid_event.specs.Maps.{clock_of}
use Rattle.grid_event.specs.declared.config.Config.{Config}
use Rattle.grid_event.specs.declared.event.Event.{Event}
use Rattle.grid_event.specs.declared.event.Event.TheVariants.{Depart, Install, Join, Tick}
use Rattle.audit_clauses.specs.Mentions.{nodes_named}
use Rattle.audit_clauses.specs.Shapes.{fits_past, is_shaped}

-- a node that the cluster has
known : (node : ℕ) → list_all (λ n. nat_lt n MOST_NODES) (node ∷ []) ≡ true → node ≤ 15
known node all = let h = ltb-true node MOST_NODES (and_parts (nat_lt node MOST_NODES) true all).0 in omega arith

pub joins_known : (config : Config) (past : List Event) (node : ℕ) → is_shaped config past (Join node) ≡ true → node ≤ 15
unfolding nodes_named
joins_known config past node shaped = known node (and_parts _ _ (and_parts _ _ shaped).0).0

pub departs_known : (config : Config) (past : List Event) (node : ℕ) → is_shaped config past (Depart node) ≡ true → node ≤ 15
unfolding nodes_named
departs_known config past node shaped = known node (and_parts _ _ (and_parts _ _ shaped).0).0

pub installs_known : (config : Config) (past : List Event) (node id : ℕ) → is_shaped config past (Install node id) ≡ true → node ≤ 15
unfolding nodes_named
installs_known config past node id shaped = known node (and_parts _ _ (and_parts _ _ shaped).0).0

-- the clock doesn't go on past the latest
pub ticks_within : (config : Config) (past : List Event) (ticks : ℕ) → is_shaped config past (Tick ticks) ≡ true → clock_of past + ticks ≤ LAST_CLOCK
unfolding fits_past
ticks_within config past ticks shaped =
    leb-true (clock_of past + ticks) LAST_CLOCK (and_parts (nat_le ticks LONGEST_LIFESPAN) _ (and_parts (nat_le 1 ticks) _ (and_parts _ _ shaped).1).1).1

-- what the limits of a configuration say of the segments and the owners
pub some_segment : (config : Config) → is_config config ≡ true → 1 ≤ config.segments
some_segment config limits =
    let later = (and_parts (is_up_to MOST_NODES config.nodes) _ limits).1 in
    leb-true 1 config.segments (and_parts (nat_le 1 config.segments) _ (and_parts (is_up_to MOST_SEGMENTS config.segments) _ later).0).0

pub few_owners : (config : Config) → is_config config ≡ true → config.owners ≤ 4
few_owners config limits =
    let later = (and_parts (is_up_to MOST_NODES config.nodes) _ limits).1 in
    let owners = (and_parts (is_up_to MOST_OWNERS config.owners) _ (and_parts (is_up_to MOST_SEGMENTS config.segments) _ later).1).0 in
    leb-true config.owners MOST_OWNERS (and_parts (nat_le 1 config.owners) _ owners).1
