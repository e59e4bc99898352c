-- When a call may ask again.
use Rattle.std.specs.Prelude.{ℕ, ◌+◌, Bool, ◌&&◌, nat_lt, nat_le, max, unwrap_or, if◌then◌else◌, List, [], ◌∷◌}
use Rattle.delivery_mode.specs.declared.guarantee.Guarantee.{Guarantee}
use Rattle.delivery_mode.specs.Guarantee.{asks_again}
use Rattle.local_publisher.specs.declared.unit_state.UnitState.{UnitState}
use Rattle.local_publisher.specs.declared.unit_state.UnitState.TheVariants.{Asked, Running, Refused, Lost, Ended}
use Rattle.suspect_retry.specs.Progress.{Progress}

-- a call that doesn't ask again is granted one round, whatever number it states
abbrev pub granted_rounds : Guarantee → ℕ → ℕ
granted_rounds guarantee rounds = if asks_again guarantee then rounds else 1

-- at first no round is made, and the next one needs no topology
abbrev pub first_rounds : Guarantee → ℕ → Progress
first_rounds guarantee rounds = record { granted = granted_rounds guarantee rounds; made = 0; needed = 0 }

-- all granted rounds were made
abbrev pub is_spent : Progress → Bool
is_spent rounds = nat_le rounds.granted rounds.made

-- the topology at which a unit was refused or lost by an installation; 0, which is no topology, for any other unit
abbrev pub closed_at : UnitState → ℕ
closed_at Asked = 0
closed_at Running = 0
closed_at (Refused at) = at
closed_at (Lost at) = unwrap_or at 0
closed_at Ended = 0

-- the next round needs the topology of this unit too
abbrev pub noted : Progress → UnitState → Progress
noted rounds state = record rounds { needed = max rounds.needed (closed_at state) }

-- each of these units is noted, the first one first
abbrev pub all_noted : Progress → List UnitState → Progress
all_noted rounds [] = rounds
all_noted rounds (state ∷ states) = all_noted (noted rounds state) states

-- a round may be asked where one is left and the originator has installed the topology that it needs
abbrev pub can_ask : Progress → ℕ → Bool
can_ask rounds installed = nat_lt rounds.made rounds.granted && nat_le rounds.needed installed

-- one more round is made, and the next one needs no topology yet
abbrev pub started : Progress → Progress
started rounds = record rounds { made = rounds.made + 1; needed = 0 }
