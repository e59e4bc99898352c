-- The phases of a rebalance, and what depends on the phase alone.
use Rattle.std.specs.Prelude.{Bool, true, false}
pub use Rattle.topology_phase.specs.declared.phase.Phase.{Phase}
pub use Rattle.topology_phase.specs.declared.phase.Phase.TheVariants.{NoRebalance, ReadOld, ReadAll, ReadNew}

-- a choice by the phase, in the order in which the phases follow one another
abbrev pub by_phase : {A : Type 0} → Phase → A → A → A → A → A
by_phase NoRebalance a b c d = a
by_phase ReadOld a b c d = b
by_phase ReadAll a b c d = c
by_phase ReadNew a b c d = d

-- whether two phases are the same
abbrev pub same_phase : Phase → Phase → Bool
same_phase p q = by_phase p (by_phase q true false false false) (by_phase q false true false false) (by_phase q false false true false) (by_phase q false false false true)
