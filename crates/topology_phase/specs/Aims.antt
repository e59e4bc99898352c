-- What a rebalance aims at, and what depends on it alone.
pub use Rattle.topology_phase.specs.declared.aim.Aim.{Aim}
pub use Rattle.topology_phase.specs.declared.aim.Aim.TheVariants.{Create, Least}

-- a choice by the aim
abbrev pub by_aim : {A : Type 0} → Aim → A → A → A
by_aim Create a b = a
by_aim Least a b = b
