-- What follows from the guarantee of a call where a unit of it is lost.
use Rattle.std.specs.Prelude.{Bool, true, false}
use Rattle.delivery_mode.specs.declared.guarantee.Guarantee.{Guarantee}
use Rattle.delivery_mode.specs.declared.guarantee.Guarantee.TheVariants.{Exact, AtLeast, AtMost}

-- at least once and at most once, what a lost unit read counts
abbrev pub keeps_lost : Guarantee → Bool
keeps_lost Exact = false
keeps_lost AtLeast = true
keeps_lost AtMost = true

-- exactly once and at least once, a lost segment is asked for again
abbrev pub asks_again : Guarantee → Bool
asks_again Exact = true
asks_again AtLeast = true
asks_again AtMost = false
