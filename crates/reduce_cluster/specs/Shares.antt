-- How what is booked for the segments lies in places.
use Rattle.std.specs.Prelude.{List, map, Option}
use Rattle.std.specs.Option.{option_map}

-- the shares as they are seen, where the spare places of their lists don't count
abbrev pub plain_shares : {P : Type 0} → (P → P) → List (Option P) → List (Option P)
plain_shares plain shares = map (option_map plain) shares
