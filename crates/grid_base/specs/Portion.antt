-- What a contract sees of a batch and of a chunk.
use Rattle.std.specs.Prelude.{Bool, List}

-- entries in their order, and whether they are the last ones
pub record Portion (E : Type 0) : Type 0 where
  pub entries : List E
  pub last : Bool
