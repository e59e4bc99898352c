-- What a contract sees of the rounds of a call.
use Rattle.std.specs.Prelude.{ℕ}

-- the rounds that are granted and made, and the topology that the next one needs, 0 where it needs none
pub record Progress : Type 0 where
  pub granted : ℕ
  pub made : ℕ
  pub needed : ℕ
