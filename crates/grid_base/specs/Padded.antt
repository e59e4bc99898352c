-- Lists of bytes that zeros fill up to a length, and the number that bytes spell.
use Rattle.std.specs.Prelude.{ℕ, suc, zero, ◌+◌, ◌*◌, ◌^◌, List, [], ◌∷◌, length}

-- the first n bytes, with zeros behind them where there are fewer
unfoldable pub pad : ℕ → List ℕ → List ℕ
pad zero xs = []
pad (suc n) [] = 0 ∷ pad n []
pad (suc n) (x ∷ xs) = x ∷ pad n xs

-- the number that the bytes spell, the highest byte first
unfoldable pub number : List ℕ → ℕ
number [] = 0
number (x ∷ xs) = x * 256 ^ length xs + number xs
