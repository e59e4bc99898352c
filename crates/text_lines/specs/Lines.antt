-- The lines of a text.
use Rattle.std.specs.Prelude.{ℕ, ◌+◌, ◌==◌, Bool, true, false, not, cond, List, [], ◌∷◌, if◌then◌else◌}
use Rattle.std.specs.List.{list_all}

-- a line: its bytes, and whether a line feed ends it, as it does each line but perhaps the last
pub record Line : Type 0 where
  pub bytes : List ℕ
  pub ended : Bool

-- the lines with a byte in front of the first
abbrev pub before_lines : ℕ → List Line → List Line
before_lines b [] = record { bytes = b ∷ []; ended = false } ∷ []
before_lines b (line ∷ lines) = record { bytes = b ∷ line.bytes; ended = line.ended } ∷ lines

-- the lines of some bytes
abbrev pub lines_of : List ℕ → List Line
lines_of [] = []
lines_of (b ∷ s) = if b == 10 then (record { bytes = []; ended = true } ∷ lines_of s) else before_lines b (lines_of s)

-- no line feed is among the bytes
abbrev pub is_one_line : List ℕ → Bool
is_one_line bytes = list_all (λ b. not (b == 10)) bytes

-- how many line feeds are among the bytes
abbrev pub feeds : List ℕ → ℕ
feeds [] = 0
feeds (b ∷ s) = cond {A = ℕ} (b == 10) 1 0 + feeds s
