-- The lines of a script.
use Rattle.std.specs.Prelude.{ℕ, Bool, true, ◌==◌, nat_le, List, [], ◌∷◌, length}
use Rattle.grid_base.specs.declared.limits.TheConstants.{LONGEST_LINE}
use Rattle.grid_script.specs.declared.reason.Reason.TheVariants.{OverLimit, Syntax}
use Rattle.grid_script.specs.Judging.{Judged, ◌>>=◌, needs}
use Rattle.text_lines.specs.Lines.{Line}

-- each line has at most 1,024 bytes, and a line feed at its end
abbrev pub needs_whole : Line → Judged (Unit {0})
needs_whole line = do
  short ← needs (nat_le (length line.bytes) LONGEST_LINE) OverLimit
  needs line.ended Syntax

-- an empty line says nothing, nor one that begins with a semicolon
abbrev pub says_nothing : List ℕ → Bool
says_nothing [] = true
says_nothing (b ∷ s) = b == 59
