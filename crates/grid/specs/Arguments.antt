-- What the program takes its arguments for.
use Rattle.std.specs.Prelude.{ℕ, List, [], ◌∷◌, if◌then◌else◌}
use Rattle.std.specs.List.{list_all}
use Rattle.grid_base.specs.Text.{is_text}

-- the words that the arguments behind the program's name are: their bytes. Where one of them isn't a text, one empty
-- word stands in place of them all, which is no command
abbrev pub words_of : List (List ℕ) → List (List ℕ)
words_of args = if list_all is_text args then args else [] ∷ []
