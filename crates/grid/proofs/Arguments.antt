-- Arguments that are read one after the other.
use Rattle.std.proofs.Common.{◌≡◌, ◌++◌, ℕ, List}
use Rattle.std.specs.List.{list_all}
use Rattle.grid_base.specs.Text.{is_text}

-- the words so far and the arguments that are left are all arguments; and all are texts where those left are
pub record IsRead (words left all : List (List ℕ)) : Type 0 where
  pub whole : words ++ left ≡ all
  pub texts : list_all is_text left ≡ list_all is_text all
