-- What a source in memory gives, where it doesn't fail.
use Rattle.std.specs.Prelude.{ℕ, List, length, drop, min}

-- the bytes that are still to come, and the most that one call moves
pub record Feed : Type 0 where
  pub left : List ℕ
  pub most : ℕ

-- how many bytes one call moves into this much room
abbrev pub move_count : ℕ → Feed → ℕ
move_count room feed = min (min feed.most room) (length feed.left)

-- after a call that moved so many bytes
abbrev pub after_move : ℕ → Feed → Feed
after_move count feed = record feed { left = drop count feed.left }
