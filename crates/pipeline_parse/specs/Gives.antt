-- What a call tells, against the reader that it follows.
use Rattle.std.specs.Prelude.{◌≡◌, ℕ, List, Result, Ok, Err}
use Rattle.std.specs.Borrow.{Bor}
use Rattle.pipeline_parse.specs.Reading.{Read}
use Rattle.pipeline_parse.specs.declared.halt.Unread.{Unread}
use Rattle.pipeline_parse.specs.declared.halt.Halt.{Halt}
use Rattle.pipeline_parse.specs.declared.halt.Halt.TheVariants.{Left, NoMemory}

-- the bytes behind a word
abbrev pub Passes : Result (Bor (List ℕ)) Unread → Result (List ℕ) ℕ → Type 0
Passes (Ok rest) read = read ≡ Ok rest.now
Passes (Err unread) read = read ≡ Err unread.left

-- a value and the bytes behind it
abbrev pub Reads : {A : Type 0} → Result (A × Bor (List ℕ)) Unread → Read A → Type 0
Reads (Ok p) read = read ≡ Ok (p.0, p.1.now)
Reads (Err unread) read = read ≡ Err unread.left

-- the same of a call that takes memory
abbrev pub Gives : {A : Type 0} → Result (A × Bor (List ℕ)) Halt → Read A → Type 0
Gives (Ok p) read = read ≡ Ok (p.0, p.1.now)
Gives (Err (Left left)) read = read ≡ Err left
Gives (Err NoMemory) read = Unit {0}
