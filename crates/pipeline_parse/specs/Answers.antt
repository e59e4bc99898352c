-- What the answer of a parse says of the text.
use Rattle.std.specs.Prelude.{◌≡◌, ℕ, List, Result, Ok, Err}
use Rattle.pipeline_expr.specs.declared.pipeline.Pipeline.{Pipeline}
use Rattle.pipeline_parse.specs.Grammar.{StopsAt}
use Rattle.pipeline_parse.specs.declared.halt.Halt.{Halt}
use Rattle.pipeline_parse.specs.declared.halt.Halt.TheVariants as halt
use Rattle.pipeline_parse.specs.declared.parse_fault.ParseFault.{ParseFault}
use Rattle.pipeline_parse.specs.declared.parse_fault.ParseFault.TheVariants.{Syntax, NoMemory}

-- the answer is this pipeline, or memory ran out
abbrev pub GivesOnly : Pipeline → Result Pipeline ParseFault → Type 0
GivesOnly p (Ok q) = q ≡ p
GivesOnly p (Err (Syntax at)) = ⊥
GivesOnly p (Err NoMemory) = Unit {0}

-- a fault of the text comes where the text stops being one
abbrev pub Explains : ParseFault → List ℕ → Type 0
Explains (Syntax at) text = StopsAt text at
Explains NoMemory text = Unit {0}

-- a whole reading, which may want memory
abbrev pub GivesWhole : Result Pipeline Halt → Result Pipeline ℕ → Type 0
GivesWhole (Ok p) read = read ≡ Ok p
GivesWhole (Err (halt.Left left)) read = read ≡ Err left
GivesWhole (Err halt.NoMemory) read = Unit {0}
