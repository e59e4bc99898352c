-- The fields of a line: numbers, keys, values and pipelines, with a blank behind or as the line's last.
use Rattle.std.specs.Prelude.{ℕ, suc, ◌+◌, List, [], ◌∷◌, length, Result, Ok, Err, codes, nat_le, if◌then◌else◌}
use Rattle.grid_base.specs.declared.limits.TheConstants.{LONGEST_LINE}
use Rattle.pipeline_expr.specs.declared.pipeline.Pipeline.{Pipeline}
use Rattle.pipeline_parse.specs.Parsing.{pipeline_at}
use Rattle.pipeline_parse.specs.Reading.{Read, ◌>>=◌, key_at, literal_at, number_at}

-- the blank between two fields
abbrev pub blank_at : List ℕ → Result (List ℕ) ℕ
blank_at s = literal_at (codes " ") s

-- nothing is left of the line
abbrev pub end_at : List ℕ → Result (Unit {0}) ℕ
end_at [] = Ok tt
end_at (b ∷ s) = Err (suc (length s))

-- a number of one to nine digits, with a blank behind
unfoldable pub number_field : List ℕ → Read ℕ
number_field s = number_at 999999999 s >>= (λ n. blank_at n.1 >>= (λ rest. Ok (n.0, rest)))

-- a number of one to nine digits, which ends the line
unfoldable pub last_number : List ℕ → Result ℕ ℕ
last_number s = number_at 999999999 s >>= (λ n. end_at n.1 >>= (λ _. Ok n.0))

-- a key, with a blank behind
unfoldable pub key_field : List ℕ → Read (List ℕ)
key_field s = key_at s >>= (λ key. blank_at key.1 >>= (λ rest. Ok (key.0, rest)))

-- a key, which ends the line
unfoldable pub last_key : List ℕ → Result (List ℕ) ℕ
last_key s = key_at s >>= (λ key. end_at key.1 >>= (λ _. Ok key.0))

-- the pipeline whose text this is, in a line of at most 1,024 bytes
unfoldable pub pipeline_of : List ℕ → Result Pipeline ℕ
pipeline_of s = if nat_le (length s) LONGEST_LINE then pipeline_at (length s + 1) s else Err (length s)
