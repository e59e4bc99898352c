-- What a run of writes left at a sink.
use Rattle.std.specs.Prelude.{ℕ, ◌<◌, ◌⊎◌, List, length, take, Option}
use Rattle.std.specs.Io.KnownBytes.{Appends}
use Rattle.grid_io.specs.Count.{Rose}

-- a front of the bytes was appended, but not all of them
abbrev pub AppendsPart : Option (List ℕ) → Option (List ℕ) → List ℕ → Type 0
AppendsPart before after bytes =
    (n : ℕ) × (n < length bytes) × Appends before after (take n bytes)

-- all bytes were appended; or a front of them, and the count of faults rose
abbrev pub Wrote : Option (List ℕ) → Option (List ℕ) → ℕ → ℕ → List ℕ → Type 0
Wrote before after faults_before faults_after bytes =
    Appends before after bytes ⊎ (AppendsPart before after bytes × Rose faults_before faults_after)
