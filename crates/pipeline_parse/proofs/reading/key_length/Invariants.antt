use Rattle.std.proofs.Common.{◌≡◌, ◌-◌, take, drop}
use Rattle.pipeline_parse.specs.Reading.{key_bytes_at}
use Rattle.pipeline_parse.proofs.Steps.{key_front}
use Rattle.pipeline_parse.proofs.reading.key_length.Given as goal

abbrev pub invariant-loop-place : goal.invariant-loop-place
invariant-loop-place l = key_front (take l.place l.text) (key_bytes_at (l.room - l.place) (drop l.place l.text)) ≡ key_bytes_at l.room l.text
