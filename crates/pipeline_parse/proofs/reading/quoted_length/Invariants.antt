use Rattle.std.proofs.Common.{◌≡◌, ◌-◌, take, drop}
use Rattle.pipeline_parse.specs.Reading.{quoted_at}
use Rattle.pipeline_parse.proofs.Steps.{with_front}
use Rattle.pipeline_parse.proofs.reading.quoted_length.Given as goal

abbrev pub invariant-loop-place : goal.invariant-loop-place
invariant-loop-place l = with_front (take l.place l.text) (quoted_at (l.room - l.place) (drop l.place l.text)) ≡ quoted_at l.room l.text
