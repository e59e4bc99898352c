-- The lines of a report behind its head, and what each says.
use Rattle.std.specs.Prelude.{ℕ, ◌+◌, ◌==◌, Bool, true, ◌&&◌, Option, None, Some, List, [], ◌∷◌, ◌++◌, codes, decimal, if◌then◌else◌}
use Rattle.grid_event.specs.declared.config.Config.{Config}
use Rattle.grid_event.specs.Configs.{is_config}
use Rattle.grid_event.specs.declared.event.Event.{Event}
use Rattle.pipeline_expr.specs.declared.kind.ValueKind.{ValueKind}
use Rattle.pipeline_expr.specs.declared.kind.ValueKind.TheVariants as values
use Rattle.segment_hash.specs.declared.partition.Partition.{Partition}
use Rattle.segment_hash.specs.declared.partition.Partition.TheVariants as partitions
use Rattle.event_texts.specs.Events.{event_text}
use Rattle.event_texts.specs.Fits.{event_fits, is_u32}
use Rattle.event_texts.specs.Reading.{Reading, after, behind, choice, event_of, just, made, nothing, number, number_in, pairs, whole_of}
use Rattle.event_texts.specs.Words.{words}
use Rattle.topology_phase.specs.declared.aim.Aim.{Aim}
use Rattle.topology_phase.specs.declared.aim.Aim.TheVariants as aims

-- a note of an idle line, an event, or the end
pub data ReportLine : Type 0 where
  Note : ℕ → ReportLine
  Told : Event → ReportLine
  End : ReportLine

-- its text, behind so many events
abbrev pub line_text : ℕ → ReportLine → List ℕ
line_text count (Note number) = words (codes "- idle" ∷ decimal number ∷ [])
line_text count (Told event) = words (decimal (count + 1) ∷ event_text event ∷ [])
line_text count End = words (codes "end" ∷ decimal count ∷ [])

-- its numbers keep the ranges of their types
abbrev pub line_fits : ReportLine → Bool
line_fits (Note number) = is_u32 number
line_fits (Told event) = event_fits event
line_fits End = true

-- a number that must be this one
abbrev pub this_number : ℕ → List ℕ → Reading ℕ
this_number n s = after (number 4294967295 s) (λ found rest. if found == n then Some (n, rest) else None)

-- the end behind so many events
abbrev pub end_in : ℕ → List ℕ → Reading ReportLine
end_in count = made (λ n. End) (behind (codes " ") (this_number count))

-- an event that is all of a text
abbrev pub told_by : Option Event → Reading ReportLine
told_by None = None
told_by (Some event) = Some (Told event, [])

-- the next event behind so many
abbrev pub event_in : ℕ → List ℕ → Reading ReportLine
event_in count s = after (this_number (count + 1) s) (λ n rest. behind (codes " ") (λ text. told_by (event_of text)) rest)

-- what a whole line says behind so many events
abbrev pub line_of : ℕ → List ℕ → Option ReportLine
line_of count s = whole_of (choice (codes "- idle") (made Note (number_in 4294967295)) (choice (codes "end") (end_in count) (event_in count)) s)

-- how keys are divided
abbrev pub partition_in : List ℕ → Reading Partition
partition_in = behind (codes " partition ") (choice (codes "plain") (just partitions.Plain) (choice (codes "grouped") (just partitions.Grouped) nothing))

-- the kind of the values
abbrev pub values_in : List ℕ → Reading ValueKind
values_in = behind (codes " values ") (choice (codes "int") (just values.Int) (choice (codes "text") (just values.Text) (choice (codes "flag") (just values.Flag) nothing)))

-- the aim is named where it is the least hash
abbrev pub aim_in : List ℕ → Reading Aim
aim_in = choice (codes " hash least") (just aims.Least) (just aims.Create)

-- the settings of a first line
abbrev pub config_in : List ℕ → Reading Config
config_in =
    made
    (λ p. record {
      nodes = p.0;
      segments = p.1.0;
      owners = p.1.1.0;
      partition = p.1.1.1.0;
      values = p.1.1.1.1.0;
      chunk = p.1.1.1.1.1.0;
      aim = p.1.1.1.1.1.1;
    })
    (pairs (behind (codes "grid nodes") (number_in 255)) (pairs (behind (codes " segments") (number_in 65535)) (pairs (behind (codes " owners") (number_in 255))
    (pairs partition_in (pairs values_in (pairs (behind (codes " chunk") (number_in 65535)) aim_in))))))

-- settings in their limits
abbrev pub with_limits : Option Config → Option Config
with_limits None = None
with_limits (Some config) = if is_config config then Some config else None

-- a whole line as settings
abbrev pub config_of : List ℕ → Option Config
config_of s = with_limits (whole_of (config_in s))
