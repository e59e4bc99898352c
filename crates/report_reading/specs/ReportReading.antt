-- The history that some bytes are the report of, read line by line; or the line at which that stops.
use Rattle.std.specs.Prelude.{ℕ, suc, ◌==◌, Bool, true, false, not, Option, None, Some, Result, Ok, Err, List, [], ◌∷◌, length, if◌then◌else◌}
use Rattle.grid_base.specs.Datum.{same_bytes}
use Rattle.grid_event.specs.Histories.{History, blank, passes_limit, with_event, with_idle}
use Rattle.grid_event.specs.declared.config.Config.{Config}
use Rattle.grid_event.specs.declared.event.Event.{Event}
use Rattle.grid_journal.specs.Reports.{first_text}
use Rattle.text_lines.specs.Lines.{Line, lines_of}
use Rattle.report_reading.specs.ReportLines.{ReportLine, Note, Told, End, config_of, line_of}

-- why reading stops: a line isn't a report's, or its event would pass a limit of the journal
pub data Stop : Type 0 where
  Unread : ℕ → Stop
  Full : ℕ → Stop

-- nothing more may come behind the end
abbrev pub at_end : History → ℕ → List Line → Result History Stop
at_end history number [] = Ok history
at_end history number (line ∷ lines) = Err (Unread number)

-- what one whole line says behind the history: by what goes on with the history that it makes, or by the end
abbrev pub with_line : History → ℕ → Option ReportLine → (History → Result History Stop) → Result History Stop → Result History Stop
with_line history number None on end = Err (Unread number)
with_line history number (Some (Note idle)) on end = on (with_idle history idle)
with_line history number (Some (Told event)) on end = if passes_limit history event then Err (Full number) else on (with_event history event)
with_line history number (Some End) on end = end

-- the history with what the lines say behind it, the first of which has this number
abbrev pub read_lines : History → ℕ → List Line → Result History Stop
read_lines history number [] = Err (Unread number)
read_lines history number (line ∷ lines) =
    if line.ended
    then with_line history number (line_of (length history.events) line.bytes) (λ next. read_lines next (suc number) lines) (at_end history (suc number) lines)
    else Err (Unread number)

-- the second line is the first topology
abbrev pub read_second : Config → List Line → Result History Stop
read_second config [] = Err (Unread 2)
read_second config (line ∷ lines) =
    if line.ended then (if same_bytes line.bytes (first_text config) then read_lines (record blank { config = Some config }) 3 lines else Err (Unread 2)) else Err (Unread 2)

abbrev pub read_first : Option Config → List Line → Result History Stop
read_first None lines = Err (Unread 1)
read_first (Some config) lines = read_second config lines

-- the first line has the settings
abbrev pub read_head : List Line → Result History Stop
read_head [] = Err (Unread 1)
read_head (line ∷ lines) = if line.ended then read_first (config_of line.bytes) lines else Err (Unread 1)

-- the whole report
abbrev pub report_of : List ℕ → Result History Stop
report_of bytes = read_head (lines_of bytes)
