use Rattle.std.proofs.Common.{◌≡◌, ◌+◌, ◌≤◌, length}
use Rattle.text_lines.specs.Lines.{lines_of}
use Rattle.report_reading.specs.ReportReading.{read_lines}
use Rattle.report_reading.proofs.read_lines.take_lines.Given as goal

-- what is left makes of the journal what all lines make of the first one
abbrev pub invariant-lines : goal.invariant-lines
invariant-lines l = record {
  told : read_lines l.journal.history l.number (lines_of l.rest) ≡ read_lines l.fn.journal.history l.fn.number (lines_of l.text);
  room : l.number + length l.rest ≤ l.fn.number + length l.text;
  config : l.journal.history.config ≡ l.fn.journal.history.config;
}

-- the bytes left
abbrev pub decreases-lines : goal.decreases-lines
decreases-lines l = length l.rest
