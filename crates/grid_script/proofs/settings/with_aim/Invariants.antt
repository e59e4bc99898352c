use Rattle.std.proofs.Common.{◌≡◌, ◌+◌, ◌≤◌, length}
use Rattle.text_lines.specs.Lines.{lines_of}
use Rattle.grid_script.specs.Settings.{aim_from}
use Rattle.grid_script.proofs.settings.with_aim.Given as goal

-- the aim of the lines left is that of all lines
abbrev pub invariant-lines : goal.invariant-lines
invariant-lines l = record {
  told : aim_from (record { it = l.config; next = l.number; lines = lines_of l.text }) l.line (lines_of l.rest) ≡ aim_from (record { it = l.config; next = l.number; lines = lines_of l.text }) l.number (lines_of l.text);
  room : l.line + length l.rest ≤ l.number + length l.text;
}

-- the bytes left
abbrev pub decreases-lines : goal.decreases-lines
decreases-lines l = length l.rest
