use Rattle.std.proofs.Common.{◌≡◌, ◌+◌, ◌≤◌, length}
use Rattle.text_lines.specs.Lines.{lines_of}
use Rattle.grid_script.specs.Settings.{setting_from}
use Rattle.grid_script.proofs.settings.read_setting.Given as goal

-- the setting of the lines left is that of all lines
abbrev pub invariant-lines : goal.invariant-lines
invariant-lines l = record {
  told : setting_from l.config l.setting l.line (lines_of l.rest) ≡ setting_from l.config l.setting l.number (lines_of l.text);
  room : l.line + length l.rest ≤ l.number + length l.text;
}

-- the bytes left
abbrev pub decreases-lines : goal.decreases-lines
decreases-lines l = length l.rest
