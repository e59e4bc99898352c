use Rattle.std.proofs.Common.{◌≡◌, ◌+◌, ◌≤◌, true, length}
use Rattle.grid_base.specs.declared.limits.TheConstants.{LAST_CLOCK}
use Rattle.grid_event.specs.Configs.{is_config}
use Rattle.text_lines.specs.Lines.{lines_of}
use Rattle.grid_script.specs.Reading.{after_all, step_after}
use Rattle.grid_script.proofs.reading.steps_after.Given as goal

-- what is known behind the lines left is what is known behind all lines
abbrev pub invariant-lines : goal.invariant-lines
invariant-lines l = record {
  told : after_all step_after l.known l.number (lines_of l.rest) ≡ after_all step_after l.fn.known l.fn.number (lines_of l.text);
  room : l.number + length l.rest ≤ l.fn.number + length l.text;
  settings : is_config l.known.config ≡ true;
  ticks : l.known.ticks ≤ LAST_CLOCK;
}

-- the bytes left
abbrev pub decreases-lines : goal.decreases-lines
decreases-lines l = length l.rest
