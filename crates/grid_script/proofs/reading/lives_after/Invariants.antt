use Rattle.std.proofs.Common.{◌≡◌, ◌+◌, ◌≤◌, length}
use Rattle.text_lines.specs.Lines.{lines_of}
use Rattle.grid_script.specs.LiveLines.{IsSoFar}
use Rattle.grid_script.specs.Reading.{after_all, live_after}
use Rattle.grid_script.proofs.reading.lives_after.Given as goal

-- what is known behind the lines left is what is known behind all lines
abbrev pub invariant-lines : goal.invariant-lines
invariant-lines l = record {
  told : after_all live_after l.known l.number (lines_of l.rest) ≡ after_all live_after l.fn.known l.fn.number (lines_of l.text);
  room : l.number + length l.rest ≤ l.fn.number + length l.text;
  rules : IsSoFar l.known;
}

-- the bytes left
abbrev pub decreases-lines : goal.decreases-lines
decreases-lines l = length l.rest
