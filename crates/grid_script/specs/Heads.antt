-- What the calls that read the head of a script tell.
use Rattle.std.specs.Prelude.{◌≡◌, Result, Ok, Err}
use Rattle.grid_event.specs.declared.config.Config.{Config}
use Rattle.grid_script.specs.declared.script_fault.ScriptFault.{ScriptFault}
use Rattle.grid_script.specs.declared.script_fault.ScriptFault.TheVariants.{Refused, NoMemory}
use Rattle.grid_script.specs.declared.settings.Head.{Head}
use Rattle.grid_script.specs.Judging.{Told}
use Rattle.text_lines.specs.Lines.{lines_of}
use Rattle.grid_script.specs.Settings.{Behind}

-- the settings, and the lines behind them
abbrev pub behind_of : Head → Behind Config
behind_of head = record { it = head.config; next = head.number; lines = lines_of head.rest.now }

-- the call answers the settings and the lines behind them, or memory ran out
abbrev pub Heads : Result Head ScriptFault → Told (Behind Config) → Type 0
Heads (Ok head) told = told ≡ Ok (behind_of head)
Heads (Err (Refused line reason)) told = told ≡ Err (line, reason)
Heads (Err NoMemory) told = Unit {0}
