-- Faults of lines.
use Rattle.std.specs.Prelude.{ℕ}
use Rattle.pipeline_parse.specs.declared.halt.Halt.{Halt}
use Rattle.pipeline_parse.specs.declared.halt.Halt.TheVariants as halt
use Rattle.grid_script.specs.declared.line_fault.LineFault.{LineFault}
use Rattle.grid_script.specs.declared.line_fault.LineFault.TheVariants.{Refused, NoMemory}
use Rattle.grid_script.specs.declared.reason.Reason.TheVariants.{Syntax}
use Rattle.grid_script.specs.declared.script_fault.ScriptFault.{ScriptFault}
use Rattle.grid_script.specs.declared.script_fault.ScriptFault.TheVariants as script_fault

-- where a reading stops that takes memory, the line isn't of its form, or memory ran out
abbrev pub fault_of : Halt → LineFault
fault_of (halt.Left left) = Refused Syntax
fault_of halt.NoMemory = NoMemory

-- a fault of a line, with the line's number
abbrev pub script_fault_of : ℕ → LineFault → ScriptFault
script_fault_of line (Refused reason) = script_fault.Refused line reason
script_fault_of line NoMemory = script_fault.NoMemory
