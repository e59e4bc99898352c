-- How a run may end.
use Rattle.grid_shell.specs.declared.status.Status.{Status}
use Rattle.grid_shell.specs.declared.status.Status.TheVariants.{Done, Usage, ScriptRefused, ReadFault, WriteFault, NoMemory, Full}

-- not by the words
abbrev pub IsAnswer : Status → Type 0
IsAnswer Usage = ⊥
IsAnswer _ = Unit {0}

-- neither by the words nor by what was read
abbrev pub IsEnding : Status → Type 0
IsEnding Done = Unit {0}
IsEnding Usage = ⊥
IsEnding ScriptRefused = ⊥
IsEnding ReadFault = ⊥
IsEnding WriteFault = Unit {0}
IsEnding NoMemory = Unit {0}
IsEnding Full = Unit {0}
