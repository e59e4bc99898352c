-- Of what each status is the answer: the words, the script of which they ask for the run, and that run.
use Rattle.std.specs.Prelude.{◌≡◌, ◌<◌, ◌≤◌, ◌⊎◌, ℕ, Bool, true, false, List, length, Option, None, Some, IfSome, Ok, Err}
use Rattle.std.specs.Io.KnownBytes.{Consumes}
use Rattle.grid_base.specs.declared.limits.TheConstants.{LONGEST_SCRIPT}
use Rattle.grid_event.specs.Histories.{History}
use Rattle.grid_script.specs.Generating.{generated}
use Rattle.grid_script.specs.Reading.{script_of}
use Rattle.grid_script.specs.Scripts.{Steps}
use Rattle.grid_script.specs.declared.reason.Reason.{Reason}
use Rattle.grid_script.specs.declared.reason.Reason.TheVariants.{TooLong}
use Rattle.grid_script.specs.declared.script.Script.TheVariants as scripts
use Rattle.grid_script.specs.declared.script_kind.ScriptKind.TheVariants as kinds
use Rattle.step_run.specs.Outcomes.{IsFront}
use Rattle.step_run.specs.StepRuns.{run_of}
use Rattle.grid_shell.specs.declared.asks.Asked.{Asked}
use Rattle.grid_shell.specs.declared.asks.Asked.TheVariants.{Step, Gen}
use Rattle.grid_shell.specs.declared.asks.Form.{Form}

-- a run on one thread was asked for
abbrev pub is_plain : Option Asked → Bool
is_plain (Some (Step form)) = true
is_plain (Some (Gen form seed keys steps)) = true
is_plain _ = false

-- the script of the source was asked for
abbrev pub is_of_source : Option Asked → Bool
is_of_source (Some (Step form)) = true
is_of_source _ = false

-- the bytes are all that the source had left, where it tells them, and not too many
abbrev pub IsAll : Option (List ℕ) → List ℕ → Type 0
IsAll left bytes = IfSome left (λ all. bytes ≡ all) × (length bytes ≤ LONGEST_SCRIPT)

-- the source had bytes that stand for a script of which this holds
abbrev pub HadScript : Option (List ℕ) → (Steps → Type 0) → Type 0
HadScript left Holds =
    (bytes : List ℕ) × (script : Steps) × IsAll left bytes × (script_of kinds.Step bytes ≡ Ok (scripts.Step script)) × Holds script

-- a script was asked for, of which this holds with the form that was asked for: the source's, or the generator's
abbrev pub Had : Option Asked → Option (List ℕ) → (Form → Steps → Type 0) → Type 0
Had (Some (Step form)) left Holds = HadScript left (Holds form)
Had (Some (Gen form seed keys steps)) left Holds = Holds form (generated seed keys steps)
Had _ left Holds = ⊥

-- the history is that of the whole stepped run of the script
abbrev pub IsWholeRun : History → Steps → Type 0
IsWholeRun history script = ((run_of script).stopped ≡ None) × (history ≡ (run_of script).history)

-- the history is that of the script's stepped run, which stopped for a full journal at that line
abbrev pub IsRunTo : ℕ → History → Steps → Type 0
IsRunTo line history script = ((run_of script).stopped ≡ Some line) × (history ≡ (run_of script).history)

-- the history is a front of that of the script's stepped run
abbrev pub IsRunFront : History → Steps → Type 0
IsRunFront history script = IsFront history (run_of script).history

-- more bytes were taken than a script may have
abbrev pub GaveTooMany : Option (List ℕ) → Option (List ℕ) → Type 0
GaveTooMany before after = (taken : List ℕ) × Consumes before after taken × (LONGEST_SCRIPT < length taken)

-- the source had bytes that stand for no script, by that line and for that reason
abbrev pub HadFault : Option (List ℕ) → ℕ → Reason → Type 0
HadFault left line reason = (bytes : List ℕ) × IsAll left bytes × (script_of kinds.Step bytes ≡ Err (line, reason))

-- why a script of the source is refused: it is too long, or the line is at fault
abbrev pub IsSourceRefusal : Option (List ℕ) → Option (List ℕ) → ℕ → Reason → Type 0
IsSourceRefusal before after line reason =
    ((line ≡ 0) × (reason ≡ TooLong) × GaveTooMany before after) ⊎ HadFault before line reason

-- why what was asked for is refused; a script of the generator never is
abbrev pub IsRefusal : Option Asked → Option (List ℕ) → Option (List ℕ) → ℕ → Reason → Type 0
IsRefusal (Some (Step form)) before after line reason = IsSourceRefusal before after line reason
IsRefusal _ before after line reason = ⊥

-- the source has a script left of which this holds
abbrev pub HasScript : Option (List ℕ) → (Steps → Type 0) → Type 0
HasScript left Holds =
    (bytes : List ℕ) × (script : Steps) × (left ≡ Some bytes) × (length bytes ≤ LONGEST_SCRIPT)
    × (script_of kinds.Step bytes ≡ Ok (scripts.Step script)) × Holds script

-- the stepped run of the script comes to its end
abbrev pub Ends : Steps → Type 0
Ends script = (run_of script).stopped ≡ None

-- a script was asked for whose stepped run comes to its end
abbrev pub IsServable : Option Asked → Option (List ℕ) → Type 0
IsServable (Some (Step form)) left = HasScript left Ends
IsServable (Some (Gen form seed keys steps)) left = Ends (generated seed keys steps)
IsServable _ left = ⊥
