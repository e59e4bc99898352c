-- Of what each status is the answer where live runs are served too.
use Rattle.std.specs.Prelude.{◌≡◌, ◌≤◌, ◌⊎◌, ℕ, Bool, true, List, length, Option, Some, Ok, Err}
use Rattle.cluster_model.specs.Step.{is_run}
use Rattle.grid_base.specs.declared.limits.TheConstants.{LONGEST_SCRIPT}
use Rattle.grid_event.specs.Histories.{History}
use Rattle.grid_script.specs.Reading.{script_of}
use Rattle.grid_script.specs.Scripts.{Lives, Steps}
use Rattle.grid_script.specs.declared.reason.Reason.{Reason}
use Rattle.grid_script.specs.declared.reason.Reason.TheVariants.{TooLong}
use Rattle.grid_script.specs.declared.script.Script.TheVariants as scripts
use Rattle.grid_script.specs.declared.script_kind.ScriptKind.TheVariants as kinds
use Rattle.live_run.specs.Due.{WasFull}
use Rattle.live_run.specs.Serving.{IsPartlyServed}
use Rattle.grid_shell.specs.Causes.{GaveTooMany, Had, IsAll, IsRefusal, IsServable, is_of_source}
use Rattle.grid_shell.specs.declared.asks.Asked.{Asked}
use Rattle.grid_shell.specs.declared.asks.Asked.TheVariants.{Live}
use Rattle.grid_shell.specs.declared.asks.Form.{Form}

-- the script of the source was asked for, stepped or live
abbrev pub is_read : Option Asked → Bool
is_read (Some (Live form workers)) = true
is_read asked = is_of_source asked

-- the source had bytes that stand for a live script of which this holds
abbrev pub HadLive : Option (List ℕ) → (Lives → Type 0) → Type 0
HadLive left Holds =
    (bytes : List ℕ) × (script : Lives) × IsAll left bytes × (script_of kinds.Live bytes ≡ Ok (scripts.Live script)) × Holds script

-- a script was asked for, of which this holds with the form that was asked for: a stepped one, the source's or the generator's, or a
-- live one
abbrev pub HadAny : Option Asked → Option (List ℕ) → (Form → Steps → Type 0) → (Form → Lives → Type 0) → Type 0
HadAny (Some (Live form workers)) left Plain Lived = HadLive left (Lived form)
HadAny asked left Plain Lived = Had asked left Plain

-- the source had bytes that stand for no live script, by that line and for that reason
abbrev pub HadLiveFault : Option (List ℕ) → ℕ → Reason → Type 0
HadLiveFault left line reason = (bytes : List ℕ) × IsAll left bytes × (script_of kinds.Live bytes ≡ Err (line, reason))

-- why a live script of the source is refused: it is too long, or the line is at fault
abbrev pub IsLiveRefusal : Option (List ℕ) → Option (List ℕ) → ℕ → Reason → Type 0
IsLiveRefusal before after line reason =
    ((line ≡ 0) × (reason ≡ TooLong) × GaveTooMany before after) ⊎ HadLiveFault before line reason

-- why what was asked for is refused
abbrev pub IsAnyRefusal : Option Asked → Option (List ℕ) → Option (List ℕ) → ℕ → Reason → Type 0
IsAnyRefusal (Some (Live form workers)) before after line reason = IsLiveRefusal before after line reason
IsAnyRefusal asked before after line reason = IsRefusal asked before after line reason

-- the journal was full at some moment of a live run, and the run served a part of the script
pub record IsFullAt (line : ℕ) (history : History) (script : Lives) : Type 0 where
  pub whole : line ≡ 0
  pub partly : IsPartlyServed script history
  pub full : WasFull script history

-- no run that serves a part of the script finds the journal full
abbrev pub NeverFull : Lives → Type 0
NeverFull script = (history : History) → is_run history ≡ true → IsPartlyServed script history → WasFull script history → ⊥

-- the source has a live script left of which this holds
abbrev pub HasLive : Option (List ℕ) → (Lives → Type 0) → Type 0
HasLive left Holds =
    (bytes : List ℕ) × (script : Lives) × (left ≡ Some bytes) × (length bytes ≤ LONGEST_SCRIPT)
    × (script_of kinds.Live bytes ≡ Ok (scripts.Live script)) × Holds script

-- a script was asked for whose run comes to its end
abbrev pub IsAnyServable : Option Asked → Option (List ℕ) → Type 0
IsAnyServable (Some (Live form workers)) left = HasLive left NeverFull
IsAnyServable asked left = IsServable asked left
