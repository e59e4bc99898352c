-- The script that bytes stand for, or the first line at fault with the first reason that applies to it.
use Rattle.std.specs.Prelude.{ℕ, suc, nat_lt, List, [], ◌∷◌, length, Ok, Err, if◌then◌else◌}
use Rattle.std.specs.FinSet as set
use Rattle.grid_base.specs.declared.limits.TheConstants.{LONGEST_SCRIPT}
use Rattle.grid_event.specs.declared.config.Config.{Config}
use Rattle.grid_script.specs.declared.known.Known.{Known}
use Rattle.grid_script.specs.declared.live_known.LiveKnown.{LiveKnown}
use Rattle.grid_script.specs.declared.reason.Reason.TheVariants.{TooLong}
use Rattle.grid_script.specs.declared.script.Script.{Script}
use Rattle.grid_script.specs.declared.script.Script.TheVariants as script
use Rattle.grid_script.specs.declared.script_kind.ScriptKind.{ScriptKind}
use Rattle.grid_script.specs.declared.script_kind.ScriptKind.TheVariants as kind
use Rattle.grid_script.specs.declared.section.Section.TheVariants.{Start}
use Rattle.grid_script.specs.Judging.{Judged, Told, ◌>>=◌, on_line}
use Rattle.grid_script.specs.Lines.{needs_whole, says_nothing}
use Rattle.text_lines.specs.Lines.{Line, lines_of}
use Rattle.grid_script.specs.LiveLines.{lives_of, told_in, with_told}
use Rattle.grid_script.specs.Rules.{first_members}
use Rattle.grid_script.specs.Settings.{Behind, head_of}
use Rattle.grid_script.specs.StepLines.{order_in, with_order}

-- what is known behind a line of a stepped run
unfoldable pub step_after : Known → ℕ → Line → Judged Known
step_after known n line = needs_whole line >>= (λ whole.
    if says_nothing line.bytes then Ok known else (order_in known line.bytes >>= (λ order. Ok (with_order known n order))))

-- what is known behind some lines, the first of which has this number, or the first line at fault
abbrev pub after_all : {A : Type 0} → (A → ℕ → Line → Judged A) → A → ℕ → List Line → Told A
after_all step known n [] = Ok known
after_all step known n (line ∷ lines) = on_line n (step known n line) >>= (λ next. after_all step next (suc n) lines)

-- what is known behind a line of a live run
unfoldable pub live_after : LiveKnown → ℕ → Line → Judged LiveKnown
live_after known n line = needs_whole line >>= (λ whole.
    if says_nothing line.bytes then Ok known else (told_in known line.bytes >>= (λ told. Ok (with_told known told))))

-- what is known of a stepped run before its first line
abbrev pub step_start : Config → Known
step_start config = record { config = config; members = first_members config.nodes; calls = set.empty; ticks = 0; lines = [] }

-- what is known of a live run before its first line
abbrev pub live_start : Config → LiveKnown
live_start config = record {
  config = config;
  members = first_members config.nodes;
  calls = set.empty;
  section = Start;
  load = [];
  changes = [];
  sessions = [];
}

-- the script of the lines behind the head
unfoldable pub body_of : ScriptKind → Behind Config → Told Script
body_of kind.Step head = after_all step_after (step_start head.it) head.next head.lines >>= (λ known. Ok (script.Step (record { config = known.config; lines = known.lines })))
body_of kind.Live head = after_all live_after (live_start head.it) head.next head.lines >>= (λ known. Ok (script.Live (lives_of known)))

-- the script of a kind for which bytes stand, or the line at fault and its reason; of too many bytes that is line 0
unfoldable pub script_of : ScriptKind → List ℕ → Told Script
script_of kind bytes = if nat_lt LONGEST_SCRIPT (length bytes) then Err (0, TooLong) else (head_of kind (lines_of bytes) >>= body_of kind)
