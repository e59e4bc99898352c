-- When bytes are the report of a history, and when a front of bytes begins a report.
use Rattle.std.specs.Prelude.{◌≡◌, ℕ, ◌+◌, ◌≤◌, Bool, true, false, Option, None, Some, List, [], ◌∷◌, ◌++◌, length}
use Rattle.std.specs.List.{list_all}
use Rattle.grid_base.specs.declared.limits.TheConstants.{MOST_EVENTS, MOST_WEIGHT}
use Rattle.grid_event.specs.Configs.{is_config}
use Rattle.grid_event.specs.Histories.{History, are_placed, passes_limit}
use Rattle.grid_event.specs.Weights.{total_weight}
use Rattle.grid_event.specs.declared.config.Config.{Config}
use Rattle.grid_event.specs.declared.event.Event.{Event}
use Rattle.grid_event.specs.declared.idle.Idle.{Idle}
use Rattle.event_texts.specs.Fits.{event_fits, is_u32}
use Rattle.grid_journal.specs.Reports.{head_text, line, report_text, run_text}
use Rattle.text_lines.specs.Lines.{feeds, is_one_line}
use Rattle.report_reading.specs.ReportLines.{Told, line_text}

-- settings in their limits are there
abbrev pub has_settings : Option Config → Bool
has_settings None = false
has_settings (Some config) = is_config config

-- a started history in its limits: its fields keep the ranges of their types, and its notes stand in order
pub record IsKeepable (history : History) : Type 0 where
  pub settings : has_settings history.config ≡ true
  pub few : length history.events ≤ MOST_EVENTS
  pub light : total_weight history.events ≤ MOST_WEIGHT
  pub fit : list_all event_fits history.events ≡ true
  pub placed : are_placed 0 (length history.events) history.idle ≡ true
  pub numbered : list_all (λ (note : Idle). is_u32 note.line) history.idle ≡ true

-- the bytes are its report
pub record IsReport (bytes : List ℕ) (history : History) : Type 0 where
  pub keepable : IsKeepable history
  pub text : report_text history ≡ bytes

-- some report begins with the bytes
abbrev pub BeginsReport : List ℕ → Type 0
BeginsReport front = (history : History) × (rest : List ℕ) × IsReport (front ++ rest) history

-- the report but for its last line
abbrev pub front_text : History → List ℕ
front_text history = head_text history.config ++ run_text 0 history.events history.idle

-- the line at which reading stops: the lines before it begin a report, and with it they don't
pub record IsFirstUnread (bytes : List ℕ) (number : ℕ) : Type 0 where
  pub front : List ℕ
  pub rest : List ℕ
  pub splits : bytes ≡ front ++ rest
  pub numbered : number ≡ feeds front + 1
  pub begins : BeginsReport front
  pub stops : (next more : List ℕ) → rest ≡ next ++ 10 ∷ more → is_one_line next ≡ true → BeginsReport (front ++ line next) → ⊥

-- the line has the next event of a history, which would pass a limit
pub record IsFirstFull (bytes : List ℕ) (number : ℕ) : Type 0 where
  pub history : History
  pub event : Event
  pub rest : List ℕ
  pub keepable : IsKeepable history
  pub fits : event_fits event ≡ true
  pub passes : passes_limit history event ≡ true
  pub numbered : number ≡ feeds (front_text history) + 1
  pub splits : bytes ≡ front_text history ++ (line (line_text (length history.events) (Told event)) ++ rest)

-- the bytes are no report
abbrev pub HasNoReport : List ℕ → Type 0
HasNoReport bytes = (history : History) → IsReport bytes history → ⊥

-- no line has an event which would pass a limit
abbrev pub IsNeverFull : List ℕ → Type 0
IsNeverFull bytes = (number : ℕ) → IsFirstFull bytes number → ⊥
