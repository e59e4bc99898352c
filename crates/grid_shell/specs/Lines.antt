-- What is written: the run in the form that was asked for, or a line that says why it isn't.
use Rattle.std.specs.Prelude.{ℕ, List, [], ◌∷◌, ◌++◌, codes, decimal}
use Rattle.grid_event.specs.Histories.{History}
use Rattle.grid_journal.specs.Briefs.{brief_json_text, brief_text}
use Rattle.grid_journal.specs.Reports.{report_text}
use Rattle.grid_script.specs.declared.reason.Reason.{Reason}
use Rattle.grid_script.specs.declared.reason.Reason.TheVariants.{OverLimit, Syntax, OtherKind, NodeUnknown, NodeGone, NodeTwice, LastNode, CallUnknown, CallTwice, KeyUngrouped, Mistyped, TooLong}
use Rattle.grid_shell.specs.declared.asks.Form.{Form}
use Rattle.grid_shell.specs.declared.asks.Form.TheVariants.{Full, Brief, Json}

-- a history in a form
abbrev pub text_of : Form → History → List ℕ
text_of Full history = report_text history
text_of Brief history = brief_text history
text_of Json history = brief_json_text history

abbrev pub usage_line : List ℕ
usage_line =
    codes "usage: grid step | grid live [--workers N] | grid gen SEED [--keys N] [--steps N]; each with [--form full|brief|json]\n"

-- the word of a reason
abbrev pub reason_text : Reason → List ℕ
reason_text OverLimit = codes "OverLimit"
reason_text Syntax = codes "Syntax"
reason_text OtherKind = codes "OtherKind"
reason_text NodeUnknown = codes "NodeUnknown"
reason_text NodeGone = codes "NodeGone"
reason_text NodeTwice = codes "NodeTwice"
reason_text LastNode = codes "LastNode"
reason_text CallUnknown = codes "CallUnknown"
reason_text CallTwice = codes "CallTwice"
reason_text KeyUngrouped = codes "KeyUngrouped"
reason_text Mistyped = codes "Mistyped"
reason_text TooLong = codes "TooLong"

-- the script was refused at that line; 0 stands for the whole script
abbrev pub refused_line : ℕ → Reason → List ℕ
refused_line line reason = codes "refused " ++ (decimal line ++ (32 ∷ (reason_text reason ++ 10 ∷ [])))

-- the journal was full at that line
abbrev pub full_line : ℕ → List ℕ
full_line line = codes "full " ++ (decimal line ++ 10 ∷ [])
