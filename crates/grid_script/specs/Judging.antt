-- What a line gives, or why it is refused; and what a call tells of it.
use Rattle.std.specs.Prelude.{◌≡◌, ℕ, Bool, List, Result, Ok, Err, if◌then◌else◌}
use Rattle.std.specs.Borrow.{Bor}
use Rattle.pipeline_parse.specs.declared.halt.Unread.{Unread}
use Rattle.grid_script.specs.declared.reason.Reason.{Reason}
use Rattle.grid_script.specs.declared.reason.Reason.TheVariants.{Syntax}
use Rattle.grid_script.specs.declared.line_fault.LineFault.{LineFault}
use Rattle.grid_script.specs.declared.line_fault.LineFault.TheVariants as line_fault
use Rattle.grid_script.specs.declared.script_fault.ScriptFault.{ScriptFault}
use Rattle.grid_script.specs.declared.script_fault.ScriptFault.TheVariants as script_fault

-- what a line gives, or the reason why it is refused
abbrev pub Judged : Type 0 → Type 0
Judged A = Result A Reason

-- what a script gives, or the line at fault and its reason
abbrev pub Told : Type 0 → Type 0
Told A = Result A (ℕ × Reason)

infixl 10 ◌>>=◌
abbrev pub ◌>>=◌ : {A B E : Type 0} → Result A E → (A → Result B E) → Result B E
(Ok x) >>= f = f x
(Err fault) >>= f = Err fault

-- a text that isn't of its form is a fault of syntax
abbrev pub spelt : {A : Type 0} → Result A ℕ → Judged A
spelt (Ok x) = Ok x
spelt (Err left) = Err Syntax

-- what a line needs, or the reason why it is refused
abbrev pub needs : Bool → Reason → Judged (Unit {0})
needs holds reason = if holds then Ok tt else Err reason

-- a fault of a line, with the line's number
abbrev pub on_line : {A : Type 0} → ℕ → Judged A → Told A
on_line n (Ok x) = Ok x
on_line n (Err reason) = Err (n, reason)

-- a whole text was read, or it isn't of its form
abbrev pub Tells : {A : Type 0} → Result A Unread → Result A ℕ → Type 0
Tells (Ok x) read = read ≡ Ok x
Tells (Err unread) read = read ≡ Err unread.left

-- the call answers what the line gives, or memory ran out
abbrev pub Says : {A : Type 0} → Result A LineFault → Judged A → Type 0
Says (Ok x) judged = judged ≡ Ok x
Says (Err (line_fault.Refused reason)) judged = judged ≡ Err reason
Says (Err line_fault.NoMemory) judged = Unit {0}

-- the same of a call that answers what is left of the line too
abbrev pub SaysFront : {A : Type 0} → Result (A × Bor (List ℕ)) LineFault → Judged (A × List ℕ) → Type 0
SaysFront (Ok p) judged = judged ≡ Ok (p.0, p.1.now)
SaysFront (Err (line_fault.Refused reason)) judged = judged ≡ Err reason
SaysFront (Err line_fault.NoMemory) judged = Unit {0}

-- the call answers what the script gives, or memory ran out
abbrev pub Answers : {A : Type 0} → Result A ScriptFault → Told A → Type 0
Answers (Ok x) told = told ≡ Ok x
Answers (Err (script_fault.Refused line reason)) told = told ≡ Err (line, reason)
Answers (Err script_fault.NoMemory) told = Unit {0}
