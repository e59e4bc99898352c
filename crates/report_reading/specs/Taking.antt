-- What a call makes of one line, and of a report.
use Rattle.std.specs.Prelude.{◌≡◌, ℕ, Bool, true, false, Option, None, Some, Result, Ok, Err, List, []}
use Rattle.std.specs.Borrow.{Bor}
use Rattle.event_texts.specs.Reading.{Reading}
use Rattle.text_lines.specs.Lines.{Line}
use Rattle.grid_event.specs.Histories.{History, blank, passes_limit, with_event, with_idle}
use Rattle.grid_event.specs.declared.event.Event.{Event}
use Rattle.grid_event.specs.declared.push_fault.PushFault.{PushFault}
use Rattle.grid_event.specs.declared.push_fault.PushFault.TheVariants as push_faults
use Rattle.event_texts.specs.declared.event_fault.EventFault.{EventFault}
use Rattle.event_texts.specs.declared.event_fault.EventFault.TheVariants as event_faults
use Rattle.report_reading.specs.ReportLines.{ReportLine, Note, Told, End}
use Rattle.report_reading.specs.ReportReading.{Stop}
use Rattle.report_reading.specs.declared.report_fault.LineFault.{LineFault}
use Rattle.report_reading.specs.declared.report_fault.LineFault.TheVariants as line_faults
use Rattle.report_reading.specs.declared.report_fault.ReportFault.{ReportFault}
use Rattle.report_reading.specs.declared.report_fault.ReportFault.TheVariants as faults

-- faults of an event's text, and of a push
abbrev pub fault_of : EventFault → LineFault
fault_of event_faults.BadEvent = line_faults.Unread
fault_of event_faults.NoMemory = line_faults.NoMemory

abbrev pub push_fault_of : PushFault → LineFault
push_fault_of push_faults.Full = line_faults.Full
push_fault_of push_faults.NoMemory = line_faults.NoMemory

-- the line was taken, and reading goes on
abbrev pub GoesOn : History → History → Option ReportLine → Type 0
GoesOn before after None = ⊥
GoesOn before after (Some (Note number)) = after ≡ with_idle before number
GoesOn before after (Some (Told event)) = (passes_limit before event ≡ false) × (after ≡ with_event before event)
GoesOn before after (Some End) = ⊥

-- the line has an event that would pass a limit
abbrev pub IsFullFor : History → Option ReportLine → Type 0
IsFullFor before (Some (Told event)) = passes_limit before event ≡ true
IsFullFor before _ = ⊥

-- what a line is taken for: reading goes on, or it is the end
abbrev pub Takes : Result Bool LineFault → History → History → Option ReportLine → Type 0
Takes (Ok true) before after said = GoesOn before after said
Takes (Ok false) before after said = (said ≡ Some End) × (after ≡ before)
Takes (Err line_faults.Unread) before after said = said ≡ None
Takes (Err line_faults.Full) before after said = IsFullFor before said
Takes (Err line_faults.NoMemory) before after said = Unit {0}

-- what a text is read as
abbrev pub Reads : Result (Unit {0}) ReportFault → History → Result History Stop → Type 0
Reads (Ok done) after answer = answer ≡ Ok after
Reads (Err (faults.Unread line)) after answer = answer ≡ Err (Stop.Unread line)
Reads (Err (faults.Full line)) after answer = answer ≡ Err (Stop.Full line)
Reads (Err faults.NoMemory) after answer = Unit {0}

-- the bytes behind the next place
abbrev pub Places : Result (Bor (List ℕ)) LineFault → Reading ℕ → Type 0
Places (Ok rest) reading = (n : ℕ) × (reading ≡ Some (n, rest.now))
Places (Err fault) reading = (reading ≡ None) × (fault ≡ line_faults.Unread)

-- a fault of a line, with the line's number
abbrev pub report_fault_of : ℕ → LineFault → ReportFault
report_fault_of number line_faults.Unread = faults.Unread number
report_fault_of number line_faults.Full = faults.Full number
report_fault_of number line_faults.NoMemory = faults.NoMemory

-- behind the end there are no lines, or the first of them is one too many
abbrev pub EndsAt : Result (Unit {0}) ReportFault → ℕ → List Line → Type 0
EndsAt (Ok done) number lines = lines ≡ []
EndsAt (Err (faults.Unread line)) number lines = (line ≡ number) × (lines ≡ [] → ⊥)
EndsAt (Err fault) number lines = ⊥

-- the event that a text is
abbrev pub Tells : Result Event LineFault → Option Event → Type 0
Tells (Ok event) found = found ≡ Some event
Tells (Err line_faults.Unread) found = found ≡ None
Tells (Err line_faults.Full) found = ⊥
Tells (Err line_faults.NoMemory) found = Unit {0}

-- what was read of a text and the bytes behind it
abbrev pub Finds : {A : Type 0} → Result (A × Bor (List ℕ)) LineFault → Reading A → Type 0
Finds (Ok p) reading = reading ≡ Some (p.0, p.1.now)
Finds (Err fault) reading = (reading ≡ None) × (fault ≡ line_faults.Unread)

-- the history that was read is this one, or memory ran out
abbrev pub IsOnly : History → Result (Unit {0}) ReportFault → History → Type 0
IsOnly history (Ok done) after = after ≡ history
IsOnly history (Err faults.NoMemory) after = Unit {0}
IsOnly history (Err fault) after = ⊥

-- the answer is this fault, or memory ran out
abbrev pub IsFaultOnly : ReportFault → Result (Unit {0}) ReportFault → Type 0
IsFaultOnly fault (Ok done) = ⊥
IsFaultOnly fault (Err (faults.Unread line)) = faults.Unread line ≡ fault
IsFaultOnly fault (Err (faults.Full line)) = faults.Full line ≡ fault
IsFaultOnly fault (Err faults.NoMemory) = Unit {0}
