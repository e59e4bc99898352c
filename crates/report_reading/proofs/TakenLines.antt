-- What code makes of lines, as definitions say it.
use Rattle.std.proofs.Common.{◌≡◌, ℕ, suc, ◌+◌, ◌≤◌, ◌<◌, ◌==◌, Bool, true, false, if◌then◌else◌, List, [], ◌∷◌, length, Option, Some, None, Result, Ok, Err, refl, sym, ap, ◌∙◌, subst, arith}
use Rattle.std.proofs.lemmas.Bool.{eq-eqb, ne_eqb}
use Rattle.std.specs.Borrow.{Bor}
use Rattle.grid_event.specs.Histories.{History, passes_limit, with_event, with_idle}
use Rattle.grid_event.specs.declared.event.Event.{Event}
use Rattle.event_texts.specs.Answers.{GivesOnly}
use Rattle.event_texts.specs.Events.{event_text}
use Rattle.event_texts.specs.Fits.{event_fits}
use Rattle.event_texts.specs.Reading.{Reading, after, event_of, found, number, whole_of}
use Rattle.event_texts.specs.declared.event_fault.EventFault.{EventFault}
use Rattle.event_texts.specs.declared.event_fault.EventFault.TheVariants as event_faults
use Rattle.event_texts.proofs.EventLaws.{event_found, event_full}
use Rattle.text_lines.specs.Lines.{Line, before_lines, lines_of}
use Rattle.report_reading.specs.ReportLines.{ReportLine, Note, Told, End, line_of, told_by}
use Rattle.report_reading.specs.ReportReading.{Stop, at_end, read_lines, with_line}
use Rattle.report_reading.specs.Taking.{EndsAt, GoesOn, IsFullFor, Reads, Takes}
use Rattle.report_reading.specs.declared.report_fault.LineFault.{LineFault}
use Rattle.report_reading.specs.declared.report_fault.LineFault.TheVariants as line_faults
use Rattle.report_reading.specs.declared.report_fault.ReportFault.{ReportFault}
use Rattle.report_reading.specs.declared.report_fault.ReportFault.TheVariants as faults

-- the event that is read is the one of the definitions
pub told_read : (event : Event) (s : List ℕ) → event_text event ≡ s → event_fits event ≡ true → event_of s ≡ Some event
told_read event s same keeps = ap event_of (sym same) ∙ event_full event keeps

-- and what is no event's is none by the definitions
pub told_missed : (s : List ℕ) → ((e : Event) → event_fits e ≡ true → event_text e ≡ s → ⊥) → event_of s ≡ None
told_missed s none = by_found (event_of s) refl
  where
    by_found : (o : Option Event) → event_of s ≡ o → o ≡ None
    by_found None e = refl
    by_found (Some event) e = let l = event_found s event e in absurd (none event l.1 l.0)

-- reading goes on behind a line that was taken
pub goes_on : (before after : History) (n : ℕ) (line rest : List ℕ) (text : List ℕ) → lines_of text ≡ record { bytes = line; ended = true } ∷ lines_of rest →
    GoesOn before after (line_of (length before.events) line) → read_lines before n (lines_of text) ≡ read_lines after (suc n) (lines_of rest)
goes_on before after n line rest text cut took =
    ap (read_lines before n) cut ∙ by_said (line_of (length before.events) line) took
  where
    by_said : (o : Option ReportLine) → GoesOn before after o → with_line before n o (λ next. read_lines next (suc n) (lines_of rest)) (at_end before (suc n) (lines_of rest)) ≡ read_lines after (suc n) (lines_of rest)
    by_said None h = absurd h
    by_said (Some (Note number)) h = ap (λ next. read_lines next (suc n) (lines_of rest)) (sym h)
    by_said (Some (Told event)) h =
        ap (λ b. if b then Err (Stop.Full n) else read_lines (with_event before event) (suc n) (lines_of rest)) h.0 ∙ ap (λ next. read_lines next (suc n) (lines_of rest)) (sym h.1)
    by_said (Some End) h = absurd h

-- where a byte is left, a line is
pub some_line : (b : ℕ) (bytes : List ℕ) → lines_of (b ∷ bytes) ≡ [] → ⊥
some_line b bytes e = by_byte (b == 10) (lines_of bytes) e
  where
    by_byte : (c : Bool) (lines : List Line) → (if c then (record { bytes = []; ended = true } ∷ lines_of bytes) else before_lines b lines) ≡ [] → ⊥
    by_byte true lines e = absurd (cc)
    by_byte false [] e = absurd (cc)
    by_byte false (line ∷ lines) e = absurd (cc)
