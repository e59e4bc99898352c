use Rattle.std.proofs.Common.{◌≡◌, sym, subst}
use Rattle.std.specs.Prelude.{Result, Ok, Err}
use Rattle.grid_event.specs.declared.event.Event.{Event}
use Rattle.event_texts.specs.declared.event_fault.EventFault.{EventFault}
use Rattle.event_texts.specs.Events.{event_text}
use Rattle.event_texts.specs.Fits.{event_fits}
use Rattle.event_texts.specs.Answers.{GivesOnly}
use Rattle.report_reading.proofs.TakenLines.{told_missed, told_read}
use Rattle.report_reading.proofs.read_lines.read_told.Goals as goal

pub returns-in-Ok : goal.returns-in-Ok
returns-in-Ok c = told_read c.in-Ok.event c.args.text.now c.in-Ok.ensures.found.0 c.in-Ok.ensures.found.1

pub returns-in-Err-BadEvent : goal.returns-in-Err-BadEvent
returns-in-Err-BadEvent c =
    told_missed c.args.text.now (λ e fits same. subst (λ f. GivesOnly e (Err f)) c.in-Err-BadEvent.field-0-is (c.in-Err-BadEvent.ensures.only e fits same))
