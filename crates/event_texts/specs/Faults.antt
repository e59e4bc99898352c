-- How faults of other readings are told.
use Rattle.pipeline_parse.specs.declared.halt.Halt.{Halt}
use Rattle.pipeline_parse.specs.declared.halt.Halt.TheVariants as halts
use Rattle.event_texts.specs.declared.event_fault.EventFault.{EventFault}
use Rattle.event_texts.specs.declared.event_fault.EventFault.TheVariants as events

-- a fault of the text is one of the event
abbrev pub halt_fault : Halt → EventFault
halt_fault (halts.Left left) = events.BadEvent
halt_fault halts.NoMemory = events.NoMemory
