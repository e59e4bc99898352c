use Rattle.event_texts.proofs.EventLaws.{answer_found, answer_only}
use Rattle.event_texts.proofs.read_events.read_event.Goals as goal

pub returns-clause-found : goal.returns-clause-found
returns-clause-found c = answer_found _ _ c.read_whole.ensures

pub returns-clause-only : goal.returns-clause-only
returns-clause-only c = answer_only _ _ c.read_whole.ensures
