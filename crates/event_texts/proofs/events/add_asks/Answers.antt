use Rattle.event_texts.proofs.Joining.{asks_whole}
use Rattle.event_texts.proofs.events.add_asks.Goals as goal

pub returns-clause-text : goal.returns-clause-text
returns-clause-text c =
    asks_whole c.args.asks.now c.in-Some.first.now c.in-Some.others.now _ _ _ c.in-Some.ensures.cases.0 c.in_ok-add_ask.ensures.text c.in_ok-add_other_asks.ensures.text
