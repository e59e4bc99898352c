use Rattle.std.proofs.Common.{◌≡◌, ◌++◌, true, map, drop, take}
use Rattle.std.specs.List.{list_all}
use Rattle.event_texts.specs.Fits.{ask_fits}
use Rattle.event_texts.specs.Words.{each_behind}
use Rattle.event_texts.specs.Events.{ask_text}
use Rattle.event_texts.proofs.events.add_other_asks.Given as goal

-- what stands there and the text of those left are the whole, and those so far keep their ranges
abbrev pub invariant-loop-ask : goal.invariant-loop-ask
invariant-loop-ask l = record {
  text : l.out.list ++ each_behind 44 (map ask_text (drop l.ask-index l.asks)) ≡ l.initial.out.list ++ each_behind 44 (map ask_text l.asks);
  keeps : list_all ask_fits (take l.ask-index l.asks) ≡ true;
}
