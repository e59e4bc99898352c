use Rattle.std.proofs.Common.{◌≡◌, ◌++◌, true, map, drop, take}
use Rattle.std.specs.List.{list_all}
use Rattle.event_texts.specs.Fits.{item_fits}
use Rattle.event_texts.specs.Words.{each_behind, item_text}
use Rattle.event_texts.proofs.words.add_each_item.Given as goal

-- what stands there and the text of those left are the whole, and those so far keep their ranges
abbrev pub invariant-loop-item : goal.invariant-loop-item
invariant-loop-item l = record {
  text : l.out.list ++ each_behind 32 (map item_text (drop l.item-index l.items)) ≡ l.initial.out.list ++ each_behind 32 (map item_text l.items);
  keeps : list_all item_fits (take l.item-index l.items) ≡ true;
}
