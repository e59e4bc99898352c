use Rattle.std.proofs.Common.{◌≡◌, ◌++◌, true, map, drop, take}
use Rattle.std.specs.List.{list_all}
use Rattle.event_texts.specs.Fits.{entry_fits}
use Rattle.event_texts.specs.Words.{each_behind, entry_text}
use Rattle.event_texts.proofs.words.add_each_entry.Given as goal

-- what stands there and the text of those left are the whole, and those so far keep their ranges
abbrev pub invariant-loop-entry : goal.invariant-loop-entry
invariant-loop-entry l = record {
  text : l.out.list ++ each_behind 32 (map entry_text (drop l.entry-index l.entries)) ≡ l.initial.out.list ++ each_behind 32 (map entry_text l.entries);
  keeps : list_all entry_fits (take l.entry-index l.entries) ≡ true;
}
