use Rattle.std.proofs.Common.{rules, not}
use Rattle.std.proofs.lemmas.Fn.{filter_same}
use Rattle.std.specs.FinSet as set
use Rattle.grid_base.specs.declared.item.Item.{Item}
use Rattle.pipeline_feed.proofs.element_set.ElementSet.lacking.Goals as goal

pub returns : goal.returns
returns c = filter_same _ (λ (x : Item). not (set.contains c.args.self.now x)) _ (λ x b f' k. search rules) c.args.items.items c.retain.new.self.items c.retain.ensures.filtered
