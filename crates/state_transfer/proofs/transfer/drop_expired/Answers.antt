use Rattle.std.proofs.Common.{rules}
use Rattle.std.proofs.lemmas.Fn.{filter_same}
use Rattle.grid_base.specs.declared.stamped_entry.StampedEntry.{StampedEntry}
use Rattle.container_seg.specs.Lifespans.{outlasts}
use Rattle.state_transfer.proofs.transfer.drop_expired.Goals as goal

pub returns : goal.returns
returns c = filter_same _ (λ (e : StampedEntry). outlasts c.args.clock e.stamped.until) _ (λ x b f' k. search rules) c.args.entries.now.items c.retain.new.self.items c.retain.ensures.filtered
