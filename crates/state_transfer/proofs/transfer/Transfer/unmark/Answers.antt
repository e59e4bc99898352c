use Rattle.std.proofs.Common.{ap, ◌∙◌}
use Rattle.std.specs.FinSet as set
use Rattle.std.specs.Option.{option_map}
use Rattle.state_transfer.specs.Copying.{Transfer}
use Rattle.state_transfer.proofs.LyingLaws.{keys_remove}
use Rattle.state_transfer.proofs.transfer.Transfer.unmark.Goals as goal

pub returns : goal.returns
returns c =
    (λ i. record {
      provider = c.self.inside.provider;
      sent = c.self.inside.sent;
      flying = option_map (λ entries. entries.items) c.self.inside.flying;
      last = c.self.inside.last;
      touched = keys_remove c.self.inside.touched.keys c.remove.new.self.keys c.args.key.now c.remove.ensures.updates.0 i;
    })
    ∙ ap (λ (x : Transfer). record x { touched = set.remove x.touched c.args.key.now }) c.self.view_is
