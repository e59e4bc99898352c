use Rattle.std.proofs.Common.{not, sym, ap, ◌∙◌}
use Rattle.std.specs.FinSet as set
use Rattle.std.specs.Option.{option_map}
use Rattle.state_transfer.specs.Copying.{Transfer}
use Rattle.state_transfer.proofs.LyingLaws.{contains_tree, keys_insert}
use Rattle.state_transfer.proofs.transfer.Transfer.mark.Goals as goal

pub returns-clause-marked : goal.returns-clause-marked
returns-clause-marked c =
    c.in_ok-marked.ensures.added
    ∙ ap not (sym (contains_tree c.self.inside.touched.keys c.args.key) ∙ ap (λ (x : Transfer). set.contains x.touched c.args.key) c.self.view_is)

pub returns-clause-ok : goal.returns-clause-ok
returns-clause-ok c =
    (λ i. record {
      provider = c.self.inside.provider;
      sent = c.self.inside.sent;
      flying = option_map (λ entries. entries.items) c.self.inside.flying;
      last = c.self.inside.last;
      touched = keys_insert c.self.inside.touched.keys c.insert.new.self.keys c.args.key c.in_ok-marked.ensures.updates.0 i;
    })
    ∙ ap (λ (x : Transfer). record x { touched = set.insert x.touched c.args.key }) c.self.view_is
