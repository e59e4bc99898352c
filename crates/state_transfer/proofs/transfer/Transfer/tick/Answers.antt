use Rattle.std.proofs.Common.{◌≡◌, sym, ap, ◌∙◌}
use Rattle.std.specs.FinSet as set
use Rattle.std.specs.Option.{option_map}
use Rattle.state_transfer.specs.Changes.{unexpired}
use Rattle.state_transfer.specs.Copying.{Transfer}
use Rattle.state_transfer.proofs.LyingLaws.{flying_left}
use Rattle.state_transfer.proofs.transfer.Transfer.tick.Goals as goal

pub returns-then-outlasts : goal.returns-then-outlasts
returns-then-outlasts c =
    let inside = c.self.inside in
    let clock = c.args.clock in
    let all = flying_left clock (option_map (λ entries. entries.items) inside.flying) (c.self.invariant clock (sym c.outlasts.ensures ∙ c.if-outlasts.true)) in
    sym c.self.view_is
    ∙ (λ i. record { provider = inside.provider; sent = inside.sent; flying = sym all i; last = inside.last; touched = set.from_list inside.touched.keys })
    ∙ ap (λ (x : Transfer). record x { flying = option_map (unexpired clock) x.flying }) c.self.view_is
