-- The first live reader is that of the state.
use Rattle.std.proofs.Common.{ℕ, unwrap_or, ap, ◌∙◌}
use Rattle.cluster_model.specs.Calls.{first_reader}
use Rattle.cluster_model.specs.State.{State}
use Rattle.cluster_core.proofs.cluster.Core.ask.Goals as goal

pub returns : goal.returns
returns c =
    let node =
    c.unwrap_or-node.ensures
    ∙ ap (λ (n : ℕ). unwrap_or c.first_reader-reader.result n) c.new.ensures
    ∙ ap (λ found. unwrap_or found 0) c.first_reader-reader.ensures
    ∙ ap (λ (st : State). unwrap_or (first_reader st.holding c.args.originator c.args.segment) 0) c.self.view_is in
    ap (λ (n : ℕ). record { unit = c.args.unit; segment = c.args.segment; node = n }) node
