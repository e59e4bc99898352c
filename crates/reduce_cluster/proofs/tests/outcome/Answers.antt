use Rattle.std.proofs.Common.{◌≡◌, true, List, [], ◌∷◌, refl, None}
use Rattle.reduce_cluster.specs.Reduced.{all_fit, shares_of}
use Rattle.reduce_cluster.specs.contracts.tests.ends.EndsPart.TheImpl as ends
use Rattle.reduce_cluster.proofs.tests.outcome.Goals as goal

-- where any two parts fit, all do
any_fit : {P : Type 0} (joined : P → P → P) (so_far : P) (parts : List P) → all_fit (λ _ _. true) joined so_far parts ≡ true
any_fit joined so_far [] = refl
any_fit joined so_far (part ∷ parts) = any_fit joined (joined so_far part) parts

pub outcome-requires : goal.outcome-requires
outcome-requires c = any_fit (ends.joined-value).it (record { first = None; last = None }) (shares_of c.args.reduction.now)
