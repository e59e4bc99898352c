use Rattle.std.proofs.Common.{◌≡◌, List, [], ◌∷◌, ℕ, None, sym, ap, ◌∙◌}
use Rattle.std.specs.Prelude.{slice_get}
use Rattle.hash_factory.specs.Least.{is_led_by}
use Rattle.hash_factory.proofs.Counting.{none_led}
use Rattle.hash_factory.proofs.check.is_led.Goals as goal

-- a list without a first owner is empty
empty : (xs : List ℕ) → None ≡ slice_get xs 0 → xs ≡ []
empty [] h = λ i. []
empty (x ∷ xs) h = absurd (cc)

pub returns-in-None : goal.returns-in-None
returns-in-None c =
    let none = empty c.args.owners.now c.in-None.ensures in
    sym (ap (is_led_by c.args.members.now) none ∙ none_led c.args.members.now)
