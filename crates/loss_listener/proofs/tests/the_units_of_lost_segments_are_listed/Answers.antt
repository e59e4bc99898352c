use Rattle.std.proofs.Common.{ap, is_some, ◌∙◌, nat_cmp}
use Rattle.std.specs.FinMap as map
use Rattle.loss_listener.specs.Registered.{Registered}
use Rattle.loss_listener.proofs.tests.the_units_of_lost_segments_are_listed.Goals as goal

pub register-requires : goal.register-requires
register-requires g c =
    ap (λ (m : Registered). map.contains_key m c.new-2.result) c.in_ok-listeners.ensures ∙ ap is_some (map.get-empty nat_cmp c.new-2.result)
