use Rattle.std.proofs.Common.{◌-◌, [], ◌∷◌, ◌++◌, sym, ap, ◌∙◌}
use Rattle.event_texts.specs.Reading.{after, times}
use Rattle.event_texts.proofs.Turns.{times_step}
use Rattle.event_texts.proofs.read_values.read_counted.Goals as goal

pub loop-left-preserved : goal.loop-left-preserved
loop-left-preserved g c =
    c.loop-left.invariant
    ∙ times_step g.T.Field.reads c.loop-left.left c.loop-left.list.list c.loop-left.rest.now c.loop-left-test.true
    ∙ ap (λ r. after r (λ t rest. times g.T.Field.reads (c.loop-left.left - 1) (c.loop-left.list.list ++ t ∷ []) rest)) c.in_ok-one.ensures
    ∙ ap (λ l. times g.T.Field.reads (c.loop-left.left - 1) l c.in_ok-one.more.now) (sym c.in_ok-push.ensures.ok)
