use Rattle.std.proofs.Common.{reverse, sym, subst}
use Rattle.state_transfer.specs.Landing.{TakesBack}
use Rattle.state_transfer.proofs.landing.land_all.Goals as goal

pub take_back-requires-clause-steps : goal.take_back-requires-clause-steps
take_back-requires-clause-steps c =
    (c.args.holders.now.cells, subst (λ n. TakesBack c.args.to.receiver c.args.to.segment n (reverse c.put_all.new.steps.items) c.put_all.new.holders.cells c.args.holders.now.cells) (sym c.put_all.ensures.clock) c.put_all.ensures.steps)
