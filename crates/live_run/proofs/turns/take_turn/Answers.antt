-- A session acts at its place.
use Rattle.std.proofs.Common.{sym}
use Rattle.live_run.proofs.Steps.{acts_at}
use Rattle.live_run.proofs.turns.take_turn.Goals as goal

pub do_order-requires-clause-placed : goal.do_order-requires-clause-placed
do_order-requires-clause-placed c =
    acts_at c.args.script.now c.args.book.now c.args.session.now.number c.args.session.now.home c.place-node.result c.requires.begun.partly (sym c.requires.there.home) c.place-node.ensures
