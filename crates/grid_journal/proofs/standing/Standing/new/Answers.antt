use Rattle.grid_event.specs.Maps.{entries_of}
use Rattle.grid_journal.specs.Standing.{standing_of}
use Rattle.grid_journal.proofs.standing.Standing.new.Goals as goal

pub returns : goal.returns
unfolding standing_of entries_of
returns c = λ i. record {
  membership = c.in_ok-membership.ensures i;
  clock = 0;
  keys = c.new-2.ensures i;
  askers = c.new-3.ensures i;
  given = c.new-4.ensures i;
  outcomes = c.new-5.ensures i;
}
