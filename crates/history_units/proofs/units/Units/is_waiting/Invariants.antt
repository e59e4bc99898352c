use Rattle.history_units.proofs.units.Units.is_waiting.Given as goal

abbrev pub ghost-has_begun : goal.ghost-has_begun
ghost-has_begun g a = g.past

abbrev pub ghost-was_refused : goal.ghost-was_refused
ghost-was_refused g a = g.past
