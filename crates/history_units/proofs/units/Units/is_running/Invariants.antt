use Rattle.history_units.proofs.units.Units.is_running.Given as goal

abbrev pub ghost-has_begun : goal.ghost-has_begun
ghost-has_begun g a = g.past

abbrev pub ghost-has_ended : goal.ghost-has_ended
ghost-has_ended g a = g.past
