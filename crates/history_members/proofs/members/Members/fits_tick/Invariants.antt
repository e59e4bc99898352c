use Rattle.history_members.proofs.members.Members.fits_tick.Given as goal

abbrev pub ghost-clock : goal.ghost-clock
ghost-clock g a = g.past
