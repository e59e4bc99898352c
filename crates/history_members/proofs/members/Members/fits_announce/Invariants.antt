use Rattle.history_members.proofs.members.Members.fits_announce.Given as goal

abbrev pub ghost-newest : goal.ghost-newest
ghost-newest g a = g.past
