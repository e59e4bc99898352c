use Rattle.history_members.proofs.members.Members.fits_join.Given as goal

abbrev pub ghost-was_member : goal.ghost-was_member
ghost-was_member g a = g.past
