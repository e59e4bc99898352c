use Rattle.history_members.proofs.members.Members.fits_install.Given as goal

abbrev pub ghost-is_live : goal.ghost-is_live
ghost-is_live g a = g.past

abbrev pub ghost-newest : goal.ghost-newest
ghost-newest g a = g.past
