use Rattle.history_members.proofs.members.Members.fits_depart.Given as goal

abbrev pub ghost-is_live : goal.ghost-is_live
ghost-is_live g a = g.past

abbrev pub ghost-live_count : goal.ghost-live_count
ghost-live_count g a = g.past
