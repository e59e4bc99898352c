-- The script that is run is the one that is handed in.
use Rattle.live_run.proofs.runs.run_live.Given as goal

abbrev pub ghosts-serve : goal.ghosts-serve
ghosts-serve g a = record { script = a.script.now }
