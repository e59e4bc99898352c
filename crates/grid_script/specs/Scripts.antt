-- What scripts are seen as.
use Rattle.std.specs.Prelude.{ℕ, suc, Bool, true, ◌&&◌, ◌==◌, List, [], ◌∷◌}
use Rattle.grid_base.specs.declared.entry.Entry.{Entry}
use Rattle.grid_event.specs.declared.config.Config.{Config}
use Rattle.grid_script.specs.declared.member.Member.{Member}
use Rattle.grid_script.specs.declared.session.Session.{Session}
use Rattle.grid_script.specs.declared.step_line.StepLine.{StepLine}

-- a script of a stepped run: the settings of the cluster, and the lines in their order
pub record Steps : Type 0 where
  pub config : Config
  pub lines : List StepLine

-- a script of a live run: the settings, the entries loaded first, the changes of the membership, and the sessions
pub record Lives : Type 0 where
  pub config : Config
  pub load : List Entry
  pub changes : List Member
  pub sessions : List Session

-- the sessions have the numbers from this one on
abbrev pub are_numbered : ℕ → List Session → Bool
are_numbered n [] = true
are_numbered n (session ∷ sessions) = (session.number == n) && are_numbered (suc n) sessions
