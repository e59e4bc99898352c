-- Whatever is left of a stepped run is right and caused.
use Rattle.std.proofs.Common.{◌≡◌, true, None, Some, ap, sym, ◌∙◌, inl, inr}
use Rattle.std.specs.Prelude.{Result, Ok, Err}
use Rattle.grid_event.specs.Configs.{is_config}
use Rattle.grid_event.specs.Histories.{History}
use Rattle.grid_script.specs.Scripts.{Steps}
use Rattle.cluster_laws.proofs.RightRuns.{HasLimits, right_run}
use Rattle.cluster_laws.specs.RightRuns.{IsRightAndCaused}
use Rattle.step_run.specs.Outcomes.{LeavesRun}
use Rattle.step_run.specs.StepRuns.{run_of}
use Rattle.step_run.specs.declared.run_fault.RunFault.{RunFault}
use Rattle.step_run.specs.declared.run_fault.RunFault.TheVariants.{Full, NoMemory}
use Rattle.step_run.proofs.Kept.{left_is_run, run_of-settings}

-- a history with the settings of a script has settings in their limits
limits_of : (h : History) (script : Steps) → is_config script.config ≡ true → h.config ≡ Some script.config → HasLimits h
limits_of h script good has config is =
    let both : Some config ≡ Some script.config = sym is ∙ has in
    let same : config ≡ script.config = cc in ap is_config same ∙ good

-- so does what is left of a script's run
left_limits : {A : Type 0} (result : Result A RunFault) (h : History) (script : Steps) → is_config script.config ≡ true →
    LeavesRun result h (run_of script) → HasLimits h
left_limits (Ok value) h script good left = limits_of h script good (ap (λ (history : History). history.config) left.1 ∙ run_of-settings script)
left_limits (Err (Full line)) h script good left = limits_of h script good (ap (λ (history : History). history.config) left.1 ∙ run_of-settings script)
left_limits (Err NoMemory) h script good (inl empty) =
    λ config is. let none : None ≡ Some config = sym (ap (λ (history : History). history.config) empty) ∙ is in absurd (cc)
left_limits (Err NoMemory) h script good (inr front) = limits_of h script good (sym front.config ∙ run_of-settings script)

-- whatever is left of a script's run is right and caused
pub left_is_right : {A : Type 0} (result : Result A RunFault) (h : History) (script : Steps) → is_config script.config ≡ true →
    LeavesRun result h (run_of script) → IsRightAndCaused h
left_is_right result h script good left = right_run h (left_limits result h script good left) (left_is_run result h script left)
