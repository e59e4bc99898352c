-- What is known of a script that was read.
use Rattle.std.proofs.Common.{◌≡◌, Bool, true, false, List, ℕ, Result, Ok, Err, nat_lt, length, subst, if◌then◌else◌}
use Rattle.grid_base.specs.declared.limits.TheConstants.{LONGEST_SCRIPT}
use Rattle.grid_event.specs.declared.config.Config.{Config}
use Rattle.grid_script.specs.Judging.{Answers, Told, ◌>>=◌}
use Rattle.text_lines.specs.Lines.{lines_of}
use Rattle.grid_script.specs.LiveLines.{lives_of}
use Rattle.grid_script.specs.Reading.{after_all, body_of, live_after, live_start, script_of, step_after, step_start}
use Rattle.grid_script.specs.Scripts.{Lives, Steps}
use Rattle.grid_script.specs.Settings.{Behind, head_of}
use Rattle.grid_script.specs.declared.reason.Reason.TheVariants.{TooLong}
use Rattle.grid_script.specs.declared.script.Script.{Script}
use Rattle.grid_script.specs.declared.script.Script.TheVariants as scripts
use Rattle.grid_script.specs.declared.script_fault.ScriptFault.{ScriptFault}
use Rattle.grid_script.specs.declared.script_kind.ScriptKind.TheVariants as kinds

-- a script that was read is the one for which the bytes stand
pub was_read : {A : Type 0} (r : Result A ScriptFault) (x : A) (told : Told A) → r ≡ Ok x → Answers r told → told ≡ Ok x
was_read r x told is answers = subst (λ (s : Result _ ScriptFault). Answers s told) is answers

-- the script of a stepped run is no live one
steps_alone : {A : Type 0} (r : Told A) (f : A → Steps) (live : Lives) → (r >>= (λ known. Ok (scripts.Step (f known)))) ≡ Ok (scripts.Live live) → ⊥
steps_alone (Ok known) f live h = cc
steps_alone (Err fault) f live h = cc

-- nor is what follows the head of a stepped script
body_alone : (r : Told (Behind Config)) (live : Lives) → (r >>= body_of kinds.Step) ≡ Ok (scripts.Live live) → ⊥
unfolding body_of
body_alone (Ok head) live h =
    steps_alone (after_all step_after (step_start head.it) head.next head.lines) (λ known. record { config = known.config; lines = known.lines }) live h
body_alone (Err fault) live h = cc

-- a script that was read isn't too long
unless_long : (long : Bool) (r : Told Script) (live : Lives) → (if long then Err (0, TooLong) else r) ≡ Ok (scripts.Live live) → r ≡ Ok (scripts.Live live)
unless_long true r live h = absurd (cc)
unless_long false r live h = h

-- the script of a stepped run is no other script
pub never_live : (bytes : List ℕ) (live : Lives) → script_of kinds.Step bytes ≡ Ok (scripts.Live live) → ⊥
unfolding script_of
never_live bytes live h =
    body_alone (head_of kinds.Step (lines_of bytes)) live
    (unless_long (nat_lt LONGEST_SCRIPT (length bytes)) (head_of kinds.Step (lines_of bytes) >>= body_of kinds.Step) live h)

-- the script of a live run is no stepped one
lives_alone : {A : Type 0} (r : Told A) (f : A → Lives) (steps : Steps) → (r >>= (λ known. Ok (scripts.Live (f known)))) ≡ Ok (scripts.Step steps) → ⊥
lives_alone (Ok known) f steps h = cc
lives_alone (Err fault) f steps h = cc

-- nor is what follows the head of a live script
lives_body : (r : Told (Behind Config)) (steps : Steps) → (r >>= body_of kinds.Live) ≡ Ok (scripts.Step steps) → ⊥
unfolding body_of
lives_body (Ok head) steps h = lives_alone (after_all live_after (live_start head.it) head.next head.lines) lives_of steps h
lives_body (Err fault) steps h = cc

-- nor is a script that isn't too long
unless_long_steps : (long : Bool) (r : Told Script) (steps : Steps) → (if long then Err (0, TooLong) else r) ≡ Ok (scripts.Step steps) → r ≡ Ok (scripts.Step steps)
unless_long_steps true r steps h = absurd (cc)
unless_long_steps false r steps h = h

-- the script of a live run is no other script
pub never_step : (bytes : List ℕ) (steps : Steps) → script_of kinds.Live bytes ≡ Ok (scripts.Step steps) → ⊥
unfolding script_of
never_step bytes steps h =
    lives_body (head_of kinds.Live (lines_of bytes)) steps
    (unless_long_steps (nat_lt LONGEST_SCRIPT (length bytes)) (head_of kinds.Live (lines_of bytes) >>= body_of kinds.Live) steps h)
