-- What was read is refused for its length; it is no script of a stepped run.
use Rattle.std.proofs.Common.{refl, ap, ◌∙◌, Ok, Err, inl}
use Rattle.grid_script.specs.declared.reason.Reason.TheVariants.{TooLong}
use Rattle.grid_script.specs.declared.script_kind.ScriptKind.TheVariants as kinds
use Rattle.grid_script.specs.Reading.{script_of}
use Rattle.grid_shell.proofs.Scripts.{never_step, was_read}
use Rattle.grid_shell.proofs.live.run_live_source.Goals as goal

pub returns-in-Err-TooLong-clause-refused : goal.returns-in-Err-TooLong-clause-refused
returns-in-Err-TooLong-clause-refused g c = λ is.
    let taken = c.in-Err-TooLong.ensures.taken in (
      0,
      TooLong,
      inl (refl, refl, (taken.0, taken.1, taken.2.0 (ap Err c.in-Err-TooLong.field-0-is))),
      c.write_refused.ensures.refused is,
    )

pub unreachable-requires : goal.unreachable-requires
unreachable-requires g c =
    let bytes = c.as_slice.result.now in
    never_step bytes c.in-Step.field-0
    (was_read c.read_script.result c.in-Ok-read_script.script (script_of kinds.Live bytes) c.in-Ok-read_script.is c.read_script.ensures ∙ ap Ok c.in-Step.is)
