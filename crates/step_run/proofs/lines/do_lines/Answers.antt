-- Each line is done, and then the others.
use Rattle.std.proofs.Common.{◌<◌, List, length, ap, sym, subst, ◌∙◌, drop, ◌∷◌, suc, arith}
use Rattle.std.proofs.Math.Seq.{drop-cons}
use Rattle.grid_script.specs.declared.step_line.StepLine.{StepLine}
use Rattle.step_run.specs.Outcomes.{LeavesAt, running}
use Rattle.step_run.specs.StepRuns.{Progress, after_lines, done}
use Rattle.step_run.proofs.Fronts.{after_lines-grows, after_lines-stays, leaves_on}
use Rattle.step_run.proofs.lines.do_lines.Goals as goal

pub returns-in-Err-clause-leaves : goal.returns-in-Err-clause-leaves
returns-in-Err-clause-leaves c =
    let line = c.line-item.result in
    let place = c.loop-line.line-index in
    let run = running c.loop-line.core c.loop-line.journal.history in
    let within : place < length c.args.lines.now = omega (arith, c.loop-line-test.true) in
    let cut = drop-cons c.args.lines.now place line within ∙ ap (λ (first : StepLine). first ∷ drop (suc place) c.args.lines.now) (sym c.line-item.is) in
    subst (λ (target : Progress). LeavesAt c.in-Err.fault c.do_line.new.core c.do_line.new.journal.history target)
    (ap (λ (lines : List StepLine). after_lines lines run) (sym cut) ∙ c.loop-line.invariant.left)
    (leaves_on c.in-Err.fault c.do_line.new.core c.do_line.new.journal.history (done line run) (after_lines (drop (suc place) c.args.lines.now))
    (after_lines-stays (drop (suc place) c.args.lines.now)) (after_lines-grows (drop (suc place) c.args.lines.now)) c.in-Err.ensures.leaves)
