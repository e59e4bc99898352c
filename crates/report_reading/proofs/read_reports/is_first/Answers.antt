use Rattle.std.proofs.Common.{◌≡◌, sym, ap, ◌∙◌}
use Rattle.grid_base.specs.Datum.{same_bytes}
use Rattle.text_lines.specs.Lines.{lines_of}
use Rattle.report_reading.proofs.FirstTopology.{second_is, second_there}
use Rattle.report_reading.proofs.read_reports.is_first.Goals as goal

pub first_line-second-requires : goal.first_line-second-requires
first_line-second-requires c =
    second_there c.args.config c.requires _ c.start.ensures.started _ (c.as_slice.ensures ∙ c.in_ok-head.ensures) _ c.first_line-cut.result.rest.now c.first_line-cut.ensures.cut

pub returns : goal.returns
returns c =
    c.eq.ensures ∙ ap (same_bytes c.args.line.now) (second_is c.args.config c.requires _ c.start.ensures.started _ (c.as_slice.ensures ∙ c.in_ok-head.ensures) _ c.first_line-cut.result.rest.now c.first_line-cut.ensures.cut _ c.first_line-second.result.rest.now c.first_line-second.ensures.cut)
