use Rattle.std.proofs.Common.{◌≡◌, ◌++◌, map, ap, ◌∙◌, arith}
use Rattle.std.specs.List.{join_with_byte, range_with_len}
use Rattle.event_texts.proofs.Joining.{row_step}
use Rattle.grid_journal.proofs.Rows.{first_hash_whole, first_row_text}
use Rattle.grid_journal.proofs.reports.add_first_hash.Goals as goal

pub loop-segment-preserved : goal.loop-segment-preserved
loop-segment-preserved c =
    row_step 59 (first_row_text c.args.config.now) c.loop-segment.segment _ _ _ _ c.loop-segment.invariant c.in_ok-add_between.ensures c.in_ok-add_first_owners.ensures

pub returns : goal.returns
returns c =
    let all : c.loop-segment.segment ≡ c.args.config.now.segments = omega (arith, c.loop-segment-test.false, c.loop-segment.auto.segment-end, c.from-segment-end.ensures) in
    c.loop-segment.invariant
    ∙ ap (λ n. c.args.out.now.list ++ join_with_byte 59 (map (first_row_text c.args.config.now) (range_with_len 0 n))) all
    ∙ ap (λ t. c.args.out.now.list ++ t) (first_hash_whole c.args.config.now)
