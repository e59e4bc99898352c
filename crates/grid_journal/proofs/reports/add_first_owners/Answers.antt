use Rattle.std.proofs.Common.{◌≡◌, ◌++◌, map, min, ap, ◌∙◌, arith}
use Rattle.std.specs.List.{join_with_byte, range_with_len}
use Rattle.event_texts.proofs.Joining.{row_step}
use Rattle.grid_journal.proofs.Rows.{first_owner_text, first_owners_whole}
use Rattle.grid_journal.proofs.reports.add_first_owners.Goals as goal

pub loop-place-preserved : goal.loop-place-preserved
loop-place-preserved c =
    row_step 44 (first_owner_text c.args.config.now c.args.segment) c.loop-place.place _ _ _ _ c.loop-place.invariant c.in_ok-add_between.ensures c.in_ok-add_first_owner.ensures

pub returns : goal.returns
returns c =
    let all : c.loop-place.place ≡ min c.args.config.now.owners c.args.config.now.nodes = omega (arith, c.loop-place-test.false, c.loop-place.auto.place-end, c.from-place-end.ensures, c.min-count.ensures) in
    c.loop-place.invariant
    ∙ ap (λ n. c.args.out.now.list ++ join_with_byte 44 (map (first_owner_text c.args.config.now c.args.segment) (range_with_len 0 n))) all
    ∙ ap (λ t. c.args.out.now.list ++ t) (first_owners_whole c.args.config.now c.args.segment c.requires.nodes)
