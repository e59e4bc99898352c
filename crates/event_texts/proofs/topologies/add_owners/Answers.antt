use Rattle.std.proofs.Common.{◌≡◌, [], ◌++◌, ◌<◌, ◌&&◌, length, map, refl, ap, ◌∙◌, arith}
use Rattle.std.proofs.lemmas.List.Folds.{list_all_more}
use Rattle.std.specs.List.{join_with_byte, list_all, range_with_len}
use Rattle.pipeline_parse.proofs.ParseLaws.{both_fit}
use Rattle.pipeline_parse.proofs.TextSteps.{all_all}
use Rattle.topology_phase.specs.Owners.{among}
use Rattle.event_texts.specs.Fits.{is_u8, none_barred}
use Rattle.event_texts.proofs.Joining.{row_step}
use Rattle.event_texts.proofs.Ranges.{distinct_known}
use Rattle.event_texts.proofs.Rows.{owner_text, owners_whole}
use Rattle.event_texts.proofs.topologies.add_owners.Goals as goal

pub loop-place-preserved : goal.loop-place-preserved
loop-place-preserved c = record {
  text = row_step 44 (owner_text c.args.owners) c.loop-place.place _ _ _ _ c.loop-place.invariant.text c.in_ok-add_between.ensures c.in_ok-add_owner.ensures.text;
  keeps =
      list_all_more is_u8 c.args.owners c.loop-place.place 0 (omega (arith, c.loop-place-test.true, c.loop-place.auto.place-end, c.len-place-end.ensures.len))
      ∙ (λ j. c.loop-place.invariant.keeps j && c.in_ok-add_owner.ensures.keeps j);
}

pub returns-clause-text : goal.returns-clause-text
returns-clause-text c =
    let all : c.loop-place.place ≡ length c.args.owners = omega (arith, c.loop-place-test.false, c.loop-place.auto.place-end, c.len-place-end.ensures.len) in
    c.loop-place.invariant.text
    ∙ ap (λ n. c.args.out.now.list ++ join_with_byte 44 (map (owner_text c.args.owners) (range_with_len 0 n))) all
    ∙ ap (λ t. c.args.out.now.list ++ t) (owners_whole c.args.owners)

pub returns-clause-keeps : goal.returns-clause-keeps
returns-clause-keeps c =
    both_fit (none_barred among [] c.args.owners) (list_all is_u8 c.args.owners) (distinct_known c.args.owners c.len-place-end.ensures.distinct)
    (all_all is_u8 c.args.owners c.loop-place.place (omega (arith, c.loop-place-test.false, c.loop-place.auto.place-end, c.len-place-end.ensures.len)) c.loop-place.invariant.keeps)
