use Rattle.std.proofs.Common.{◌≡◌, [], ◌++◌, ◌&&◌, true, length, map, refl, ap, sym, ◌∙◌, subst, arith}
use Rattle.std.proofs.lemmas.List.Folds.{list_all_more}
use Rattle.std.specs.List.{join_with_byte, range_with_len}
use Rattle.pipeline_parse.proofs.TextSteps.{all_all}
use Rattle.topology_phase.specs.Owners.{owners_at}
use Rattle.event_texts.specs.Fits.{are_owners}
use Rattle.event_texts.specs.Topologies.{owners_text}
use Rattle.event_texts.proofs.Joining.{row_step}
use Rattle.event_texts.proofs.Rows.{hash_whole, row_text}
use Rattle.event_texts.proofs.topologies.add_hash.Goals as goal

pub loop-segment-preserved : goal.loop-segment-preserved
loop-segment-preserved c =
    let here = c.owners.ensures ∙ ap (owners_at c.args.hash.now) c.new.ensures in
    record {
      text = row_step 59 (row_text c.args.hash.now) c.loop-segment.segment _ _ _ _ c.loop-segment.invariant.text c.in_ok-add_between.ensures
          (c.in_ok-add_owners.ensures.text ∙ ap (λ o. c.add_between.new.out.list ++ owners_text o) here);
      keeps =
          list_all_more are_owners c.args.hash.now c.loop-segment.segment [] (omega (arith, c.loop-segment-test.true, c.loop-segment.auto.segment-end, c.segments-segment-end.ensures.segments))
          ∙ (λ j. c.loop-segment.invariant.keeps j && subst (λ o. are_owners o ≡ true) here c.in_ok-add_owners.ensures.keeps j);
    }

pub returns-clause-text : goal.returns-clause-text
returns-clause-text c =
    let all : c.loop-segment.segment ≡ length c.args.hash.now = omega (arith, c.loop-segment-test.false, c.loop-segment.auto.segment-end, c.segments-segment-end.ensures.segments) in
    c.loop-segment.invariant.text
    ∙ ap (λ n. c.args.out.now.list ++ join_with_byte 59 (map (row_text c.args.hash.now) (range_with_len 0 n))) all
    ∙ ap (λ t. c.args.out.now.list ++ t) (hash_whole c.args.hash.now)

pub returns-clause-keeps : goal.returns-clause-keeps
returns-clause-keeps c =
    all_all are_owners c.args.hash.now c.loop-segment.segment (omega (arith, c.loop-segment-test.false, c.loop-segment.auto.segment-end, c.segments-segment-end.ensures.segments)) c.loop-segment.invariant.keeps
