use Rattle.std.proofs.Common.{◌≡◌, ◌+◌, ◌<◌, ◌++◌, ◌∷◌, [], true, false, cond, take, length, set, arith, sym, ap, ◌∙◌}
use Rattle.std.proofs.lemmas.List.{length-set, append-nil}
use Rattle.std.specs.FinSet as sets
use Rattle.std.specs.List.{filter, range_with_len}
use Rattle.topology_phase.specs.Owners.{members}
use Rattle.topology_phase.proofs.OwnerLists.{filter_range_more, taken_after_set}
use Rattle.topology_phase.proofs.members.Members.new.Goals as goal

pub loop-number-preserved-then-not-has : goal.loop-number-preserved-then-not-has
loop-number-preserved-then-not-has c =
    let n = c.loop-number.number in
    let p = sets.contains c.args.set.now in
    let out : p n ≡ false = ap p (sym c.new.ensures) ∙ sym c.has.ensures ∙ c.if-not-has.true in
    record {
      few = omega (arith, c.loop-number.invariant.few);
      whole = c.loop-number.invariant.whole;
      so_far = c.loop-number.invariant.so_far
          ∙ sym (filter_range_more p n ∙ ap (λ b. filter p (range_with_len 0 n) ++ cond b (n ∷ []) []) out ∙ append-nil (filter p (range_with_len 0 n)));
    }

pub loop-number-preserved : goal.loop-number-preserved
loop-number-preserved c =
    let n = c.loop-number.number in
    let p = sets.contains c.args.set.now in
    let into : p n ≡ true = ap p (sym c.new.ensures) ∙ sym c.has.ensures ∙ c.if-not-has.false in
    let room : c.loop-number.len < length c.loop-number.nodes = omega (arith, c.loop-number.invariant.few, c.loop-number.invariant.whole) in
    record {
      few = omega (arith, c.loop-number.invariant.few);
      whole = length-set c.loop-number.nodes c.from.result n ∙ c.loop-number.invariant.whole;
      so_far = ap (λ k. take (c.loop-number.len + 1) (set c.loop-number.nodes k n)) c.from.ensures
          ∙ taken_after_set c.loop-number.nodes c.loop-number.len n room
          ∙ ap (λ ns. ns ++ n ∷ []) c.loop-number.invariant.so_far
          ∙ sym (filter_range_more p n ∙ ap (λ b. filter p (range_with_len 0 n) ++ cond b (n ∷ []) []) into);
    }

pub returns : goal.returns
unfolding members
returns c =
    let last : c.loop-number.number ≡ 16 = omega arith in
    c.loop-number.invariant.so_far ∙ ap (λ n. filter (sets.contains c.args.set.now) (range_with_len 0 n)) last
