use Rattle.std.proofs.Common.{◌≡◌, ◌≢◌, ◌<◌, ℕ, false, [], length, sym, arith, ap, ◌∙◌}
use Rattle.std.proofs.lemmas.Bool.{not-true, false_from_ne_true, both_ways}
use Rattle.std.proofs.lemmas.List.{get_or_default}
use Rattle.std.proofs.lemmas.List.FromFn.{fill_by_all}
use Rattle.std.specs.Cmp.Lexicographic.{unequal}
use Rattle.topology_phase.specs.Owners.{owners_at}
use Rattle.topology_phase.specs.Topologies.{same_owners, same_hash}
use Rattle.topology_phase.specs.Following.{mended, mended_hash}
use Rattle.topology_phase.proofs.Mending.{length-tabulated, owners_at-tabulated}
use Rattle.topology_phase.proofs.SameTopologies.{same_owners_decides, same_hash_decides}
use Rattle.topology_phase.proofs.following.is_mended.Goals as goal

pub returns-then-rows-mine : goal.returns-then-rows-mine
returns-then-rows-mine c =
    let long = length-tabulated (length c.args.mine.now) (λ s. mended c.args.live.now s (owners_at c.args.mine.now s) (owners_at c.args.other.now s)) in
    let apart : length c.args.rows.now ≢ length (mended_hash c.args.live.now c.args.mine.now c.args.other.now) = omega (arith, long) in
    sym (unequal same_owners c.args.rows.now (mended_hash c.args.live.now c.args.mine.now c.args.other.now) apart)

pub returns-then-ne : goal.returns-then-ne
returns-then-ne c =
    let s = c.loop-segment.segment in
    let mine = c.args.mine.now in
    let rows = c.args.rows.now in
    let here : c.index-rows-segment.result ≡ owners_at rows s = c.index-rows-segment.is ∙ get_or_default rows s c.index-rows-segment.result [] c.loop-segment-test.true in
    let within : s < length mine = omega arith in
    let own : c.index-mine-segment.result ≡ owners_at mine s = c.index-mine-segment.is ∙ get_or_default mine s c.index-mine-segment.result [] within in
    let wanted : c.mended-mended.result ≡ mended c.args.live.now s (owners_at mine s) (owners_at c.args.other.now s) =
    c.mended-mended.ensures ∙ (λ i. mended c.args.live.now s (own i) (c.owners_of.ensures i)) in
    let differs : same_owners c.index-rows-segment.result c.mended-mended.result ≡ false = not-true (same_owners c.index-rows-segment.result c.mended-mended.result) (sym c.ne.ensures ∙ c.if-ne.true) in
    sym (false_from_ne_true (same_hash rows (mended_hash c.args.live.now mine c.args.other.now)) (λ same.
    let equal = (same_hash_decides rows (mended_hash c.args.live.now mine c.args.other.now)).0 same in
    let at = ap (λ hash. owners_at hash s) equal ∙ owners_at-tabulated (length mine) (λ k. mended c.args.live.now k (owners_at mine k) (owners_at c.args.other.now k)) s within in
    both_ways (same_owners c.index-rows-segment.result c.mended-mended.result) differs ((same_owners_decides c.index-rows-segment.result c.mended-mended.result).1 (here ∙ at ∙ sym wanted))))

pub returns : goal.returns
returns c =
    let mine = c.args.mine.now in
    let rows = c.args.rows.now in
    let last : c.loop-segment.segment ≡ length mine = omega arith in
    let long : length rows ≡ length mine = omega arith in
    let each : (k : ℕ) → k < length mine → owners_at rows k ≡ mended c.args.live.now k (owners_at mine k) (owners_at c.args.other.now k) = λ k h. c.loop-segment.invariant k (omega (arith, last)) in
    let equal = fill_by_all (λ k. mended c.args.live.now k (owners_at mine k) (owners_at c.args.other.now k)) rows (length mine) [] long each in
    sym ((same_hash_decides rows (mended_hash c.args.live.now mine c.args.other.now)).1 equal)
