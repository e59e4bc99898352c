use Rattle.std.proofs.Common.{◌≡◌, ℕ, [], length, arith, ap, ◌∙◌}
use Rattle.std.proofs.lemmas.List.{get_or_default}
use Rattle.topology_phase.specs.Owners.{owners_at, tabulated}
use Rattle.topology_phase.specs.Following.{mended}
use Rattle.topology_phase.proofs.Mending.{length-tabulated, pushed_more}
use Rattle.topology_phase.proofs.next.mended_hash.Goals as goal

pub push-requires : goal.push-requires
push-requires c =
    let row = λ (s : ℕ). mended c.args.live.now s (owners_at c.args.mine.now s) (owners_at c.args.other.now s) in
    omega (arith, ap length c.loop-segment.invariant, length-tabulated c.loop-segment.segment row)

pub loop-segment-preserved : goal.loop-segment-preserved
loop-segment-preserved c =
    let s = c.loop-segment.segment in
    let mine = c.args.mine.now in
    let row = λ (s : ℕ). mended c.args.live.now s (owners_at mine s) (owners_at c.args.other.now s) in
    let own : c.index-mine-segment.result ≡ owners_at mine s = c.index-mine-segment.is ∙ get_or_default mine s c.index-mine-segment.result [] (omega arith) in
    let here : c.mended-owners.result ≡ row s = c.mended-owners.ensures ∙ (λ i. mended c.args.live.now s (own i) (c.owners_of.ensures i)) in
    pushed_more row s c.loop-segment.hash c.push.new.self c.mended-owners.result c.loop-segment.invariant c.in_ok-push.ensures.ok here

pub returns : goal.returns
returns c =
    let row = λ (s : ℕ). mended c.args.live.now s (owners_at c.args.mine.now s) (owners_at c.args.other.now s) in
    let last : c.loop-segment.segment ≡ length c.args.mine.now = omega arith in
    c.loop-segment.invariant ∙ ap (λ n. tabulated n row) last
