use Rattle.std.proofs.Common.{◌≡◌, ℕ, ◌&&◌, Bool, true, false, not, nat_lt, length, arith, refl, sym, ap, ◌∙◌, inl, inr}
use Rattle.std.proofs.lemmas.Bool.{cases_lt, lt-ltb}
use Rattle.std.specs.FinSet as set_of
use Rattle.std.specs.List.{list_any}
use Rattle.topology_phase.specs.Owners.{among}
use Rattle.topology_phase.specs.Topologies.{holders}
use Rattle.topology_coord.proofs.Living.{holders_past}
use Rattle.topology_coord.proofs.SoFar.{none_so_far, add_so_far}
use Rattle.topology_coord.proofs.lost.lost_segments.Goals as goal

pub loop-number-init : goal.loop-number-init
loop-number-init c = none_so_far _ c.new-lost.result c.new-lost.ensures

pub loop-number-preserved : goal.loop-number-preserved
loop-number-preserved c =
    let live = λ (n : ℕ). among n c.args.live.now in
    let left = λ (n : ℕ). among n c.args.left.now in
    let lost = λ (q : ℕ). list_any live (holders c.args.topology.now q) && not (list_any left (holders c.args.topology.now q)) in
    let added = c.add.ensures ∙ ap (set_of.insert c.loop-number.lost) c.new-segment.ensures in
    let is : lost c.loop-number.number ≡ true = sym (c.is_lost.ensures ∙ ap lost c.new-segment.ensures) ∙ c.if-not-is_lost.false in
    add_so_far lost c.loop-number.number c.loop-number.lost c.add.new.self c.loop-number.invariant added is

pub returns : goal.returns
returns c = λ s.
    let live = λ (n : ℕ). among n c.args.live.now in
    let left = λ (n : ℕ). among n c.args.left.now in
    let owners = holders c.args.topology.now s in
    let last : c.loop-number.number ≡ length c.args.topology.now.current = omega (arith, c.segments-number-end.ensures.segments) in
    c.loop-number.invariant s ∙ elim (cases_lt s c.loop-number.number) [
      | inl within ↦ ap (λ b. b && (list_any live owners && not (list_any left owners))) (lt-ltb s c.loop-number.number within)
      | inr past ↦ (let none = holders_past c.args.topology.now s c.segments-number-end.ensures.kept (omega (arith, past, last)) in
          ap (λ ns. nat_lt s c.loop-number.number && (list_any live ns && not (list_any left ns))) none ∙ and_no (nat_lt s c.loop-number.number) ∙ sym (ap (λ ns. list_any live ns && not (list_any left ns)) none))
    ]
  where
    and_no : (b : Bool) → (b && false) ≡ false
    and_no true = refl
    and_no false = refl
