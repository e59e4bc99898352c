use Rattle.std.proofs.Common.{◌≡◌, suc, ◌-◌, ◌<◌, List, ◌∷◌, drop, length, reverse, refl, subst, sym, ap, arith, ◌∙◌}
use Rattle.std.proofs.lemmas.List.{drop_all}
use Rattle.std.specs.FinMap as map
use Rattle.container_seg.specs.Lifespans.{left}
use Rattle.state_transfer.specs.Cells.{Cells}
use Rattle.state_transfer.specs.Chunks.{landed_in}
use Rattle.state_transfer.specs.Copying.{copy_at}
use Rattle.state_transfer.specs.Landing.{TakesBack}
use Rattle.state_transfer.specs.Slots.{Holdings}
use Rattle.state_transfer.specs.declared.landing.Step.{Step}
use Rattle.state_transfer.proofs.LandLaws as laws
use Rattle.state_transfer.proofs.landing.put_all.Goals as goal
use Rattle.state_transfer.proofs.landing.put_all.Goals.{then-not-touches+in_ok-put_one, else-not-touches}

pub loop-left-init : goal.loop-left-init
loop-left-init c =
    let r = c.args.to.receiver in
    let s = c.args.to.segment in
    let cells = c.args.holders.now.cells in
    record {
      nodes = refl;
      clock = refl;
      fits = omega arith;
      so_far = laws.landed_none r s c.args.transfer.now.touched cells ∙ ap (λ es. landed_in r s c.args.transfer.now.touched es cells) (sym (drop_all (length c.args.entries.now) c.args.entries.now (omega arith)));
      steps = laws.nothing_done r s c.args.holders.now.clock c.args.steps.now.items cells c.requires.none;
    }

pub loop-left-preserved : goal.loop-left-preserved
loop-left-preserved c =
    let r = c.args.to.receiver in
    let s = c.args.to.segment in
    let touched = c.args.transfer.now.touched in
    let before = c.loop-left.holders in
    let first = c.args.holders.now.cells in
    let entry = c.index-entries-left.result in
    let es = c.args.entries.now in
    let next : c.loop-left.left ≡ suc (c.loop-left.left - 1) = omega (arith, c.loop-left-test.true) in
    let within : c.loop-left.left - 1 < length es = omega (arith, c.loop-left-test.true, c.loop-left.invariant.fits) in
    let here : drop (c.loop-left.left - 1) es ≡ entry ∷ drop c.loop-left.left es = laws.drop_at (c.loop-left.left - 1) c.loop-left.left es entry next within (sym c.index-entries-left.is) in
    elim c.if-not-touches.branch [
      | then-not-touches+in_ok-put_one w ↦
          let put : w.put_one.new.holders ≡ record before { cells = map.insert before.cells (record { node = r; segment = s; key = entry.key }) entry.stamped } = w.in_ok-put_one.ensures.ok in
          let holders : c.if-not-touches.holders ≡ record before { cells = map.insert before.cells (record { node = r; segment = s; key = entry.key }) entry.stamped } = w.holders-is ∙ put in
          record {
            nodes = ap (λ (x : Holdings). x.nodes) holders ∙ c.loop-left.invariant.nodes;
            clock = ap (λ (x : Holdings). x.clock) holders ∙ c.loop-left.invariant.clock;
            fits = omega (arith, c.loop-left.invariant.fits);
            so_far = ap (λ (x : Holdings). x.cells) holders
                ∙ ap (λ m. map.insert m (record { node = r; segment = s; key = entry.key }) entry.stamped) c.loop-left.invariant.so_far
                ∙ laws.landed_put r s touched entry (drop c.loop-left.left es) first (sym c.touches.ensures ∙ w.if-not-touches.true)
                ∙ ap (λ xs. landed_in r s touched xs first) (sym here);
            steps = subst (λ (m : Cells). TakesBack r s c.args.holders.now.clock (reverse c.if-not-touches.steps.items) m first) (sym (ap (λ (x : Holdings). x.cells) holders))
                (laws.one_more r s c.args.holders.now.clock entry.key entry.stamped c.loop-left.steps.items c.if-not-touches.steps.items before.cells first
                (ap (λ v. v.items) w.steps-is ∙ w.in_ok-put_one.ensures.noted)
                (subst (λ n. left n (copy_at before.cells r s entry.key) ≡ copy_at before.cells r s entry.key) c.loop-left.invariant.clock w.in_ok-put_one.ensures.before)
                c.loop-left.invariant.steps);
          }
      | else-not-touches w ↦ record {
        nodes = ap (λ (x : Holdings). x.nodes) w.holders-is ∙ c.loop-left.invariant.nodes;
        clock = ap (λ (x : Holdings). x.clock) w.holders-is ∙ c.loop-left.invariant.clock;
        fits = omega (arith, c.loop-left.invariant.fits);
        so_far = ap (λ (x : Holdings). x.cells) w.holders-is ∙ c.loop-left.invariant.so_far
            ∙ laws.landed_passed r s touched entry (drop c.loop-left.left es) first (sym c.touches.ensures ∙ w.if-not-touches.false)
            ∙ ap (λ xs. landed_in r s touched xs first) (sym here);
        steps = subst (λ (ss : List Step). TakesBack r s c.args.holders.now.clock (reverse ss) c.if-not-touches.holders.cells first) (sym (ap (λ v. v.items) w.steps-is))
            (subst (λ (m : Cells). TakesBack r s c.args.holders.now.clock (reverse c.loop-left.steps.items) m first) (sym (ap (λ (x : Holdings). x.cells) w.holders-is)) c.loop-left.invariant.steps);
      }
    ]
