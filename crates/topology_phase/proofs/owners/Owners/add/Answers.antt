use Rattle.std.proofs.Common.{◌≡◌, ◌+◌, ◌<◌, ◌++◌, ◌∷◌, [], set, take, length, nat_eq, arith, ap, subst, sym, ◌∙◌, List, ℕ}
use Rattle.std.proofs.lemmas.List.{length-take-le, length-set}
use Rattle.std.proofs.lemmas.Map.Keys.{IsDistinct-push}
use Rattle.std.specs.Cmp.{nat_eq_equiv}
use Rattle.std.specs.List.{IsDistinct}
use Rattle.grid_base.specs.Padded.{pad}
use Rattle.topology_phase.specs.Owners.{among}
use Rattle.topology_phase.proofs.OwnerLists.{among_flipped, pad-push, taken_after_set}
use Rattle.topology_phase.proofs.owners.Owners.add.Goals as goal

pub invariant_of-self : goal.invariant_of-self
invariant_of-self c =
    let h = c.self.invariant in
    let len = c.self.inside.len in
    let nodes = c.self.inside.nodes in
    let short : length (take len nodes) ≡ len = length-take-le len nodes (omega (arith, h.fits, h.whole)) in
    let room : len < 8 = omega (arith, short, ap length c.self.view_is, c.requires.room) in
    let after : take (len + 1) (set nodes c.from.result c.number.result) ≡ take len nodes ++ c.args.node ∷ [] =
    (λ i. take (len + 1) (set nodes (c.from.ensures i) (c.number.ensures i))) ∙ taken_after_set nodes len c.args.node (omega (arith, h.whole)) in
    let absent = among_flipped c.args.node (take len nodes) ∙ ap (among c.args.node) c.self.view_is ∙ c.requires.absent in
    record {
      fits = omega arith;
      whole = length-set nodes c.from.result c.number.result ∙ h.whole;
      distinct = (let P : List ℕ → Type 0 = IsDistinct nat_eq in subst P (sym after) (IsDistinct-push nat_eq_equiv (take len nodes) c.args.node h.distinct absent));
      padded = ap (pad 8) after ∙ pad-push 8 (take len nodes) c.args.node (omega (arith, short)) ∙ (λ i. set (h.padded i) (short i) c.args.node) ∙ (λ i. set nodes (sym c.from.ensures i) (sym c.number.ensures i));
    }
