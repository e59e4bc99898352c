use Rattle.std.proofs.Common.{ap, ◌∙◌, sym, ◌%◌, ◌/◌, get_or, eqb, ℕ}
use Rattle.std.proofs.lemmas.Nat.Bits.{shr_and_one}
use Rattle.segment_hash.proofs.MarkedSets.{bit_of}
use Rattle.segment_hash.proofs.segment_set.SegmentSet.has.Goals as goal

pub returns : goal.returns
returns c =
    let n = c.from-number.result in
    let marked = bit_of c.self.inside.words c.self.invariant c.args.self.now n c.self.view_is in
    let test = shr_and_one (get_or c.self.inside.words (n / 64) 0) (n % 64) in
    let tested = ap (λ (b : ℕ). eqb b 1) test ∙ sym marked in
    cc (tested)
