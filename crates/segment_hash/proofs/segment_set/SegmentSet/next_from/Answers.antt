use Rattle.std.proofs.Common.{◌≡◌, ℕ, ◌<◌, ◌≤◌, ◌+◌, ◌*◌, get_or, eqb, arith, inl, inr, refl, ◌∙◌, ap}
use Rattle.std.specs.Int.{bit_at}
use Rattle.std.proofs.lemmas.Bool.{both_ways, cases_lt}
use Rattle.segment_hash.proofs.MarkedSets.{bit_of, none_past, marked-word, clear_to}
use Rattle.segment_hash.proofs.segment_set.SegmentSet.next_from.Goals as goal

pub returns-in-Some-clause-member : goal.returns-in-Some-clause-member
returns-in-Some-clause-member c =
    let words = c.self.inside.words in
    let bit = c.in-Some.bit in
    let at : c.loop-place.place ≡ c.from.result = cc in
    let marked = marked-word words c.loop-place.place bit c.in-Some.ensures.within ∙ ap (λ (j : ℕ). eqb (bit_at (get_or words j 0) bit) 1) at ∙ ap (λ (b : ℕ). eqb b 1) c.in-Some.ensures.set in
    let member = bit_of words c.self.invariant c.args.self.now (c.loop-place.place * 64 + bit) c.self.view_is ∙ marked in
    cc (member)

pub returns-in-Some-clause-least : goal.returns-in-Some-clause-least
returns-in-Some-clause-least c =
    λ k from below.
    let words = c.self.inside.words in
    let bit = c.in-Some.bit in
    let at : c.loop-place.place ≡ c.from.result = cc in
    let small : bit ≤ 64 = omega (arith, c.in-Some.ensures.within) in
    let before : k < c.loop-place.place * 64 + bit = omega (arith, below) in
    bit_of words c.self.invariant c.args.self.now k c.self.view_is
    ∙ clear_to words c.args.segment c.loop-place.place c.loop-place.first c.loop-place.invariant.2 bit small
    (λ i low high. ap (λ (j : ℕ). bit_at (get_or words j 0) i) at ∙ c.in-Some.ensures.least i low high) k from before

pub returns-in-Some-clause-none : goal.returns-in-Some-clause-none
returns-in-Some-clause-none c =
    let words = c.self.inside.words in
    let bit = c.in-Some.bit in
    let at : c.loop-place.place ≡ c.from.result = cc in
    let marked = marked-word words c.loop-place.place bit c.in-Some.ensures.within ∙ ap (λ (j : ℕ). eqb (bit_at (get_or words j 0) bit) 1) at ∙ ap (λ (b : ℕ). eqb b 1) c.in-Some.ensures.set in
    let member = bit_of words c.self.invariant c.args.self.now (c.loop-place.place * 64 + bit) c.self.view_is ∙ marked in
    let low : c.args.segment ≤ c.loop-place.place * 64 + bit = omega (arith, c.loop-place.invariant.1, c.in-Some.ensures.from) in
    (λ e. absurd (cc), λ h. absurd (both_ways _ (h (c.loop-place.place * 64 + bit) low) member))

pub returns-in-Some-clause-bounded : goal.returns-in-Some-clause-bounded
returns-in-Some-clause-bounded c = none_past c.self.inside.words c.self.invariant c.args.self.now c.self.view_is

pub returns-clause-none : goal.returns-clause-none
returns-clause-none c = (
  λ e k from. elim (cases_lt k 256) [
    | inl below ↦ (
        let within : k < c.loop-place.place * 64 + c.loop-place.first = omega arith in
        bit_of c.self.inside.words c.self.invariant c.args.self.now k c.self.view_is ∙ c.loop-place.invariant.2 k from within
        )
    | inr past ↦ none_past c.self.inside.words c.self.invariant c.args.self.now c.self.view_is k past
  ],
  λ h. refl,
)

pub returns-clause-bounded : goal.returns-clause-bounded
returns-clause-bounded c = none_past c.self.inside.words c.self.invariant c.args.self.now c.self.view_is
