-- What a step of a book keeps of what is shared.
use Rattle.std.proofs.Common.{◌≡◌, ℕ, ◌+◌, ◌==◌, Bool, false, List, [], ◌∷◌, ◌++◌, length, reverse, slice_index_or, Option, sym, ap, ◌∙◌, arith, length-append, inl, inr}
use Rattle.std.proofs.lemmas.Bool.{cases_eq, ne_eqb}
use Rattle.grid_script.specs.Scripts.{Lives}
use Rattle.grid_script.specs.declared.deed.Deed.{Deed}
use Rattle.grid_script.specs.declared.member.Member.{Member}
use Rattle.grid_book.specs.Booked.{Booked}
use Rattle.grid_book.specs.declared.act_fault.ActFault.{ActFault}
use Rattle.live_run.specs.Serving.{changes_in, deeds_by}
use Rattle.live_run.specs.Sharing.{IsServing, IsShared}
use Rattle.live_run.specs.Staying.{IsBegun, Stays}

-- a step that leaves sessions and changes
pub serves_on : (script : Lives) (was is : Booked) (done : List ℕ) (moved : ℕ) → IsServing script was done moved → IsBegun script is → ((k : ℕ) → Stays was is k) →
    changes_in (reverse is.events) ≡ changes_in (reverse was.events) → IsServing script is done moved
serves_on script was is done moved h begun stays changes = record {
  partly = begun.partly;
  whole = begun.whole;
  counts = λ k within. h.counts k within ∙ ap (λ (ds : List Deed). length ds) (sym (stays (k + 1)).deeds);
  all = h.all;
  changes = h.changes ∙ ap (λ (cs : List Member). length cs) (sym changes);
}

-- and one that makes the next change
pub serves_change : (script : Lives) (was is : Booked) (done : List ℕ) (moved : ℕ) (change : Member) → IsServing script was done moved → IsBegun script is → ((k : ℕ) → Stays was is k) →
    changes_in (reverse is.events) ≡ changes_in (reverse was.events) ++ change ∷ [] → IsServing script is done (moved + 1)
serves_change script was is done moved change h begun stays changes = record {
  partly = begun.partly;
  whole = begun.whole;
  counts = λ k within. h.counts k within ∙ ap (λ (ds : List Deed). length ds) (sym (stays (k + 1)).deeds);
  all = h.all;
  changes =
      let l = length-append (changes_in (reverse was.events)) (change ∷ []) in
      let c = ap (λ (cs : List Member). length cs) changes in
      let m = h.changes in omega (arith, l, c, m);
}

-- a turn of a session, whose count is told, and the counts of the others are as they were
pub serves_turn : (script : Lives) (was is : Booked) (done later : List ℕ) (moved k : ℕ) → IsServing script was done moved → IsBegun script is → length later ≡ length done →
    slice_index_or later k 0 ≡ length (deeds_by (k + 1) (reverse is.events)) → ((j : ℕ) → (j ≡ k → ⊥) → slice_index_or later j 0 ≡ slice_index_or done j 0) →
    ((j : ℕ) → ((k + 1) == j) ≡ false → Stays was is j) → changes_in (reverse is.events) ≡ changes_in (reverse was.events) → IsServing script is later moved
serves_turn script was is done later moved k h begun same count others stays changes = record {
  partly = begun.partly;
  whole = begun.whole;
  counts = λ j within. elim (cases_eq j k) [
    | inl here ↦ ap (λ n. slice_index_or later n 0) here ∙ count ∙ ap (λ n. length (deeds_by (n + 1) (reverse is.events))) (sym here)
    | inr there ↦
        others j there ∙ h.counts j within
        ∙ ap (λ (ds : List Deed). length ds) (sym (stays (j + 1) (ne_eqb (k + 1) (j + 1) (λ e. there (omega (arith, e))))).deeds)
  ];
  all = same ∙ h.all;
  changes = h.changes ∙ ap (λ (cs : List Member). length cs) (sym changes);
}

-- what is shared by a run that isn't stopped, with a further step
pub shares_on : (script held : Lives) (was is : Booked) (done later : List ℕ) (moved further : ℕ) (stop : Bool) (fault : Option ActFault) →
    IsShared script held was done moved stop fault → stop ≡ false → IsServing script is later further → IsShared script held is later further stop fault
shares_on script held was is done later moved further stop fault h goes serving = record {
  same = h.same;
  serving = serving;
  cause = λ full. let none = h.sound goes in absurd (cc);
  sound = h.sound;
}
