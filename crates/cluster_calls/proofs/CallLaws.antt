-- What is kept of a call.
use Rattle.std.proofs.Common.{◌≡◌, ℕ, ◌<◌, Bool, true, false, cond, not, ◌&&◌, ◌||◌, ◌==◌, List, [], ◌∷◌, ◌++◌, filter, refl, sym, ap, ◌∙◌, arith, if◌then◌else◌, Result, Ok, Err, OnOk, is_err}
use Rattle.std.proofs.lemmas.Bool.Decides.{nat_tests}
use Rattle.std.specs.FinSet as set_of
use Rattle.std.specs.List.{list_any}
use Rattle.delivery_mode.specs.declared.guarantee.Guarantee.{Guarantee}
use Rattle.delivery_mode.specs.declared.guarantee.Guarantee.TheVariants.{Exact, AtLeast, AtMost}
use Rattle.grid_base.specs.Datum.{same_bytes}
use Rattle.grid_base.specs.declared.entry.Entry.{Entry}
use Rattle.grid_event.specs.declared.request.Request.{Request}
use Rattle.seen_keys.specs.Passed.{Passed, all_passed, has_passed}
use Rattle.seen_keys.proofs.PassedLaws.{has_passed-all_passed}
use Rattle.suspect_retry.specs.Rounds.{granted_rounds}
use Rattle.cluster_model.specs.State.{Call, Taken, is_exact}
use Rattle.cluster_model.specs.Units.{was_taken}
use Rattle.cluster_calls.specs.Takings.{IsSeen, taken_in}

-- no key has passed, and none was taken
pub none_seen : (request : Request) (taken : List Taken) (passed : Passed) → request.rounds < 256 → taken ≡ [] → passed ≡ set_of.empty → IsSeen request taken passed
none_seen request taken passed fits none empty = record { stated = fits; seen = λ exact s k. ap (λ p. has_passed p s k) empty ∙ set_of.contains-empty _ (s, k) ∙ ap (λ (t : List Taken). was_taken t s k) (sym none) }

-- either of three tests passes however they are grouped
or_grouped : (a b c : Bool) → (a || (b || c)) ≡ ((a || b) || c)
or_grouped true b c = refl
or_grouped false b c = refl

-- whether an entry was taken of two lists
was_taken-append : (taken more : List Taken) (s : ℕ) (k : List ℕ) → was_taken (taken ++ more) s k ≡ (was_taken taken s k || was_taken more s k)
was_taken-append [] more s k = refl
was_taken-append (t ∷ taken) more s k =
    ap (λ b. ((t.segment == s) && same_bytes t.entry_of.key k) || b) (was_taken-append taken more s k)
    ∙ or_grouped ((t.segment == s) && same_bytes t.entry_of.key k) (was_taken taken s k) (was_taken more s k)

-- numbers are compared either way round
flipped : (x y : ℕ) → (x == y) ≡ (y == x)
flipped x y = grind (arith, nat_tests)

-- the same bytes are the same the other way round
turned : (a b : List ℕ) → same_bytes a b ≡ same_bytes b a
turned [] [] = refl
turned [] (y ∷ b) = refl
turned (x ∷ a) [] = refl
turned (x ∷ a) (y ∷ b) = λ i. flipped x y i && turned a b i

-- a test and one that fails, together, fail
and_false : (b : Bool) → (b && false) ≡ false
and_false true = refl
and_false false = refl

-- a test joined with either of two is joined with one of them
spread : (a b c : Bool) → ((a && b) || (a && c)) ≡ (a && (b || c))
spread true b c = refl
spread false b c = refl

-- an entry was taken from a segment of those that are taken there
was_taken-in : (segment : ℕ) (entries : List Entry) (s : ℕ) (k : List ℕ) → was_taken (taken_in segment entries) s k ≡ ((s == segment) && list_any (λ (e : Entry). same_bytes k e.key) entries)
was_taken-in segment [] s k = sym (and_false (s == segment))
was_taken-in segment (e ∷ entries) s k =
    (λ i. (flipped segment s i && turned e.key k i) || was_taken-in segment entries s k i)
    ∙ spread (s == segment) (same_bytes k e.key) (list_any (λ (e : Entry). same_bytes k e.key) entries)

-- either of two tests passes in any order
or_turned : (a b : Bool) → (a || b) ≡ (b || a)
or_turned true true = refl
or_turned true false = refl
or_turned false true = refl
or_turned false false = refl

-- where entries are taken, their keys pass
pub taken_seen : (request : Request) (taken : List Taken) (passed after : Passed) (segment : ℕ) (entries : List Entry) → IsSeen request taken passed
    → after ≡ cond (is_exact request.guarantee) (all_passed passed segment entries) passed → IsSeen request (taken ++ taken_in segment entries) after
taken_seen request taken passed after segment entries kept is = record {
  stated = kept.stated;
  seen = λ exact s k.
      ap (λ p. has_passed p s k) (is ∙ ap (λ b. cond b (all_passed passed segment entries) passed) exact)
      ∙ has_passed-all_passed passed segment entries s k
      ∙ (λ i. sym (was_taken-in segment entries s k) i || kept.seen exact s k i)
      ∙ or_turned (was_taken (taken_in segment entries) s k) (was_taken taken s k)
      ∙ sym (was_taken-append taken (taken_in segment entries) s k);
}

-- the rounds that a guarantee grants fit a byte
by_guarantee : (guarantee : Guarantee) (rounds : ℕ) → rounds < 256 → granted_rounds guarantee rounds < 256
by_guarantee Exact rounds fits = fits
by_guarantee AtLeast rounds fits = fits
by_guarantee AtMost rounds fits = omega arith

-- as many rounds as are granted fit where those that are stated do
pub granted_fits : (request : Request) → request.rounds < 256 → granted_rounds request.guarantee request.rounds < 256
granted_fits request fits = by_guarantee request.guarantee request.rounds fits

-- a filter that all pass leaves the batch
all_pass : (batch : List Entry) → filter (λ (e : Entry). true) batch ≡ batch
all_pass [] = refl
all_pass (e ∷ batch) = ap (λ es. e ∷ es) (all_pass batch)

-- what isn't known passes: of an exact walk the new entries, else all
passing_by : (exact : Bool) (p : Entry → Bool) (batch : List Entry) → filter (λ (e : Entry). not (exact && p e)) batch ≡ (if exact then filter (λ (e : Entry). not (p e)) batch else batch)
passing_by true p batch = refl
passing_by false p batch = all_pass batch

-- what passes of a batch
pub passing_is : (call : Call) (segment : ℕ) (batch : List Entry) → filter (λ (e : Entry). not (is_exact call.request.guarantee && was_taken call.taken segment e.key)) batch
    ≡ (if is_exact call.request.guarantee then filter (λ (e : Entry). not (was_taken call.taken segment e.key)) batch else batch)
passing_is call segment batch = passing_by (is_exact call.request.guarantee) (λ (e : Entry). was_taken call.taken segment e.key) batch

-- what holds of a success holds where there is one
pub on_ok : {A E : Type 0} {P : Type 0} (result : Result A E) → is_err result ≡ false → OnOk result P → P
on_ok (Ok a) h p = p
on_ok (Err e) h p = absurd (cc)
