-- Where the evidence of a call comes from.
use Rattle.std.proofs.Common.{◌≡◌, ℕ, ◌==◌, Bool, true, false, ◌&&◌, List, [], ◌∷◌, Some, refl, ap, ◌∙◌, if◌then◌else◌}
use Rattle.std.specs.List.{filter, flat_map, list_all, range_with_len}
use Rattle.std.proofs.lemmas.Bool.{and_parts}
use Rattle.std.proofs.lemmas.List.Folds.{list_all-append}
use Rattle.grid_base.specs.declared.entry.Entry.{Entry}
use Rattle.grid_event.specs.UnitHistories.{asks_of_call}
use Rattle.grid_event.specs.declared.call_events.Ask.{Ask}
use Rattle.grid_event.specs.declared.config.Config.{Config}
use Rattle.grid_event.specs.declared.event.Event.{Event}
use Rattle.grid_event.specs.declared.request.Request.{Request}
use Rattle.cluster_model.specs.State.{is_walk}
use Rattle.cluster_model.specs.Evidence.{evidence, evidence_by, is_counted, request_of, scanned_by, scanned_evidence, taken_in}
use Rattle.cluster_model.specs.Laws.{EvidenceIsItsOwn}

-- where the test passes of each list, it passes of all lists together
all_flat : {A B : Type 0} (test : B → Bool) (f : A → List B) (xs : List A) → list_all (λ x. list_all test (f x)) xs ≡ true → list_all test (flat_map f xs) ≡ true
all_flat test f [] h = refl
all_flat test f (x ∷ xs) h =
    let p : (list_all test (f x) ≡ true) × (list_all (λ x. list_all test (f x)) xs ≡ true) = and_parts _ _ h in
    list_all-append test (f x) (flat_map f xs) ∙ ap (λ b. b && list_all test (flat_map f xs)) p.0 ∙ all_flat test f xs p.1

-- what passes of all passes of some
all_some : {A : Type 0} (test keep : A → Bool) (xs : List A) → list_all test xs ≡ true → list_all test (filter keep xs) ≡ true
all_some test keep [] h = refl
all_some test keep (x ∷ xs) h =
    let p : (test x ≡ true) × (list_all test xs ≡ true) = and_parts _ _ h in kept (keep x) p.0 (all_some test keep xs p.1)
  where
    kept : (b : Bool) → test x ≡ true → list_all test (filter keep xs) ≡ true → list_all test (if b then x ∷ filter keep xs else filter keep xs) ≡ true
    kept true a rest = ap (λ t. t && list_all test (filter keep xs)) a ∙ rest
    kept false a rest = rest

-- what holds at each number holds of a range
all_range : {B : Type 0} (test : B → Bool) (f : ℕ → List B) → ((n : ℕ) → list_all test (f n) ≡ true) → (xs : List ℕ) → list_all (λ n. list_all test (f n)) xs ≡ true
all_range test f h [] = refl
all_range test f h (n ∷ xs) = ap (λ b. b && list_all (λ n. list_all test (f n)) xs) (h n) ∙ all_range test f h xs

-- what passes of all that the units of a call scanned passes of its scanned evidence
scanned_own : (config : Config) (past : List Event) (call : ℕ) (request : Request) (test : Entry → Bool) →
    list_all (λ (ask : Ask). list_all test (scanned_by past ask.unit)) (asks_of_call past call) ≡ true →
    list_all test (scanned_evidence config past call request) ≡ true
scanned_own config past call request test h =
    let on : ℕ → List Entry = λ (segment : ℕ). flat_map (λ (ask : Ask). scanned_by past ask.unit) (filter (λ (ask : Ask). (ask.segment == segment) && is_counted past request ask) (asks_of_call past call)) in
    all_flat test on (range_with_len 0 config.segments)
    (all_range test on
    (λ segment. all_flat test (λ (ask : Ask). scanned_by past ask.unit) (filter (λ (ask : Ask). (ask.segment == segment) && is_counted past request ask) (asks_of_call past call))
    (all_some (λ (ask : Ask). list_all test (scanned_by past ask.unit)) (λ (ask : Ask). (ask.segment == segment) && is_counted past request ask) (asks_of_call past call) h))
    (range_with_len 0 config.segments))

-- the evidence by what the call asks for
by_request : (config : Config) (past : List Event) (call : ℕ) (request : Request) → request_of past call ≡ Some request →
    evidence config past call ≡ (if is_walk request then taken_in past call else scanned_evidence config past call request)
unfolding evidence
by_request config past call request asked = ap (evidence_by config past call) asked

-- so it passes of the evidence of a reduction
own_reductions : (config : Config) (past : List Event) (call : ℕ) (request : Request) (test : Entry → Bool) →
    request_of past call ≡ Some request → is_walk request ≡ false →
    list_all (λ (ask : Ask). list_all test (scanned_by past ask.unit)) (asks_of_call past call) ≡ true →
    list_all test (evidence config past call) ≡ true
own_reductions config past call request test asked form h =
    ap (list_all test) (by_request config past call request asked ∙ ap (λ b. if b then taken_in past call else scanned_evidence config past call request) form)
    ∙ scanned_own config past call request test h

-- the evidence of a call is of its own units
pub its_own : EvidenceIsItsOwn
its_own = record {
  reductions = own_reductions;
  walks = λ config past call request asked form.
      by_request config past call request asked ∙ ap (λ b. if b then taken_in past call else scanned_evidence config past call request) form;
}
