-- What the test of an event says of each unit that it names, and how a round numbers its units.
use Rattle.std.proofs.Common.{◌≡◌, ℕ, suc, ◌+◌, ◌≤◌, ◌<◌, ◌==◌, Bool, true, false, ◌&&◌, cond, List, [], ◌∷◌, map, length, Option, None, Some, refl, ap, ◌∙◌, arith, subst}
use Rattle.std.proofs.lemmas.Bool.{and_parts}
use Rattle.std.proofs.lemmas.Bool.Decides.{nat_tests}
use Rattle.std.specs.Cmp.Lexicographic.{pointwise}
use Rattle.std.specs.List.{AllByRecursion, find}
use Rattle.grid_event.specs.declared.call_events.Ask.{Ask}
use Rattle.grid_event.specs.declared.call_events.RoundEvent.{RoundEvent}
use Rattle.cluster_model.specs.Calls.{asks_from, asks_of, can_round, is_due, is_next_round, unit_made}
use Rattle.cluster_model.specs.Same.{same_ask, same_asks}
use Rattle.cluster_model.specs.State.{Call, State, Unit, call_of, goes_on, unit_of}
use Rattle.cluster_laws.proofs.Lists.{each_imply}
use Rattle.cluster_laws.proofs.Numbers.{NumberedFrom, found_alone}

-- a test that is passed by the unit of a number is passed by each unit that has it
pub each_named : (st : State) (number : ℕ) (test : Option Unit → Bool) → test None ≡ false → test (unit_of st.calling number) ≡ true → NumberedFrom 1 st.calling.units →
    AllByRecursion (λ (unit : Unit). (unit.work.id == number) ≡ true → test (Some unit) ≡ true) st.calling.units
each_named st number test nothing passed numbered = by_found (unit_of st.calling number) refl passed
  where
    by_found : (found : Option Unit) → unit_of st.calling number ≡ found → test found ≡ true →
        AllByRecursion (λ (unit : Unit). (unit.work.id == number) ≡ true → test (Some unit) ≡ true) st.calling.units
    by_found None e t = absurd (cc)
    by_found (Some found) e t =
        each_imply (λ (unit : Unit). (unit.work.id == number) ≡ true → unit ≡ found) (λ (unit : Unit). (unit.work.id == number) ≡ true → test (Some unit) ≡ true)
        (λ unit alone same. ap (λ u. test (Some u)) (alone same) ∙ t) st.calling.units (found_alone number 1 st.calling.units found numbered e)

-- the number of a unit that is found is at most that of the last unit
pub found_within : (number n : ℕ) (units : List Unit) (found : Unit) → NumberedFrom n units → find (λ (unit : Unit). unit.work.id == number) units ≡ Some found → number < n + length units
found_within number n [] found a e = absurd (cc)
found_within number n (unit ∷ units) found a e = by_head (unit.work.id == number) refl e (λ there. found_within number (suc n) units found a.1 there)
  where
    by_head : (b : Bool) → (unit.work.id == number) ≡ b → cond b (Some unit) (find (λ (u : Unit). u.work.id == number) units) ≡ Some found →
        (find (λ (u : Unit). u.work.id == number) units ≡ Some found → number < suc n + length units) → number < n + length (unit ∷ units)
    by_head true t here further = let e : unit.work.id ≡ n = a.0 in let f : unit.work.id ≡ number = grind (arith, nat_tests) in omega arith
    by_head false t there further = let f = further there in omega arith

-- a test that is passed only by a unit that is there names one of the units
pub named_within : (st : State) (number : ℕ) (test : Option Unit → Bool) → test None ≡ false → test (unit_of st.calling number) ≡ true → NumberedFrom 1 st.calling.units → number ≤ length st.calling.units
named_within st number test nothing passed numbered = by_found (unit_of st.calling number) refl passed
  where
    by_found : (found : Option Unit) → unit_of st.calling number ≡ found → test found ≡ true → number ≤ length st.calling.units
    by_found None e t = absurd (cc)
    by_found (Some found) e t = let w = found_within number 1 st.calling.units found numbered e in omega arith

-- the same asks are equal
same_ask-exact : (a b : Ask) → same_ask a b ≡ true → a ≡ b
same_ask-exact a b h =
    let p : ((a.unit == b.unit) ≡ true) × (((a.segment == b.segment) && (a.node == b.node)) ≡ true) = and_parts (a.unit == b.unit) _ h in
    let q : ((a.segment == b.segment) ≡ true) × ((a.node == b.node) ≡ true) = and_parts (a.segment == b.segment) _ p.1 in
    let u : a.unit ≡ b.unit = grind (arith, nat_tests) in
    let s : a.segment ≡ b.segment = grind (arith, nat_tests) in
    let n : a.node ≡ b.node = grind (arith, nat_tests) in
    λ i. record { unit = u i; segment = s i; node = n i }

-- lists of asks that pass the test of sameness are equal
pub same_asks-exact : (a b : List Ask) → same_asks a b ≡ true → a ≡ b
same_asks-exact [] [] h = refl
same_asks-exact [] (y ∷ ys) h = absurd (cc)
same_asks-exact (x ∷ xs) [] h = absurd (cc)
same_asks-exact (x ∷ xs) (y ∷ ys) h =
    let p : (same_ask x y ≡ true) × (pointwise same_ask xs ys ≡ true) = and_parts (same_ask x y) _ h in
    let first : x ≡ y = same_ask-exact x y p.0 in
    let rest : xs ≡ ys = same_asks-exact xs ys p.1 in
    λ i. first i ∷ rest i

-- what the test of a round says of its call
pub record CanRound (st : State) (r : RoundEvent) (call : Call) : Type 0 where
  pub there : call_of st.calling r.call ≡ Some call
  pub due : is_due st r.call call ≡ true
  pub asks : r.asks ≡ asks_of st r.call call

-- a round that passes the test is due for a call that is there, and asks for what that call asks
round_by : (st : State) (r : RoundEvent) (found : Option Call) → call_of st.calling r.call ≡ found → is_next_round st r found ≡ true → (call : Call) × CanRound st r call
round_by st r None e h = absurd (cc)
round_by st r (Some call) e h =
    let p : (is_due st r.call call ≡ true) × (((r.id == _) && same_asks r.asks (asks_of st r.call call)) ≡ true) = and_parts (is_due st r.call call) _ h in
    let q = and_parts (r.id == _) (same_asks r.asks (asks_of st r.call call)) p.1 in
    (call, record { there = e; due = p.0; asks = same_asks-exact r.asks (asks_of st r.call call) q.1 })

-- what is known where a round may be made
pub round_facts : (st : State) (r : RoundEvent) → can_round st r ≡ true → (call : Call) × CanRound st r call
unfolding can_round
round_facts st r h =
    let p = and_parts (goes_on st.holding (call_of st.calling r.call)) (is_next_round st r (call_of st.calling r.call)) h in
    round_by st r (call_of st.calling r.call) refl p.1

-- the units of a round are numbered on
pub asked_numbered : (st : State) (r : RoundEvent) (originator n : ℕ) (segments : List ℕ) → NumberedFrom n (map (unit_made r.call r.id) (asks_from st.holding originator n segments))
asked_numbered st r originator n [] = tt
asked_numbered st r originator n (segment ∷ segments) =
    (refl, subst (λ m. NumberedFrom m (map (unit_made r.call r.id) (asks_from st.holding originator (n + 1) segments))) (omega arith) (asked_numbered st r originator (n + 1) segments))
