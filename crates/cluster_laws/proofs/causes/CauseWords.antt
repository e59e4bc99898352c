-- What the events tell of rounds and of units that failed, by itself.
use Rattle.std.proofs.Common.{◌≡◌, ℕ, zero, suc, ◌+◌, ◌<◌, ◌==◌, Bool, true, false, not, ◌&&◌, ◌||◌, inl, inr, if◌then◌else◌, List, [], ◌∷◌, ◌++◌, length, length-append, refl, sym, ap, ◌∙◌, arith}
use Rattle.std.proofs.lemmas.Bool.{and_from, and_parts, eq-eqb, eqb-true, or_cases, or_left, or_right}
use Rattle.std.specs.Cmp.{nat_eq_equiv}
use Rattle.std.specs.List.{AllByRecursion, list_all, list_any, range_with_len}
use Rattle.grid_event.specs.Spans.{invokes, since_invoke}
use Rattle.grid_event.specs.UnitHistories.{asks_of_call, has_ended, has_ended_on, is_closed, is_gone, was_refused}
use Rattle.grid_event.specs.declared.call_events.Ask.{Ask}
use Rattle.grid_event.specs.declared.call_events.RoundEvent.{RoundEvent}
use Rattle.grid_event.specs.declared.config.Config.{Config}
use Rattle.grid_event.specs.declared.event.Event.{Event}
use Rattle.grid_event.specs.declared.event.Event.TheVariants.{Depart, Install, Round, Begin, Done}
use Rattle.grid_event.specs.Members.{is_live, newest_topology}
use Rattle.topology_phase.specs.Owners.{among}
use Rattle.topology_phase.specs.Topologies.{holders}
use Rattle.cluster_model.specs.Causes.{disturbs, each_round_failed, failed, last_asks, last_round_failed, left_since, nobody_holds, rounds_of, was_lost}
use Rattle.cluster_model.specs.Guarantees.{rounds_in}
use Rattle.cluster_laws.proofs.Lists.{each_imply}

-- ---- tests of lists

-- what holds of each passes a test of all
pub all_true : {A : Type 0} (p : A → Bool) (xs : List A) → AllByRecursion (λ x. p x ≡ true) xs → list_all p xs ≡ true
all_true p [] a = refl
all_true p (x ∷ xs) a = and_from (p x) (list_all p xs) a.0 (all_true p xs a.1)

-- and the other way round
pub each_true : {A : Type 0} (p : A → Bool) (xs : List A) → list_all p xs ≡ true → AllByRecursion (λ x. p x ≡ true) xs
each_true p [] a = tt
each_true p (x ∷ xs) a = let h = and_parts (p x) (list_all p xs) a in (h.0, each_true p xs h.1)

-- what passes one test passes another
pub all_wider : {A : Type 0} (p q : A → Bool) → ((x : A) → p x ≡ true → q x ≡ true) → (xs : List A) → list_all p xs ≡ true → list_all q xs ≡ true
all_wider p q f [] a = refl
all_wider p q f (x ∷ xs) a = let h = and_parts (p x) (list_all p xs) a in and_from (q x) (list_all q xs) (f x h.0) (all_wider p q f xs h.1)

-- and of some of a list
pub any_wider : {A : Type 0} (p q : A → Bool) → ((x : A) → p x ≡ true → q x ≡ true) → (xs : List A) → list_any p xs ≡ true → list_any q xs ≡ true
any_wider p q f [] a = absurd (cc)
any_wider p q f (x ∷ xs) a = elim (or_cases (p x) (list_any p xs) a) [
  | inl here ↦ or_left (q x) (list_any q xs) (f x here)
  | inr there ↦ or_right (q x) (list_any q xs) (any_wider p q f xs there)
]

-- of those that pass a test, where one fact holds of each, some pass another
pub any_also : {A : Type 0} (p q : A → Bool) (xs : List A) → AllByRecursion (λ x. p x ≡ true → q x ≡ true) xs → list_any p xs ≡ true → list_any q xs ≡ true
any_also p q [] f a = absurd (cc)
any_also p q (x ∷ xs) f a = elim (or_cases (p x) (list_any p xs) a) [
  | inl here ↦ or_left (q x) (list_any q xs) (f.0 here)
  | inr there ↦ or_right (q x) (list_any q xs) (any_also p q xs f.1 there)
]

-- none passes a test that none passes
pub none_true : {A : Type 0} (p : A → Bool) (xs : List A) → AllByRecursion (λ x. p x ≡ false) xs → list_any p xs ≡ false
none_true p [] a = refl
none_true p (x ∷ xs) a = ap (λ b. b || list_any p xs) a.0 ∙ none_true p xs a.1

-- some of a list are some of a longer one
pub any_left : {A : Type 0} (p : A → Bool) (xs ys : List A) → list_any p xs ≡ true → list_any p (xs ++ ys) ≡ true
any_left p [] ys a = absurd (cc)
any_left p (x ∷ xs) ys a = elim (or_cases (p x) (list_any p xs) a) [
  | inl here ↦ or_left (p x) (list_any p (xs ++ ys)) here
  | inr there ↦ or_right (p x) (list_any p (xs ++ ys)) (any_left p xs ys there)
]

-- where not all numbers pass a test there is one that doesn't
pub some_fails : (p : ℕ → Bool) (xs : List ℕ) → list_all p xs ≡ false → (x : ℕ) × ((p x ≡ false) × (among x xs ≡ true))
some_fails p [] a = absurd (cc)
some_fails p (x ∷ xs) a = by_head (p x) refl a (some_fails p xs)
  where
    itself : (x == x) ≡ true
    itself = eq-eqb x x refl

    by_head : (b : Bool) → p x ≡ b → (b && list_all p xs) ≡ false → (list_all p xs ≡ false → (y : ℕ) × ((p y ≡ false) × (among y xs ≡ true))) → (y : ℕ) × ((p y ≡ false) × (among y (x ∷ xs) ≡ true))
    by_head true e a rest = let r = rest a in (r.0, (r.1.0, or_right (x == r.0) (among r.0 xs) r.1.1))
    by_head false e a rest = (x, (e, or_left (x == x) (among x xs) itself))

-- a number of a row is below its end
pub row_below : (a n s : ℕ) → among s (range_with_len a n) ≡ true → s < a + n
row_below a zero s h = absurd (cc)
row_below a (suc n) s h = elim (or_cases (a == s) (among s (range_with_len (a + 1) n)) h) [
  | inl here ↦ let e = eqb-true a s here in omega arith
  | inr there ↦ let r = row_below (a + 1) n s there in omega arith
]

-- ---- rounds

-- all but the last of some rounds
abbrev pub but_last : List RoundEvent → List RoundEvent
but_last [] = []
but_last (r ∷ []) = []
but_last (r ∷ other ∷ rounds) = r ∷ but_last (other ∷ rounds)

-- all but the last, where one more comes
pub but_last-push : (rounds : List RoundEvent) (r : RoundEvent) → but_last (rounds ++ r ∷ []) ≡ rounds
but_last-push [] r = refl
but_last-push (x ∷ []) r = refl
but_last-push (x ∷ y ∷ rounds) r = ap (λ rs. x ∷ rs) (but_last-push (y ∷ rounds) r)

-- and the asks of the last
pub last_asks-push : (rounds : List RoundEvent) (r : RoundEvent) → last_asks (rounds ++ r ∷ []) ≡ r.asks
last_asks-push [] r = refl
last_asks-push (x ∷ []) r = refl
last_asks-push (x ∷ y ∷ rounds) r = last_asks-push (y ∷ rounds) r

-- what holds of each ask of each round holds of those of the last
pub each_last : (P : Ask → Type 0) (rounds : List RoundEvent) → AllByRecursion (λ (r : RoundEvent). AllByRecursion P r.asks) rounds → AllByRecursion P (last_asks rounds)
each_last P [] a = tt
each_last P (x ∷ []) a = a.0
each_last P (x ∷ y ∷ rounds) a = each_last P (y ∷ rounds) a.1

-- where each round but the last passes, and the last does if there is one, each does
pub each_round : (test : List Ask → Bool) (rounds : List RoundEvent) → list_all (λ (r : RoundEvent). test r.asks) (but_last rounds) ≡ true → ((length rounds == 0) || test (last_asks rounds)) ≡ true →
    list_all (λ (r : RoundEvent). test r.asks) rounds ≡ true
each_round test [] all last = refl
each_round test (x ∷ []) all last = and_from (test x.asks) true last refl
each_round test (x ∷ y ∷ rounds) all last =
    let h = and_parts (test x.asks) (list_all (λ (r : RoundEvent). test r.asks) (but_last (y ∷ rounds))) all in
    and_from (test x.asks) (list_all (λ (r : RoundEvent). test r.asks) (y ∷ rounds)) h.0 (each_round test (y ∷ rounds) h.1
    (elim (or_cases (length (x ∷ y ∷ rounds) == 0) (test (last_asks (y ∷ rounds))) last) [
      | inl none ↦ let e = eqb-true (length (x ∷ y ∷ rounds)) 0 none in absurd (omega arith)
      | inr some ↦ or_right (length (y ∷ rounds) == 0) (test (last_asks (y ∷ rounds))) some
    ]))

-- how many rounds a call made is how many there are
pub count_rounds : (past : List Event) (call : ℕ) → rounds_in past call ≡ length (rounds_of past call)
count_rounds [] call = refl
count_rounds (Round r ∷ past) call = by_test (r.call == call) (count_rounds past call)
  where
    by_test : (b : Bool) → rounds_in past call ≡ length (rounds_of past call) → (if b then 1 else 0) + rounds_in past call ≡ length (if b then rounds_of past call ++ r ∷ [] else rounds_of past call)
    by_test true h = let l = length-append (rounds_of past call) (r ∷ []) in omega arith
    by_test false h = omega arith
count_rounds (_ ∷ past) call = count_rounds past call

-- ---- what is told stays told

-- a unit that failed has failed
pub failed_more : (config : Config) (past : List Event) (event : Event) (ask : Ask) → failed config past ask ≡ true → failed config (event ∷ past) ask ≡ true
failed_more config past event ask h = elim (or_cases (was_refused past ask.unit) (is_gone config past ask) h) [
  | inl refused ↦ or_left (was_refused (event ∷ past) ask.unit) (is_gone config (event ∷ past) ask) (refused_more event refused)
  | inr gone ↦ or_right (was_refused (event ∷ past) ask.unit) (is_gone config (event ∷ past) ask) (gone_more event gone)
]
  where
    refused_more : (event : Event) → was_refused past ask.unit ≡ true → was_refused (event ∷ past) ask.unit ≡ true
    refused_more (Begin other runs) h = or_right ((other == ask.unit) && not runs) (was_refused past ask.unit) h
    refused_more _ h = h

    gone_more : (event : Event) → is_gone config past ask ≡ true → is_gone config (event ∷ past) ask ≡ true
    gone_more (Depart node) h = or_left (is_gone config past ask) _ h
    gone_more (Install node id) h = or_left (is_gone config past ask) _ h
    gone_more _ h = h

-- a unit that has ended has ended
pub ended_more : (past : List Event) (event : Event) (unit : ℕ) → has_ended past unit ≡ true → has_ended (event ∷ past) unit ≡ true
ended_more past (Done other) unit h = or_right (other == unit) (has_ended past unit) h
ended_more past _ unit h = h

-- a segment that has ended for a call has ended for it
pub ended_on_more : (past : List Event) (event : Event) (call segment : ℕ) → has_ended_on past call segment ≡ true → has_ended_on (event ∷ past) call segment ≡ true
ended_on_more past event call segment h =
    asks_more event
    (any_wider (λ (ask : Ask). (ask.segment == segment) && has_ended past ask.unit) (λ (ask : Ask). (ask.segment == segment) && has_ended (event ∷ past) ask.unit)
    (λ ask both. let p = and_parts (ask.segment == segment) (has_ended past ask.unit) both in and_from (ask.segment == segment) (has_ended (event ∷ past) ask.unit) p.0 (ended_more past event ask.unit p.1))
    (asks_of_call past call) h)
  where
    by_test : (test : Ask → Bool) (b : Bool) (asks : List Ask) → list_any test (asks_of_call past call) ≡ true → list_any test (if b then asks_of_call past call ++ asks else asks_of_call past call) ≡ true
    by_test test true asks a = any_left test (asks_of_call past call) asks a
    by_test test false asks a = a

    asks_more : (event : Event) → list_any (λ (ask : Ask). (ask.segment == segment) && has_ended (event ∷ past) ask.unit) (asks_of_call past call) ≡ true → has_ended_on (event ∷ past) call segment ≡ true
    asks_more (Round r) a = by_test (λ (ask : Ask). (ask.segment == segment) && has_ended past ask.unit) (r.call == call) r.asks a
    asks_more _ a = a

-- ---- where all units of a call are closed

-- the last round failed on a segment that hasn't ended and was asked for in it
pub last_failed : (config : Config) (past : List Event) (call segment : ℕ) → AllByRecursion (λ (r : RoundEvent). AllByRecursion (λ ask. (is_closed config past ask ≡ true) × (((ask.segment == segment) && has_ended past ask.unit) ≡ false)) r.asks) (rounds_of past call) →
    ((rounds_in past call == 0) || list_any (λ (ask : Ask). ask.segment == segment) (last_asks (rounds_of past call))) ≡ true → last_round_failed config past call segment ≡ true
last_failed config past call segment closed asked = elim (or_cases (rounds_in past call == 0) _ asked) [
  | inl none ↦ or_left (rounds_in past call == 0) _ none
  | inr some ↦
      or_right (rounds_in past call == 0) _
      (any_also (λ (ask : Ask). ask.segment == segment) (λ (ask : Ask). (ask.segment == segment) && failed config past ask) (last_asks (rounds_of past call))
      (each_imply (λ (ask : Ask). (is_closed config past ask ≡ true) × (((ask.segment == segment) && has_ended past ask.unit) ≡ false)) (λ (ask : Ask). (ask.segment == segment) ≡ true → ((ask.segment == segment) && failed config past ask) ≡ true)
      (λ ask h on. table (was_refused past ask.unit) (is_gone config past ask) (has_ended past ask.unit) (ask.segment == segment) h.0 h.1 on) (last_asks (rounds_of past call))
      (each_last (λ (ask : Ask). (is_closed config past ask ≡ true) × (((ask.segment == segment) && has_ended past ask.unit) ≡ false)) (rounds_of past call) closed)) some)
]
  where
    table : (r g e s : Bool) → (r || (g || e)) ≡ true → (s && e) ≡ false → s ≡ true → (s && (r || g)) ≡ true
    table true g e true c n on = refl
    table false true e true c n on = refl
    table false false true true c n on = absurd (cc)
    table false false false true c n on = absurd (cc)
    table r g e false c n on = absurd (cc)

-- and then each round failed
pub rounds_failed : (config : Config) (past : List Event) (call segment : ℕ) → list_all (λ (r : RoundEvent). list_any (failed config past) r.asks) (but_last (rounds_of past call)) ≡ true → last_round_failed config past call segment ≡ true →
    each_round_failed config past call ≡ true
rounds_failed config past call segment earlier last =
    each_round (list_any (failed config past)) (rounds_of past call) earlier
    (elim (or_cases (rounds_in past call == 0) _ last) [
      | inl none ↦ or_left (length (rounds_of past call) == 0) _ (ap (λ n. n == 0) (sym (count_rounds past call)) ∙ none)
      | inr some ↦
          or_right (length (rounds_of past call) == 0) _
          (any_wider (λ (ask : Ask). (ask.segment == segment) && failed config past ask) (failed config past) (λ ask both. (and_parts (ask.segment == segment) (failed config past ask) both).1) (last_asks (rounds_of past call)) some)
    ])

-- ---- departures

-- after a departure that lost a segment no holder of it lives
pub losses_leave_nobody : (config : Config) (past : List Event) (call segment : ℕ) → nobody_holds config past call segment ≡ true
losses_leave_nobody config [] call segment = refl
losses_leave_nobody config (Depart node ∷ past) call segment =
    and_from _ (nobody_holds config past call segment)
    (ap (λ b. not ((list_any (is_live config past) hs && not (list_any (λ other. is_live config past other && not (other == node)) hs)) && not (has_ended_on past call segment)) || not b) without
    ∙ table (list_any (is_live config past) hs) (list_any (λ other. is_live config past other && not (other == node)) hs) (has_ended_on past call segment))
    (losses_leave_nobody config past call segment)
  where
    hs : List ℕ
    hs = holders (newest_topology config past) segment

    flipped : (a b : Bool) → (a && b) ≡ (b && a)
    flipped true true = refl
    flipped true false = refl
    flipped false true = refl
    flipped false false = refl

    without : list_any (is_live config (Depart node ∷ past)) hs ≡ list_any (λ other. is_live config past other && not (other == node)) hs
    without = λ i. list_any (λ other. ((λ j. not (nat_eq_equiv.symm node other j) && is_live config past other) ∙ flipped (not (other == node)) (is_live config past other)) i) hs

    table : (s x e : Bool) → (not ((s && not x) && not e) || not x) ≡ true
    table true true e = refl
    table true false true = refl
    table true false false = refl
    table false true e = refl
    table false false e = refl
losses_leave_nobody config (event ∷ past) call segment = by_test (invokes call event) (losses_leave_nobody config past call segment)
  where
    by_test : (b : Bool) → nobody_holds config past call segment ≡ true → (if b then true else nobody_holds config past call segment) ≡ true
    by_test true h = refl
    by_test false h = h

-- in a span that nothing disturbs no node departed
undisturbed : (event : Event) (past : List Event) (call : ℕ) (X : Bool) → since_invoke disturbs (event ∷ past) call ≡ 0 → (since_invoke disturbs past call ≡ 0 → X ≡ false) → (if invokes call event then false else X) ≡ false
undisturbed event past call X h rest = by_test (invokes call event) h
  where
    by_test : (b : Bool) → (if b then 0 else (if disturbs event then 1 else 0) + since_invoke disturbs past call) ≡ 0 → (if b then false else X) ≡ false
    by_test true h = refl
    by_test false h = rest (omega arith)

-- so the originator didn't depart
pub quiet_nobody_left : (past : List Event) (call node : ℕ) → since_invoke disturbs past call ≡ 0 → left_since past call node ≡ false
quiet_nobody_left [] call node h = refl
quiet_nobody_left (Depart other ∷ past) call node h = absurd (omega arith)
quiet_nobody_left (event ∷ past) call node h = undisturbed event past call (left_since past call node) h (quiet_nobody_left past call node)

-- and no segment was lost
pub quiet_nothing_lost : (config : Config) (past : List Event) (call segment : ℕ) → since_invoke disturbs past call ≡ 0 → was_lost config past call segment ≡ false
quiet_nothing_lost config [] call segment h = refl
quiet_nothing_lost config (Depart other ∷ past) call segment h = absurd (omega arith)
quiet_nothing_lost config (event ∷ past) call segment h = undisturbed event past call (was_lost config past call segment) h (quiet_nothing_lost config past call segment)
