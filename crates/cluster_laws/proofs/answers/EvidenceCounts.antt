-- How often a key is among entries that several units read.
use Rattle.std.proofs.Common.{◌≡◌, ℕ, suc, zero, ◌+◌, ◌≤◌, ◌<◌, ◌==◌, Bool, true, false, ◌||◌, cond, if◌then◌else◌, inl, inr, List, [], ◌∷◌, ◌++◌, Option, Some, refl, sym, ap, subst, ◌∙◌, arith}
use Rattle.std.proofs.lemmas.Bool.{eq-eqb, eqb-false, eqb-true, ne_eqb}
use Rattle.std.specs.Bool.{⊤}
use Rattle.std.specs.List.{AllByRecursion, filter, flat_map, list_any, range_with_len}
use Rattle.grid_base.proofs.DatumLemmas.{same_bytes_decides, same_entry-itself}
use Rattle.grid_base.specs.Datum.{same_bytes, same_entry}
use Rattle.grid_base.specs.declared.datum.Datum.{Datum}
use Rattle.grid_base.specs.declared.entry.Entry.{Entry}
use Rattle.grid_event.specs.Spans.{invokes}
use Rattle.grid_event.specs.Maps.{value_at}
use Rattle.grid_event.specs.declared.config.Config.{Config}
use Rattle.grid_event.specs.declared.event.Event.{Event}
use Rattle.segment_hash.specs.Segments.{segment_number}
use Rattle.cluster_model.specs.Evidence.{StoodOnce, StoodThroughout, entry_times, how_many, times}
use Rattle.cluster_model.specs.State.{Unit}
use Rattle.cluster_model.specs.Told.{is_segment}
use Rattle.cluster_laws.proofs.answers.AnswerUnits.{AllFit}
use Rattle.cluster_laws.proofs.Lists.{each-append, how_many-append}

-- how often a key is in two lists together
pub times-append : (key : List ℕ) (xs ys : List Entry) → times key (xs ++ ys) ≡ times key xs + times key ys
times-append key xs ys = how_many-append (λ (e : Entry). same_bytes e.key key) xs ys

-- a key of another segment is not among entries of a segment
pub none_elsewhere : (config : Config) (past : List Event) (call segment : ℕ) (key : List ℕ) (entries : List Entry) → is_segment (segment_number config.partition config.segments key) segment ≡ false → AllFit config past call segment entries →
    times key entries ≡ 0
none_elsewhere config past call segment key [] other h = refl
none_elsewhere config past call segment key (e ∷ es) other h = by_test (same_bytes e.key key) refl (none_elsewhere config past call segment key es other h.1)
  where
    by_test : (b : Bool) → same_bytes e.key key ≡ b → times key es ≡ 0 → cond {A = ℕ} b 1 0 + times key es ≡ 0
    by_test false t rest = omega arith
    by_test true t rest =
        let same = (same_bytes_decides e.key key).0 t in
        let there = ap (λ o. is_segment o segment) (ap (segment_number config.partition config.segments) (sym same) ∙ h.0.0) ∙ eq-eqb segment segment refl in
        absurd (cc)

-- among entries of a segment without a key twice, a key of it is at most once, and no other key
pub once_there : (config : Config) (past : List Event) (call segment : ℕ) (key : List ℕ) (entries : List Entry) → times key entries ≤ 1 → AllFit config past call segment entries →
    times key entries ≤ cond {A = ℕ} (is_segment (segment_number config.partition config.segments key) segment) 1 0
once_there config past call segment key entries once h = by_test (is_segment (segment_number config.partition config.segments key) segment) refl
  where
    by_test : (b : Bool) → is_segment (segment_number config.partition config.segments key) segment ≡ b → times key entries ≤ cond {A = ℕ} b 1 0
    by_test true t = once
    by_test false t = let none = none_elsewhere config past call segment key entries t h in omega arith

-- where a value stood throughout, no other stood at the key
pub stood_alone : (config : Config) (past : List Event) (call : ℕ) (key : List ℕ) (datum other : Datum) → StoodThroughout config past call key datum → StoodOnce config past call key other → other ≡ datum
stood_alone config [] call key datum other t o = absurd o
stood_alone config (event ∷ past) call key datum other t o =
    elim o [
      | inl here ↦ same (value_at config (event ∷ past) key) here t.0
      | inr before ↦ by_invoke (invokes call event) t.1 before (λ t o. stood_alone config past call key datum other t o)
    ]
  where
    same : (found : Option Datum) → found ≡ Some other → found ≡ Some datum → other ≡ datum
    same found a b = let e : Some other ≡ Some datum = sym a ∙ b in cc

    by_invoke : (b : Bool) → cond b ⊤ (StoodThroughout config past call key datum) → cond b ⊥ (StoodOnce config past call key other) → (StoodThroughout config past call key datum → StoodOnce config past call key other → other ≡ datum) → other ≡ datum
    by_invoke true t o f = absurd o
    by_invoke false t o f = f t o

-- each of the entries stood at some place since the call was made
abbrev pub EachStood : Config → List Event → ℕ → List Entry → Type 0
EachStood config past call entries = AllByRecursion (λ (e : Entry). StoodOnce config past call e.key e.value) entries

-- where a value stood throughout, an entry with its key has that value: entries are counted as keys are
pub entries_as_keys : (config : Config) (past : List Event) (call : ℕ) (key : List ℕ) (datum : Datum) (entries : List Entry) → StoodThroughout config past call key datum → EachStood config past call entries →
    times key entries ≤ entry_times key datum entries
entries_as_keys config past call key datum [] t h = omega arith
entries_as_keys config past call key datum (e ∷ es) t h = by_test (same_bytes e.key key) refl (entries_as_keys config past call key datum es t h.1)
  where
    by_test : (b : Bool) → same_bytes e.key key ≡ b → times key es ≤ entry_times key datum es → cond {A = ℕ} b 1 0 + times key es ≤ entry_times key datum (e ∷ es)
    by_test false x rest = omega arith
    by_test true x rest =
        let same : e.key ≡ key = (same_bytes_decides e.key key).0 x in
        let stood : StoodOnce config past call key e.value = subst (λ k. StoodOnce config past call k e.value) same h.0 in
        let alone : e.value ≡ datum = stood_alone config past call key datum e.value t stood in
        let counted : same_entry (record { key = key; value = datum }) e ≡ true = subst (λ (d : Entry). same_entry d e ≡ true) (λ i. record { key = same i; value = alone i }) (same_entry-itself e) in
        let one = ap (λ b. cond {A = ℕ} b 1 0) counted in
        omega arith

-- a number of each unit that passes a test, summed up
abbrev pub sum_of : (Unit → ℕ) → (Unit → Bool) → List Unit → ℕ
sum_of f test [] = 0
sum_of f test (unit ∷ units) = cond (test unit) (f unit) 0 + sum_of f test units

-- how often a key is among what the units read that pass a test
pub times_read : (key : List ℕ) (test : Unit → Bool) (units : List Unit) → times key (flat_map (λ (unit : Unit). unit.work.entries) (filter test units)) ≡ sum_of (λ unit. times key unit.work.entries) test units
times_read key test [] = refl
times_read key test (unit ∷ units) = by_test (test unit) (times_read key test units)
  where
    by_test : (b : Bool) → times key (flat_map (λ (unit : Unit). unit.work.entries) (filter test units)) ≡ sum_of (λ unit. times key unit.work.entries) test units →
        times key (flat_map (λ (unit : Unit). unit.work.entries) (if b then unit ∷ filter test units else filter test units)) ≡ cond b (times key unit.work.entries) 0 + sum_of (λ unit. times key unit.work.entries) test units
    by_test true h = let a = times-append key unit.work.entries (flat_map (λ (unit : Unit). unit.work.entries) (filter test units)) in omega arith
    by_test false h = omega arith

-- a sum of ones at most is at most as many as pass
pub sum_le : (f : Unit → ℕ) (test q : Unit → Bool) (units : List Unit) → AllByRecursion (λ unit. test unit ≡ true → f unit ≤ cond {A = ℕ} (q unit) 1 0) units → sum_of f test units ≤ how_many q units
sum_le f test q [] h = omega arith
sum_le f test q (unit ∷ units) h = let rest = sum_le f test q units h.1 in let one = by_test (test unit) h.0 in omega arith
  where
    by_test : (b : Bool) → (b ≡ true → f unit ≤ cond {A = ℕ} (q unit) 1 0) → cond b (f unit) 0 ≤ cond {A = ℕ} (q unit) 1 0
    by_test true g = g refl
    by_test false g = omega arith

-- a sum of nothing is nothing
pub sum_none : (f : Unit → ℕ) (test : Unit → Bool) (units : List Unit) → AllByRecursion (λ unit. test unit ≡ true → f unit ≡ 0) units → sum_of f test units ≡ 0
sum_none f test [] h = refl
sum_none f test (unit ∷ units) h = let rest = sum_none f test units h.1 in let one = by_test (test unit) h.0 in omega arith
  where
    by_test : (b : Bool) → (b ≡ true → f unit ≡ 0) → cond b (f unit) 0 ≡ 0
    by_test true g = g refl
    by_test false g = refl

-- a unit that passes both tests has its part in the sum
pub sum_ge : (f : Unit → ℕ) (test p : Unit → Bool) (units : List Unit) → AllByRecursion (λ unit. p unit ≡ true → (test unit ≡ true) × (1 ≤ f unit)) units → list_any p units ≡ true → 1 ≤ sum_of f test units
sum_ge f test p [] h any = absurd (cc)
sum_ge f test p (unit ∷ units) h any = by_head (p unit) refl any (λ e. sum_ge f test p units h.1 e)
  where
    by_head : (b : Bool) → p unit ≡ b → (b || list_any p units) ≡ true → (list_any p units ≡ true → 1 ≤ sum_of f test units) → 1 ≤ cond (test unit) (f unit) 0 + sum_of f test units
    by_head true e any g = let both = h.0 e in let c = ap (λ b. cond b (f unit) 0) both.0 in let d = both.1 in omega arith
    by_head false e any g = let rest = g any in omega arith

-- what holds of the entries of each unit that passes holds of all together
pub each_read : (P : Entry → Type 0) (test : Unit → Bool) (units : List Unit) → AllByRecursion (λ unit. test unit ≡ true → AllByRecursion P unit.work.entries) units →
    AllByRecursion P (flat_map (λ (unit : Unit). unit.work.entries) (filter test units))
each_read P test [] h = tt
each_read P test (unit ∷ units) h = by_test (test unit) h.0 (each_read P test units h.1)
  where
    by_test : (b : Bool) → (b ≡ true → AllByRecursion P unit.work.entries) → AllByRecursion P (flat_map (λ (unit : Unit). unit.work.entries) (filter test units)) →
        AllByRecursion P (flat_map (λ (unit : Unit). unit.work.entries) (if b then unit ∷ filter test units else filter test units))
    by_test true f rest = each-append P unit.work.entries (flat_map (λ (unit : Unit). unit.work.entries) (filter test units)) (f refl) rest
    by_test false f rest = rest

-- what is left by a filter passes where all did
pub each_left : {A : Type 0} (P : A → Type 0) (test : A → Bool) (xs : List A) → AllByRecursion P xs → AllByRecursion P (filter test xs)
each_left P test [] h = tt
each_left P test (x ∷ xs) h = by_test (test x) (each_left P test xs h.1)
  where
    by_test : (b : Bool) → AllByRecursion P (filter test xs) → AllByRecursion P (if b then x ∷ filter test xs else filter test xs)
    by_test true rest = (h.0, rest)
    by_test false rest = rest

-- what holds of the entries of each segment holds of all together
pub each_row : (P : Entry → Type 0) (f : ℕ → List Entry) → ((s : ℕ) → AllByRecursion P (f s)) → (a n : ℕ) → AllByRecursion P (flat_map f (range_with_len a n))
each_row P f h a zero = tt
each_row P f h a (suc n) = each-append P (f a) (flat_map f (range_with_len (a + 1) n)) (h a) (each_row P f h (a + 1) n)

-- a key that is in no segment
pub row_none : (key : List ℕ) (f : ℕ → List Entry) (a n : ℕ) → ((s : ℕ) → a ≤ s → times key (f s) ≡ 0) → times key (flat_map f (range_with_len a n)) ≡ 0
row_none key f a zero h = refl
row_none key f a (suc n) h =
    let e = times-append key (f a) (flat_map f (range_with_len (a + 1) n)) in
    let first = h a (omega arith) in
    let rest = row_none key f (a + 1) n (λ s l. h s (omega arith)) in omega arith

-- a key that is in one segment at most is no more often in all than in that
pub row_le : (key : List ℕ) (f : ℕ → List Entry) (s : ℕ) → ((t : ℕ) → (t == s) ≡ false → times key (f t) ≡ 0) → (a n : ℕ) → times key (flat_map f (range_with_len a n)) ≤ times key (f s)
row_le key f s h a zero = omega arith
row_le key f s h a (suc n) = by_test (a == s) refl (row_le key f s h (a + 1) n)
  where
    by_test : (b : Bool) → (a == s) ≡ b → times key (flat_map f (range_with_len (a + 1) n)) ≤ times key (f s) → times key (f a ++ flat_map f (range_with_len (a + 1) n)) ≤ times key (f s)
    by_test true t rest =
        let e = times-append key (f a) (flat_map f (range_with_len (a + 1) n)) in
        let same = eqb-true a s t in
        let here = ap (λ x. times key (f x)) same in
        let none = row_none key f (a + 1) n (λ x l. h x (ne_eqb x s (λ y. absurd (omega arith)))) in omega arith
    by_test false t rest =
        let e = times-append key (f a) (flat_map f (range_with_len (a + 1) n)) in
        let none = h a t in omega arith

-- and it is no less often in all than in a segment of them
pub row_ge : (key : List ℕ) (f : ℕ → List Entry) (s a n : ℕ) → a ≤ s → s < a + n → times key (f s) ≤ times key (flat_map f (range_with_len a n))
row_ge key f s a zero l m = absurd (omega arith)
row_ge key f s a (suc n) l m = by_test (a == s) refl (λ more. row_ge key f s (a + 1) n more (omega arith))
  where
    by_test : (b : Bool) → (a == s) ≡ b → (a + 1 ≤ s → times key (f s) ≤ times key (flat_map f (range_with_len (a + 1) n))) → times key (f s) ≤ times key (f a ++ flat_map f (range_with_len (a + 1) n))
    by_test true t further =
        let e = times-append key (f a) (flat_map f (range_with_len (a + 1) n)) in
        let same = ap (λ x. times key (f x)) (eqb-true a s t) in omega arith
    by_test false t further =
        let e = times-append key (f a) (flat_map f (range_with_len (a + 1) n)) in
        let rest = further (omega (arith, eqb-false a s t)) in omega arith
