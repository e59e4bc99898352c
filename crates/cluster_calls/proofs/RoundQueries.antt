-- The units of a last round, and the open ones among them.
use Rattle.std.proofs.Common.{◌≡◌, ◌≢◌, ℕ, zero, suc, ◌+◌, ◌-◌, ◌≤◌, ◌<◌, Bool, true, false, cond, ◌&&◌, ◌||◌, ◌==◌, List, [], ◌∷◌, ◌++◌, filter, length, take, drop, Some, None, refl, sym, ap, ◌∙◌, arith}
use Rattle.std.proofs.lemmas.Bool.Decides.{nat_tests}
use Rattle.std.specs.FinMap as map_of
use Rattle.std.specs.Ordering.{nat_cmp}
use Rattle.std.specs.List.{flat_map, range_with_len}
use Rattle.std.specs.Prelude.{slice_get}
use Rattle.topology_phase.specs.Owners.{among}
use Rattle.cluster_model.specs.State.{Call, Unit, is_of, is_on, is_open_unit}
use Rattle.cluster_model.specs.Commands.{open_units}
use Rattle.cluster_calls.specs.Calling.{AreNumbered, round_units}
use Rattle.cluster_calls.specs.Insides.{AreRight, IsRound}
use Rattle.cluster_calls.specs.Rows.{Rows}
use Rattle.cluster_calls.proofs.ListLaws.{not_some, same_some}
use Rattle.cluster_calls.proofs.RightLaws.{and_none, and_none_right, both_true}
use Rattle.cluster_calls.proofs.BothLaws.{and_left, and_right}
use Rattle.cluster_calls.proofs.RowTables.{equal}
use Rattle.cluster_calls.proofs.RoundLaws.{length-range, no_unit}
use Rattle.cluster_calls.proofs.UnitLaws.{is_busy}

-- nothing is taken of nothing
take_nothing : {X : Type 0} (n : ℕ) → take {A = X} n [] ≡ []
take_nothing zero = refl
take_nothing (suc n) = refl

-- nothing of a list passes
filter_nothing : {X : Type 0} (p : X → Bool) (xs : List X) → ((i : ℕ) (x : X) → slice_get xs i ≡ Some x → p x ≡ false) → filter p xs ≡ []
filter_nothing p [] h = refl
filter_nothing p (x ∷ xs) h = λ i. cond (h 0 x refl i) (x ∷ filter_nothing p xs (λ j y e. h (suc j) y e) i) (filter_nothing p xs (λ j y e. h (suc j) y e) i)

-- exactly the elements of a stretch pass
filter_middle : {X : Type 0} (p : X → Bool) (a c : ℕ) (xs : List X) → ((i : ℕ) (x : X) → slice_get xs i ≡ Some x → i < a → p x ≡ false)
    → ((i : ℕ) (x : X) → slice_get xs i ≡ Some x → a ≤ i → i < a + c → p x ≡ true) → ((i : ℕ) (x : X) → slice_get xs i ≡ Some x → a + c ≤ i → p x ≡ false)
    → filter p xs ≡ take c (drop a xs)
filter_middle p zero zero xs before here after = filter_nothing p xs (λ i x e. after i x e (omega arith))
filter_middle p zero (suc c) [] before here after = refl
filter_middle p zero (suc c) (x ∷ xs) before here after =
    ap (λ b. cond b (x ∷ filter p xs) (filter p xs)) (here 0 x refl (omega arith) (omega arith))
    ∙ ap (λ ys. x ∷ ys) (filter_middle p zero c xs (λ i y e l. absurd (omega arith)) (λ i y e l m. here (suc i) y e (omega arith) (omega (arith, m))) (λ i y e l. after (suc i) y e (omega (arith, l))))
filter_middle p (suc a) c [] before here after = sym (take_nothing c)
filter_middle p (suc a) c (x ∷ xs) before here after =
    ap (λ b. cond b (x ∷ filter p xs) (filter p xs)) (before 0 x refl (omega arith))
    ∙ filter_middle p a c xs (λ i y e l. before (suc i) y e (omega (arith, l))) (λ i y e l m. here (suc i) y e (omega (arith, l)) (omega (arith, m))) (λ i y e l. after (suc i) y e (omega (arith, l)))

-- a test fails where its passing is absurd
refused : (b : Bool) {P : Type 0} → (b ≡ true → P) → (P → ⊥) → b ≡ false
refused true g no_ = absurd (no_ (g refl))
refused false g no_ = refl

-- none but elements of a stretch pass
filter_inside : {X : Type 0} (p : X → Bool) (a c : ℕ) (xs : List X) → ((i : ℕ) (x : X) → slice_get xs i ≡ Some x → p x ≡ true → (a ≤ i) × (i < a + c))
    → filter p xs ≡ filter p (take c (drop a xs))
filter_inside p zero zero xs h = filter_nothing p xs (λ i x e. refused (p x) (h i x e) (λ k. let l = k.1 in absurd (omega (arith, l))))
filter_inside p zero (suc c) [] h = refl
filter_inside p zero (suc c) (x ∷ xs) h = ap (λ ys. cond (p x) (x ∷ ys) ys) (filter_inside p zero c xs (λ i y e t. (omega arith, omega (arith, (h (suc i) y e t).1))))
filter_inside p (suc a) c [] h = ap (filter p) (sym (take_nothing c))
filter_inside p (suc a) c (x ∷ xs) h =
    ap (λ b. cond b (x ∷ filter p xs) (filter p xs)) (refused (p x) (h 0 x refl) (λ k. let l = k.0 in absurd (omega (arith, l))))
    ∙ filter_inside p a c xs (λ i y e t. (omega (arith, (h (suc i) y e t).0), omega (arith, (h (suc i) y e t).1)))

-- the elements of a stretch by their places
pub get-stretch : {X : Type 0} (a c : ℕ) (xs : List X) (i : ℕ) (x : X) → slice_get (take c (drop a xs)) i ≡ Some x → (slice_get xs (a + i) ≡ Some x) × (i < c)
get-stretch zero zero xs i x h = not_some x h
get-stretch zero (suc c) [] i x h = not_some x h
get-stretch zero (suc c) (y ∷ xs) zero x h = (h, omega arith)
get-stretch zero (suc c) (y ∷ xs) (suc i) x h =
    let rest = get-stretch zero c xs i x h in
    let same : 0 + suc i ≡ suc (0 + i) = omega arith in
    (ap (slice_get (y ∷ xs)) same ∙ rest.0, omega (arith, rest.1))
get-stretch (suc a) c [] i x h = not_some x (ap (λ (ys : List _). slice_get ys i) (sym (take_nothing c)) ∙ h)
get-stretch (suc a) c (y ∷ xs) i x h =
    let rest = get-stretch a c xs i x h in
    let same : suc a + i ≡ suc (a + i) = omega arith in
    (ap (slice_get (y ∷ xs)) same ∙ rest.0, rest.1)

-- different numbers test as different
differ : (m n : ℕ) → m ≢ n → (m == n) ≡ false
differ m n h = grind (arith, nat_tests)

-- equal numbers test as equal
same_test : (m n : ℕ) → m ≡ n → (m == n) ≡ true
same_test m n h = grind (arith, nat_tests)

-- one of two tests passes where the first does
or_left : (a b : Bool) → a ≡ true → (a || b) ≡ true
or_left true b h = refl
or_left false b h = absurd (cc)

-- the numbers that are among those of a range
among_in : (x a n : ℕ) → a ≤ x → x < a + n → among x (range_with_len a n) ≡ true
among_in x a zero l m = absurd (omega arith)
among_in x a (suc n) l m =
    elim (a == x) as (λ b. (a == x) ≡ b → (b || among x (range_with_len (a + 1) n)) ≡ true) [
      | true ↦ λ e. refl
      | false ↦ λ e. let apart : a ≢ x = λ s. absurd (let t = sym (same_test a x s) ∙ e in cc) in among_in x (a + 1) n (omega (arith, apart, l)) (omega (arith, m))
    ] refl

-- a smaller number isn't in a row
among_below : (x a n : ℕ) → x < a → among x (range_with_len a n) ≡ false
among_below x a zero l = refl
among_below x a (suc n) l = λ i. differ a x (λ e. absurd (omega (arith, e, l))) i || among_below x (a + 1) n (omega (arith, l)) i

-- nor is one past it
among_above : (x a n : ℕ) → a + n ≤ x → among x (range_with_len a n) ≡ false
among_above x a zero l = refl
among_above x a (suc n) l = λ i. differ a x (λ e. absurd (omega (arith, e, l))) i || among_above x (a + 1) n (omega (arith, l)) i

-- two ranges that are one
same_count : (a b m n : ℕ) → range_with_len a m ≡ range_with_len b n → m ≡ n
same_count a b m n h = sym (length-range a m) ∙ ap length h ∙ length-range b n

-- the first number of a list, or 0
head_of : List ℕ → ℕ
head_of [] = 0
head_of (x ∷ xs) = x

-- rows that are the same and not empty begin at one number
same_start : (a b m n : ℕ) → 0 < m → 0 < n → range_with_len a m ≡ range_with_len b n → a ≡ b
unfolding head_of
same_start a b zero n l k h = absurd (omega arith)
same_start a b (suc m) zero l k h = absurd (omega arith)
same_start a b (suc m) (suc n) l k h = ap head_of h

-- a last round as it is kept
pub record IsKept (units : List Unit) (number : ℕ) (call : Call) (start count : ℕ) : Type 0 where
  pub round : IsRound units number call
  pub many : count ≡ round.count
  pub first : 0 < count → start ≡ round.start
  pub listed : call.last_round ≡ range_with_len start count

-- a call's last round is a row of units of the call
pub kept_is : (units : List Unit) (number : ℕ) (call : Call) (start count : ℕ) → IsRound units number call → call.last_round ≡ range_with_len start count → IsKept units number call start count
kept_is units number call start count round listed =
    let many : count ≡ round.count = same_count start round.start count round.count (sym listed ∙ round.listed) in
    record {
      round = round;
      many = many;
      first = λ l. same_start start round.start count round.count l (omega (arith, many, l)) (sym listed ∙ round.listed);
      listed = listed;
    }

-- the units of a last round stand one behind another
pub round_stretch : (units : List Unit) (number : ℕ) (call : Call) (start count : ℕ) → AreNumbered units → IsKept units number call start count
    → round_units units call ≡ take count (drop (start - 1) units)
round_stretch units number call start zero numbers kept =
    filter_nothing (λ (u : Unit). among u.work.id call.last_round) units (λ i u at. ap (among u.work.id) kept.listed)
round_stretch units number call start (suc count) numbers kept =
    let first = kept.first (omega arith) in
    let positive = kept.round.positive in
    filter_middle (λ (u : Unit). among u.work.id call.last_round) (start - 1) (suc count) units
    (λ i u at l. ap (among u.work.id) kept.listed ∙ among_below u.work.id start (suc count) (let id = numbers i u at in omega (arith, id, l, first, positive)))
    (λ i u at l m. ap (among u.work.id) kept.listed ∙ among_in u.work.id start (suc count) (let id = numbers i u at in omega (arith, id, l)) (let id = numbers i u at in omega (arith, id, m, first, positive)))
    (λ i u at l. ap (among u.work.id) kept.listed ∙ among_above u.work.id start (suc count) (let id = numbers i u at in omega (arith, id, l, first, positive)))

-- and are those that the round is kept by
kept_stretch : (units : List Unit) (number : ℕ) (call : Call) (start count : ℕ) (kept : IsKept units number call start count)
    → take count (drop (start - 1) units) ≡ take kept.round.count (drop (kept.round.start - 1) units)
kept_stretch units number call start zero kept = ap (λ k. take k (drop (kept.round.start - 1) units)) kept.many
kept_stretch units number call start (suc count) kept = λ i. take (kept.many i) (drop (kept.first (omega arith) i - 1) units)

-- what is put together of equal lists
flat_agree : (f g : ℕ → List Unit) (a n : ℕ) → ((s : ℕ) → a ≤ s → f s ≡ g s) → flat_map f (range_with_len a n) ≡ flat_map g (range_with_len a n)
flat_agree f g a zero h = refl
flat_agree f g a (suc n) h = λ i. h a (omega arith) i ++ flat_agree f g (a + 1) n (λ s l. h s (omega (arith, l))) i

-- and of empty ones
flat_nothing : (f : ℕ → List Unit) (a n : ℕ) → ((s : ℕ) → f s ≡ []) → flat_map f (range_with_len a n) ≡ []
flat_nothing f a zero h = refl
flat_nothing f a (suc n) h = λ i. h a i ++ flat_nothing f (a + 1) n h i

-- an element in front, or none, joins a list
joined : (b : Bool) (x : Unit) (xs : List Unit) → cond b (x ∷ []) [] ++ xs ≡ cond b (x ∷ xs) xs
joined true x xs = refl
joined false x xs = refl

-- the open unit of the call on a segment
on_open : ℕ → ℕ → Unit → Bool
on_open n s u = is_on n s u && is_open_unit u

-- where the first unit isn't on a segment, all are on later ones
past : (n lo : ℕ) (x : Unit) (xs : List Unit) → ((i : ℕ) (u : Unit) → slice_get (x ∷ xs) i ≡ Some u → lo ≤ u.work.segment)
    → ((i j : ℕ) (u v : Unit) → i < j → slice_get (x ∷ xs) i ≡ Some u → slice_get (x ∷ xs) j ≡ Some v → u.work.segment < v.work.segment)
    → x.work.segment ≢ lo → (i : ℕ) (u : Unit) → slice_get (x ∷ xs) i ≡ Some u → lo + 1 ≤ u.work.segment
past n lo x xs low up apart zero u at =
    let same : x.work.segment ≡ u.work.segment = ap (λ (w : Unit). w.work.segment) (same_some x u at) in
    omega (arith, same, apart, low 0 x refl)
past n lo x xs low up apart (suc i) u at = omega (arith, up 0 (suc i) x u (omega arith) refl at, low 0 x refl)

-- units of a call that ascend by segment, segment by segment
ascending : (n lo m : ℕ) (xs : List Unit) → ((i : ℕ) (u : Unit) → slice_get xs i ≡ Some u → is_of n u ≡ true) → ((i : ℕ) (u : Unit) → slice_get xs i ≡ Some u → lo ≤ u.work.segment)
    → ((i : ℕ) (u : Unit) → slice_get xs i ≡ Some u → u.work.segment < lo + m)
    → ((i j : ℕ) (u v : Unit) → i < j → slice_get xs i ≡ Some u → slice_get xs j ≡ Some v → u.work.segment < v.work.segment)
    → flat_map (λ s. filter (on_open n s) xs) (range_with_len lo m) ≡ filter is_open_unit xs
unfolding on_open
ascending n lo zero [] own low high up = refl
ascending n lo zero (x ∷ xs) own low high up = absurd (omega (arith, low 0 x refl, high 0 x refl))
ascending n lo (suc m) [] own low high up = flat_nothing (λ s. filter (on_open n s) []) (lo + 1) m (λ s. refl)
ascending n lo (suc m) (x ∷ xs) own low high up =
    elim (x.work.segment == lo) as (λ b. (x.work.segment == lo) ≡ b → flat_map (λ s. filter (on_open n s) (x ∷ xs)) (range_with_len lo (suc m)) ≡ filter is_open_unit (x ∷ xs)) [
      | true ↦ λ e.
          let same : x.work.segment ≡ lo = equal x.work.segment lo e in
          let none : filter (on_open n lo) xs ≡ [] = filter_nothing (on_open n lo) xs (λ i u at.
          and_none (is_on n lo u) (is_open_unit u) (and_none_right (is_of n u) (u.work.segment == lo) (differ u.work.segment lo (λ eq. absurd (omega (arith, eq, same, up 0 (suc i) x u (omega arith) refl at)))))) in
          let here : on_open n lo x ≡ is_open_unit x = ap (λ b. b && is_open_unit x) (both_true (is_of n x) (x.work.segment == lo) (own 0 x refl) e) in
          let rest : flat_map (λ s. filter (on_open n s) (x ∷ xs)) (range_with_len (lo + 1) m) ≡ filter is_open_unit xs =
          flat_agree (λ s. filter (on_open n s) (x ∷ xs)) (λ s. filter (on_open n s) xs) (lo + 1) m (λ s l.
          ap (λ b. cond b (x ∷ filter (on_open n s) xs) (filter (on_open n s) xs))
          (and_none (is_on n s x) (is_open_unit x) (and_none_right (is_of n x) (x.work.segment == s) (differ x.work.segment s (λ eq. absurd (omega (arith, eq, same, l)))))))
          ∙ ascending n (lo + 1) m xs (λ i u at. own (suc i) u at) (λ i u at. omega (arith, same, up 0 (suc i) x u (omega arith) refl at)) (λ i u at. omega (arith, high (suc i) u at))
          (λ i j u v l at bt. up (suc i) (suc j) u v (omega (arith, l)) at bt) in
          (λ i. cond (here i) (x ∷ none i) (none i) ++ rest i) ∙ joined (is_open_unit x) x (filter is_open_unit xs)
      | false ↦ λ e.
          let apart : x.work.segment ≢ lo = λ eq. absurd (let t = sym (same_test x.work.segment lo eq) ∙ e in cc) in
          let above : (i : ℕ) (u : Unit) → slice_get (x ∷ xs) i ≡ Some u → lo + 1 ≤ u.work.segment = λ i u at. past n lo x xs low up apart i u at in
          let none : filter (on_open n lo) (x ∷ xs) ≡ [] = filter_nothing (on_open n lo) (x ∷ xs) (λ i u at.
          and_none (is_on n lo u) (is_open_unit u) (and_none_right (is_of n u) (u.work.segment == lo) (differ u.work.segment lo (λ eq. absurd (omega (arith, eq, above i u at)))))) in
          (λ i. none i ++ flat_map (λ s. filter (on_open n s) (x ∷ xs)) (range_with_len (lo + 1) m))
          ∙ ascending n (lo + 1) m (x ∷ xs) own above (λ i u at. omega (arith, high i u at)) up
    ] refl

-- the open units of a last round are all open units of the call
pub open_stretch : (segments : ℕ) (units : List Unit) (rows : Rows) (number : ℕ) (call : Call) (calls : map_of.FinMap nat_cmp Call) (start count : ℕ) → AreRight segments units rows → IsKept units number call start count
    → filter is_open_unit (take count (drop (start - 1) units)) ≡ open_units (record { segments = segments; units = units; calls = calls }) number
unfolding on_open
open_stretch segments units rows number call calls start count right kept =
    let round = kept.round in
    let middle : List Unit = take round.count (drop (round.start - 1) units) in
    let at : (i : ℕ) (u : Unit) → slice_get middle i ≡ Some u → (slice_get units ((round.start - 1) + i) ≡ Some u) × (i < round.count) = λ i u g. get-stretch (round.start - 1) round.count units i u g in
    ap (filter is_open_unit) (kept_stretch units number call start count kept)
    ∙ sym (ascending number 0 segments middle
    (λ i u g. let p = at i u g in same_test u.work.call number (round.own ((round.start - 1) + i) u p.0 (omega (arith, round.positive)) (omega (arith, p.1, round.positive))))
    (λ i u g. omega arith)
    (λ i u g. let p = at i u g in omega (arith, (right.placed ((round.start - 1) + i) u p.0).within))
    (λ i j u v l g h.
    let p = at i u g in
    let q = at j v h in
    round.ascend ((round.start - 1) + i) ((round.start - 1) + j) u v p.0 q.0 (omega (arith, round.positive)) (omega (arith, l)) (omega (arith, q.1, round.positive))))
    ∙ flat_agree (λ s. filter (on_open number s) middle) (λ s. filter (on_open number s) units) 0 segments (λ s l.
    sym (filter_inside (on_open number s) (round.start - 1) round.count units (λ i u g t.
    let busy : is_busy number u ≡ true = both_true (is_of number u) (is_open_unit u) (and_left (is_of number u) (u.work.segment == s) (and_left (is_on number s u) (is_open_unit u) t)) (and_right (is_on number s u) (is_open_unit u) t) in
    (omega (arith, round.least i u g busy, round.positive), omega (arith, round.most i u g busy, round.positive)))))

-- a call that isn't there has none
pub none_open : (segments : ℕ) (units : List Unit) (rows : Rows) (number : ℕ) (calls : map_of.FinMap nat_cmp Call) → AreRight segments units rows → map_of.get rows number ≡ None
    → [] ≡ open_units (record { segments = segments; units = units; calls = calls }) number
unfolding on_open
none_open segments units rows number calls right absent =
    sym (flat_nothing (λ s. filter (on_open number s) units) 0 segments (λ s.
    filter_nothing (on_open number s) units (λ i u at.
    and_none (is_on number s u) (is_open_unit u) (and_none (is_of number u) (u.work.segment == s) (no_unit segments units rows number right absent i u at)))))
