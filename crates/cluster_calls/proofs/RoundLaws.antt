-- A call is made, and a round of it: what is kept stays right.
use Rattle.std.proofs.Common.{◌≡◌, ◌≢◌, inl, inr, ℕ, zero, suc, ◌+◌, ◌≤◌, ◌<◌, Bool, true, false, cond, not, ◌&&◌, ◌||◌, ◌==◌, List, [], ◌∷◌, ◌++◌, map, filter, length, replicate, reverse, Option, Some, None, is_some, refl, sym, ap, subst, ◌∙◌, arith, length-append, length-set}
use Rattle.std.proofs.lemmas.Bool.Decides.{nat_tests}
use Rattle.std.proofs.lemmas.List.{reverse-append, length-map, length-replicate}
use Rattle.std.specs.FinMap as map_of
use Rattle.std.specs.FinSet as set_of
use Rattle.std.specs.List.{All, find, list_any, range_with_len}
use Rattle.std.specs.Option.{option_map}
use Rattle.std.specs.Ordering.{nat_cmp}
use Rattle.std.specs.Prelude.{slice_get, slice_set}
use Rattle.grid_event.specs.declared.call_events.Ask.{Ask}
use Rattle.grid_event.specs.declared.request.Request.{Request}
use Rattle.cluster_model.specs.State.{Call, Unit, is_ended, is_of, is_on, is_open_unit}
use Rattle.cluster_model.specs.Topologies.{is_complete}
use Rattle.cluster_model.specs.Commands.{newest_in}
use Rattle.cluster_model.specs.Calls.{new_call, unit_made}
use Rattle.cluster_calls.specs.Insides.{AreRight, IsPlaced, IsRound, IsRow}
use Rattle.cluster_calls.specs.Rows.{Rows, changes_row, with_row_asks}
use Rattle.cluster_calls.specs.Tallied.{AreAsked, Tallied, nothing_tallied, with_asks}
use Rattle.cluster_calls.specs.Tallies.{IsTally, number_of}
use Rattle.cluster_calls.specs.declared.parts.Parts.{Parts}
use Rattle.cluster_calls.specs.declared.row.Row.{Row}
use Rattle.std.proofs.lemmas.List.{append_assoc, append-nil}
use Rattle.std.proofs.lemmas.List.Elements.{All-cons, All-nil}
use Rattle.cluster_calls.proofs.ListLaws.{get-set_at, get-set_other, any-append, any_at, any_none, append_cases, count-append, count_every, count_none, find_last, get-map, length-filter, not_some, one, same_some, within_get}
use Rattle.cluster_calls.proofs.RowTables.{equal, get-put}
use Rattle.cluster_calls.proofs.RightLaws.{and_none, and_none_right, itself, changed_cases, changed_there}
use Rattle.cluster_calls.proofs.UnitLaws.{has_done, is_busy}

-- nothing is found in two lists where nothing is in either
find_two : {X : Type 0} (p : X → Bool) (xs ys : List X) → find p xs ≡ None → find p ys ≡ None → find p (xs ++ ys) ≡ None
find_two p [] ys h g = g
find_two p (x ∷ xs) ys h g =
    elim (p x) as (λ b. cond b (Some x) (find p xs) ≡ None → cond b (Some x) (find p (xs ++ ys)) ≡ None) [
      | true ↦ λ k. absurd (cc)
      | false ↦ λ k. find_two p xs ys k g
    ] h

-- nothing is found from behind where nothing passes
pub find_reverse_none : {X : Type 0} (p : X → Bool) (xs : List X) → ((i : ℕ) (x : X) → slice_get xs i ≡ Some x → p x ≡ false) → find p (reverse xs) ≡ None
find_reverse_none p [] h = refl
find_reverse_none p (x ∷ xs) h =
    ap (find p) (reverse-append (x ∷ []) xs)
    ∙ find_two p (reverse xs) (x ∷ []) (find_reverse_none p xs (λ j y e. h (suc j) y e)) (ap (λ b. cond b (Some x) None) (h 0 x refl))

-- how long a range is
pub length-range : (a n : ℕ) → length (range_with_len a n) ≡ n
length-range a zero = refl
length-range a (suc n) = omega (arith, length-range (a + 1) n)

-- the numbers of a range by their places
pub get-range : (a n k : ℕ) → k < n → slice_get (range_with_len a n) k ≡ Some (a + k)
get-range a zero k l = absurd (omega arith)
get-range a (suc n) zero l = let e : a ≡ a + 0 = omega arith in ap Some e
get-range a (suc n) (suc k) l = let e : (a + 1) + k ≡ a + suc k = omega arith in get-range (a + 1) n k (omega (arith, l)) ∙ ap Some e

-- each place of a repeated element has it
replicated : {X : Type 0} (x : X) (n k : ℕ) → k < n → slice_get (replicate n x) k ≡ Some x
replicated x zero k l = absurd (omega arith)
replicated x (suc n) zero l = refl
replicated x (suc n) (suc k) l = replicated x n k (omega (arith, l))

-- no unit belongs to a call that isn't there
pub no_unit : (segments : ℕ) (units : List Unit) (rows : Rows) (number : ℕ) → AreRight segments units rows → map_of.get rows number ≡ None
    → (i : ℕ) (u : Unit) → slice_get units i ≡ Some u → is_of number u ≡ false
no_unit segments units rows number right absent i u at =
    elim (u.work.call == number) as (λ b. (u.work.call == number) ≡ b → b ≡ false) [
      | true ↦ λ tie. (sym (right.placed i u at).there ∙ ap (λ m. is_some (map_of.get rows m)) (equal u.work.call number tie) ∙ ap is_some absent)
      | false ↦ λ apart. refl
    ] refl

-- the tally of a call that has no units
fresh_tally : (segments : ℕ) (units : List Unit) (number : ℕ) → ((i : ℕ) (u : Unit) → slice_get units i ≡ Some u → is_of number u ≡ false)
    → IsTally segments units number (nothing_tallied segments)
fresh_tally segments units number none = record {
  unended = sym (length-filter (is_busy number) units ∙ count_none (is_busy number) units (λ i u at. and_none (is_of number u) (is_open_unit u) (none i u at)));
  complete = λ s.
      set_of.contains-empty nat_cmp s
      ∙ sym (any_none (has_done number s) units (λ i u at. and_none (is_on number s u) (is_ended u.work.state) (and_none (is_of number u) (u.work.segment == s) (none i u at))));
  left =
      let p = λ (s : ℕ). not (set_of.contains (set_of.empty {R = nat_cmp}) s) in
      omega (arith, length-filter p (range_with_len 0 segments), count_every p (range_with_len 0 segments) (λ i s at. ap not (set_of.contains-empty nat_cmp s)), length-range 0 segments);
  wide = length-replicate segments 0;
  newest = λ s l.
      replicated 0 segments s l
      ∙ ap (λ o. Some (number_of o)) (sym (find_reverse_none (is_on number s) units (λ i u at. and_none (is_of number u) (u.work.segment == s) (none i u at))));
}

-- the last round of a call that made none
fresh_round : (units : List Unit) (number originator : ℕ) (request : Request) → ((i : ℕ) (u : Unit) → slice_get units i ≡ Some u → is_of number u ≡ false)
    → IsRound units number (new_call originator request)
fresh_round units number originator request none = record {
  start = 1;
  count = 0;
  listed = refl;
  positive = omega arith;
  within = omega arith;
  own = λ i u at low high. absurd (omega arith);
  ascend = λ i j u v at bt low less high. absurd (omega arith);
  least = λ i u at is. absurd (no_busy i u at is);
  most = λ i u at is. absurd (no_busy i u at is);
  incomplete = λ i u at is. absurd (no_busy i u at is);
}
  where
    no_busy : (i : ℕ) (u : Unit) → slice_get units i ≡ Some u → is_busy number u ≡ true → ⊥
    no_busy i u at is = let e = sym is ∙ and_none (is_of number u) (is_open_unit u) (none i u at) in cc

-- a row that is put is there
put_there : (o : Option Row) (b : Bool) (row : Row) → is_some o ≡ true → is_some (cond b (Some row) o) ≡ true
put_there o true row h = refl
put_there o false row h = h

-- a call is made
pub after_invoke : (segments : ℕ) (units : List Unit) (rows : Rows) (number originator : ℕ) (request : Request) (parts : Option Parts) → AreRight segments units rows → map_of.get rows number ≡ None
    → AreRight segments units (map_of.insert rows number (record { call = new_call originator request; tally = nothing_tallied segments; parts = parts }))
after_invoke segments units rows number originator request parts right absent = record {
  placed = λ i u at.
      let was = right.placed i u at in
      record {
        id = was.id;
        there = ap is_some (get-put rows number made u.work.call) ∙ put_there (map_of.get rows u.work.call) (u.work.call == number) made was.there;
        within = was.within;
        running = was.running;
      };
  kept = λ n row at. kept_by n row (n == number) refl (sym (get-put rows number made n) ∙ at);
}
  where
    made : Row
    made = record { call = new_call originator request; tally = nothing_tallied segments; parts = parts }

    none : (i : ℕ) (u : Unit) → slice_get units i ≡ Some u → is_of number u ≡ false
    none = no_unit segments units rows number right absent

    kept_by : (n : ℕ) (row : Row) (b : Bool) → (n == number) ≡ b → cond b (Some made) (map_of.get rows n) ≡ Some row → IsRow segments units n row
    kept_by n row true tie at =
        subst (λ r. IsRow segments units n r) (same_some made row at)
        (subst (λ m. IsRow segments units m made) (sym (equal n number tie))
        (record { tally = fresh_tally segments units number none; round = fresh_round units number originator request none }))
    kept_by n row false apart at = right.kept n row at

-- which numbers of a range pass a test
pub filter_range_within : (q : ℕ → Bool) (a n k x : ℕ) → slice_get (filter q (range_with_len a n)) k ≡ Some x → (a ≤ x) × (x < a + n) × (q x ≡ true)
filter_range_within q a zero k x h = not_some x h
filter_range_within q a (suc n) k x h =
    elim (q a) as (λ b. q a ≡ b → slice_get (cond b (a ∷ filter q (range_with_len (a + 1) n)) (filter q (range_with_len (a + 1) n))) k ≡ Some x → (a ≤ x) × (x < a + suc n) × (q x ≡ true)) [
      | true ↦ λ is. at_first q a n k x is (λ j y. filter_range_within q (a + 1) n j y)
      | false ↦ λ is g. let rest = filter_range_within q (a + 1) n k x g in (omega (arith, rest.0), omega (arith, rest.1), rest.2)
    ] refl h
  where
    at_first : (q : ℕ → Bool) (a n k x : ℕ) → q a ≡ true
        → ((j y : ℕ) → slice_get (filter q (range_with_len (a + 1) n)) j ≡ Some y → (a + 1 ≤ y) × (y < (a + 1) + n) × (q y ≡ true))
        → slice_get (a ∷ filter q (range_with_len (a + 1) n)) k ≡ Some x → (a ≤ x) × (x < a + suc n) × (q x ≡ true)
    at_first q a n zero x is above g =
        let same : a ≡ x = same_some a x g in
        (omega (arith, same), omega (arith, same), ap q (sym same) ∙ is)
    at_first q a n (suc k) x is above g = let rest = above k x g in (omega (arith, rest.0), omega (arith, rest.1), rest.2)

-- those that pass ascend
pub filter_range_ascends : (q : ℕ → Bool) (a n i j x y : ℕ) → i < j → slice_get (filter q (range_with_len a n)) i ≡ Some x → slice_get (filter q (range_with_len a n)) j ≡ Some y → x < y
filter_range_ascends q a zero i j x y l h g = not_some x h
filter_range_ascends q a (suc n) i j x y l h g =
    elim (q a) as (λ b. slice_get (cond b (a ∷ filter q (range_with_len (a + 1) n)) (filter q (range_with_len (a + 1) n))) i ≡ Some x
    → slice_get (cond b (a ∷ filter q (range_with_len (a + 1) n)) (filter q (range_with_len (a + 1) n))) j ≡ Some y → x < y) [
      | true ↦ λ h2 g2. at_first q a n i j x y l (λ i2 j2 l2 h3 g3. filter_range_ascends q (a + 1) n i2 j2 x y l2 h3 g3) h2 g2
      | false ↦ λ h2 g2. filter_range_ascends q (a + 1) n i j x y l h2 g2
    ] h g
  where
    at_first : (q : ℕ → Bool) (a n i j x y : ℕ) → i < j
        → ((k m : ℕ) → k < m → slice_get (filter q (range_with_len (a + 1) n)) k ≡ Some x → slice_get (filter q (range_with_len (a + 1) n)) m ≡ Some y → x < y)
        → slice_get (a ∷ filter q (range_with_len (a + 1) n)) i ≡ Some x → slice_get (a ∷ filter q (range_with_len (a + 1) n)) j ≡ Some y → x < y
    at_first q a n zero zero x y l above h g = absurd (omega arith)
    at_first q a n zero (suc j) x y l above h g =
        let same : a ≡ x = same_some a x h in
        omega (arith, same, (filter_range_within q (a + 1) n j y g).0)
    at_first q a n (suc i) zero x y l above h g = absurd (omega arith)
    at_first q a n (suc i) (suc j) x y l above h g = above i j (omega (arith, l)) h g

-- what holds of an element at each place holds of all
all_of : {X : Type 0} (P : X → Type 0) (xs : List X) → ((k : ℕ) (x : X) → slice_get xs k ≡ Some x → P x) → All P xs
all_of P [] h = All-nil P
all_of P (x ∷ xs) h = All-cons P x xs (h 0 x refl) (all_of P xs (λ k y e. h (suc k) y e))

-- a list past elements of which none passes
find_past : {X : Type 0} (p : X → Bool) (xs ys : List X) → find p xs ≡ None → find p (xs ++ ys) ≡ find p ys
find_past p [] ys h = refl
find_past p (x ∷ xs) ys h =
    elim (p x) as (λ b. cond b (Some x) (find p xs) ≡ None → cond b (Some x) (find p (xs ++ ys)) ≡ find p ys) [
      | true ↦ λ k. absurd (cc)
      | false ↦ λ k. find_past p xs ys k
    ] h

-- a test or one that fails is the test
or_none : (a b : Bool) → b ≡ false → (a || b) ≡ a
or_none true b h = refl
or_none false b h = h

-- units of other calls leave the tally as it is
tally_more : (segments : ℕ) (units more : List Unit) (n : ℕ) (t : Tallied) → ((k : ℕ) (u : Unit) → slice_get more k ≡ Some u → is_of n u ≡ false)
    → IsTally segments units n t → IsTally segments (units ++ more) n t
tally_more segments units more n t none kept = record {
  unended =
      omega (
        arith,
        kept.unended,
        length-filter (is_busy n) units,
        length-filter (is_busy n) (units ++ more),
        count-append (is_busy n) units more,
        count_none (is_busy n) more (λ k u at. and_none (is_of n u) (is_open_unit u) (none k u at)),
      );
  complete = λ s.
      kept.complete s
      ∙ sym (any-append (has_done n s) units more
      ∙ or_none (list_any (has_done n s) units) (list_any (has_done n s) more)
      (any_none (has_done n s) more (λ k u at. and_none (is_on n s u) (is_ended u.work.state) (and_none (is_of n u) (u.work.segment == s) (none k u at)))));
  left = kept.left;
  wide = kept.wide;
  newest = λ s l.
      kept.newest s l
      ∙ ap (λ o. Some (number_of o))
      (sym (ap (find (is_on n s)) (reverse-append units more)
      ∙ find_past (is_on n s) (reverse more) (reverse units) (find_reverse_none (is_on n s) more (λ k u at. and_none (is_of n u) (u.work.segment == s) (none k u at)))));
}

-- nor does a last round change by them
round_more : (units more : List Unit) (n : ℕ) (call : Call) → ((k : ℕ) (u : Unit) → slice_get more k ≡ Some u → is_of n u ≡ false)
    → IsRound units n call → IsRound (units ++ more) n call
round_more units more n call none kept = record {
  start = kept.start;
  count = kept.count;
  listed = kept.listed;
  positive = kept.positive;
  within = omega (arith, kept.within, length-append units more);
  own = λ j z at low high. elim (append_cases units more j z at) [
    | inl e ↦ kept.own j z e low high
    | inr e ↦ absurd (omega (arith, e.1, high, kept.within))
  ];
  ascend = λ j k y z at bt low less high. elim (append_cases units more j y at) [
    | inl e ↦ elim (append_cases units more k z bt) [
      | inl f ↦ kept.ascend j k y z e f low less high
      | inr f ↦ absurd (omega (arith, f.1, high, kept.within))
    ]
    | inr e ↦ absurd (omega (arith, e.1, high, less, kept.within))
  ];
  least = λ j z at is. elim (append_cases units more j z at) [ inl e ↦ kept.least j z e is | inr e ↦ absurd (let w = sym is ∙ and_none (is_of n z) (is_open_unit z) (none e.0 z e.2) in cc) ];
  most = λ j z at is. elim (append_cases units more j z at) [ inl e ↦ kept.most j z e is | inr e ↦ absurd (let w = sym is ∙ and_none (is_of n z) (is_open_unit z) (none e.0 z e.2) in cc) ];
  incomplete = λ j z at is. elim (append_cases units more j z at) [
    | inl e ↦
        any-append (has_done n z.work.segment) units more
        ∙ or_none (list_any (has_done n z.work.segment) units) (list_any (has_done n z.work.segment) more)
        (any_none (has_done n z.work.segment) more (λ k u g. and_none (is_on n z.work.segment u) (is_ended u.work.state) (and_none (is_of n u) (u.work.segment == z.work.segment) (none k u g))))
        ∙ kept.incomplete j z e is
    | inr e ↦ absurd (let w = sym is ∙ and_none (is_of n z) (is_open_unit z) (none e.0 z e.2) in cc)
  ];
}

-- one more unit is asked
asked_one : Ask → Tallied → Tallied
asked_one ask t = record t { unended = t.unended + 1; newest = slice_set t.newest ask.segment ask.unit }

-- a tally stays right with a unit more
tally_one : (segments : ℕ) (units : List Unit) (n id : ℕ) (t : Tallied) (ask : Ask) → ask.segment < segments → IsTally segments units n t → IsTally segments (units ++ unit_made n id ask ∷ []) n (asked_one ask t)
unfolding asked_one
tally_one segments units n id t ask inside kept = record {
  unended =
      let z = unit_made n id ask in
      let busy : is_busy n z ≡ true = ap (λ b. b && true) (itself n) in
      let one_ : one (is_busy n z) ≡ 1 = ap one busy in
      omega (arith, kept.unended, length-filter (is_busy n) units, length-filter (is_busy n) (units ++ z ∷ []), count-append (is_busy n) units (z ∷ []), one_);
  complete = λ s.
      let z = unit_made n id ask in
      kept.complete s
      ∙ sym (any-append (has_done n s) units (z ∷ [])
      ∙ or_none (list_any (has_done n s) units) (has_done n s z || false) (ap (λ b. b || false) (and_none_right (is_on n s z) false refl)));
  left = kept.left;
  wide = length-set t.newest ask.segment ask.unit ∙ kept.wide;
  newest = λ s l.
      let z = unit_made n id ask in
      newest_one t.newest ask.segment ask.unit s (number_of (newest_in units n s)) (omega (arith, inside, kept.wide)) (kept.newest s l)
      ∙ ap Some (chosen (ask.segment == s) z (newest_in units n s) ∙ ap number_of (ap (λ b. cond (b && (ask.segment == s)) (Some z) (newest_in units n s)) (sym (itself n)) ∙ sym (find_last (is_on n s) units z)));
}
  where
    newest_one : (newest : List ℕ) (m u s v : ℕ) → m < length newest → slice_get newest s ≡ Some v → slice_get (slice_set newest m u) s ≡ Some (cond (m == s) u v)
    newest_one newest m u s v l h =
        elim (m == s) as (λ b. (m == s) ≡ b → slice_get (slice_set newest m u) s ≡ Some (cond b u v)) [
          | true ↦ λ tie. ap (slice_get (slice_set newest m u)) (sym (equal m s tie)) ∙ get-set_at newest m u l
          | false ↦ λ apart. get-set_other newest m s u (λ e. absurd (grind (arith, nat_tests))) ∙ h
        ] refl

    chosen : (b : Bool) (z : Unit) (o : Option Unit) → cond b z.work.id (number_of o) ≡ number_of (cond b (Some z) o)
    chosen true z o = refl
    chosen false z o = refl

-- several units are asked
tally_asks : (segments : ℕ) (asks : List Ask) (units : List Unit) (n id : ℕ) (t : Tallied) → ((k : ℕ) (a : Ask) → slice_get asks k ≡ Some a → a.segment < segments)
    → IsTally segments units n t → IsTally segments (units ++ map (unit_made n id) asks) n (with_asks asks t)
unfolding asked_one
tally_asks segments [] units n id t inside kept =
    subst (λ us. IsTally segments us n (with_asks [] t)) (sym (append-nil units)) (record {
      unended = omega (arith, kept.unended);
      complete = kept.complete;
      left = kept.left;
      wide = kept.wide;
      newest = kept.newest;
    })
tally_asks segments (ask ∷ asks) units n id t inside kept =
    let z = unit_made n id ask in
    let rest = tally_asks segments asks (units ++ z ∷ []) n id (asked_one ask t) (λ k a at. inside (suc k) a at) (tally_one segments units n id t ask (inside 0 ask refl) kept) in
    subst (λ us. IsTally segments us n (with_asks (ask ∷ asks) t)) (append_assoc units (z ∷ []) (map (unit_made n id) asks)) (record {
      unended = omega (arith, rest.unended);
      complete = rest.complete;
      left = rest.left;
      wide = rest.wide;
      newest = rest.newest;
    })

-- what is there through a function comes of something there
pub mapped_at : {X Y : Type 0} (f : X → Y) (o : Option X) (y : Y) → option_map f o ≡ Some y → (x : X) × (o ≡ Some x) × (y ≡ f x)
mapped_at f None y h = not_some y h
mapped_at f (Some x) y h = (x, refl, sym (same_some (f x) y h))

-- what is known of the asks of a round
pub record AreNext (segments : ℕ) (units : List Unit) (number : ℕ) (asks : List Ask) : Type 0 where
  pub closed : list_any (is_busy number) units ≡ false
  pub numbered : map (λ (ask : Ask). ask.unit) asks ≡ range_with_len (length units + 1) (length asks)
  pub segments_are : map (λ (ask : Ask). ask.segment) asks ≡ filter (λ s. not (is_complete units number s)) (range_with_len 0 segments)

-- the ask at a place
pub record IsAsk (segments : ℕ) (units : List Unit) (number k : ℕ) (a : Ask) : Type 0 where
  pub unit : a.unit ≡ (length units + 1) + k
  pub within : a.segment < segments
  pub incomplete : is_complete units number a.segment ≡ false

-- a test whose negation passes fails
not_true : (b : Bool) → not b ≡ true → b ≡ false
not_true true h = sym h
not_true false h = refl

-- each ask of a round is the next of its segment
pub ask_at : (segments : ℕ) (units : List Unit) (number : ℕ) (asks : List Ask) (k : ℕ) (a : Ask) → AreNext segments units number asks → slice_get asks k ≡ Some a → IsAsk segments units number k a
ask_at segments units number asks k a next at =
    let q = λ (s : ℕ). not (is_complete units number s) in
    let inside = within_get asks k a at in
    let unit = sym (ap (option_map (λ (ask : Ask). ask.unit)) at) ∙ sym (get-map (λ (ask : Ask). ask.unit) asks k) ∙ ap (λ ns. slice_get ns k) next.numbered ∙ get-range (length units + 1) (length asks) k inside in
    let segment = filter_range_within q 0 segments k a.segment (ap (λ ns. slice_get ns k) (sym next.segments_are) ∙ get-map (λ (ask : Ask). ask.segment) asks k ∙ ap (option_map (λ (ask : Ask). ask.segment)) at) in
    record {
      unit = same_some a.unit ((length units + 1) + k) unit;
      within = omega (arith, segment.1);
      incomplete = not_true (is_complete units number a.segment) segment.2;
    }

-- the asks of a round ascend by their segments
pub asks_ascend : (segments : ℕ) (units : List Unit) (number : ℕ) (asks : List Ask) (i j : ℕ) (a b : Ask) → AreNext segments units number asks → i < j → slice_get asks i ≡ Some a → slice_get asks j ≡ Some b → a.segment < b.segment
asks_ascend segments units number asks i j a b next less at bt =
    let q = λ (s : ℕ). not (is_complete units number s) in
    filter_range_ascends q 0 segments i j a.segment b.segment less
    (ap (λ ns. slice_get ns i) (sym next.segments_are) ∙ get-map (λ (ask : Ask). ask.segment) asks i ∙ ap (option_map (λ (ask : Ask). ask.segment)) at)
    (ap (λ ns. slice_get ns j) (sym next.segments_are) ∙ get-map (λ (ask : Ask). ask.segment) asks j ∙ ap (option_map (λ (ask : Ask). ask.segment)) bt)

-- no unit of the call is open
pub none_busy : (units : List Unit) (number i : ℕ) (u : Unit) (P : Type 0) → list_any (is_busy number) units ≡ false → slice_get units i ≡ Some u → is_busy number u ≡ true → P
none_busy units number i u P closed at is = absurd (let e = sym (any_at (is_busy number) units i u at is) ∙ closed in cc)

-- the round of the call that asks
asked_round : (segments : ℕ) (units : List Unit) (number id : ℕ) (asks : List Ask) (call : Call) → AreNext segments units number asks
    → call.last_round ≡ range_with_len (length units + 1) (length asks) → IsRound (units ++ map (unit_made number id) asks) number call
asked_round segments units number id asks call next listed = record {
  start = length units + 1;
  count = length asks;
  listed = listed;
  positive = omega arith;
  within = omega (arith, length-append units more, length-map asks (unit_made number id));
  own = λ j z at low high. elim (append_cases units more j z at) [
    | inl e ↦ absurd (omega (arith, low, within_get units j z e))
    | inr e ↦ let f = mapped_at (unit_made number id) (slice_get asks e.0) z (sym (get-map (unit_made number id) asks e.0) ∙ e.2) in ap (λ (w : Unit). w.work.call) f.2
  ];
  ascend = λ j k y z at bt low less high. elim (append_cases units more j y at) [
    | inl e ↦ absurd (omega (arith, low, within_get units j y e))
    | inr e ↦ elim (append_cases units more k z bt) [
      | inl f ↦ absurd (omega (arith, low, less, within_get units k z f))
      | inr f ↦
          let a = mapped_at (unit_made number id) (slice_get asks e.0) y (sym (get-map (unit_made number id) asks e.0) ∙ e.2) in
          let b = mapped_at (unit_made number id) (slice_get asks f.0) z (sym (get-map (unit_made number id) asks f.0) ∙ f.2) in
          let up = asks_ascend segments units number asks e.0 f.0 a.0 b.0 next (omega (arith, e.1, f.1, less)) a.1 b.1 in
          let first : y.work.segment ≡ a.0.segment = ap (λ (w : Unit). w.work.segment) a.2 in
          let second : z.work.segment ≡ b.0.segment = ap (λ (w : Unit). w.work.segment) b.2 in
          omega (arith, up, first, second)
    ]
  ];
  least = λ j z at is. elim (append_cases units more j z at) [
    | inl e ↦ none_busy units number j z _ next.closed e is
    | inr e ↦ omega (arith, e.1)
  ];
  most = λ j z at is. elim (append_cases units more j z at) [
    | inl e ↦ none_busy units number j z _ next.closed e is
    | inr e ↦ omega (arith, e.1, within_get more e.0 z e.2, length-map asks (unit_made number id))
  ];
  incomplete = λ j z at is. elim (append_cases units more j z at) [
    | inl e ↦ none_busy units number j z _ next.closed e is
    | inr e ↦
        let a = mapped_at (unit_made number id) (slice_get asks e.0) z (sym (get-map (unit_made number id) asks e.0) ∙ e.2) in
        any-append (has_done number z.work.segment) units more
        ∙ or_none (list_any (has_done number z.work.segment) units) (list_any (has_done number z.work.segment) more) (none_done z.work.segment)
        ∙ ap (λ (w : Unit). is_complete units number w.work.segment) a.2
        ∙ (ask_at segments units number asks e.0 a.0 next a.1).incomplete
  ];
}
  where
    more : List Unit
    more = map (unit_made number id) asks

    none_done : (s : ℕ) → list_any (has_done number s) more ≡ false
    none_done s = any_none (has_done number s) more (λ k w g.
        let b = mapped_at (unit_made number id) (slice_get asks k) w (sym (get-map (unit_made number id) asks k) ∙ g) in
        ap (has_done number s) b.2 ∙ and_none_right (is_on number s (unit_made number id b.0)) false refl)

-- a round is made
pub after_asks : (segments : ℕ) (units : List Unit) (rows : Rows) (number id : ℕ) (asks : List Ask) → AreRight segments units rows → is_some (map_of.get rows number) ≡ true
    → AreNext segments units number asks → AreRight segments (units ++ map (unit_made number id) asks) (changes_row number (with_row_asks (length units + 1) asks) rows)
after_asks segments units rows number id asks right there next = record {
  placed = λ j z at. elim (append_cases units more j z at) [
    | inl e ↦
        let was = right.placed j z e in
        record { id = was.id; there = changed_there rows number change z.work.call ∙ was.there; within = was.within; running = was.running }
    | inr e ↦
        let a = mapped_at (unit_made number id) (slice_get asks e.0) z (sym (get-map (unit_made number id) asks e.0) ∙ e.2) in
        let ask = ask_at segments units number asks e.0 a.0 next a.1 in
        subst (λ (w : Unit). IsPlaced segments (changes_row number change rows) j w) (sym a.2) (record {
          id = omega (arith, ask.unit, e.1);
          there = changed_there rows number change number ∙ there;
          within = ask.within;
          running = λ f. absurd (cc);
        })
  ];
  kept = λ n row at. elim (changed_cases rows number change n row at) [
    | inl e ↦
        subst (λ (r : Row). IsRow segments (units ++ more) n r) (sym e.1.2)
        (subst (λ m. IsRow segments (units ++ more) m (change e.1.0)) (sym e.0) (record {
          tally = tally_asks segments asks units number id e.1.0.tally (λ k a g. (ask_at segments units number asks k a next g).within) (right.kept number e.1.0 e.1.1).tally;
          round = asked_round segments units number id asks (change e.1.0).call next refl;
        }))
    | inr e ↦
        let was = right.kept n row e.1 in
        record { tally = tally_more segments units more n row.tally (others n e.0) was.tally; round = round_more units more n row.call (others n e.0) was.round }
  ];
}
  where
    more : List Unit
    more = map (unit_made number id) asks

    change : Row → Row
    change = with_row_asks (length units + 1) asks

    others : (n : ℕ) → n ≢ number → (k : ℕ) (u : Unit) → slice_get more k ≡ Some u → is_of n u ≡ false
    others n apart k u g =
        let b = mapped_at (unit_made number id) (slice_get asks k) u (sym (get-map (unit_made number id) asks k) ∙ g) in
        let no_tie : (number == n) ≡ false = grind (arith, nat_tests) in
        ap (is_of n) b.2 ∙ no_tie

-- the asks are on segments that there are
pub are_asked : (segments : ℕ) (units : List Unit) (number : ℕ) (asks : List Ask) → AreNext segments units number asks → AreAsked segments asks
are_asked segments units number asks next = all_of (λ (ask : Ask). ask.segment < segments) asks (λ k a at. (ask_at segments units number asks k a next at).within)
