-- What is kept of all units and rows stays right.
use Rattle.std.proofs.Common.{◌≡◌, ◌≢◌, ◌⊎◌, inl, inr, ℕ, zero, suc, ◌+◌, ◌-◌, ◌≤◌, ◌<◌, Bool, true, false, cond, ◌&&◌, ◌||◌, ◌==◌, List, [], ◌∷◌, length, Option, Some, None, is_some, refl, sym, ap, subst, ◌∙◌, arith, length-set, nat_lt}
use Rattle.std.proofs.lemmas.Bool.Decides.{nat_tests}
use Rattle.std.specs.FinMap as map_of
use Rattle.std.specs.Option.{option_map}
use Rattle.std.specs.Prelude.{slice_get, slice_set}
use Rattle.pipeline_split.specs.declared.piece.Piece.{Piece}
use Rattle.cluster_model.specs.State.{Call, Unit, is_ended, is_of, is_on, is_open_unit, is_running, unit_in, with_unit}
use Rattle.cluster_model.specs.Topologies.{is_complete}
use Rattle.cluster_model.specs.Units.{read_by}
use Rattle.cluster_calls.specs.Calling.{AreNumbered, is_one}
use Rattle.cluster_calls.specs.Insides.{AreRight, IsPlaced, IsRound, IsRow}
use Rattle.cluster_calls.specs.Rows.{Rows, changes_row, with_row, with_row_end, with_row_without_open}
use Rattle.cluster_calls.specs.declared.parts.Parts.{Parts}
use Rattle.cluster_calls.specs.declared.row.Row.{Row}
use Rattle.cluster_calls.proofs.ListLaws.{any-set_more, any-set_same, find_place, map_one, not_some, same_some, set_cases}
use Rattle.cluster_calls.proofs.RowTables.{equal, get-put}
use Rattle.cluster_calls.proofs.UnitLaws.{Alike, has_done, is_busy, tally_closed, tally_ended, tally_same}

-- a test that fails and another, together, fail
pub and_none : (a b : Bool) → a ≡ false → (a && b) ≡ false
and_none true b h = absurd (cc)
and_none false b h = refl

-- a test and one that fails, together, fail
pub and_none_right : (a b : Bool) → b ≡ false → (a && b) ≡ false
and_none_right true b h = h
and_none_right false b h = refl

-- what stands at a place of the changed list stood there alike
pub set_alike : (units : List Unit) (i : ℕ) (u v : Unit) (j : ℕ) (z : Unit) → slice_get units i ≡ Some u → Alike u v → slice_get (slice_set units i v) j ≡ Some z
    → (w : Unit) × (slice_get units j ≡ Some w) × Alike w z
set_alike units i u v j z h a at =
    elim (set_cases units i j v z at) [
      | inl e ↦ (u, ap (slice_get units) e.0 ∙ h, subst (λ (x : Unit). Alike u x) (sym e.1) a)
      | inr e ↦ (z, e.1, record { id = refl; call = refl; segment = refl })
    ]

-- the last round is right, where its open units are still on incomplete segments
pub round_set : (units : List Unit) (i : ℕ) (u v : Unit) (n : ℕ) (call : Call) → slice_get units i ≡ Some u → Alike u v → (is_busy n v ≡ true → is_busy n u ≡ true)
    → ((j : ℕ) (z : Unit) → slice_get (slice_set units i v) j ≡ Some z → is_busy n z ≡ true → is_complete (slice_set units i v) n z.work.segment ≡ false)
    → IsRound units n call → IsRound (slice_set units i v) n call
round_set units i u v n call h a busy open_ kept = record {
  start = kept.start;
  count = kept.count;
  listed = kept.listed;
  positive = kept.positive;
  within = omega (arith, kept.within, length-set units i v);
  own = λ j z at low high. let b = set_alike units i u v j z h a at in b.2.call ∙ kept.own j b.0 b.1 low high;
  ascend = λ j k y z at bt low less high.
      let b = set_alike units i u v j y h a at in
      let d = set_alike units i u v k z h a bt in
      omega (arith, kept.ascend j k b.0 d.0 b.1 d.1 low less high, b.2.segment, d.2.segment);
  least = λ j z at is. elim (set_cases units i j v z at) [
    | inl e ↦ omega (arith, kept.least i u h (busy (ap (is_busy n) (sym e.1) ∙ is)), e.0)
    | inr e ↦ kept.least j z e.1 is
  ];
  most = λ j z at is. elim (set_cases units i j v z at) [
    | inl e ↦ omega (arith, kept.most i u h (busy (ap (is_busy n) (sym e.1) ∙ is)), e.0)
    | inr e ↦ kept.most j z e.1 is
  ];
  incomplete = open_;
}

-- segments stay incomplete where no unit ends
incomplete_same : (units : List Unit) (i : ℕ) (u v : Unit) (n : ℕ) (call : Call) → slice_get units i ≡ Some u → Alike u v → (is_busy n v ≡ true → is_busy n u ≡ true)
    → ((s : ℕ) → has_done n s v ≡ has_done n s u) → IsRound units n call
    → (j : ℕ) (z : Unit) → slice_get (slice_set units i v) j ≡ Some z → is_busy n z ≡ true → is_complete (slice_set units i v) n z.work.segment ≡ false
incomplete_same units i u v n call h a busy done kept j z at is =
    any-set_same (has_done n z.work.segment) units i u v h (done z.work.segment)
    ∙ elim (set_cases units i j v z at) [
      | inl e ↦
          ap (is_complete units n) (ap (λ (x : Unit). x.work.segment) e.1 ∙ a.segment) ∙ kept.incomplete i u h (busy (ap (is_busy n) (sym e.1) ∙ is))
      | inr e ↦ kept.incomplete j z e.1 is
    ]

-- a row of which nothing changed
pub row_same : (segments : ℕ) (units : List Unit) (i : ℕ) (u v : Unit) (n : ℕ) (row : Row) → slice_get units i ≡ Some u → Alike u v
    → is_busy n v ≡ is_busy n u → ((s : ℕ) → has_done n s v ≡ has_done n s u) → IsRow segments units n row → IsRow segments (slice_set units i v) n row
row_same segments units i u v n row h a busy done kept = record {
  tally = tally_same segments units i u v n row.tally h a busy done kept.tally;
  round =
      round_set units i u v n row.call h a (λ is. sym busy ∙ is)
      (incomplete_same units i u v n row.call h a (λ is. sym busy ∙ is) done kept.round) kept.round;
}

-- the row of a call of which a unit is open no longer
row_closed : (segments : ℕ) (units : List Unit) (i : ℕ) (u v : Unit) (n : ℕ) (row : Row) (s : ℕ) (made : Option Piece) → slice_get units i ≡ Some u → Alike u v
    → is_busy n u ≡ true → is_busy n v ≡ false → ((s : ℕ) → has_done n s v ≡ has_done n s u) → IsRow segments units n row → IsRow segments (slice_set units i v) n (with_row_without_open s made row)
row_closed segments units i u v n row s made h a was gone done kept = record {
  tally = tally_closed segments units i u v n row.tally h a was gone done kept.tally;
  round =
      round_set units i u v n row.call h a (λ is. was)
      (incomplete_same units i u v n row.call h a (λ is. was) done kept.round) kept.round;
}

-- what ascends with the place differs at other places
unequal : (i j a b : ℕ) → (i < j → a < b) → (j < i → b < a) → j ≢ i → b ≢ a
unequal i j a b before after apart =
    elim (nat_lt i j) as (λ t. nat_lt i j ≡ t → b ≢ a) [
      | true ↦ λ t e. let l : i < j = grind (arith, nat_tests) in absurd (omega (arith, before l, e))
      | false ↦ λ t e. let l : j < i = grind (arith, nat_tests) in absurd (omega (arith, after l, e))
    ] refl

-- other open units of the call are on other segments
other_segment : (units : List Unit) (i j : ℕ) (u z : Unit) (n : ℕ) (call : Call) → slice_get units i ≡ Some u → slice_get units j ≡ Some z → j ≢ i
    → is_busy n u ≡ true → is_busy n z ≡ true → IsRound units n call → (z.work.segment == u.work.segment) ≡ false
other_segment units i j u z n call h at apart was is kept =
    let low = kept.least i u h was in
    let high = kept.most i u h was in
    let from = kept.least j z at is in
    let to = kept.most j z at is in
    let differ : z.work.segment ≢ u.work.segment =
    unequal i j u.work.segment z.work.segment (λ l. kept.ascend i j u z h at low l to) (λ l. kept.ascend j i z u at h from l high) apart in
    grind (arith, nat_tests)

-- the row of a call of which a unit has ended
row_ended : (segments : ℕ) (units : List Unit) (i : ℕ) (u v : Unit) (n : ℕ) (row : Row) (made : Option Piece) → slice_get units i ≡ Some u → Alike u v
    → is_busy n u ≡ true → is_busy n v ≡ false → ((s : ℕ) → has_done n s u ≡ false) → ((s : ℕ) → has_done n s v ≡ (s == u.work.segment))
    → u.work.segment < segments → IsRow segments units n row → IsRow segments (slice_set units i v) n (with_row_end u.work.segment made row)
row_ended segments units i u v n row made h a was gone undone done inside kept = record {
  tally = tally_ended segments units i u v n row.tally h a was gone undone done inside (kept.round.incomplete i u h was) kept.tally;
  round =
      round_set units i u v n row.call h a (λ is. was)
      (λ j z at is. elim (set_cases units i j v z at) [
        | inl e ↦ absurd (let wrong = sym is ∙ ap (is_busy n) e.1 ∙ gone in cc)
        | inr e ↦
            any-set_more (has_done n z.work.segment) units i u v h (undone z.work.segment)
            ∙ (λ k. (done z.work.segment ∙ other_segment units i j u z n row.call h e.1 e.0 was is kept.round) k || kept.round.incomplete j z e.1 is k)
      ]) kept.round;
}

-- what is there after a row is changed
got : (rows : Rows) (number : ℕ) (change : Row → Row) (n : ℕ) (o : Option Row) → map_of.get rows number ≡ o
    → map_of.get (with_row number change o rows) n ≡ cond (n == number) (option_map change o) (map_of.get rows n)
got rows number change n None is =
    elim (n == number) as (λ b. (n == number) ≡ b → map_of.get rows n ≡ cond b None (map_of.get rows n)) [
      | true ↦ λ tie. ap (map_of.get rows) (equal n number tie) ∙ is
      | false ↦ λ apart. refl
    ] refl
got rows number change n (Some row) is = get-put rows number (change row) n

-- the changed row stands at its number, and any other row as before
pub get-changed : (rows : Rows) (number : ℕ) (change : Row → Row) (n : ℕ) →
    map_of.get (changes_row number change rows) n ≡ cond (n == number) (option_map change (map_of.get rows number)) (map_of.get rows n)
get-changed rows number change n = got rows number change n (map_of.get rows number) refl

-- a row that is changed is there as it was
pub some_mapped : (change : Row → Row) (o : Option Row) → is_some (option_map change o) ≡ is_some o
some_mapped change None = refl
some_mapped change (Some row) = refl

-- a change takes no row away
pub changed_there : (rows : Rows) (number : ℕ) (change : Row → Row) (n : ℕ) → is_some (map_of.get (changes_row number change rows) n) ≡ is_some (map_of.get rows n)
changed_there rows number change n =
    ap is_some (get-changed rows number change n)
    ∙ elim (n == number) as (λ b. (n == number) ≡ b → is_some (cond b (option_map change (map_of.get rows number)) (map_of.get rows n)) ≡ is_some (map_of.get rows n)) [
      | true ↦ λ tie. some_mapped change (map_of.get rows number) ∙ ap (λ m. is_some (map_of.get rows m)) (sym (equal n number tie))
      | false ↦ λ apart. refl
    ] refl

-- a changed row is one that was there
pub mapped_some : (change : Row → Row) (o : Option Row) (row : Row) → option_map change o ≡ Some row → (was : Row) × (o ≡ Some was) × (row ≡ change was)
mapped_some change None row h = not_some row h
mapped_some change (Some was) row h = (was, refl, sym (same_some (change was) row h))

-- a row that is there after a change is the changed one, or was there before
pub changed_cases : (rows : Rows) (number : ℕ) (change : Row → Row) (n : ℕ) (row : Row) → map_of.get (changes_row number change rows) n ≡ Some row
    → ((n ≡ number) × ((was : Row) × (map_of.get rows number ≡ Some was) × (row ≡ change was))) ⊎ ((n ≢ number) × (map_of.get rows n ≡ Some row))
changed_cases rows number change n row h =
    elim (n == number) as (λ b. (n == number) ≡ b → cond b (option_map change (map_of.get rows number)) (map_of.get rows n) ≡ Some row
    → ((n ≡ number) × ((was : Row) × (map_of.get rows number ≡ Some was) × (row ≡ change was))) ⊎ ((n ≢ number) × (map_of.get rows n ≡ Some row))) [
      | true ↦ λ tie g. inl (equal n number tie, mapped_some change (map_of.get rows number) row g)
      | false ↦ λ apart g. inr ((λ e. absurd (grind (arith, nat_tests))), g)
    ] refl (sym (get-changed rows number change n) ∙ h)

-- where a unit is changed, units and rows are right if each row is
pub right_set : (segments : ℕ) (units : List Unit) (rows after : Rows) (i : ℕ) (u v : Unit) → AreRight segments units rows → slice_get units i ≡ Some u → Alike u v
    → (is_some v.flying ≡ true → is_running v.work.state ≡ true) → ((m : ℕ) → is_some (map_of.get after m) ≡ is_some (map_of.get rows m))
    → ((n : ℕ) (row : Row) → map_of.get after n ≡ Some row → IsRow segments (slice_set units i v) n row) → AreRight segments (slice_set units i v) after
right_set segments units rows after i u v right h a runs there kept = record {
  placed = λ j z at. elim (set_cases units i j v z at) [
    | inl e ↦
        let was = right.placed i u h in
        subst (λ (x : Unit). IsPlaced segments after j x) (sym e.1) (record {
          id = a.id ∙ was.id ∙ ap (λ k. k + 1) (sym e.0);
          there = there v.work.call ∙ ap (λ m. is_some (map_of.get rows m)) a.call ∙ was.there;
          within = omega (arith, was.within, a.segment);
          running = runs;
        })
    | inr e ↦
        let was = right.placed j z e.1 in
        record { id = was.id; there = there z.work.call ∙ was.there; within = was.within; running = was.running }
  ];
  kept = kept;
}

-- a unit that counts as before
pub after_same : (segments : ℕ) (units : List Unit) (rows : Rows) (i : ℕ) (u v : Unit) → AreRight segments units rows → slice_get units i ≡ Some u → Alike u v
    → (is_some v.flying ≡ true → is_running v.work.state ≡ true) → is_open_unit v ≡ is_open_unit u → is_ended v.work.state ≡ is_ended u.work.state
    → AreRight segments (slice_set units i v) rows
after_same segments units rows i u v right h a runs open_ ended_ =
    right_set segments units rows rows i u v right h a runs (λ m. refl) (λ n row at.
    row_same segments units i u v n row h a (λ k. (a.call k == n) && open_ k) (λ s k. ((a.call k == n) && (a.segment k == s)) && ended_ k) (right.kept n row at))

-- a unit of another call says nothing of a call
pub of_other : (u v : Unit) (n c : ℕ) → Alike u v → u.work.call ≡ c → n ≢ c → (is_of n u ≡ false) × (is_of n v ≡ false)
of_other u v n c a is apart = (grind (arith, nat_tests), let same = a.call in grind (arith, nat_tests))

-- a unit that is replaced by one alike leaves the rows of other calls right
other_row : (segments : ℕ) (units : List Unit) (i : ℕ) (u v : Unit) (n : ℕ) (row : Row) → slice_get units i ≡ Some u → Alike u v → n ≢ u.work.call
    → IsRow segments units n row → IsRow segments (slice_set units i v) n row
other_row segments units i u v n row h a apart kept =
    let neither = of_other u v n u.work.call a refl apart in
    row_same segments units i u v n row h a
    (and_none (is_of n v) (is_open_unit v) neither.1 ∙ sym (and_none (is_of n u) (is_open_unit u) neither.0))
    (λ s.
    and_none (is_on n s v) (is_ended v.work.state) (and_none (is_of n v) (v.work.segment == s) neither.1)
    ∙ sym (and_none (is_on n s u) (is_ended u.work.state) (and_none (is_of n u) (u.work.segment == s) neither.0)))
    kept

-- a number is itself
pub itself : (n : ℕ) → (n == n) ≡ true
itself n = grind (arith, nat_tests)

-- two tests that pass, pass together
pub both_true : (a b : Bool) → a ≡ true → b ≡ true → (a && b) ≡ true
both_true true b h g = g
both_true false b h g = absurd (cc)

-- a unit that is open no longer, and hasn't ended
pub after_closed : (segments : ℕ) (units : List Unit) (rows : Rows) (i : ℕ) (u v : Unit) (s : ℕ) (made : Option Piece) → AreRight segments units rows → slice_get units i ≡ Some u → Alike u v
    → (is_some v.flying ≡ true → is_running v.work.state ≡ true) → is_open_unit u ≡ true → is_open_unit v ≡ false → is_ended v.work.state ≡ is_ended u.work.state
    → AreRight segments (slice_set units i v) (changes_row u.work.call (with_row_without_open s made) rows)
after_closed segments units rows i u v s made right h a runs was gone ended_ =
    let change = with_row_without_open s made in
    right_set segments units rows (changes_row u.work.call change rows) i u v right h a runs (changed_there rows u.work.call change) (λ n row at.
    elim (changed_cases rows u.work.call change n row at) [
      | inl e ↦
          subst (λ (r : Row). IsRow segments (slice_set units i v) n r) (sym e.1.2)
          (subst (λ m. IsRow segments (slice_set units i v) m (change e.1.0)) (sym e.0)
          (row_closed segments units i u v u.work.call e.1.0 s made h a
          (λ k. both_true (u.work.call == u.work.call) (is_open_unit u) (itself u.work.call) was k)
          (and_none_right (is_of u.work.call v) (is_open_unit v) gone)
          (λ t k. ((a.call k == u.work.call) && (a.segment k == t)) && ended_ k) (right.kept u.work.call e.1.0 e.1.1)))
      | inr e ↦ other_row segments units i u v n row h a e.0 (right.kept n row e.1)
    ])

-- a test of one call is a test of the segment
only_segment : (c m s : ℕ) → (((c == c) && (m == s)) && true) ≡ (s == m)
only_segment c m s = grind (arith, nat_tests)

-- a unit that has ended
pub after_ended : (segments : ℕ) (units : List Unit) (rows : Rows) (i : ℕ) (u v : Unit) (made : Option Piece) → AreRight segments units rows → slice_get units i ≡ Some u → Alike u v
    → (is_some v.flying ≡ true → is_running v.work.state ≡ true) → is_open_unit u ≡ true → is_open_unit v ≡ false → is_ended u.work.state ≡ false → is_ended v.work.state ≡ true
    → AreRight segments (slice_set units i v) (changes_row u.work.call (with_row_end u.work.segment made) rows)
after_ended segments units rows i u v made right h a runs was gone undone done =
    let change = with_row_end u.work.segment made in
    right_set segments units rows (changes_row u.work.call change rows) i u v right h a runs (changed_there rows u.work.call change) (λ n row at.
    elim (changed_cases rows u.work.call change n row at) [
      | inl e ↦
          subst (λ (r : Row). IsRow segments (slice_set units i v) n r) (sym e.1.2)
          (subst (λ m. IsRow segments (slice_set units i v) m (change e.1.0)) (sym e.0)
          (row_ended segments units i u v u.work.call e.1.0 made h a
          (both_true (u.work.call == u.work.call) (is_open_unit u) (itself u.work.call) was)
          (and_none_right (is_of u.work.call v) (is_open_unit v) gone)
          (λ s. and_none_right (is_on u.work.call s u) (is_ended u.work.state) undone)
          (λ s. (λ k. ((a.call k == u.work.call) && (a.segment k == s)) && done k) ∙ only_segment u.work.call u.work.segment s)
          (right.placed i u h).within (right.kept u.work.call e.1.0 e.1.1)))
      | inr e ↦ other_row segments units i u v n row h a e.0 (right.kept n row e.1)
    ])

-- units stay, and each row is right
pub right_rows : (segments : ℕ) (units : List Unit) (rows after : Rows) → AreRight segments units rows → ((m : ℕ) → is_some (map_of.get after m) ≡ is_some (map_of.get rows m))
    → ((n : ℕ) (row : Row) → map_of.get after n ≡ Some row → IsRow segments units n row) → AreRight segments units after
right_rows segments units rows after right there kept = record {
  placed = λ i u at.
      let was = right.placed i u at in
      record { id = was.id; there = there u.work.call ∙ was.there; within = was.within; running = was.running };
  kept = kept;
}

-- a call that keeps its last round
pub row_call : (segments : ℕ) (units : List Unit) (n : ℕ) (row : Row) (call : Call) (parts : Option Parts) → call.last_round ≡ row.call.last_round → IsRow segments units n row
    → IsRow segments units n (record { call = call; tally = row.tally; parts = parts })
row_call segments units n row call parts same kept = record {
  tally = kept.tally;
  round = record {
    start = kept.round.start;
    count = kept.round.count;
    listed = same ∙ kept.round.listed;
    positive = kept.round.positive;
    within = kept.round.within;
    own = kept.round.own;
    ascend = kept.round.ascend;
    least = kept.round.least;
    most = kept.round.most;
    incomplete = kept.round.incomplete;
  };
}

-- a row with the same tally and the same last round
pub row_alike : (segments : ℕ) (units : List Unit) (n : ℕ) (row other : Row) → other.call.last_round ≡ row.call.last_round → other.tally ≡ row.tally → IsRow segments units n row → IsRow segments units n other
row_alike segments units n row other rounds tally kept =
    subst (λ t. IsRow segments units n (record other { tally = t })) (sym tally) (row_call segments units n row other.call other.parts rounds kept)

-- the call of a row is changed, but for its last round
pub after_call : (segments : ℕ) (units : List Unit) (rows : Rows) (number : ℕ) (change : Row → Row) → ((row : Row) → (change row).call.last_round ≡ row.call.last_round)
    → ((row : Row) → (change row).tally ≡ row.tally) → AreRight segments units rows → AreRight segments units (changes_row number change rows)
after_call segments units rows number change rounds tallies right =
    right_rows segments units rows (changes_row number change rows) right (changed_there rows number change) (λ n row at.
    elim (changed_cases rows number change n row at) [
      | inl e ↦
          subst (λ (r : Row). IsRow segments units n r) (sym e.1.2)
          (subst (λ m. IsRow segments units m (change e.1.0)) (sym e.0)
          (row_alike segments units number e.1.0 (change e.1.0) (rounds e.1.0) (tallies e.1.0) (right.kept number e.1.0 e.1.1)))
      | inr e ↦ right.kept n row e.1
    ])

-- a unit that is there, and passes the test
pub record There (units : List Unit) (number : ℕ) (test : Unit → Bool) : Type 0 where
  pub unit : Unit
  pub positive : 1 ≤ number
  pub at : slice_get units (number - 1) ≡ Some unit
  pub passes : test unit ≡ true
  pub found : unit_in units number ≡ Some unit
  pub numbered : unit.work.id ≡ number

-- a unit that is found and passes a test is there
there_is : (units : List Unit) (number : ℕ) (test : Unit → Bool) (u : Unit) → AreNumbered units → unit_in units number ≡ Some u → test u ≡ true → There units number test
there_is units number test u numbers is passes =
    let place = find_place (λ (x : Unit). x.work.id == number) units u is in
    let id = equal u.work.id number place.2 in
    let here = numbers place.0 u place.1 in
    record {
      unit = u;
      positive = omega (arith, id, here);
      at = let same : number - 1 ≡ place.0 = omega (arith, id, here) in ap (slice_get units) same ∙ place.1;
      passes = passes;
      found = is;
      numbered = id;
    }

-- and so is one that may be found, where one is that passes
there_by : (units : List Unit) (number : ℕ) (test : Unit → Bool) (o : Option Unit) → AreNumbered units → unit_in units number ≡ o → is_one test o ≡ true → There units number test
there_by units number test None numbers is h = absurd (cc)
there_by units number test (Some u) numbers is h = there_is units number test u numbers is h

-- a unit that passes a test is there
pub there : (units : List Unit) (number : ℕ) (test : Unit → Bool) → AreNumbered units → is_one test (unit_in units number) ≡ true → There units number test
there units number test numbers h = there_by units number test (unit_in units number) numbers refl h

-- the unit of a number is changed at its place
pub with_unit-there : (units : List Unit) (number : ℕ) (u : Unit) (change : Unit → Unit) → AreNumbered units → 1 ≤ number → slice_get units (number - 1) ≡ Some u
    → with_unit number change units ≡ slice_set units (number - 1) (change u)
with_unit-there units number u change numbers positive at =
    map_one (λ (x : Unit). cond (x.work.id == number) (change x) x) units (number - 1) u at
    (λ j z g apart.
    let id = numbers j z g in
    let no_tie : (z.work.id == number) ≡ false = grind (arith, nat_tests) in
    ap (λ b. cond b (change z) z) no_tie)
    ∙ ap (λ b. slice_set units (number - 1) (cond b (change u) u))
    (let id = numbers (number - 1) u at in let same : u.work.id ≡ number = omega (arith, id, positive) in ap (λ n. n == number) same ∙ itself number)

-- what all units have read then
pub read_by-set : (units : List Unit) (i : ℕ) (u v : Unit) → slice_get units i ≡ Some u → read_by (slice_set units i v) + length u.work.entries ≡ read_by units + length v.work.entries
read_by-set [] i u v h = not_some u h
read_by-set (x ∷ units) zero u v h = let same = ap (λ (w : Unit). length w.work.entries) (same_some x u h) in omega (arith, same)
read_by-set (x ∷ units) (suc i) u v h = omega (arith, read_by-set units i u v h)
