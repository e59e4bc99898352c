-- What the fields of a `Calls` are seen as, and what is kept of them.
use Rattle.std.proofs.Common.{◌≡◌, ℕ, ◌+◌, ◌-◌, ◌≤◌, ◌<◌, Bool, true, false, not, ◌&&◌, ◌==◌, nat_lt, List, [], length, Option, Some, None, is_none, is_some, refl, sym, ap, subst, ◌∙◌, arith, length-set}
use Rattle.std.proofs.lemmas.Bool.Decides.{nat_tests}
use Rattle.std.proofs.lemmas.Option.{get_or_from_slice_get}
use Rattle.std.specs.FinMap as map_of
use Rattle.std.specs.FinMap.{nat_cmp-IsAntisymmetric}
use Rattle.std.specs.Cmp.{nat_cmp_total}
use Rattle.std.specs.Option.{option_map}
use Rattle.std.specs.FinSet as set_of
use Rattle.std.specs.List.{range_with_len}
use Rattle.std.specs.Ordering.{nat_cmp}
use Rattle.std.specs.Prelude.{slice_get, slice_set, slice_index_or}
use Rattle.std.specs.Vec.{with_item}
use Rattle.grid_base.specs.declared.limits.TheConstants.{MOST_READ}
use Rattle.local_publisher.specs.Stages.{is_open}
use Rattle.local_publisher.specs.declared.unit_state.UnitState.{UnitState}
use Rattle.local_publisher.specs.declared.unit_state.UnitState.TheVariants.{Asked, Running, Refused, Lost, Ended}
use Rattle.cluster_model.specs.State.{Call, Calling, Unit, call_of, is_asked, is_ended, is_open_unit, is_running, unit_in, with_unit}
use Rattle.cluster_model.specs.Units.{read_by}
use Rattle.cluster_calls.specs.Calling.{AreNumbered, changes_unit, is_one, may_end, may_read}
use Rattle.cluster_calls.specs.Insides.{ArePast, ArePieced, AreRight, IsCalls, calling_of}
use Rattle.cluster_calls.specs.Listed.{AreRegistered}
use Rattle.cluster_calls.specs.Parts.{HasParts, is_within}
use Rattle.cluster_calls.specs.declared.parts.Parts.{Parts}
use Rattle.loss_listener.specs.Registered.{Registered}
use Rattle.reduce_cluster.specs.Reduced.{segments_of}
use Rattle.cluster_calls.specs.Rows.{Rows, calls_in, may_close, may_end_one}
use Rattle.cluster_calls.specs.declared.calls.Calls.TheInside.{Inside}
use Rattle.cluster_calls.proofs.RightLaws.{both_true, itself, read_by-set, with_unit-there}
use Rattle.cluster_calls.proofs.BothLaws.{and_left, and_right}
use Rattle.cluster_calls.proofs.ListLaws.{count_some, length-filter, not_some, find_place}
use Rattle.cluster_calls.proofs.PastLaws.{past_none}
use Rattle.cluster_calls.proofs.RowTables.{get-calls_in}
use Rattle.cluster_calls.proofs.RoundLaws.{get-range}
use Rattle.cluster_calls.proofs.UnitLaws.{is_busy}
use Rattle.cluster_calls.specs.declared.row.Row.{Row}

-- units stand in the order of their numbers
pub numbers : (fields : Inside) → IsCalls fields → AreNumbered fields.units.items
numbers fields kept i u at = (kept.right.placed i u at).id

-- equal units and equal calls are seen alike
pub seen_alike : (segments : ℕ) (us vs : List Unit) (cs ds : map_of.FinMap nat_cmp Call) → us ≡ vs → cs ≡ ds
    → ◌≡◌ {A = Calling} (record { segments = segments; units = us; calls = cs }) (record { segments = segments; units = vs; calls = ds })
seen_alike segments us vs cs ds e f = λ i. record { segments = segments; units = e i; calls = f i }

-- the unit that is read at its place is the one that stands there
pub read_unit : (units : List Unit) (i : ℕ) (u unit : Unit) → slice_get units i ≡ Some u → unit ≡ slice_index_or units i unit → unit ≡ u
read_unit units i u unit at is = is ∙ get_or_from_slice_get units i u unit at

-- a unit is changed, and the entries read are counted on
pub unit_kept : (fields : Inside) → IsCalls fields → (i : ℕ) (u v : Unit) (table : Rows) (listeners : Registered) (read : ℕ) → slice_get fields.units.items i ≡ Some u
    → read + length u.work.entries ≡ fields.read + length v.work.entries → read ≤ MOST_READ
    → AreRight fields.segments (slice_set fields.units.items i v) table → ArePieced fields.segments (slice_set fields.units.items i v) table
    → ArePast (slice_set fields.units.items i v) table fields.past → AreRegistered (slice_set fields.units.items i v) listeners
    → IsCalls (record fields { units = with_item fields.units i v; table = table; listeners = listeners; read = read })
unit_kept fields kept i u v table listeners read at counted few right pieced past registered = record {
  few_segments = kept.few_segments;
  right = right;
  pieced = pieced;
  registered = registered;
  numbered = omega (arith, length-set fields.units.items i v, kept.numbered);
  counted = omega (arith, read_by-set fields.units.items i u v at, kept.counted, counted);
  few = few;
  past = past;
}

-- rows are changed alone
pub rows_kept : (fields : Inside) → IsCalls fields → (table : Rows) → AreRight fields.segments fields.units.items table → ArePieced fields.segments fields.units.items table
    → ArePast fields.units.items table fields.past → IsCalls (record fields { table = table })
rows_kept fields kept table right pieced past = record {
  few_segments = kept.few_segments;
  right = right;
  pieced = pieced;
  registered = kept.registered;
  numbered = kept.numbered;
  counted = kept.counted;
  few = kept.few;
  past = past;
}

-- fields that are seen alike are right alike
pub alike_kept : (fields after : Inside) → IsCalls fields → after.units.items ≡ fields.units.items → after.listeners ≡ fields.listeners → after.segments ≡ fields.segments → after.table ≡ fields.table
    → after.read ≡ fields.read → after.past ≡ fields.past → IsCalls after
alike_kept fields after kept units listeners segments table read past = record {
  few_segments = omega (arith, kept.few_segments, segments);
  right =
      subst (λ s. AreRight s after.units.items after.table) (sym segments)
      (subst (λ (us : List Unit). AreRight fields.segments us after.table) (sym units) (subst (λ (t : Rows). AreRight fields.segments fields.units.items t) (sym table) kept.right));
  pieced =
      subst (λ s. ArePieced s after.units.items after.table) (sym segments)
      (subst (λ (us : List Unit). ArePieced fields.segments us after.table) (sym units) (subst (λ (t : Rows). ArePieced fields.segments fields.units.items t) (sym table) kept.pieced));
  registered =
      subst (λ (us : List Unit). AreRegistered us after.listeners) (sym units) (subst (λ (m : Registered). AreRegistered fields.units.items m) (sym listeners) kept.registered);
  numbered = omega (arith, ap length units, kept.numbered);
  counted = read ∙ kept.counted ∙ ap read_by (sym units);
  few = omega (arith, read, kept.few);
  past =
      subst (λ n. ArePast after.units.items after.table n) (sym past)
      (subst (λ (us : List Unit). ArePast us after.table fields.past) (sym units) (subst (λ (t : Rows). ArePast fields.units.items t fields.past) (sym table) kept.past));
}

-- a unit that is asked is open, hasn't ended, and nothing of it flies
pub asked_open : (state : UnitState) → is_asked state ≡ true → state ≡ Asked
asked_open Asked h = refl
asked_open Running h = absurd (cc)
asked_open (Refused at) h = absurd (cc)
asked_open (Lost at) h = absurd (cc)
asked_open Ended h = absurd (cc)

-- a state that tests as running is Running
pub running_is : (state : UnitState) → is_running state ≡ true → state ≡ Running
running_is Asked h = absurd (cc)
running_is Running h = refl
running_is (Refused at) h = absurd (cc)
running_is (Lost at) h = absurd (cc)
running_is Ended h = absurd (cc)

-- what a unit that may end is
pub record MayEnd (u : Unit) : Type 0 where
  pub running : u.work.state ≡ Running
  pub landed : u.flying ≡ None

-- what tests as none is none
none_is : {A : Type 0} (o : Option A) → is_none o ≡ true → o ≡ None
none_is None h = refl
none_is (Some x) h = absurd (cc)

-- a unit that tests as one that may end may
pub may_end_is : (u : Unit) → may_end u ≡ true → MayEnd u
may_end_is u h =
    let rest = and_right (is_running u.work.state) (u.work.last && is_none u.flying) h in
    record {
      running = running_is u.work.state (and_left (is_running u.work.state) (u.work.last && is_none u.flying) h);
      landed = none_is u.flying (and_right u.work.last (is_none u.flying) rest);
    }

-- so may one that may read
pub may_read_is : (u : Unit) → may_read u ≡ true → MayEnd u
may_read_is u h =
    let rest = and_right (is_running u.work.state) (not u.work.last && is_none u.flying) h in
    record {
      running = running_is u.work.state (and_left (is_running u.work.state) (not u.work.last && is_none u.flying) h);
      landed = none_is u.flying (and_right (not u.work.last) (is_none u.flying) rest);
    }

-- where nothing flies, anything holds of what flies
pub nothing_flies : {A : Type 0} {P : Type 0} (o : Option A) → o ≡ None → is_some o ≡ true → P
nothing_flies o none h = absurd (let w = sym h ∙ ap is_some none in cc)

-- a unit is changed to the second one, rows to the second table
pub changed_kept : (fields : Inside) → IsCalls fields → (i : ℕ) (u v after : Unit) (table after_table : Rows) (listeners : Registered) (read : ℕ) → slice_get fields.units.items i ≡ Some u
    → after ≡ v → after_table ≡ table → read + length u.work.entries ≡ fields.read + length v.work.entries → read ≤ MOST_READ
    → AreRight fields.segments (slice_set fields.units.items i v) table → ArePieced fields.segments (slice_set fields.units.items i v) table
    → ArePast (slice_set fields.units.items i v) table fields.past → AreRegistered (slice_set fields.units.items i v) listeners
    → IsCalls (record fields { units = with_item fields.units i after; table = after_table; listeners = listeners; read = read })
changed_kept fields kept i u v after table after_table listeners read at unit_is table_is counted few right pieced past registered =
    unit_kept fields kept i u after after_table listeners read at
    (let same : length after.work.entries ≡ length v.work.entries = ap (λ (x : Unit). length x.work.entries) unit_is in omega (arith, counted, same)) few
    (subst (λ (x : Unit). AreRight fields.segments (slice_set fields.units.items i x) after_table) (sym unit_is)
    (subst (λ (t : Rows). AreRight fields.segments (slice_set fields.units.items i v) t) (sym table_is) right))
    (subst (λ (x : Unit). ArePieced fields.segments (slice_set fields.units.items i x) after_table) (sym unit_is)
    (subst (λ (t : Rows). ArePieced fields.segments (slice_set fields.units.items i v) t) (sym table_is) pieced))
    (subst (λ (x : Unit). ArePast (slice_set fields.units.items i x) after_table fields.past) (sym unit_is)
    (subst (λ (t : Rows). ArePast (slice_set fields.units.items i v) t fields.past) (sym table_is) past))
    (subst (λ (x : Unit). AreRegistered (slice_set fields.units.items i x) listeners) (sym unit_is) registered)

-- then the unit of the number is seen as changed
pub changed_seen : (fields : Inside) → IsCalls fields → (number i : ℕ) (u after : Unit) (table : Rows) (change : Unit → Unit) → i ≡ number - 1 → 1 ≤ number
    → slice_get fields.units.items (number - 1) ≡ Some u → after ≡ change u → calls_in table ≡ calls_in fields.table
    → ◌≡◌ {A = Calling} (record { segments = fields.segments; units = slice_set fields.units.items i after; calls = calls_in table }) (changes_unit number change (calling_of fields))
changed_seen fields kept number i u after table change place positive at is calls =
    seen_alike fields.segments (slice_set fields.units.items i after) (with_unit number change fields.units.items) (calls_in table) (calls_in fields.table)
    ((λ k. slice_set fields.units.items (place k) (is k)) ∙ sym (with_unit-there fields.units.items number u change (numbers fields kept) positive at))
    calls

-- the row of a number passes a test that each row of that number passes
is_one_row : (test : Row → Bool) (rows : Rows) (n : ℕ) (o : Option Row) → map_of.get rows n ≡ o → is_some o ≡ true → ((row : Row) → map_of.get rows n ≡ Some row → test row ≡ true) → is_one test o ≡ true
is_one_row test rows n None at some_ h = absurd (cc)
is_one_row test rows n (Some row) at some_ h = h row at

-- a number and none before it is the number
plus_zero : (n : ℕ) → 0 + n ≡ n
plus_zero n = omega arith

-- a number that is less tests as less
below : {m n : ℕ} → m < n → nat_lt m n ≡ true
below l = grind (arith, nat_tests)

-- a piece may be booked for the segment of a unit of the call
within_parts : (segments : ℕ) (units : List Unit) (n : ℕ) (call : Call) (s : ℕ) (o : Option Parts) → s < segments → HasParts segments units n call o → is_within s o ≡ true
within_parts segments units n call s None l has = refl
within_parts segments units n call s (Some parts) l has = let wide = has.wide in let inside : s < segments_of parts.booked = omega (arith, wide, l) in below inside

-- the row of an open unit's call may close the unit's segment
may_close_row : (segments : ℕ) (units : List Unit) (rows : Rows) (i : ℕ) (u : Unit) → AreRight segments units rows → ArePieced segments units rows → slice_get units i ≡ Some u → is_open_unit u ≡ true
    → (row : Row) → map_of.get rows u.work.call ≡ Some row → may_close u.work.segment row ≡ true
may_close_row segments units rows i u right pieced at open_ row g =
    let kept = right.kept u.work.call row g in
    let busy = both_true (u.work.call == u.work.call) (is_open_unit u) (itself u.work.call) open_ in
    let some_ = count_some (is_busy u.work.call) units i u at busy in
    let more : 0 < row.tally.unended = omega (arith, some_, kept.tally.unended, length-filter (is_busy u.work.call) units) in
    both_true (nat_lt 0 row.tally.unended) (is_within u.work.segment row.parts) (below more)
    (within_parts segments units u.work.call row.call u.work.segment row.parts (right.placed i u at).within (pieced.parts u.work.call row g))

-- the call of an open unit counts one that is open, and a piece may be booked for its segment
pub may_close_it : (segments : ℕ) (units : List Unit) (rows : Rows) (i : ℕ) (u : Unit) → AreRight segments units rows → ArePieced segments units rows → slice_get units i ≡ Some u → is_open_unit u ≡ true
    → is_one (may_close u.work.segment) (map_of.get rows u.work.call) ≡ true
may_close_it segments units rows i u right pieced at open_ =
    is_one_row (may_close u.work.segment) rows u.work.call (map_of.get rows u.work.call) refl (right.placed i u at).there (may_close_row segments units rows i u right pieced at open_)

-- and its segment is incomplete
pub may_end_it : (segments : ℕ) (units : List Unit) (rows : Rows) (i : ℕ) (u : Unit) → AreRight segments units rows → ArePieced segments units rows → slice_get units i ≡ Some u → is_open_unit u ≡ true
    → is_one (may_end_one u.work.segment) (map_of.get rows u.work.call) ≡ true
may_end_it segments units rows i u right pieced at open_ =
    is_one_row (may_end_one u.work.segment) rows u.work.call (map_of.get rows u.work.call) refl (right.placed i u at).there (λ row g.
    let kept = right.kept u.work.call row g in
    let busy = both_true (u.work.call == u.work.call) (is_open_unit u) (itself u.work.call) open_ in
    let p : ℕ → Bool = λ (s : ℕ). not (set_of.contains row.tally.complete s) in
    let inside = (right.placed i u at).within in
    let one_left = count_some p (range_with_len 0 segments) u.work.segment (0 + u.work.segment) (get-range 0 segments u.work.segment inside)
    (ap (λ k. not (set_of.contains row.tally.complete k)) (plus_zero u.work.segment) ∙ ap not (kept.tally.complete u.work.segment ∙ kept.round.incomplete i u at busy)) in
    let left : 0 < row.tally.left = omega (arith, one_left, kept.tally.left, length-filter p (range_with_len 0 segments)) in
    both_true (nat_lt 0 row.tally.left) (may_close u.work.segment row) (below left) (may_close_row segments units rows i u right pieced at open_ row g))

-- what passes a test is there
pub one_at : {A : Type 0} (test : A → Bool) (o : Option A) → is_one test o ≡ true → (x : A) × (o ≡ Some x) × (test x ≡ true)
one_at test None h = absurd (cc)
one_at test (Some x) h = (x, refl, h)

-- a unit that is open hasn't ended
pub open_not_ended : (state : UnitState) → is_open state ≡ true → is_ended state ≡ false
open_not_ended Asked h = refl
open_not_ended Running h = refl
open_not_ended (Refused at) h = refl
open_not_ended (Lost at) h = refl
open_not_ended Ended h = absurd (cc)

-- a running unit is open
pub running_open : (state : UnitState) → is_running state ≡ true → is_open state ≡ true
running_open Asked h = refl
running_open Running h = refl
running_open (Refused at) h = absurd (cc)
running_open (Lost at) h = absurd (cc)
running_open Ended h = absurd (cc)

-- nothing stands at any place of an empty list
none_there : {X : Type 0} {P : Type 0} (xs : List X) (i : ℕ) (x : X) → xs ≡ [] → slice_get xs i ≡ Some x → P
none_there xs i x none at = not_some x (sym (ap (λ (ys : List _). slice_get ys i) none) ∙ at)

-- nothing was asked yet
pub nothing_kept : (fields : Inside) → fields.units.items ≡ [] → fields.table ≡ map_of.empty → fields.segments ≤ 256 → fields.read ≡ 0 → fields.past ≡ 0
    → AreRegistered fields.units.items fields.listeners → IsCalls fields
nothing_kept fields none empty few read past registered = record {
  few_segments = few;
  right = record {
    placed = λ i u at. none_there fields.units.items i u none at;
    kept = λ n row at. not_some row (sym (ap (λ (t : Rows). map_of.get t n) empty ∙ map_of.get-empty nat_cmp n) ∙ at);
  };
  pieced = record {
    unread = λ i u at. none_there fields.units.items i u none at;
    newest = λ i j u z at zt. none_there fields.units.items i u none at;
    parts = λ n row at. not_some row (sym (ap (λ (t : Rows). map_of.get t n) empty ∙ map_of.get-empty nat_cmp n) ∙ at);
  };
  registered = registered;
  numbered = omega (arith, ap length none);
  counted = read ∙ ap read_by (sym none);
  few = omega (arith, read);
  past = subst (ArePast fields.units.items fields.table) (sym past) (past_none fields.units.items fields.table);
}

-- no rows have no calls
pub no_calls_in : calls_in map_of.empty ≡ map_of.empty
no_calls_in = map_of.same_map nat_cmp_total nat_cmp-IsAntisymmetric _ _ (λ q.
    get-calls_in map_of.empty q
    ∙ ap (option_map (λ (r : Row). r.call)) (map_of.get-empty nat_cmp q)
    ∙ sym (map_of.get-empty nat_cmp q))

-- a unit that is found is on a segment that there is, and its call is there
abbrev pub IsFoundWithin : Calling → ℕ → Type 0
IsFoundWithin x n = (u : Unit) → unit_in x.units n ≡ Some u → (u.work.segment < x.segments) × (is_some (call_of x u.work.call) ≡ true)

-- a row's call is there exactly where the row is
mapped_there : (o : Option Row) → is_some (option_map (λ (r : Row). r.call) o) ≡ is_some o
mapped_there None = refl
mapped_there (Some row) = refl

-- a unit that is found has a number within the list
pub found_within : (fields : Inside) → IsCalls fields → (n : ℕ) → IsFoundWithin (calling_of fields) n
found_within fields kept n u is =
    let place = find_place (λ (x : Unit). x.work.id == n) fields.units.items u is in
    let placed = kept.right.placed place.0 u place.1 in
    (placed.within, ap is_some (get-calls_in fields.table u.work.call) ∙ mapped_there (map_of.get fields.table u.work.call) ∙ placed.there)
