-- What is booked for the calls stays right.
use Rattle.std.proofs.Common.{◌≡◌, ◌≢◌, inl, inr, ℕ, ◌≤◌, ◌<◌, Bool, true, false, cond, not, ◌&&◌, ◌||◌, ◌==◌, List, [], ◌∷◌, ◌++◌, map, Option, Some, None, is_none, refl, sym, ap, subst, ◌∙◌, arith}
use Rattle.std.proofs.lemmas.Bool.Decides.{nat_tests}
use Rattle.std.specs.FinMap as map_of
use Rattle.std.specs.List.{range_with_len}
use Rattle.std.specs.Option.{option_map}
use Rattle.std.specs.Prelude.{slice_get, slice_set}
use Rattle.delivery_mode.specs.declared.guarantee.Guarantee.{Guarantee}
use Rattle.delivery_mode.specs.Guarantee.{keeps_lost}
use Rattle.grid_event.specs.declared.request.Request.{Request}
use Rattle.local_publisher.specs.Stages.{is_open}
use Rattle.local_publisher.specs.declared.unit_state.UnitState.{UnitState}
use Rattle.local_publisher.specs.declared.unit_state.UnitState.TheVariants.{Asked, Running, Refused, Lost, Ended}
use Rattle.pipeline_split.specs.Halves.{local_of, remote_of}
use Rattle.pipeline_split.specs.Pieces.{piece}
use Rattle.pipeline_split.specs.declared.halves.Remote.{Remote}
use Rattle.pipeline_split.specs.declared.piece.Piece.{Piece}
use Rattle.cluster_model.specs.State.{Call, Unit, is_ended, is_lost, is_of, is_on, is_open_unit, is_walk}
use Rattle.cluster_calls.specs.Insides.{ArePieced}
use Rattle.cluster_calls.specs.Parts.{HasParts, IsParts, booked_units, booking, booking_by, booking_in, has_begun, is_booked, is_parted, part_on, piece_by, read_of, with_booking, with_option}
use Rattle.cluster_calls.specs.Rows.{Rows, calls_in, changes_row}
use Rattle.cluster_calls.specs.declared.parts.Parts.{Parts}
use Rattle.cluster_calls.specs.declared.row.Row.{Row}
use Rattle.cluster_calls.proofs.ListLaws.{set_cases}
use Rattle.cluster_calls.proofs.PartLists.{filter-more_out, filter-set_last, filter-set_out, map-range_set, map_alike}
use Rattle.cluster_calls.proofs.RightLaws.{and_none, and_none_right, both_true, changed_cases, itself, of_other, set_alike}
use Rattle.cluster_calls.proofs.BothLaws.{and_left, and_right}
use Rattle.cluster_calls.proofs.RowTables.{equal, get-calls_in}
use Rattle.cluster_calls.proofs.UnitLaws.{Alike}

-- the unit is one of the call on the segment, and booked
abbrev pub is_counted : ℕ → Call → ℕ → Unit → Bool
is_counted n call s unit = is_on n s unit && is_booked call unit

-- an open unit isn't booked
unbooked_by : (guarantee : Guarantee) (state : UnitState) → is_open state ≡ true → (is_ended state || (is_lost state && keeps_lost guarantee)) ≡ false
unbooked_by guarantee Asked h = refl
unbooked_by guarantee Running h = refl
unbooked_by guarantee (Refused at) h = refl
unbooked_by guarantee (Lost at) h = absurd (cc)
unbooked_by guarantee Ended h = absurd (cc)

-- an open unit isn't booked
pub open_unbooked : (call : Call) (u : Unit) → is_open_unit u ≡ true → is_booked call u ≡ false
open_unbooked call u h = unbooked_by call.request.guarantee u.work.state h

-- a unit that isn't booked comes in the place of one that wasn't
pub part-set_out : (units : List Unit) (i : ℕ) (u v : Unit) (n : ℕ) (call : Call) (s : ℕ) → slice_get units i ≡ Some u → is_booked call u ≡ false → is_booked call v ≡ false
    → part_on (slice_set units i v) n call s ≡ part_on units n call s
part-set_out units i u v n call s at was is =
    ap (piece_by (remote_of call.request.pipeline))
    (filter-set_out (is_counted n call s) units i u v at (and_none_right (is_on n s u) (is_booked call u) was) (and_none_right (is_on n s v) (is_booked call v) is))

-- a unit that isn't of the call and segment comes in the place of one that wasn't
pub part-set_off : (units : List Unit) (i : ℕ) (u v : Unit) (n : ℕ) (call : Call) (s : ℕ) → slice_get units i ≡ Some u → is_on n s u ≡ false → is_on n s v ≡ false
    → part_on (slice_set units i v) n call s ≡ part_on units n call s
part-set_off units i u v n call s at was is =
    ap (piece_by (remote_of call.request.pipeline))
    (filter-set_out (is_counted n call s) units i u v at (and_none (is_on n s u) (is_booked call u) was) (and_none (is_on n s v) (is_booked call v) is))

-- further units that aren't booked
pub part-more_out : (units more : List Unit) (n : ℕ) (call : Call) (s : ℕ) → ((k : ℕ) (u : Unit) → slice_get more k ≡ Some u → is_booked call u ≡ false)
    → part_on (units ++ more) n call s ≡ part_on units n call s
part-more_out units more n call s out =
    ap (piece_by (remote_of call.request.pipeline))
    (filter-more_out (is_counted n call s) units more (λ k u at. and_none_right (is_on n s u) (is_booked call u) (out k u at)))

-- where each part stays, so does what is booked
pub parts_alike : (segments : ℕ) (units after : List Unit) (n : ℕ) (call : Call) → ((s : ℕ) → part_on units n call s ≡ part_on after n call s)
    → (o : Option Parts) → HasParts segments units n call o → HasParts segments after n call o
parts_alike segments units after n call same None has = has
parts_alike segments units after n call same (Some parts) has = record {
  parted = has.parted;
  remote = has.remote;
  local = has.local;
  wide = has.wide;
  booked = has.booked ∙ map_alike (part_on units n call) (part_on after n call) same (range_with_len 0 segments);
}

-- a call with the same request that is answered as little
pub same_request : (segments : ℕ) (units : List Unit) (n : ℕ) (call other : Call) → call.request ≡ other.request → call.outcome ≡ other.outcome
    → (o : Option Parts) → HasParts segments units n call o → HasParts segments units n other o
same_request segments units n call other requests outcomes None has =
    (λ i. is_none (sym outcomes i) && not (is_walk (sym requests i))) ∙ has
same_request segments units n call other requests outcomes (Some parts) has = record {
  parted = (λ i. is_none (sym outcomes i) && not (is_walk (sym requests i))) ∙ has.parted;
  remote = has.remote ∙ ap (λ (r : Request). remote_of r.pipeline) requests;
  local = has.local ∙ ap (λ (r : Request). local_of r.pipeline) requests;
  wide = has.wide;
  booked = has.booked ∙ map_alike (part_on units n call) (part_on units n other) (λ s. ap (λ (r : Request). part_on units n (record call { request = r }) s) requests) (range_with_len 0 segments);
}

-- the piece of one unit more
piece_by-push : (remote : Remote) (units : List Unit) (v : Unit) → piece_by remote (units ++ v ∷ []) ≡ Some (piece remote (read_of (units ++ v ∷ [])))
piece_by-push remote [] v = refl
piece_by-push remote (u ∷ units) v = refl

-- a unit that was open is booked: its piece is the one of what was booked and of what it read
pub part-set_last : (units : List Unit) (i : ℕ) (u v : Unit) (call : Call) → slice_get units i ≡ Some u → Alike u v → is_open_unit u ≡ true → is_booked call v ≡ true
    → ((j : ℕ) (z : Unit) → slice_get units j ≡ Some z → z.work.call ≡ u.work.call → z.work.segment ≡ u.work.segment → j ≤ i)
    → part_on (slice_set units i v) v.work.call call v.work.segment
    ≡ Some (piece (remote_of call.request.pipeline) (read_of (booked_units units v.work.call call v.work.segment ++ v ∷ [])))
part-set_last units i u v call at a was is newest =
    let n = v.work.call in
    let s = v.work.segment in
    ap (piece_by (remote_of call.request.pipeline))
    (filter-set_last (is_counted n call s) units i u v at
    (and_none_right (is_on n s u) (is_booked call u) (open_unbooked call u was))
    (both_true (is_on n s v) (is_booked call v) (both_true (v.work.call == n) (v.work.segment == s) (itself n) (itself s)) is)
    (λ j z g l. and_none (is_on n s z) (is_booked call z) (apart j z g l)))
    ∙ piece_by-push (remote_of call.request.pipeline) (booked_units units n call s) v
  where
    refused : (b : Bool) → (b ≡ true → ⊥) → b ≡ false
    refused true h = absurd (h refl)
    refused false h = refl

    apart : (j : ℕ) (z : Unit) → slice_get units j ≡ Some z → i < j → is_on v.work.call v.work.segment z ≡ false
    apart j z g l = refused (is_on v.work.call v.work.segment z) (λ on.
        let called = equal z.work.call v.work.call (and_left (z.work.call == v.work.call) (z.work.segment == v.work.segment) on) in
        let here = equal z.work.segment v.work.segment (and_right (z.work.call == v.work.call) (z.work.segment == v.work.segment) on) in
        let low = newest j z g (called ∙ a.call) (here ∙ a.segment) in
        omega (arith, low, l))

-- what is booked for other segments stays
part-set_apart : (units : List Unit) (i : ℕ) (u v : Unit) (n : ℕ) (call : Call) (s : ℕ) → slice_get units i ≡ Some u → Alike u v → s ≢ v.work.segment
    → part_on (slice_set units i v) n call s ≡ part_on units n call s
part-set_apart units i u v n call s at a apart =
    let no_tie : (v.work.segment == s) ≡ false = grind (arith, nat_tests) in
    part-set_off units i u v n call s at (and_none_right (is_of n u) (u.work.segment == s) (ap (λ k. k == s) (sym a.segment) ∙ no_tie)) (and_none_right (is_of n v) (v.work.segment == s) no_tie)

-- the row of a call of which a unit was open and isn't any longer
pub parts_closed : (segments : ℕ) (units : List Unit) (i : ℕ) (u v : Unit) (call : Call) (made : Option Piece) (o : Option Parts) → slice_get units i ≡ Some u → Alike u v
    → is_open_unit u ≡ true → ((j : ℕ) (z : Unit) → slice_get units j ≡ Some z → z.work.call ≡ u.work.call → z.work.segment ≡ u.work.segment → j ≤ i)
    → made ≡ booking units v call → HasParts segments units v.work.call call o
    → HasParts segments (slice_set units i v) v.work.call call (with_booking v.work.segment made o)
parts_closed segments units i u v call made None at a was newest is has = has
parts_closed segments units i u v call made (Some parts) at a was newest is has = by (is_booked call v) refl
  where
    more : Piece
    more = piece (remote_of call.request.pipeline) (read_of (booked_units units v.work.call call v.work.segment ++ v ∷ []))

    by : (b : Bool) → is_booked call v ≡ b → IsParts segments (slice_set units i v) v.work.call call (with_option v.work.segment made parts)
    by true booked =
        let one : made ≡ Some more = is ∙ ap (λ t. cond t (Some more) None) (both_true (is_parted call) (is_booked call v) has.parted booked) in
        subst (λ m. IsParts segments (slice_set units i v) v.work.call call (with_option v.work.segment m parts)) (sym one) (record {
          parted = has.parted;
          remote = has.remote;
          local = has.local;
          wide = has.wide;
          booked =
              let part = part-set_last units i u v call at a was booked newest in
              ap (λ bs. slice_set bs v.work.segment (Some more)) has.booked
              ∙ ap (λ p. slice_set (map (part_on units v.work.call call) (range_with_len 0 segments)) v.work.segment p) (sym part)
              ∙ map-range_set (part_on units v.work.call call) (part_on (slice_set units i v) v.work.call call) v.work.segment v.work.segment 0 segments (omega arith)
              (λ t apart. sym (part-set_apart units i u v v.work.call call t at a apart));
        })
    by false out =
        let none : made ≡ None = is ∙ ap (λ t. cond t (Some more) None) (and_none_right (is_parted call) (is_booked call v) out) in
        subst (λ m. IsParts segments (slice_set units i v) v.work.call call (with_option v.work.segment m parts)) (sym none)
        (parts_alike segments units (slice_set units i v) v.work.call call (λ s. sym (part-set_out units i u v v.work.call call s at (open_unbooked call u was) out)) (Some parts) has)

-- an open unit stays the newest of its call on its segment
newest_set : (units : List Unit) (i : ℕ) (u v : Unit) → slice_get units i ≡ Some u → Alike u v → (is_open_unit v ≡ true → is_open_unit u ≡ true)
    → ((j k : ℕ) (y z : Unit) → slice_get units j ≡ Some y → slice_get units k ≡ Some z → is_open_unit y ≡ true → z.work.call ≡ y.work.call → z.work.segment ≡ y.work.segment → k ≤ j)
    → (j k : ℕ) (y z : Unit) → slice_get (slice_set units i v) j ≡ Some y → slice_get (slice_set units i v) k ≡ Some z → is_open_unit y ≡ true
    → z.work.call ≡ y.work.call → z.work.segment ≡ y.work.segment → k ≤ j
newest_set units i u v at a opened newest j k y z yt zt open_ calls segments_ =
    let w = set_alike units i u v k z at a zt in
    elim (set_cases units i j v y yt) [
      | inl e ↦
          newest j k u w.0 (ap (slice_get units) e.0 ∙ at) w.1 (opened (ap is_open_unit (sym e.1) ∙ open_))
          (sym w.2.call ∙ calls ∙ ap (λ (x : Unit). x.work.call) e.1 ∙ a.call) (sym w.2.segment ∙ segments_ ∙ ap (λ (x : Unit). x.work.segment) e.1 ∙ a.segment)
      | inr e ↦ newest j k y w.0 e.1 w.1 open_ (sym w.2.call ∙ calls) (sym w.2.segment ∙ segments_)
    ]

-- of units that didn't begin nothing was read
unread_set : (units : List Unit) (i : ℕ) (v : Unit) → (has_begun v.work.state ≡ false → v.work.entries ≡ [])
    → ((j : ℕ) (z : Unit) → slice_get units j ≡ Some z → has_begun z.work.state ≡ false → z.work.entries ≡ [])
    → (j : ℕ) (z : Unit) → slice_get (slice_set units i v) j ≡ Some z → has_begun z.work.state ≡ false → z.work.entries ≡ []
unread_set units i v fresh unread j z at began =
    elim (set_cases units i j v z at) [
      | inl e ↦ ap (λ (x : Unit). x.work.entries) e.1 ∙ fresh (ap (λ (x : Unit). has_begun x.work.state) (sym e.1) ∙ began)
      | inr e ↦ unread j z e.1 began
    ]

-- a unit that was open and is so still
pub pieced_open : (segments : ℕ) (units : List Unit) (rows : Rows) (i : ℕ) (u v : Unit) → ArePieced segments units rows → slice_get units i ≡ Some u → Alike u v
    → is_open_unit u ≡ true → is_open_unit v ≡ true → (has_begun v.work.state ≡ false → v.work.entries ≡ []) → ArePieced segments (slice_set units i v) rows
pieced_open segments units rows i u v pieced at a was is fresh = record {
  unread = unread_set units i v fresh pieced.unread;
  newest = newest_set units i u v at a (λ e. was) pieced.newest;
  parts = λ n row g.
      parts_alike segments units (slice_set units i v) n row.call
      (λ s. sym (part-set_out units i u v n row.call s at (open_unbooked row.call u was) (open_unbooked row.call v is))) row.parts (pieced.parts n row g);
}

-- a unit that was open and isn't any longer
pub pieced_closed : (segments : ℕ) (units : List Unit) (rows : Rows) (i : ℕ) (u v : Unit) (made : Option Piece) (change : Row → Row) → ArePieced segments units rows
    → slice_get units i ≡ Some u → Alike u v → is_open_unit u ≡ true → (is_open_unit v ≡ true → is_open_unit u ≡ true) → (has_begun v.work.state ≡ false → v.work.entries ≡ [])
    → ((row : Row) → (change row).call ≡ row.call) → ((row : Row) → (change row).parts ≡ with_booking v.work.segment made row.parts)
    → ((row : Row) → map_of.get rows v.work.call ≡ Some row → made ≡ booking units v row.call)
    → ArePieced segments (slice_set units i v) (changes_row v.work.call change rows)
pieced_closed segments units rows i u v made change pieced at a was opened fresh calls partss is = record {
  unread = unread_set units i v fresh pieced.unread;
  newest = newest_set units i u v at a opened pieced.newest;
  parts = λ n row g. elim (changed_cases rows v.work.call change n row g) [
    | inl e ↦
        let w = e.1.0 in
        let done = parts_closed segments units i u v w.call made w.parts at a was (λ j z zt. pieced.newest i j u z at zt was) (is w e.1.1) (pieced.parts v.work.call w e.1.1) in
        let same = subst (λ o. HasParts segments (slice_set units i v) v.work.call w.call o) (sym (partss w)) done in
        let called = subst (λ (c : Call). HasParts segments (slice_set units i v) v.work.call c (change w).parts) (sym (calls w)) same in
        subst (λ (r : Row). HasParts segments (slice_set units i v) n r.call r.parts) (sym e.1.2)
        (subst (λ m. HasParts segments (slice_set units i v) m (change w).call (change w).parts) (sym e.0) called)
    | inr e ↦
        let neither = of_other u v n v.work.call a (sym a.call) e.0 in
        parts_alike segments units (slice_set units i v) n row.call
        (λ s. sym (part-set_off units i u v n row.call s at (and_none (is_of n u) (u.work.segment == s) neither.0) (and_none (is_of n v) (v.work.segment == s) neither.1))) row.parts
        (pieced.parts n row e.1)
  ];
}

-- units stay, and for each row its pieces are booked
pub pieced_rows : (segments : ℕ) (units : List Unit) (rows after : Rows) → ArePieced segments units rows
    → ((n : ℕ) (row : Row) → map_of.get after n ≡ Some row → HasParts segments units n row.call row.parts) → ArePieced segments units after
pieced_rows segments units rows after pieced has = record { unread = pieced.unread; newest = pieced.newest; parts = has }

-- a row is changed, and its pieces are booked
pub pieced_call : (segments : ℕ) (units : List Unit) (rows : Rows) (number : ℕ) (change : Row → Row) → ArePieced segments units rows
    → ((row : Row) → HasParts segments units number row.call row.parts → HasParts segments units number (change row).call (change row).parts)
    → ArePieced segments units (changes_row number change rows)
pieced_call segments units rows number change pieced has =
    pieced_rows segments units rows (changes_row number change rows) pieced (λ n row g. elim (changed_cases rows number change n row g) [
      | inl e ↦
          subst (λ (r : Row). HasParts segments units n r.call r.parts) (sym e.1.2)
          (subst (λ m. HasParts segments units m (change e.1.0).call (change e.1.0).parts) (sym e.0) (has e.1.0 (pieced.parts number e.1.0 e.1.1)))
      | inr e ↦ pieced.parts n row e.1
    ])

-- a unit that runs has begun
pub began : {P : Type 0} (state : UnitState) → state ≡ Running → has_begun state ≡ false → P
began state is e = absurd (let w = sym e ∙ ap has_begun is in cc)

-- nothing is to be booked of a unit that isn't booked
pub booking_none : (units : List Unit) (v : Unit) (call : Call) → is_booked call v ≡ false → None ≡ booking units v call
booking_none units v call out =
    sym (ap (λ t. cond t (Some (piece (remote_of call.request.pipeline) (read_of (booked_units units v.work.call call v.work.segment ++ v ∷ [])))) None)
    (and_none_right (is_parted call) (is_booked call v) out))

-- what is to be booked by the call of a row
pub booking_row : (segments : ℕ) (units : List Unit) (rows : Rows) (v : Unit) (row : Row) → map_of.get rows v.work.call ≡ Some row
    → booking_in (record { segments = segments; units = units; calls = calls_in rows }) v ≡ booking units v row.call
booking_row segments units rows v row g = ap (booking_by units v) (get-calls_in rows v.work.call ∙ ap (option_map (λ (r : Row). r.call)) g)
