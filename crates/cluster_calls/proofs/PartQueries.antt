-- What is booked, and what is to be booked, by the rows of the calls.
use Rattle.std.proofs.Common.{◌≡◌, ℕ, zero, suc, ◌+◌, ◌≤◌, ◌<◌, Bool, true, false, cond, not, ◌&&◌, ◌||◌, List, [], ◌∷◌, ◌++◌, Option, Some, None, is_some, refl, sym, ap, subst, ◌∙◌, arith}
use Rattle.std.specs.FinMap as map_of
use Rattle.std.specs.List.{list_all, range_with_len}
use Rattle.std.specs.Option.{option_map}
use Rattle.std.specs.Prelude.{slice_get, slice_index_or, unwrap_or}
use Rattle.delivery_mode.specs.Guarantee.{keeps_lost}
use Rattle.local_publisher.specs.Units.{ended}
use Rattle.pipeline_split.specs.Halves.{remote_of}
use Rattle.pipeline_split.specs.Pieces.{joined, piece}
use Rattle.pipeline_split.specs.declared.piece.Piece.{Piece}
use Rattle.pipeline_split.specs.declared.piece.Piece.TheVariants.{Nothing}
use Rattle.reduce_cluster.specs.Reduced.{booked_for, share_of}
use Rattle.cluster_model.specs.State.{Call, Calling, Unit, call_of, is_of, is_on, is_open_unit, with_loss}
use Rattle.cluster_model.specs.Topologies.{is_complete}
use Rattle.cluster_model.specs.Calls.{any_open}
use Rattle.cluster_calls.specs.Calling.{is_one}
use Rattle.cluster_calls.specs.Insides.{ArePieced, AreRight}
use Rattle.cluster_calls.specs.Parts.{HasParts, IsParts, booked_units, booking, booking_by, booking_in, is_booked, is_parted, part_by, part_in, part_on, piece_by, read_of}
use Rattle.cluster_calls.specs.Rows.{Rows, calls_in}
use Rattle.cluster_calls.specs.declared.parts.Parts.{Parts}
use Rattle.cluster_calls.specs.declared.row.Row.{Row}
use Rattle.cluster_calls.proofs.AnswerLaws.{piece-push, read-push}
use Rattle.cluster_calls.proofs.ListLaws.{any_at, not_some, same_some}
use Rattle.cluster_calls.proofs.PartLaws.{booking_none, booking_row, is_counted}
use Rattle.cluster_calls.proofs.PartLists.{filter_none, index-map_range}
use Rattle.cluster_calls.proofs.QueryLaws.{no_segment}
use Rattle.cluster_calls.proofs.RightLaws.{and_none, both_true}
use Rattle.cluster_calls.proofs.RoundLaws.{get-range}
use Rattle.cluster_calls.proofs.RowTables.{get-calls_in}
use Rattle.cluster_calls.proofs.BothLaws.{and_left, and_right}
use Rattle.cluster_calls.proofs.UnitLaws.{is_busy}

-- a choice between none and none is none
cond_none : {A : Type 0} (b : Bool) (o : Option A) → o ≡ None → None ≡ cond b o None
cond_none true o h = sym h
cond_none false o h = refl

-- nothing is booked past the last segment
past_by : (segments : ℕ) (units : List Unit) (rows : Rows) (n s : ℕ) → AreRight segments units rows → segments ≤ s → (o : Option Call) → None ≡ part_by units n s o
past_by segments units rows n s right past None = refl
past_by segments units rows n s right past (Some call) =
    cond_none (is_parted call) (part_on units n call s)
    (ap (piece_by (remote_of call.request.pipeline))
    (filter_none (is_counted n call s) units (λ i u at. and_none (is_on n s u) (is_booked call u) (no_segment segments units rows n s right past i u at))))

-- no piece is booked for a segment that there isn't
pub past_part : (segments : ℕ) (units : List Unit) (rows : Rows) (n s : ℕ) → AreRight segments units rows → segments ≤ s
    → None ≡ part_in (record { segments = segments; units = units; calls = calls_in rows }) n s
past_part segments units rows n s right past = past_by segments units rows n s right past (map_of.get (calls_in rows) n)

-- nor of a call that isn't there
pub absent_part : (segments : ℕ) (units : List Unit) (rows : Rows) (n s : ℕ) → map_of.get rows n ≡ None → None ≡ part_in (record { segments = segments; units = units; calls = calls_in rows }) n s
absent_part segments units rows n s absent = sym (ap (part_by units n s) (get-calls_in rows n ∙ ap (option_map (λ (r : Row). r.call)) absent))

-- what is lent of a row
abbrev lent_part : Option Parts → ℕ → Option Piece
lent_part None s = None
lent_part (Some parts) s = booked_for parts.booked s

-- what is lent of a call's parts is the part of the segment, where parts are kept
lent_by : (segments : ℕ) (units : List Unit) (n : ℕ) (call : Call) (s : ℕ) (o : Option Parts) → s < segments → HasParts segments units n call o → lent_part o s ≡ cond (is_parted call) (part_on units n call s) None
lent_by segments units n call s None l has = sym (ap (λ b. cond b (part_on units n call s) None) has)
lent_by segments units n call s (Some parts) l has =
    ap (λ (bs : List (Option Piece)). slice_index_or bs s None) has.booked
    ∙ index-map_range (part_on units n call) None s s 0 segments (omega arith) l
    ∙ sym (ap (λ b. cond b (part_on units n call s) None) has.parted)

-- what is lent of a row's parts is the part that the state says
part_of_row : (segments : ℕ) (units : List Unit) (rows : Rows) (n s : ℕ) (row : Row) → ArePieced segments units rows → s < segments → map_of.get rows n ≡ Some row
    → lent_part row.parts s ≡ part_in (record { segments = segments; units = units; calls = calls_in rows }) n s
part_of_row segments units rows n s row pieced l at =
    lent_by segments units n row.call s row.parts l (pieced.parts n row at)
    ∙ sym (ap (part_by units n s) (get-calls_in rows n ∙ ap (option_map (λ (r : Row). r.call)) at))

-- where a row keeps no pieces, none is booked
pub none_part : (segments : ℕ) (units : List Unit) (rows : Rows) (n s : ℕ) (row : Row) → ArePieced segments units rows → s < segments → map_of.get rows n ≡ Some row → row.parts ≡ None
    → None ≡ part_in (record { segments = segments; units = units; calls = calls_in rows }) n s
none_part segments units rows n s row pieced l at none =
    ap (λ o. lent_part o s) (sym none) ∙ part_of_row segments units rows n s row pieced l at

-- and else the one that it keeps
pub some_part : (segments : ℕ) (units : List Unit) (rows : Rows) (n s : ℕ) (row : Row) (parts : Parts) → ArePieced segments units rows → s < segments → map_of.get rows n ≡ Some row → row.parts ≡ Some parts
    → booked_for parts.booked s ≡ part_in (record { segments = segments; units = units; calls = calls_in rows }) n s
some_part segments units rows n s row parts pieced l at some_ =
    ap (λ o. lent_part o s) (sym some_) ∙ part_of_row segments units rows n s row pieced l at

-- the pieces that a row keeps are those of its call
pub parts_of_row : (segments : ℕ) (units : List Unit) (rows : Rows) (n : ℕ) (row : Row) (parts : Parts) → ArePieced segments units rows → map_of.get rows n ≡ Some row → row.parts ≡ Some parts
    → IsParts segments units n row.call parts
parts_of_row segments units rows n row parts pieced at some_ = subst (λ o. HasParts segments units n row.call o) some_ (pieced.parts n row at)

-- the row of a call that keeps no pieces is no unanswered reduction
pub no_parts_row : (segments : ℕ) (units : List Unit) (rows : Rows) (n : ℕ) (row : Row) → ArePieced segments units rows → map_of.get rows n ≡ Some row → row.parts ≡ None → is_parted row.call ≡ false
no_parts_row segments units rows n row pieced at none = subst (λ o. HasParts segments units n row.call o) none (pieced.parts n row at)

-- nothing is to be booked for a call that isn't there
pub absent_booking : (segments : ℕ) (units : List Unit) (rows : Rows) (v : Unit) → map_of.get rows v.work.call ≡ None
    → None ≡ booking_in (record { segments = segments; units = units; calls = calls_in rows }) v
absent_booking segments units rows v absent = sym (ap (booking_by units v) (get-calls_in rows v.work.call ∙ ap (option_map (λ (r : Row). r.call)) absent))

-- nor where a row keeps no pieces
pub none_booking : (segments : ℕ) (units : List Unit) (rows : Rows) (v : Unit) (row : Row) → ArePieced segments units rows → map_of.get rows v.work.call ≡ Some row → row.parts ≡ None
    → None ≡ booking_in (record { segments = segments; units = units; calls = calls_in rows }) v
none_booking segments units rows v row pieced at none =
    sym (booking_row segments units rows v row at
    ∙ ap (λ b. cond (b && is_booked row.call v) (Some (piece (remote_of row.call.request.pipeline) (read_of (booked_units units v.work.call row.call v.work.segment ++ v ∷ [])))) None)
    (no_parts_row segments units rows v.work.call row pieced at none))

-- and else what the row keeps, with the piece of what the unit read behind it
pub some_booking : (segments : ℕ) (units : List Unit) (rows : Rows) (v : Unit) (row : Row) (parts : Parts) (more : Piece) → ArePieced segments units rows → v.work.segment < segments
    → map_of.get rows v.work.call ≡ Some row → row.parts ≡ Some parts → is_booked row.call v ≡ true
    → more ≡ joined (share_of Nothing parts.booked v.work.segment) (piece (remote_of row.call.request.pipeline) v.work.entries)
    → Some more ≡ booking_in (record { segments = segments; units = units; calls = calls_in rows }) v
some_booking segments units rows v row parts more pieced l at some_ booked is =
    let n = v.work.call in
    let s = v.work.segment in
    let has = parts_of_row segments units rows n row parts pieced at some_ in
    let remote = remote_of row.call.request.pipeline in
    let all = piece remote (read_of (booked_units units n row.call s ++ v ∷ [])) in
    let share : booked_for parts.booked s ≡ part_on units n row.call s =
    ap (λ (bs : List (Option Piece)). slice_index_or bs s None) has.booked ∙ index-map_range (part_on units n row.call) None s s 0 segments (omega arith) l in
    ap Some (is ∙ ap (λ (o : Option Piece). joined (unwrap_or o Nothing) (piece remote v.work.entries)) share ∙ piece-push row.call.request.pipeline (booked_units units n row.call s) v)
    ∙ sym (ap (λ b. cond b (Some all) None) (both_true (is_parted row.call) (is_booked row.call v) has.parted booked))
    ∙ sym (booking_row segments units rows v row at)

-- where what lost units read counts, a lost unit is booked as an ended one is
lost_as_ended : (units : List Unit) (u : Unit) (at : Option ℕ) (call : Call) → keeps_lost call.request.guarantee ≡ true
    → booking units (record u { work = ended u.work }) call ≡ booking units (with_loss at u) call
lost_as_ended units u at call keeps =
    let before = booked_units units u.work.call call u.work.segment in
    let reads = read-push before (record u { work = ended u.work }) ∙ sym (read-push before (with_loss at u)) in
    (λ i. cond (is_parted call && sym keeps i) (Some (piece (remote_of call.request.pipeline) (reads i))) None)

-- what is to be booked of a lost unit is, where the guarantee keeps what it read, what would be booked had it ended
pub lost_booking : (x : Calling) (u : Unit) (at : Option ℕ) (call : Call) → call_of x u.work.call ≡ Some call → keeps_lost call.request.guarantee ≡ true
    → booking_in x (record u { work = ended u.work }) ≡ booking_in x (with_loss at u)
lost_booking x u at call is keeps =
    ap (booking_by x.units (record u { work = ended u.work })) is ∙ lost_as_ended x.units u at call keeps ∙ sym (ap (booking_by x.units (with_loss at u)) is)

-- and nothing where it doesn't
pub lost_nothing : (x : Calling) (u : Unit) (at : Option ℕ) (call : Call) → call_of x u.work.call ≡ Some call → keeps_lost call.request.guarantee ≡ false
    → None ≡ booking_in x (with_loss at u)
lost_nothing x u at call is drops = booking_none x.units (with_loss at u) call drops ∙ sym (ap (booking_by x.units (with_loss at u)) is)

-- what would be refuted isn't so
refused : (b : Bool) → (b ≡ true → ⊥) → b ≡ false
refused true h = absurd (h refl)
refused false h = refl

-- all pass where each does
all_at : {X : Type 0} (f : X → Bool) (xs : List X) (i : ℕ) (x : X) → slice_get xs i ≡ Some x → list_all f xs ≡ true → f x ≡ true
all_at f [] i x at h = not_some x at
all_at f (z ∷ xs) zero x at h = ap f (sym (same_some z x at)) ∙ and_left (f z) (list_all f xs) h
all_at f (z ∷ xs) (suc i) x at h = all_at f xs i x at (and_right (f z) (list_all f xs) h)

-- a number and none before it is the number
plus_zero : (n : ℕ) → 0 + n ≡ n
plus_zero n = omega arith

-- no unit is open of a call of which every segment is complete or no unit is open
pub all_shut : (segments : ℕ) (units : List Unit) (rows : Rows) (n : ℕ) (row : Row) → AreRight segments units rows → map_of.get rows n ≡ Some row
    → (list_all (is_complete units n) (range_with_len 0 segments) || not (any_open units n)) ≡ true
    → (i : ℕ) (u : Unit) → slice_get units i ≡ Some u → is_of n u ≡ true → is_open_unit u ≡ false
all_shut segments units rows n row right g whole i u at own = refused (is_open_unit u) (λ open_.
    let busy = both_true (is_of n u) (is_open_unit u) own open_ in
    let left = (right.kept n row g).round.incomplete i u at busy in
    let range = get-range 0 segments u.work.segment (right.placed i u at).within ∙ ap Some (plus_zero u.work.segment) in
    by (list_all (is_complete units n) (range_with_len 0 segments)) refl whole left range (any_at (is_busy n) units i u at busy))
  where
    by : (b : Bool) → list_all (is_complete units n) (range_with_len 0 segments) ≡ b → (b || not (any_open units n)) ≡ true → is_complete units n u.work.segment ≡ false
        → slice_get (range_with_len 0 segments) u.work.segment ≡ Some u.work.segment → any_open units n ≡ true → ⊥
    by true all rest left range some_ = let e = sym (all_at (is_complete units n) (range_with_len 0 segments) u.work.segment u.work.segment range all) ∙ left in absurd (cc)
    by false all rest left range some_ = let e = sym rest ∙ ap not some_ in absurd (cc)

-- an open unit is the newest of its call on its segment
abbrev pub AreNewest : List Unit → Type 0
AreNewest units = (i j : ℕ) (u z : Unit) → slice_get units i ≡ Some u → slice_get units j ≡ Some z → is_open_unit u ≡ true → z.work.call ≡ u.work.call → z.work.segment ≡ u.work.segment → j ≤ i

-- what passes is there
pub one_some : {A : Type 0} (test : A → Bool) (o : Option A) → is_one test o ≡ true → is_some o ≡ true
one_some test None h = absurd (cc)
one_some test (Some x) h = refl

-- what is there passes a test that all pass
pub some_one : {A : Type 0} (o : Option A) → is_some o ≡ true → is_one (λ x. true) o ≡ true
some_one None h = absurd (cc)
some_one (Some x) h = refl
