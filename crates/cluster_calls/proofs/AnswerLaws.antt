-- The answer that is finished of what is booked is that of the evidence.
use Rattle.std.proofs.Common.{◌≡◌, ℕ, suc, Bool, true, false, cond, ◌&&◌, ◌||◌, ◌==◌, List, [], ◌∷◌, ◌++◌, map, filter, Option, Some, refl, sym, ap, ◌∙◌}
use Rattle.std.proofs.lemmas.List.{append-nil, append_assoc}
use Rattle.std.proofs.lemmas.List.Concat.{flat_map-append, flat_map-cons}
use Rattle.std.specs.List.{flat_map, range_with_len}
use Rattle.std.specs.Prelude.{slice_get, unwrap_or}
use Rattle.delivery_mode.specs.declared.guarantee.Guarantee.{Guarantee}
use Rattle.delivery_mode.specs.Guarantee.{keeps_lost}
use Rattle.grid_base.specs.declared.entry.Entry.{Entry}
use Rattle.local_publisher.specs.Stages.{is_open}
use Rattle.local_publisher.specs.declared.unit_state.UnitState.{UnitState}
use Rattle.local_publisher.specs.declared.unit_state.UnitState.TheVariants.{Asked, Running, Refused, Lost, Ended}
use Rattle.pipeline_eval.specs.Pipes.{pipe}
use Rattle.pipeline_expr.specs.declared.pipeline.Pipeline.{Pipeline}
use Rattle.pipeline_split.proofs.SplitLaws.{finished-piece, finished_nothing, piece-append}
use Rattle.pipeline_split.specs.Halves.{local_of, remote_of}
use Rattle.pipeline_split.specs.PieceLaws.{joined_nothing}
use Rattle.pipeline_split.specs.Pieces.{finished, joined, piece}
use Rattle.pipeline_split.specs.declared.piece.Piece.{Piece}
use Rattle.pipeline_split.specs.declared.piece.Piece.TheVariants.{Nothing}
use Rattle.cluster_model.specs.Answers.{counts}
use Rattle.cluster_model.specs.State.{Call, Unit, is_ended, is_lost, is_of, is_on, is_open_unit}
use Rattle.cluster_calls.specs.Parts.{all_joined, booked_units, has_begun, is_booked, part_on, piece_by, read_of}

-- a piece, or that of nothing
abbrev pub piece_or : Option Piece → Piece
piece_or o = unwrap_or o Nothing

-- what one unit more read
pub read-push : (units : List Unit) (v : Unit) → read_of (units ++ v ∷ []) ≡ read_of units ++ v.work.entries
read-push units v =
    flat_map-append (λ (u : Unit). u.work.entries) units (v ∷ [])
    ∙ ap (λ es. read_of units ++ es) (flat_map-cons (λ (u : Unit). u.work.entries) v [] ∙ append-nil v.work.entries)

-- the piece of two lists of units is the join of their pieces
pub piece-two : (p : Pipeline) (first more : List Unit) → piece_or (piece_by (remote_of p) (first ++ more)) ≡ joined (piece_or (piece_by (remote_of p) first)) (piece_or (piece_by (remote_of p) more))
piece-two p [] more = refl
piece-two p (u ∷ first) [] =
    ap (λ (us : List Unit). piece_or (piece_by (remote_of p) us)) (append-nil (u ∷ first)) ∙ sym (joined_nothing (piece (remote_of p) (read_of (u ∷ first))))
piece-two p (u ∷ first) (v ∷ more) =
    ap (piece (remote_of p)) (flat_map-append (λ (w : Unit). w.work.entries) (u ∷ first) (v ∷ more))
    ∙ piece-append p (read_of (u ∷ first)) (read_of (v ∷ more))

-- the piece of one unit more
pub piece-push : (p : Pipeline) (units : List Unit) (v : Unit) → joined (piece_or (piece_by (remote_of p) units)) (piece (remote_of p) v.work.entries) ≡ piece (remote_of p) (read_of (units ++ v ∷ []))
piece-push p [] v = ap (piece (remote_of p)) (sym (read-push [] v))
piece-push p (u ∷ units) v =
    sym (piece-append p (read_of (u ∷ units)) v.work.entries) ∙ ap (piece (remote_of p)) (sym (read-push (u ∷ units) v))

-- the join of the pieces of lists of units is the piece of all these units
pub joined_pieces : (p : Pipeline) (own : ℕ → List Unit) (before : List Unit) (segments : List ℕ)
    → all_joined (piece_or (piece_by (remote_of p) before)) (map (λ s. piece_by (remote_of p) (own s)) segments) ≡ piece_or (piece_by (remote_of p) (before ++ flat_map own segments))
joined_pieces p own before [] = ap (λ (us : List Unit). piece_or (piece_by (remote_of p) us)) (sym (append-nil before))
joined_pieces p own before (s ∷ segments) =
    ap (λ all. all_joined all (map (λ t. piece_by (remote_of p) (own t)) segments)) (sym (piece-two p before (own s)))
    ∙ joined_pieces p own (before ++ own s) segments
    ∙ ap (λ (us : List Unit). piece_or (piece_by (remote_of p) us)) (append_assoc before (own s) (flat_map own segments) ∙ ap (λ (us : List Unit). before ++ us) (sym (flat_map-cons own s segments)))

-- the piece of some units is finished as the answer over what they read
pub finished_units : (p : Pipeline) (units : List Unit) → finished (local_of p) (piece_or (piece_by (remote_of p) units)) ≡ pipe p (read_of units)
finished_units p [] = finished_nothing p
finished_units p (u ∷ units) = finished-piece p (read_of (u ∷ units))

-- what units read that are listed by segment
pub read_each : (own : ℕ → List Unit) (segments : List ℕ) → read_of (flat_map own segments) ≡ flat_map (λ s. read_of (own s)) segments
read_each own [] = refl
read_each own (s ∷ segments) =
    ap read_of (flat_map-cons own s segments)
    ∙ flat_map-append (λ (u : Unit). u.work.entries) (own s) (flat_map own segments)
    ∙ ap (λ es. read_of (own s) ++ es) (read_each own segments)
    ∙ sym (flat_map-cons (λ t. read_of (own t)) s segments)

-- functions that agree list the same
each_same : (f g : ℕ → List Entry) → ((s : ℕ) → f s ≡ g s) → (segments : List ℕ) → flat_map f segments ≡ flat_map g segments
each_same f g same [] = refl
each_same f g same (s ∷ segments) =
    flat_map-cons f s segments ∙ (λ i. same s i ++ each_same f g same segments i) ∙ sym (flat_map-cons g s segments)

-- a unit that isn't open is booked where it counts, or nothing was read for it
counts_by : (guarantee : Guarantee) (state : UnitState) (entries : List Entry) → is_open state ≡ false → (has_begun state ≡ false → entries ≡ [])
    → (b : Bool) → cond (b && (is_ended state || (is_lost state && keeps_lost guarantee))) entries [] ≡ cond (b && (keeps_lost guarantee || is_ended state)) entries []
counts_by guarantee Asked entries shut unread b = absurd (cc)
counts_by guarantee Running entries shut unread b = absurd (cc)
counts_by guarantee (Refused at) entries shut unread b = nothing (b && false) entries (unread refl) ∙ sym (nothing (b && (keeps_lost guarantee || false)) entries (unread refl))
  where
    nothing : (c : Bool) (es : List Entry) → es ≡ [] → cond c es [] ≡ []
    nothing true es e = e
    nothing false es e = refl
counts_by guarantee (Lost at) entries shut unread b = ap (λ k. cond (b && k) entries []) (or_false (keeps_lost guarantee))
  where
    or_false : (k : Bool) → k ≡ (k || false)
    or_false true = refl
    or_false false = refl
counts_by guarantee Ended entries shut unread b = ap (λ k. cond (b && k) entries []) (or_true (keeps_lost guarantee))
  where
    or_true : (k : Bool) → true ≡ (k || true)
    or_true true = refl
    or_true false = refl

-- what the units that pass read, of one after another
read_first : (p : Unit → Bool) (u : Unit) (units : List Unit) (b : Bool) → read_of (cond b (u ∷ filter p units) (filter p units)) ≡ cond b u.work.entries [] ++ read_of (filter p units)
read_first p u units true = flat_map-cons (λ (w : Unit). w.work.entries) u (filter p units)
read_first p u units false = refl

-- units that differ in passing have read nothing
read_passing : (p q : Unit → Bool) (units : List Unit) → ((i : ℕ) (u : Unit) → slice_get units i ≡ Some u → cond (p u) u.work.entries [] ≡ cond (q u) u.work.entries [])
    → read_of (filter p units) ≡ read_of (filter q units)
read_passing p q [] same = refl
read_passing p q (u ∷ units) same =
    read_first p u units (p u)
    ∙ (λ i. same 0 u refl i ++ read_passing p q units (λ j z e. same (suc j) z e) i)
    ∙ sym (read_first q u units (q u))

-- what is booked of the segment of a call of which no unit is open is what counts
pub booked_counts : (units : List Unit) (n : ℕ) (call : Call) (s : ℕ) → ((i : ℕ) (u : Unit) → slice_get units i ≡ Some u → is_of n u ≡ true → is_open_unit u ≡ false)
    → ((i : ℕ) (u : Unit) → slice_get units i ≡ Some u → has_begun u.work.state ≡ false → u.work.entries ≡ [])
    → read_of (booked_units units n call s) ≡ read_of (filter (λ (u : Unit). is_on n s u && counts call u) units)
booked_counts units n call s shut unread =
    read_passing (λ (u : Unit). is_on n s u && is_booked call u) (λ (u : Unit). is_on n s u && counts call u) units (λ i u at. by u (is_of n u) (shut i u at) (unread i u at) refl)
  where
    by : (u : Unit) (b : Bool) → (is_of n u ≡ true → is_open_unit u ≡ false) → (has_begun u.work.state ≡ false → u.work.entries ≡ []) → is_of n u ≡ b
        → cond (is_on n s u && is_booked call u) u.work.entries [] ≡ cond (is_on n s u && counts call u) u.work.entries []
    by u true closed fresh own = counts_by call.request.guarantee u.work.state u.work.entries (closed own) fresh (is_on n s u)
    by u false closed fresh own =
        ap (λ b. cond ((b && (u.work.segment == s)) && is_booked call u) u.work.entries []) own ∙ sym (ap (λ b. cond ((b && (u.work.segment == s)) && counts call u) u.work.entries []) own)

-- the answer that is finished of all that is booked is that of the evidence
pub booked_answer : (segments : ℕ) (units : List Unit) (n : ℕ) (call : Call) → ((i : ℕ) (u : Unit) → slice_get units i ≡ Some u → is_of n u ≡ true → is_open_unit u ≡ false)
    → ((i : ℕ) (u : Unit) → slice_get units i ≡ Some u → has_begun u.work.state ≡ false → u.work.entries ≡ [])
    → finished (local_of call.request.pipeline) (all_joined Nothing (map (part_on units n call) (range_with_len 0 segments)))
    ≡ pipe call.request.pipeline (flat_map (λ s. flat_map (λ (u : Unit). u.work.entries) (filter (λ (u : Unit). is_on n s u && counts call u) units)) (range_with_len 0 segments))
booked_answer segments units n call shut unread =
    let p = call.request.pipeline in
    let own : ℕ → List Unit = booked_units units n call in
    ap (finished (local_of p)) (joined_pieces p own [] (range_with_len 0 segments))
    ∙ finished_units p (flat_map own (range_with_len 0 segments))
    ∙ ap (pipe p) (read_each own (range_with_len 0 segments)
    ∙ each_same (λ s. read_of (own s)) (λ s. read_of (filter (λ (u : Unit). is_on n s u && counts call u) units)) (λ s. booked_counts units n call s shut unread) (range_with_len 0 segments))
