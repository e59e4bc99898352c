-- A call is made, and a round of it: what is booked stays right.
use Rattle.std.proofs.Common.{◌≡◌, inl, inr, ℕ, ◌+◌, ◌≤◌, ◌<◌, Bool, true, false, cond, not, ◌==◌, List, ◌++◌, map, length, Some, None, nat_lt, refl, sym, ap, subst, ◌∙◌, arith}
use Rattle.std.proofs.lemmas.Bool.Decides.{nat_tests}
use Rattle.std.proofs.lemmas.List.{length-replicate}
use Rattle.std.specs.FinMap as map_of
use Rattle.std.specs.Prelude.{slice_get}
use Rattle.grid_event.specs.declared.call_events.Ask.{Ask}
use Rattle.grid_event.specs.declared.request.Request.{Request}
use Rattle.pipeline_split.specs.Halves.{remote_of}
use Rattle.cluster_model.specs.State.{Call, Unit, is_of, is_on, is_open_unit, is_walk}
use Rattle.cluster_model.specs.Calls.{new_call, unit_made}
use Rattle.cluster_calls.specs.Insides.{ArePieced, AreRight}
use Rattle.cluster_calls.specs.Parts.{HasParts, IsParts, is_booked, made_parts, no_parts, part_on, piece_by}
use Rattle.cluster_calls.specs.Rows.{Rows, changes_row, with_row_asks}
use Rattle.cluster_calls.specs.Tallied.{Tallied}
use Rattle.cluster_calls.specs.declared.row.Row.{Row}
use Rattle.cluster_calls.proofs.ListLaws.{append_cases, get-map, same_some, within_get}
use Rattle.cluster_calls.proofs.PartLaws.{is_counted, part-more_out, parts_alike, same_request}
use Rattle.cluster_calls.proofs.PartLists.{filter_none, replicated_range}
use Rattle.cluster_calls.proofs.RightLaws.{and_none, both_true, changed_cases, itself}
use Rattle.cluster_calls.proofs.RoundLaws.{AreNext, asks_ascend, mapped_at, no_unit, none_busy}
use Rattle.cluster_calls.proofs.RowTables.{equal, get-put}

-- nothing is booked for a call that was just made
made_has : (segments : ℕ) (units : List Unit) (number originator : ℕ) (request : Request) → ((i : ℕ) (u : Unit) → slice_get units i ≡ Some u → is_of number u ≡ false)
    → (b : Bool) → is_walk request ≡ b → HasParts segments units number (new_call originator request) (made_parts segments request)
made_has segments units number originator request none true walk =
    subst (λ t. HasParts segments units number (new_call originator request) (cond t None (Some (no_parts segments request)))) (sym walk) (ap not walk)
made_has segments units number originator request none false walk =
    subst (λ t. HasParts segments units number (new_call originator request) (cond t None (Some (no_parts segments request)))) (sym walk) fresh
  where
    nothing : (s : ℕ) → part_on units number (new_call originator request) s ≡ None
    nothing s =
        ap (piece_by (remote_of request.pipeline))
        (filter_none (is_counted number (new_call originator request) s) units (λ i u at.
        and_none (is_on number s u) (is_booked (new_call originator request) u) (and_none (is_of number u) (u.work.segment == s) (none i u at))))

    fresh : IsParts segments units number (new_call originator request) (no_parts segments request)
    fresh = record {
      parted = ap not walk;
      remote = refl;
      local = refl;
      wide = length-replicate segments false;
      booked = replicated_range (part_on units number (new_call originator request)) None 0 segments nothing;
    }

-- a call is made
pub pieced_invoke : (segments : ℕ) (units : List Unit) (rows : Rows) (number originator : ℕ) (request : Request) (tally : Tallied) → AreRight segments units rows → ArePieced segments units rows
    → map_of.get rows number ≡ None
    → ArePieced segments units (map_of.insert rows number (record { call = new_call originator request; tally = tally; parts = made_parts segments request }))
pieced_invoke segments units rows number originator request tally right pieced absent = record {
  unread = pieced.unread;
  newest = pieced.newest;
  parts = λ n row at. kept_by n row (n == number) refl (sym (get-put rows number made n) ∙ at);
}
  where
    made : Row
    made = record { call = new_call originator request; tally = tally; parts = made_parts segments request }

    has : HasParts segments units number (new_call originator request) (made_parts segments request)
    has = made_has segments units number originator request (no_unit segments units rows number right absent) (is_walk request) refl

    kept_by : (n : ℕ) (row : Row) (b : Bool) → (n == number) ≡ b → cond b (Some made) (map_of.get rows n) ≡ Some row → HasParts segments units n row.call row.parts
    kept_by n row true tie at =
        subst (λ (r : Row). HasParts segments units n r.call r.parts) (same_some made row at)
        (subst (λ m. HasParts segments units m (new_call originator request) (made_parts segments request)) (sym (equal n number tie)) has)
    kept_by n row false apart at = pieced.parts n row at

-- a number that isn't below another is at least the other
not_below : (i j : ℕ) → (i < j → ⊥) → j ≤ i
not_below i j h =
    elim (nat_lt i j) as (λ t. nat_lt i j ≡ t → j ≤ i) [
      | true ↦ λ t. let l : i < j = grind (arith, nat_tests) in absurd (h l)
      | false ↦ λ t. grind (arith, nat_tests)
    ] refl

-- a round is made
pub pieced_asks : (segments : ℕ) (units : List Unit) (rows : Rows) (number id : ℕ) (asks : List Ask) → ArePieced segments units rows → AreNext segments units number asks
    → ArePieced segments (units ++ map (unit_made number id) asks) (changes_row number (with_row_asks (length units + 1) asks) rows)
pieced_asks segments units rows number id asks pieced next = record {
  unread = λ i u at began. elim (append_cases units more i u at) [
    | inl e ↦ pieced.unread i u e began
    | inr e ↦ ap (λ (w : Unit). w.work.entries) (made_at e.0 u e.2).2
  ];
  newest = λ i j u z at zt open_ calls places. elim (append_cases units more i u at) [
    | inl e ↦ elim (append_cases units more j z zt) [
      | inl f ↦ pieced.newest i j u z e f open_ calls places
      | inr f ↦
          let b = made_at f.0 z f.2 in
          let own : u.work.call ≡ number = sym calls ∙ ap (λ (w : Unit). w.work.call) b.2 in
          none_busy units number i u _ next.closed e (both_true (u.work.call == number) (is_open_unit u) (ap (λ m. m == number) own ∙ itself number) open_)
    ]
    | inr e ↦ elim (append_cases units more j z zt) [
      | inl f ↦ omega (arith, e.1, within_get units j z f)
      | inr f ↦
          let a = made_at e.0 u e.2 in
          let b = made_at f.0 z f.2 in
          let first : u.work.segment ≡ a.0.segment = ap (λ (w : Unit). w.work.segment) a.2 in
          let second : z.work.segment ≡ b.0.segment = ap (λ (w : Unit). w.work.segment) b.2 in
          let low : f.0 ≤ e.0 = not_below e.0 f.0 (λ l. let up = asks_ascend segments units number asks e.0 f.0 a.0 b.0 next l a.1 b.1 in absurd (omega (arith, up, first, second, places))) in
          omega (arith, e.1, f.1, low)
    ]
  ];
  parts = λ n row g. elim (changed_cases rows number change n row g) [
    | inl e ↦
        let w = e.1.0 in
        subst (λ (r : Row). HasParts segments (units ++ more) n r.call r.parts) (sym e.1.2)
        (subst (λ m. HasParts segments (units ++ more) m (change w).call (change w).parts) (sym e.0)
        (same_request segments (units ++ more) number w.call (change w).call refl refl w.parts
        (parts_alike segments units (units ++ more) number w.call (more_out number w.call) w.parts (pieced.parts number w e.1.1))))
    | inr e ↦ parts_alike segments units (units ++ more) n row.call (more_out n row.call) row.parts (pieced.parts n row e.1)
  ];
}
  where
    more : List Unit
    more = map (unit_made number id) asks

    change : Row → Row
    change = with_row_asks (length units + 1) asks

    made_at : (k : ℕ) (u : Unit) → slice_get more k ≡ Some u → (a : Ask) × (slice_get asks k ≡ Some a) × (u ≡ unit_made number id a)
    made_at k u g = mapped_at (unit_made number id) (slice_get asks k) u (sym (get-map (unit_made number id) asks k) ∙ g)

    more_out : (n : ℕ) (call : Call) (s : ℕ) → part_on units n call s ≡ part_on (units ++ more) n call s
    more_out n call s = sym (part-more_out units more n call s (λ k u g. ap (is_booked call) (made_at k u g).2))
