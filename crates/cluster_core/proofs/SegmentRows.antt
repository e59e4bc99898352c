-- The incomplete segments of a call, from a segment on.
use Rattle.std.proofs.Common.{◌≡◌, ℕ, suc, ◌+◌, ◌-◌, ◌≤◌, ◌<◌, true, false, cond, not, ◌&&◌, List, [], ◌∷◌, ◌++◌, append_assoc, append-nil, filter, sym, ap, ◌∙◌, arith}
use Rattle.std.specs.List.{list_all, range_with_len}
use Rattle.std.specs.Prelude.{unwrap_or}
use Rattle.grid_event.specs.declared.call_events.Ask.{Ask}
use Rattle.cluster_calls.specs.Calling.{incomplete_from}
use Rattle.cluster_model.specs.Answers.{first_of}
use Rattle.cluster_model.specs.Calls.{all_complete, asks_from, first_reader, incomplete}
use Rattle.cluster_model.specs.State.{State, Unit}
use Rattle.cluster_model.specs.Topologies.{is_complete}
use Rattle.cluster_model.specs.Writes.{has_reader}
use Rattle.cluster_core.specs.Insides.{IsCore, state_of}
use Rattle.cluster_core.specs.declared.cluster.Core.TheInside.{Inside}

-- the segments from one on begin with it
from_segment : (s n : ℕ) → s < n → range_with_len s (n - s) ≡ s ∷ range_with_len (s + 1) (n - (s + 1))
from_segment s n within =
    let more : n - s ≡ suc (n - (s + 1)) = omega arith in
    ap (range_with_len s) more

-- an incomplete segment is the first of those from it on
pub rest_incomplete : (units : List Unit) (call s n : ℕ) → s < n → is_complete units call s ≡ false
    → incomplete_from s (n - s) units call ≡ s ∷ incomplete_from (s + 1) (n - (s + 1)) units call
rest_incomplete units call s n within lacks =
    ap (filter (λ segment. not (is_complete units call segment))) (from_segment s n within)
    ∙ ap (λ b. cond (not b) (s ∷ incomplete_from (s + 1) (n - (s + 1)) units call) (incomplete_from (s + 1) (n - (s + 1)) units call)) lacks

-- a complete one is left out
pub rest_complete : (units : List Unit) (call s n : ℕ) → s < n → is_complete units call s ≡ true
    → incomplete_from s (n - s) units call ≡ incomplete_from (s + 1) (n - (s + 1)) units call
rest_complete units call s n within has =
    ap (filter (λ segment. not (is_complete units call segment))) (from_segment s n within)
    ∙ ap (λ b. cond (not b) (s ∷ incomplete_from (s + 1) (n - (s + 1)) units call) (incomplete_from (s + 1) (n - (s + 1)) units call)) has

-- past the segments there is none
pub rest_none : (units : List Unit) (call s n : ℕ) → n ≤ s → incomplete_from s (n - s) units call ≡ []
rest_none units call s n past =
    let none : n - s ≡ 0 = omega arith in
    ap (λ k. incomplete_from s k units call) none

-- the incomplete segments of a call from a segment on
abbrev pub rest_of : State → ℕ → ℕ → List ℕ
rest_of st call s = incomplete_from s (st.calling.segments - s) st.calling.units call

-- from the first one on they are all
pub rest_whole : (st : State) (call : ℕ) → rest_of st call 0 ≡ incomplete st.calling call
rest_whole st call =
    let all : st.calling.segments - 0 ≡ st.calling.segments = omega arith in
    ap (λ k. incomplete_from 0 k st.calling.units call) all

module _ (st : State) (originator call s : ℕ) (within : s < st.calling.segments) where
  -- a segment without a live reader ends the search
  pub readers_end : is_complete st.calling.units call s ≡ false → has_reader st.holding originator s ≡ false → list_all (has_reader st.holding originator) (rest_of st call s) ≡ false
  readers_end lacks none =
      ap (list_all (has_reader st.holding originator)) (rest_incomplete st.calling.units call s st.calling.segments within lacks)
      ∙ ap (λ b. b && list_all (has_reader st.holding originator) (rest_of st call (s + 1))) none

  -- one with a live reader is passed
  pub readers_on : is_complete st.calling.units call s ≡ false → has_reader st.holding originator s ≡ true
      → list_all (has_reader st.holding originator) (rest_of st call s) ≡ list_all (has_reader st.holding originator) (rest_of st call (s + 1))
  readers_on lacks some =
      ap (list_all (has_reader st.holding originator)) (rest_incomplete st.calling.units call s st.calling.segments within lacks)
      ∙ ap (λ b. b && list_all (has_reader st.holding originator) (rest_of st call (s + 1))) some

  -- and so is a complete one
  pub readers_past : is_complete st.calling.units call s ≡ true
      → list_all (has_reader st.holding originator) (rest_of st call s) ≡ list_all (has_reader st.holding originator) (rest_of st call (s + 1))
  readers_past has = ap (list_all (has_reader st.holding originator)) (rest_complete st.calling.units call s st.calling.segments within has)

  -- a complete segment isn't asked for
  pub asks_past : (u : ℕ) (asks : List Ask) → is_complete st.calling.units call s ≡ true
      → asks ++ asks_from st.holding originator u (rest_of st call (s + 1)) ≡ asks ++ asks_from st.holding originator u (rest_of st call s)
  asks_past u asks has = ap (λ segments. asks ++ asks_from st.holding originator u segments) (sym (rest_complete st.calling.units call s st.calling.segments within has))

  -- an incomplete one is asked for next
  pub asks_on : (u : ℕ) (asks : List Ask) → is_complete st.calling.units call s ≡ false
      → (asks ++ record { unit = u; segment = s; node = unwrap_or (first_reader st.holding originator s) 0 } ∷ []) ++ asks_from st.holding originator (u + 1) (rest_of st call (s + 1))
      ≡ asks ++ asks_from st.holding originator u (rest_of st call s)
  asks_on u asks lacks =
      append_assoc asks (record { unit = u; segment = s; node = unwrap_or (first_reader st.holding originator s) 0 } ∷ []) (asks_from st.holding originator (u + 1) (rest_of st call (s + 1)))
      ∙ ap (λ segments. asks ++ asks_from st.holding originator u segments) (sym (rest_incomplete st.calling.units call s st.calling.segments within lacks))

-- past the segments all have live readers
pub readers_all : (st : State) (originator call s : ℕ) → st.calling.segments ≤ s → list_all (has_reader st.holding originator) (rest_of st call s) ≡ true
readers_all st originator call s past = ap (list_all (has_reader st.holding originator)) (rest_none st.calling.units call s st.calling.segments past)

-- and all are asked for
pub asks_all : (st : State) (originator call s u : ℕ) (asks : List Ask) → st.calling.segments ≤ s → asks ++ asks_from st.holding originator u (rest_of st call s) ≡ asks
asks_all st originator call s u asks past =
    ap (λ segments. asks ++ asks_from st.holding originator u segments) (rest_none st.calling.units call s st.calling.segments past) ∙ append-nil asks

-- what the calls of a core tell of their segments is told of its state
module _ (fields : Inside) (st : State) (h : IsCore fields) (view : state_of fields ≡ st) where
  pub incomplete_seen : (call : ℕ) → incomplete fields.calls call ≡ incomplete st.calling call
  incomplete_seen call =
      ap (λ (s : State). incomplete s.calling call) view

  pub first_seen : (call : ℕ) → first_of (incomplete_from 0 (fields.calls.segments - 0) fields.calls.units call) ≡ first_of (incomplete st.calling call)
  first_seen call =
      let all : fields.calls.segments - 0 ≡ fields.calls.segments = omega arith in
      ap (λ n. first_of (incomplete_from 0 n fields.calls.units call)) all ∙ ap first_of (incomplete_seen call)

  pub all_seen : (call : ℕ) → all_complete fields.calls call ≡ all_complete st.calling call
  all_seen call =
      ap (λ (s : State). all_complete s.calling call) view
