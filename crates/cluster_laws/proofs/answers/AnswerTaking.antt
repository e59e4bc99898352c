-- A take keeps what is known of walks.
use Rattle.std.proofs.Common.{◌≡◌, ℕ, ◌+◌, ◌≤◌, ◌==◌, Bool, true, false, not, cond, if◌then◌else◌, List, [], ◌∷◌, ◌++◌, map, length, drop, Option, None, Some, refl, sym, ap, subst, ◌∙◌, arith}
use Rattle.std.proofs.lemmas.Bool.{eq-eqb, eqb-true}
use Rattle.std.specs.FinMap as map_of
use Rattle.std.specs.List.{AllByRecursion, filter, find}
use Rattle.grid_base.specs.declared.entry.Entry.{Entry}
use Rattle.grid_event.specs.Taking.{Taking}
use Rattle.grid_event.specs.declared.config.Config.{Config}
use Rattle.grid_event.specs.declared.event.Event.{Event}
use Rattle.grid_event.specs.declared.event.Event.TheVariants.{Take}
use Rattle.grid_event.specs.declared.request.Request.{Request}
use Rattle.pipeline_eval.specs.Pipes.{pipe_items}
use Rattle.segment_hash.specs.Segments.{segment_number}
use Rattle.cluster_model.specs.Evidence.{StoodOnce, given_in, request_of, taken_in, times}
use Rattle.cluster_model.specs.State.{Call, State, Unit, call_of, is_exact, is_lost}
use Rattle.cluster_model.specs.Step.{changed}
use Rattle.cluster_model.specs.Told.{is_segment}
use Rattle.cluster_model.specs.Units.{call_of_unit, passing, taken_by, was_taken, with_taking}
use Rattle.cluster_laws.proofs.answers.AnswerTakes.{FromSegment, entries_taken, given_behind, landed, landed_by, landed_more, landed_taken, times_passed, was_not, was_there}
use Rattle.cluster_laws.proofs.answers.AnswerUnits.{AllFit, Fits, Has, flight, once_later}
use Rattle.cluster_laws.proofs.answers.AnswerWalks.{Reaches, WalksKept, taken_of}
use Rattle.cluster_laws.proofs.units.CallLinks.{CallTold, asks_walk, call_put, request_told, unit_told}
use Rattle.cluster_laws.proofs.units.CallRequests.{CanTake}
use Rattle.cluster_laws.proofs.answers.AnswerLinks.{LinksKept}
use Rattle.cluster_laws.proofs.answers.EvidenceCounts.{EachStood, each_left, none_elsewhere, times-append}
use Rattle.cluster_laws.proofs.Lists.{each-append, each_changed, each_imply}
use Rattle.cluster_laws.proofs.Numbers.{NumberedFrom, found_alone}
use Rattle.cluster_laws.proofs.units.ReadSteps.{ReadKept}

-- what holds of each unit holds of one that is found
pub found_each : (P : Unit → Type 0) (test : Unit → Bool) (units : List Unit) (found : Unit) → AllByRecursion P units → find test units ≡ Some found → P found
found_each P test [] found h e = absurd (cc)
found_each P test (unit ∷ units) found h e = by_head (test unit) e (λ there. found_each P test units found h.1 there)
  where
    by_head : (b : Bool) → cond b (Some unit) (find test units) ≡ Some found → (find test units ≡ Some found → P found) → P found
    by_head true here f = let same : unit ≡ found = cc in subst P same h.0
    by_head false there f = f there

-- what passes of a batch is no more often in it, and what holds of each of the batch holds of it
passed_le : (call : Call) (unit : Unit) (batch : List Entry) (key : List ℕ) → times key (passing call unit batch) ≤ times key batch
passed_le call unit batch key = by_exact (is_exact call.request.guarantee)
  where
    by_taken : (b : Bool) → cond b 0 (times key batch) ≤ times key batch
    by_taken true = omega arith
    by_taken false = omega arith

    by_exact : (b : Bool) → times key (if b then filter (λ (e : Entry). not (was_taken call.taken unit.work.segment e.key)) batch else batch) ≤ times key batch
    by_exact true = let a = times_passed key (was_taken call.taken unit.work.segment) batch in let b = by_taken (was_taken call.taken unit.work.segment key) in omega arith
    by_exact false = omega arith

-- what holds of each entry of a batch holds of each that passes
passed_each : (P : Entry → Type 0) (call : Call) (unit : Unit) (batch : List Entry) → AllByRecursion P batch → AllByRecursion P (passing call unit batch)
passed_each P call unit batch h = by_exact (is_exact call.request.guarantee)
  where
    by_exact : (b : Bool) → AllByRecursion P (if b then filter (λ (e : Entry). not (was_taken call.taken unit.work.segment e.key)) batch else batch)
    by_exact true = each_left P (λ (e : Entry). not (was_taken call.taken unit.work.segment e.key)) batch h
    by_exact false = h

module _ (config : Config) (past : List Event) (st : State) (t : Taking) (unit : Unit) (call : Call) (batch : List Entry) (can : CanTake st t unit call batch) (numbered : NumberedFrom 1 st.calling.units) (links : LinksKept past st) (each : AllByRecursion (Has config past) st.calling.units) (read : AllByRecursion (ReadKept config past) st.calling.units) (h : WalksKept config past st) where
  -- what is told of the call
  told : CallTold past unit.work.call (Some call)
  told = subst (CallTold past unit.work.call) can.there (links.calls unit.work.call)

  -- what the call asks for
  asked : request_of past unit.work.call ≡ Some call.request
  asked = request_told past st unit.work.call call links.calls can.there

  -- what is known of the unit
  has : Has config past unit
  has = found_each (Has config past) (λ u. u.work.id == t.unit) st.calling.units unit each can.found

  -- the unit has read no key twice
  once_read : (key : List ℕ) → times key unit.work.entries ≤ 1
  once_read = (found_each (ReadKept config past) (λ u. u.work.id == t.unit) st.calling.units unit read can.found).once

  -- the batch is of what was read, and fits
  batch_le : (key : List ℕ) → times key batch ≤ times key unit.work.entries
  batch_le key = subst (λ o. times key (flight o) ≤ times key unit.work.entries) can.flies (has.flown key)

  -- its entries fit
  batch_fit : AllFit config past unit.work.call unit.work.segment batch
  batch_fit = subst (λ o. AllFit config past unit.work.call unit.work.segment (flight o)) can.flies has.flight_fit

  -- no key is taken more often than it flew
  entries_le : (key : List ℕ) → times key t.entries ≤ times key batch
  entries_le key = subst (λ es. times key es ≤ times key batch) (sym can.entries) (passed_le call unit batch key)

  -- the entries taken fit
  entries_fit : AllFit config past unit.work.call unit.work.segment t.entries
  entries_fit = subst (AllFit config past unit.work.call unit.work.segment) (sym can.entries) (passed_each (Fits config past unit.work.call unit.work.segment) call unit batch batch_fit)

  -- which entries and items a call has then
  taken_then : (c : ℕ) → taken_in (Take t ∷ past) c ≡ (if unit.work.call == c then taken_in past c ++ t.entries else taken_in past c)
  taken_then c = ap (λ b. if b then taken_in past c ++ t.entries else taken_in past c) (unit_told past st c t.unit unit numbered links.asks can.found)

  -- and its items
  given_then : (c : ℕ) → given_in (Take t ∷ past) c ≡ (if unit.work.call == c then given_in past c ++ t.given else given_in past c)
  given_then c = ap (λ b. if b then given_in past c ++ t.given else given_in past c) (unit_told past st c t.unit unit numbered links.asks can.found)

  -- what stood stood after the take too
  stood_on : (c : ℕ) (entries : List Entry) → EachStood config past c entries → EachStood config (Take t ∷ past) c entries
  stood_on c entries s =
      each_imply (λ (e : Entry). StoodOnce config past c e.key e.value) (λ (e : Entry). StoodOnce config (Take t ∷ past) c e.key e.value) (λ e x. once_later config past (Take t) c e.key e.value refl x) entries s

  -- each entry taken stood
  held : (c : ℕ) → EachStood config (Take t ∷ past) c (taken_in (Take t ∷ past) c)
  held c = subst (EachStood config (Take t ∷ past) c) (sym (taken_then c)) (by_call (unit.work.call == c) refl)
    where
      by_call : (b : Bool) → (unit.work.call == c) ≡ b → EachStood config (Take t ∷ past) c (if b then taken_in past c ++ t.entries else taken_in past c)
      by_call true e =
          each-append (λ (e : Entry). StoodOnce config (Take t ∷ past) c e.key e.value) (taken_in past c) t.entries (stood_on c (taken_in past c) (h.held c))
          (stood_on c t.entries
          (each_imply (Fits config past unit.work.call unit.work.segment) (λ (e : Entry). StoodOnce config past c e.key e.value) (λ v f. subst (λ n. StoodOnce config past n v.key v.value) (eqb-true unit.work.call c e) f.1) t.entries entries_fit))
      by_call false e = stood_on c (taken_in past c) (h.held c)

  -- each is noted with the segment of its key
  segments : (c : ℕ) → AllByRecursion (FromSegment config) (taken_of (call_of (taken_by st.calling t) c))
  unfolding taken_by
  segments c =
      subst (λ (u : Option Unit). AllByRecursion (FromSegment config) (taken_of (map_of.get (with_taking st.calling t u (call_of_unit st.calling u)) c))) (sym can.found)
      (subst (λ (o : Option Call). AllByRecursion (FromSegment config) (taken_of (map_of.get (with_taking st.calling t (Some unit) o) c))) (sym can.there)
      (subst (λ o. AllByRecursion (FromSegment config) (taken_of o)) (sym (call_put st.calling.calls unit.work.call further c)) (by_call (unit.work.call == c) refl)))
    where
      further : Call
      further = record call {
        taken = call.taken ++ map (λ (e : Entry). record { segment = unit.work.segment; entry_of = e }) t.entries;
        given = call.given + length t.given;
      }

      by_call : (b : Bool) → (unit.work.call == c) ≡ b → AllByRecursion (FromSegment config) (taken_of (cond b (Some further) (call_of st.calling c)))
      by_call true e =
          each-append (FromSegment config) call.taken (map (λ (e : Entry). record { segment = unit.work.segment; entry_of = e }) t.entries)
          (subst (λ o. AllByRecursion (FromSegment config) (taken_of o)) can.there (h.segments unit.work.call))
          (each_changed (Fits config past unit.work.call unit.work.segment) (Fits config past unit.work.call unit.work.segment) (FromSegment config) (λ (e : Entry). record { segment = unit.work.segment; entry_of = e }) (λ e f g. f.0) t.entries entries_fit entries_fit)
      by_call false e = h.segments c

  -- the call has given what the pipeline makes of the entries taken
  plain_here : (request : Request) → request_of past unit.work.call ≡ Some request → given_in past unit.work.call ++ t.given ≡ pipe_items request.pipeline (taken_in past unit.work.call ++ t.entries)
  plain_here request is =
      let same : call.request ≡ request = (let e : Some call.request ≡ Some request = sym asked ∙ is in cc) in
      let plain = h.plain unit.work.call request is in
      let many : call.given ≡ length (pipe_items request.pipeline (taken_in past unit.work.call)) = sym told.given ∙ ap length plain in
      (λ i. plain i ++ (can.given ∙ (λ j. drop call.given (pipe_items (same j).pipeline (sym told.taken j ++ t.entries)))) i)
      ∙ sym (given_behind request.pipeline (taken_in past unit.work.call) t.entries call.given many)

  -- and so has every call
  plain : (c : ℕ) (request : Request) → request_of (Take t ∷ past) c ≡ Some request → given_in (Take t ∷ past) c ≡ pipe_items request.pipeline (taken_in (Take t ∷ past) c)
  plain c request is = given_then c ∙ by_call (unit.work.call == c) refl ∙ ap (pipe_items request.pipeline) (sym (taken_then c))
    where
      by_call : (b : Bool) → (unit.work.call == c) ≡ b → (if b then given_in past c ++ t.given else given_in past c) ≡ pipe_items request.pipeline (if b then taken_in past c ++ t.entries else taken_in past c)
      by_call true e =
          subst (λ n. request_of past n ≡ Some request → given_in past n ++ t.given ≡ pipe_items request.pipeline (taken_in past n ++ t.entries)) (eqb-true unit.work.call c e) (plain_here request) is
      by_call false e = h.plain c request is

  -- with exactly once, what passes is what wasn't taken
  exact_entries : is_exact call.request.guarantee ≡ true → (key : List ℕ) → times key t.entries ≡ cond (was_taken call.taken unit.work.segment key) 0 (times key batch)
  exact_entries exact key =
      ap (times key) can.entries
      ∙ ap (λ b. times key (if b then filter (λ (e : Entry). not (was_taken call.taken unit.work.segment e.key)) batch else batch)) exact
      ∙ times_passed key (was_taken call.taken unit.work.segment) batch

  -- the entries taken before are noted with the segments of their keys
  from : AllByRecursion (FromSegment config) call.taken
  from = subst (λ o. AllByRecursion (FromSegment config) (taken_of o)) can.there (h.segments unit.work.call)

  -- with exactly once the call has taken no key twice
  once_here : (request : Request) → request_of past unit.work.call ≡ Some request → is_exact request.guarantee ≡ true → (key : List ℕ) → times key (taken_in past unit.work.call ++ t.entries) ≤ 1
  once_here request is exact key =
      let same : call.request ≡ request = (let e : Some call.request ≡ Some request = sym asked ∙ is in cc) in
      let a = times-append key (taken_in past unit.work.call) t.entries in
      let b = exact_entries (ap (λ (r : Request). is_exact r.guarantee) same ∙ exact) key in
      let c = h.once unit.work.call request is exact key in
      let d = ap (times key) told.taken in
      let e = by_taken (was_taken call.taken unit.work.segment key) refl (is_segment (segment_number config.partition config.segments key) unit.work.segment) refl (omega arith) in
      omega arith
    where
      by_taken : (b : Bool) → was_taken call.taken unit.work.segment key ≡ b → (s : Bool) → is_segment (segment_number config.partition config.segments key) unit.work.segment ≡ s →
          times key (entries_taken call.taken) ≤ 1 → times key (entries_taken call.taken) + cond b 0 (times key batch) ≤ 1
      by_taken true w s x l = omega arith
      by_taken false w true x l =
          let a = was_not config call.taken unit.work.segment key x from w in
          let b = batch_le key in let c = once_read key in omega arith
      by_taken false w false x l = let a = none_elsewhere config past unit.work.call unit.work.segment key batch x batch_fit in omega arith

  -- and so has no call
  once : (c : ℕ) (request : Request) → request_of (Take t ∷ past) c ≡ Some request → is_exact request.guarantee ≡ true → (key : List ℕ) → times key (taken_in (Take t ∷ past) c) ≤ 1
  once c request is exact key = subst (λ es. times key es ≤ 1) (sym (taken_then c)) (by_call (unit.work.call == c) refl)
    where
      by_call : (b : Bool) → (unit.work.call == c) ≡ b → times key (if b then taken_in past c ++ t.entries else taken_in past c) ≤ 1
      by_call true e = subst (λ n. request_of past n ≡ Some request → times key (taken_in past n ++ t.entries) ≤ 1) (eqb-true unit.work.call c e) (λ x. once_here request x exact key) is
      by_call false e = h.once c request is exact key

  -- the units after it
  abbrev later : Unit → Unit
  later w = cond (w.work.id == t.unit) (record w { flying = None }) w

  -- no less of a unit has landed
  landed_on : (key : List ℕ) (w : Unit) → Has config past w → ((later w).work.call ≡ w.work.call) × (landed key w ≤ landed key (later w))
  landed_on key w x = by_test (w.work.id == t.unit)
    where
      by_test : (b : Bool) → ((cond b (record w { flying = None }) w).work.call ≡ w.work.call) × (landed key w ≤ landed key (cond b (record w { flying = None }) w))
      by_test true = (refl, omega arith)
      by_test false = (refl, omega arith)

  -- what was taken has landed
  bound : (c : ℕ) (key : List ℕ) → times key (taken_in (Take t ∷ past) c) ≤ landed_by key c (taken_by st.calling t).units
  unfolding taken_by
  bound c key = subst (λ es. times key es ≤ landed_by key c (map later st.calling.units)) (sym (taken_then c)) (by_call (unit.work.call == c) refl)
    where
      by_call : (b : Bool) → (unit.work.call == c) ≡ b → times key (if b then taken_in past c ++ t.entries else taken_in past c) ≤ landed_by key c (map later st.calling.units)
      by_call true e =
          let a = times-append key (taken_in past c) t.entries in
          let b = entries_le key in
          let d = landed_taken key c t.unit st.calling.units unit can.found e (each_imply (Has config past) (λ (w : Unit). times key (flight w.flying) ≤ times key w.work.entries) (λ w x. x.flown key) st.calling.units each) in
          let f = ap (λ o. times key (flight o)) can.flies in
          let g = h.bound c key in omega arith
      by_call false e =
          let a = landed_more key c later st.calling.units (each_imply (Has config past) (λ w. ((later w).work.call ≡ w.work.call) × (landed key w ≤ landed key (later w))) (landed_on key) st.calling.units each) in
          let g = h.bound c key in omega arith

  -- what the unit has read was taken, now that nothing of it flies
  reaches_here : asks_walk (request_of past unit.work.call) ≡ true → is_lost unit.work.state ≡ false → (key : List ℕ) → times key unit.work.entries ≤ times key (taken_in past unit.work.call ++ t.entries)
  reaches_here w l key =
      let before = (found_each (Reaches past) (λ u. u.work.id == t.unit) st.calling.units unit h.reaches can.found) w l key in
      let a = times-append key (taken_in past unit.work.call) t.entries in
      let f = ap (λ o. times key (flight o)) can.flies in
      let g = by_exact (is_exact call.request.guarantee) refl in
      omega arith
    where
      by_taken : (b : Bool) → was_taken call.taken unit.work.segment key ≡ b → times key unit.work.entries ≤ times key (taken_in past unit.work.call) + times key batch → times key unit.work.entries ≤ times key (taken_in past unit.work.call) + cond b 0 (times key batch)
      by_taken true e x =
          let there = was_there call.taken unit.work.segment key e in
          let d = ap (times key) told.taken in
          let c = once_read key in omega arith
      by_taken false e x = x

      by_exact : (b : Bool) → is_exact call.request.guarantee ≡ b → times key unit.work.entries ≤ times key (taken_in past unit.work.call) + times key t.entries
      by_exact true e =
          let before = (found_each (Reaches past) (λ u. u.work.id == t.unit) st.calling.units unit h.reaches can.found) w l key in
          let f = ap (λ o. times key (flight o)) can.flies in
          let b = exact_entries e key in
          let c = by_taken (was_taken call.taken unit.work.segment key) refl (omega arith) in
          omega arith
      by_exact false e =
          let before = (found_each (Reaches past) (λ u. u.work.id == t.unit) st.calling.units unit h.reaches can.found) w l key in
          let f = ap (λ o. times key (flight o)) can.flies in
          let b = ap (times key) can.entries ∙ ap (λ b. times key (if b then filter (λ (e : Entry). not (was_taken call.taken unit.work.segment e.key)) batch else batch)) e in
          omega arith

  -- what a unit has read that isn't lost was taken or flies
  reaches_one : (w : Unit) → ((w.work.id == t.unit) ≡ true → w ≡ unit) → Reaches past w → Reaches (Take t ∷ past) (later w)
  reaches_one w alone x = by_test (w.work.id == t.unit) refl
    where
      -- what was taken is more
      more : (key : List ℕ) (n : ℕ) → times key (taken_in past n) ≤ times key (taken_in (Take t ∷ past) n)
      more key n = subst (λ es. times key (taken_in past n) ≤ times key es) (sym (taken_then n)) (by_call (unit.work.call == n))
        where
          by_call : (b : Bool) → times key (taken_in past n) ≤ times key (if b then taken_in past n ++ t.entries else taken_in past n)
          by_call true = let a = times-append key (taken_in past n) t.entries in omega arith
          by_call false = omega arith

      here : (w : Unit) → w ≡ unit → asks_walk (request_of past w.work.call) ≡ true → is_lost w.work.state ≡ false → (key : List ℕ) → times key w.work.entries ≤ times key (taken_in (Take t ∷ past) w.work.call) + 0
      here w e = subst (λ (v : Unit). asks_walk (request_of past v.work.call) ≡ true → is_lost v.work.state ≡ false → (key : List ℕ) → times key v.work.entries ≤ times key (taken_in (Take t ∷ past) v.work.call) + 0) (sym e)
          (λ a l key.
          let b = reaches_here a l key in
          let c = ap (times key) (taken_then unit.work.call ∙ ap (λ b. if b then taken_in past unit.work.call ++ t.entries else taken_in past unit.work.call) (eq-eqb unit.work.call unit.work.call refl)) in
          omega arith)

      by_test : (b : Bool) → (w.work.id == t.unit) ≡ b → Reaches (Take t ∷ past) (cond b (record w { flying = None }) w)
      by_test true e = here w (alone e)
      by_test false e = λ a l key. let b = x a l key in let c = more key w.work.call in omega arith

  -- and so of each unit
  reaches : AllByRecursion (Reaches (Take t ∷ past)) (taken_by st.calling t).units
  unfolding taken_by
  reaches =
      each_changed (λ (w : Unit). (w.work.id == t.unit) ≡ true → w ≡ unit) (Reaches past) (Reaches (Take t ∷ past)) later reaches_one st.calling.units (found_alone t.unit 1 st.calling.units unit numbered can.found) h.reaches

  -- a take keeps what is known of walks
  pub take_kept : WalksKept config (Take t ∷ past) (changed st (Take t))
  take_kept = record { held = held; segments = segments; plain = plain; once = once; bound = bound; reaches = reaches }
