-- Where no topology step is left, the next order of a session may come.
use Rattle.std.proofs.Common.{◌≡◌, ℕ, zero, suc, ◌==◌, Bool, true, false, List, [], ◌∷◌, ◌++◌, length, map, reverse, slice_get, Option, None, Some, is_some, refl, sym, ap, subst, ◌∙◌, arith, if◌then◌else◌, take}
use Rattle.std.proofs.lemmas.Bool.{and_from, eq-eqb, eqb-true, true≢false}
use Rattle.std.proofs.lemmas.Option.{slice_get_within}
use Rattle.std.specs.Option.{option_map}
use Rattle.std.specs.FinSet as set
use Rattle.grid_base.specs.declared.entry.Entry.{Entry}
use Rattle.grid_event.specs.Configs.{is_config}
use Rattle.grid_event.specs.Spans.{invoke_of, invokes}
use Rattle.grid_event.specs.declared.call_events.InvokeEvent.{InvokeEvent}
use Rattle.grid_event.specs.declared.config.Config.{Config}
use Rattle.grid_event.specs.declared.event.Event.{Event}
use Rattle.grid_event.specs.declared.event.Event.TheVariants.{Invoke}
use Rattle.grid_event.specs.declared.request.Request.{Request}
use Rattle.grid_script.specs.LiveRules.{AreNew, deeds_of}
use Rattle.grid_script.specs.Scripts.{Lives}
use Rattle.grid_script.specs.declared.deed.Deed.{Deed}
use Rattle.grid_script.specs.declared.deed.Deed.TheVariants as deed
use Rattle.topology_coord.specs.Coordination.{lives}
use Rattle.topology_phase.specs.Owners.{among}
use Rattle.cluster_laws.proofs.answers.AnswerRuns.{calls_told_by}
use Rattle.cluster_laws.specs.Laws.{NothingIsStuck}
use Rattle.cluster_model.specs.Commands.{advance_event}
use Rattle.cluster_model.specs.State.{Call, State, call_of, segment_of, segments_of, start}
use Rattle.cluster_model.specs.Step.{runs, state}
use Rattle.cluster_model.specs.Writes.{can_change, has_reader, reaches}
use Rattle.live_run.specs.Serving.{Begins, Doing, deeds_by, doing_of, orders_in, orders_of, with_doing}
use Rattle.live_run.proofs.Calls.{calls_differ}

-- where no topology step is left, a live node reaches each segment
pub reaches_all : (st : State) → NothingIsStuck st → advance_event st.holding ≡ None → (node : ℕ) → lives st.holding.coord node ≡ true → (found : Option ℕ) →
    ((segment : ℕ) → found ≡ Some segment → among segment (segments_of st.holding) ≡ true) → is_some found ≡ true → reaches st.holding node found ≡ true
reaches_all st nothing none node live None within h = absurd (cc)
reaches_all st nothing none node live (Some segment) within h = by_test (has_reader st.holding node segment) refl
  where
    by_test : (b : Bool) → has_reader st.holding node segment ≡ b → b ≡ true
    by_test true e = refl
    by_test false e = absurd (true≢false (sym (nothing.reach node segment live (within segment refl) e) ∙ ap is_some none))

-- so a key that has a segment may be changed there
pub changes_go : (st : State) → NothingIsStuck st → advance_event st.holding ≡ None → (node : ℕ) (key : List ℕ) → lives st.holding.coord node ≡ true →
    ((segment : ℕ) → segment_of st.holding key ≡ Some segment → among segment (segments_of st.holding) ≡ true) → is_some (segment_of st.holding key) ≡ true → can_change st.holding node key ≡ true
changes_go st nothing none node key live within h =
    and_from (lives st.holding.coord node) _ live (reaches_all st nothing none node live (segment_of st.holding key) within h)

-- ---- calls

-- what is in front stays there
in_front : {A : Type 0} (xs ys : List A) (i : ℕ) (x : A) → slice_get xs i ≡ Some x → slice_get (xs ++ ys) i ≡ Some x
in_front [] ys i d h = absurd (cc)
in_front (x ∷ xs) ys zero d h = h
in_front (x ∷ xs) ys (suc i) d h = in_front xs ys i d h

at_end : {A : Type 0} (xs : List A) (x : A) → slice_get (xs ++ x ∷ []) (length xs) ≡ Some x
at_end [] x = refl
at_end (y ∷ xs) x = at_end xs x

-- a deed that was done stays done
stays_done : (k : ℕ) (past : List Event) (event : Event) (m : ℕ) (d : Deed) → slice_get (deeds_by k past) m ≡ Some d → slice_get (deeds_by k (event ∷ past)) m ≡ Some d
stays_done k past event m d h = by_doing (doing_of event)
  where
    by_test : (b : Bool) (x : Deed) → slice_get (if b then deeds_by k past ++ x ∷ [] else deeds_by k past) m ≡ Some d
    by_test true x = in_front (deeds_by k past) (x ∷ []) m d h
    by_test false x = h

    by_doing : (doing : Option Doing) → slice_get (with_doing k doing (deeds_by k past)) m ≡ Some d
    by_doing None = h
    by_doing (Some doing) = by_test (doing.session == k) doing.deed

-- a call that was made is a deed of the session that made it
pub record IsDeed (past : List Event) (call : ℕ) (i : InvokeEvent) : Type 0 where
  pub place : ℕ
  pub done : slice_get (deeds_by i.by past) place ≡ Some (deed.Call call i.request)

pub made_deed : (past : List Event) (call : ℕ) (i : InvokeEvent) → invoke_of past call ≡ Some i → IsDeed past call i
made_deed [] call i h = absurd (cc)
made_deed (event ∷ past) call i h = by_test (invokes call event) refl (made_deed past call i)
  where
    later : IsDeed past call i → IsDeed (event ∷ past) call i
    later it = record { place = it.place; done = stays_done i.by past event it.place (deed.Call call i.request) it.done }

    earlier : (event : Event) → invokes call event ≡ false → invoke_of (event ∷ past) call ≡ invoke_of past call
    earlier (Invoke j) e = ap (λ b. if b then Some j else invoke_of past call) e
    earlier _ e = refl

    at_once : (event : Event) → invokes call event ≡ true → invoke_of (event ∷ past) call ≡ Some i → IsDeed (event ∷ past) call i
    at_once (Invoke j) e h =
        let same : Some j ≡ Some i = sym (ap (λ b. if b then Some j else invoke_of past call) e) ∙ h in
        let one : j ≡ i = cc in
        subst (IsDeed (Invoke j ∷ past) call) one (record {
          place = length (deeds_by j.by past);
          done =
              ap (λ b. slice_get (if b then deeds_by j.by past ++ deed.Call j.call j.request ∷ [] else deeds_by j.by past) (length (deeds_by j.by past))) (eq-eqb j.by j.by refl)
              ∙ at_end (deeds_by j.by past) (deed.Call j.call j.request)
              ∙ ap (λ n. Some (deed.Call n j.request)) (eqb-true j.call call e);
        })
    at_once _ e h = absurd (cc)

    by_test : (b : Bool) → invokes call event ≡ b → (invoke_of past call ≡ Some i → IsDeed past call i) → IsDeed (event ∷ past) call i
    by_test true e rest = at_once event e h
    by_test false e rest = later (rest (sym (earlier event e) ∙ h))

-- what begins a list stands in it
begun_there : {A : Type 0} (xs ys : List A) (m : ℕ) (x : A) → Begins xs ys → slice_get xs m ≡ Some x → slice_get ys m ≡ Some x
begun_there [] ys m x b h = absurd (cc)
begun_there (z ∷ xs) [] m x b h = absurd (cc)
begun_there (z ∷ xs) (y ∷ ys) zero x b h = let p : z ≡ y = cc in ap (λ a. Some a) (sym p) ∙ h
begun_there (z ∷ xs) (y ∷ ys) (suc m) x b h = let q : xs ≡ take (length xs) ys = cc in begun_there xs ys m x q h

-- the load makes no call
calls_apart : (script : Lives) (k m c : ℕ) (r : Request) → slice_get (orders_of script k) m ≡ Some (deed.Call c r) → slice_get (orders_in script.sessions k) m ≡ Some (deed.Call c r)
calls_apart script k m c r h = by_test (k == 0) h
  where
    no_put : (load : List Entry) (m : ℕ) → slice_get (map deed.Put load) m ≡ Some (deed.Call c r) → ⊥
    no_put [] m h = cc
    no_put (it ∷ load) zero h = cc
    no_put (it ∷ load) (suc m) h = no_put load m h

    by_test : (b : Bool) → slice_get (if b then map deed.Put script.load else orders_in script.sessions k) m ≡ Some (deed.Call c r) → slice_get (orders_in script.sessions k) m ≡ Some (deed.Call c r)
    by_test true h = absurd (no_put script.load m h)
    by_test false h = h

-- the call of a session's next order wasn't made yet
pub call_unmade : (script : Lives) (config : Config) (events : List Event) (k c : ℕ) (r : Request) → is_config config ≡ true → runs (start config) events ≡ true →
    AreNew set.empty (deeds_of script.sessions) → ((j : ℕ) → Begins (deeds_by j (reverse events)) (orders_of script j)) →
    slice_get (orders_of script k) (length (deeds_by k (reverse events))) ≡ Some (deed.Call c r) → call_of (state (start config) events).calling c ≡ None
call_unmade script config events k c r good run new ordered is_next = by_found (call_of (state (start config) events).calling c) refl
  where
    past : List Event
    past = reverse events

    by_invoke : (found : Option InvokeEvent) → invoke_of past c ≡ found → is_some (option_map (λ (i : InvokeEvent). i.request) found) ≡ true → ⊥
    by_invoke None e h = cc
    by_invoke (Some i) e h =
        let it = made_deed past c i e in
        let there = begun_there (deeds_by i.by past) (orders_of script i.by) it.place (deed.Call c i.request) (ordered i.by) it.done in
        let same = calls_differ script.sessions set.empty i.by k it.place (length (deeds_by k past)) c i.request r new
        (calls_apart script i.by it.place c i.request there) (calls_apart script k (length (deeds_by k past)) c r is_next) in
        let short = slice_get_within (deeds_by i.by past) it.place (deed.Call c i.request) it.done in
        let long = ap (λ n. length (deeds_by n past)) same.0 in
        let place = same.1 in omega arith

    by_found : (found : Option Call) → call_of (state (start config) events).calling c ≡ found → found ≡ None
    by_found None e = refl
    by_found (Some call) e =
        absurd (by_invoke (invoke_of past c) refl (ap is_some ((calls_told_by config events good run).calls c call e).request))
