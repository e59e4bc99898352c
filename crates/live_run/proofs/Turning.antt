-- Which calls of a session are answered. A past lists events, the newest first.
use Rattle.std.proofs.Common.{◌≡◌, ℕ, suc, zero, ◌<◌, ◌==◌, ◌⊎◌, inl, inr, Bool, true, false, List, [], ◌∷◌, ◌++◌, length, reverse, slice_get, Option, None, Some, is_none, is_some, refl, sym, ap, subst, ◌∙◌, arith, if◌then◌else◌, length-append}
use Rattle.std.proofs.lemmas.Bool.{and_from, and_parts, cases_eq, eq-eqb, eqb-true, true≢false}
use Rattle.std.proofs.lemmas.Option.{slice_get_within}
use Rattle.std.specs.List.{list_all}
use Rattle.std.specs.Option.{option_map}
use Rattle.grid_event.specs.Spans.{invoke_of, outcome_in}
use Rattle.grid_event.specs.declared.call_events.InvokeEvent.{InvokeEvent}
use Rattle.grid_event.specs.declared.config.Config.{Config}
use Rattle.grid_event.specs.declared.event.Event.{Event}
use Rattle.grid_event.specs.declared.event.Event.TheVariants.{Erase, Invoke, Write}
use Rattle.grid_event.specs.declared.outcome.Outcome.{Outcome}
use Rattle.grid_event.specs.declared.request.Request.{Request}
use Rattle.grid_script.specs.Scripts.{Lives}
use Rattle.grid_script.specs.declared.deed.Deed.{Deed}
use Rattle.grid_script.specs.declared.deed.Deed.TheVariants as deed
use Rattle.cluster_laws.proofs.answers.AnswerRuns.{calls_told_by}
use Rattle.cluster_laws.specs.Laws.{NothingIsStuck, TellsCalls}
use Rattle.cluster_model.specs.Commands.{chosen, is_unanswered}
use Rattle.cluster_model.specs.Step.{runs}
use Rattle.grid_book.specs.Booked.{Booked, cluster_of, history_of}
use Rattle.grid_event.specs.Configs.{is_config}
use Rattle.grid_event.specs.declared.command.Command.TheVariants as commands
use Rattle.cluster_model.specs.Evidence.{request_of}
use Rattle.cluster_model.specs.State.{Call, State, call_of, start}
use Rattle.live_run.specs.Serving.{Doing, IsPartlyServed, are_in_turn, calls_among, deeds_by, doing_of, has_answers, is_in_turn, place_of, with_doing}
use Rattle.live_run.specs.Turns.{EndsInCall}
use Rattle.live_run.proofs.Parts.{answer_stays}

-- where all calls among some deeds pass a test, so does one of them
pub one_passes : (f : ℕ → Bool) (ds : List Deed) (i c : ℕ) (r : Request) → list_all f (calls_among ds) ≡ true → slice_get ds i ≡ Some (deed.Call c r) → f c ≡ true
one_passes f [] i c r h at = absurd (cc)
one_passes f (deed.Put it ∷ ds) zero c r h at = absurd (cc)
one_passes f (deed.Put it ∷ ds) (suc i) c r h at = one_passes f ds i c r h at
one_passes f (deed.Erase key ∷ ds) zero c r h at = absurd (cc)
one_passes f (deed.Erase key ∷ ds) (suc i) c r h at = one_passes f ds i c r h at
one_passes f (deed.Call d s ∷ ds) zero c r h at =
    let same : d ≡ c = cc in ap f (sym same) ∙ (and_parts (f d) (list_all f (calls_among ds)) h).0
one_passes f (deed.Call d s ∷ ds) (suc i) c r h at = one_passes f ds i c r (and_parts (f d) (list_all f (calls_among ds)) h).1 at

-- and all pass where each does
all_pass : (f : ℕ → Bool) (ds : List Deed) → ((i c : ℕ) (r : Request) → slice_get ds i ≡ Some (deed.Call c r) → f c ≡ true) → list_all f (calls_among ds) ≡ true
all_pass f [] each = refl
all_pass f (deed.Put it ∷ ds) each = all_pass f ds (λ i c r at. each (suc i) c r at)
all_pass f (deed.Erase key ∷ ds) each = all_pass f ds (λ i c r at. each (suc i) c r at)
all_pass f (deed.Call d s ∷ ds) each = and_from (f d) (list_all f (calls_among ds)) (each 0 d s refl) (all_pass f ds (λ i c r at. each (suc i) c r at))

-- what stands before the last one of a list
before_last : {A : Type 0} (xs : List A) (y : A) (i : ℕ) → i < length xs → slice_get (xs ++ y ∷ []) i ≡ slice_get xs i
before_last [] y i below = absurd (omega (arith, below))
before_last (x ∷ xs) y zero below = refl
before_last (x ∷ xs) y (suc i) below = before_last xs y i (omega (arith, below))

-- all calls of a session but that of the last of what it did are answered
but_last : (script : Lives) (past : List Event) (k : ℕ) → are_in_turn script past ≡ true → (i c : ℕ) (r : Request) → suc i < length (deeds_by k past) →
    slice_get (deeds_by k past) i ≡ Some (deed.Call c r) → is_some (outcome_in past c) ≡ true
but_last script [] k turns i c r below at = absurd (cc)
but_last script (event ∷ past) k turns i c r below at =
    let both = and_parts (is_in_turn script past (doing_of event)) (are_in_turn script past) turns in
    by_doing (doing_of event) both.0 below at (but_last script past k both.1 i c r)
  where
    done : List Deed
    done = deeds_by k past

    by_test : (b : Bool) (d : Deed) → (b ≡ true → has_answers past k ≡ true) → suc i < length (if b then done ++ d ∷ [] else done) →
        slice_get (if b then done ++ d ∷ [] else done) i ≡ Some (deed.Call c r) →
        (suc i < length done → slice_get done i ≡ Some (deed.Call c r) → is_some (outcome_in past c) ≡ true) → is_some (outcome_in past c) ≡ true
    by_test true d answered below at rest =
        let more = length-append done (d ∷ []) in
        one_passes (λ call. is_some (outcome_in past call)) done i c r (answered refl) (sym (before_last done d i (omega (arith, below, more))) ∙ at)
    by_test false d answered below at rest = rest below at

    by_doing : (found : Option Doing) → is_in_turn script past found ≡ true → suc i < length (with_doing k found done) → slice_get (with_doing k found done) i ≡ Some (deed.Call c r) →
        (suc i < length done → slice_get done i ≡ Some (deed.Call c r) → is_some (outcome_in past c) ≡ true) → is_some (outcome_in (event ∷ past) c) ≡ true
    by_doing None turn below at rest = answer_stays past event c (rest below at)
    by_doing (Some doing) turn below at rest =
        answer_stays past event c
        (by_test (doing.session == k) doing.deed
        (λ t. ap (has_answers past) (sym (eqb-true doing.session k t)) ∙ (and_parts (doing.node == place_of script past doing.session) _ turn).1) below at rest)

-- a session whose last call is answered, where the last of what it did is one, has all its answers
pub has_all : (script : Lives) (past : List Event) (k : ℕ) → are_in_turn script past ≡ true →
    ((i c : ℕ) (r : Request) → suc i ≡ length (deeds_by k past) → slice_get (deeds_by k past) i ≡ Some (deed.Call c r) → is_some (outcome_in past c) ≡ true) →
    has_answers past k ≡ true
has_all script past k turns last = all_pass (λ call. is_some (outcome_in past call)) (deeds_by k past) each
  where
    each : (i c : ℕ) (r : Request) → slice_get (deeds_by k past) i ≡ Some (deed.Call c r) → is_some (outcome_in past c) ≡ true
    each i c r at =
        let within = slice_get_within (deeds_by k past) i (deed.Call c r) at in
        elim (cases_eq (suc i) (length (deeds_by k past))) [
          | inl same ↦ last i c r same at
          | inr other ↦ but_last script past k turns i c r (omega (arith, within, other)) at
        ]

-- a call that was made stays made
later_made : (event : Event) (past : List Event) (c : ℕ) → is_some (invoke_of past c) ≡ true → is_some (invoke_of (event ∷ past) c) ≡ true
later_made (Invoke j) past c h = by_test (j.call == c)
  where
    by_test : (b : Bool) → is_some (if b then Some j else invoke_of past c) ≡ true
    by_test true = refl
    by_test false = h
later_made _ past c h = h

-- what makes a call is an invocation
made_now : (event : Event) (past : List Event) (c : ℕ) (r : Request) (doing : Doing) → doing_of event ≡ Some doing → doing.deed ≡ deed.Call c r → is_some (invoke_of (event ∷ past) c) ≡ true
made_now (Invoke j) past c r doing e is = by_test (j.call == c) same
  where
    deeds : deed.Call j.call j.request ≡ deed.Call c r
    deeds = let d : Some (record { session = j.by; node = j.node; deed = deed.Call j.call j.request }) ≡ Some doing = e in cc

    same : (j.call == c) ≡ true
    same = let number : j.call ≡ c = (let d = deeds in cc) in eq-eqb j.call c number

    by_test : (b : Bool) → b ≡ true → is_some (if b then Some j else invoke_of past c) ≡ true
    by_test true t = refl
    by_test false t = absurd (cc)
made_now (Write w) past c r doing e is = absurd (cc)
made_now (Erase w) past c r doing e is = absurd (cc)
made_now _ past c r doing e is = absurd (cc)

-- the last of a list, or one before it
either_place : {A : Type 0} (xs : List A) (y x : A) (i : ℕ) → slice_get (xs ++ y ∷ []) i ≡ Some x → (slice_get xs i ≡ Some x) ⊎ (y ≡ x)
either_place [] y x zero h = inr (cc)
either_place [] y x (suc i) h = absurd (cc)
either_place (z ∷ xs) y x zero h = inl h
either_place (z ∷ xs) y x (suc i) h = either_place xs y x i h

-- a call among what a session did was made
pub deed_made : (past : List Event) (k i c : ℕ) (r : Request) → slice_get (deeds_by k past) i ≡ Some (deed.Call c r) → is_some (invoke_of past c) ≡ true
deed_made [] k i c r at = absurd (cc)
deed_made (event ∷ past) k i c r at = by_doing (doing_of event) refl at (deed_made past k i c r)
  where
    done : List Deed
    done = deeds_by k past

    by_test : (b : Bool) (doing : Doing) → doing_of event ≡ Some doing → slice_get (if b then done ++ doing.deed ∷ [] else done) i ≡ Some (deed.Call c r) →
        (slice_get done i ≡ Some (deed.Call c r) → is_some (invoke_of past c) ≡ true) → is_some (invoke_of (event ∷ past) c) ≡ true
    by_test true doing e at rest = elim (either_place done doing.deed (deed.Call c r) i at) [
      | inl before ↦ later_made event past c (rest before)
      | inr this ↦ made_now event past c r doing e this
    ]
    by_test false doing e at rest = later_made event past c (rest at)

    by_doing : (found : Option Doing) → doing_of event ≡ found → slice_get (with_doing k found done) i ≡ Some (deed.Call c r) →
        (slice_get done i ≡ Some (deed.Call c r) → is_some (invoke_of past c) ≡ true) → is_some (invoke_of (event ∷ past) c) ≡ true
    by_doing None e at rest = later_made event past c (rest at)
    by_doing (Some doing) e at rest = by_test (doing.session == k) doing e at rest

-- a call that was made and doesn't wait is answered
pub answered_now : (config : Config) (past : List Event) (st : State) (c : ℕ) → TellsCalls config past st → is_some (invoke_of past c) ≡ true →
    is_unanswered (call_of st.calling c) ≡ false → is_some (outcome_in past c) ≡ true
answered_now config past st c told made over = by_call (call_of st.calling c) refl over
  where
    asked : is_some (request_of past c) ≡ true
    asked = by_found (invoke_of past c) made
      where
        by_found : (found : Option InvokeEvent) → is_some found ≡ true → is_some (option_map (λ (i : InvokeEvent). i.request) found) ≡ true
        by_found None h = absurd (cc)
        by_found (Some i) h = refl

    known : (o : Option Outcome) → is_none o ≡ false → is_some o ≡ true
    known None h = absurd (cc)
    known (Some outcome) h = refl

    by_call : (found : Option Call) → call_of st.calling c ≡ found → is_unanswered found ≡ false → is_some (outcome_in past c) ≡ true
    by_call None e h = absurd (true≢false (sym asked ∙ ap is_some (told.others c e)))
    by_call (Some call) e h = ap is_some (told.calls c call e).outcome ∙ known call.outcome h

-- a session has all its answers where the last of what it did makes no call
pub no_last_call : (script : Lives) (past : List Event) (k : ℕ) (did : List Deed) → did ≡ deeds_by k past → are_in_turn script past ≡ true →
    ((call : ℕ) → EndsInCall did call → ⊥) → has_answers past k ≡ true
no_last_call script past k did same turns none =
    has_all script past k turns
    (λ i c r long at. absurd (subst (λ (ds : List Deed). EndsInCall ds c → ⊥) same (none c) (i, r, let l = long in omega (arith, l), at)))

-- or a call that is answered
pub last_call_over : (script : Lives) (past : List Event) (k : ℕ) (did : List Deed) (call : ℕ) → did ≡ deeds_by k past → are_in_turn script past ≡ true →
    EndsInCall did call → is_some (outcome_in past call) ≡ true → has_answers past k ≡ true
last_call_over script past k did call same turns ends over =
    let it = subst (λ (ds : List Deed). EndsInCall ds call) same ends in
    has_all script past k turns
    (λ i c r long at.
    let here : i ≡ it.0 = (let l = long in let m = it.2 in omega (arith, l, m)) in
    let one : Some (deed.Call c r) ≡ Some (deed.Call call it.1) = sym at ∙ ap (slice_get (deeds_by k past)) here ∙ it.3 in
    let number : c ≡ call = cc in ap (λ n. is_some (outcome_in past n)) number ∙ over)

-- such a call is answered, where it waits no more
pub waits_no_more : (script : Lives) (book : Booked) (k : ℕ) (did : List Deed) (call : ℕ) → is_config book.config ≡ true → runs (start book.config) book.events ≡ true →
    IsPartlyServed script (history_of book) → did ≡ deeds_by k (reverse book.events) → EndsInCall did call →
    is_unanswered (call_of (cluster_of book).calling call) ≡ false → has_answers (reverse book.events) k ≡ true
waits_no_more script book k did call good run h same ends over =
    let it = subst (λ (ds : List Deed). EndsInCall ds call) same ends in
    last_call_over script (reverse book.events) k did call same h.turns ends
    (answered_now book.config (reverse book.events) (cluster_of book) call (calls_told_by book.config book.events good run)
    (deed_made (reverse book.events) k it.0 call it.1 it.3) over)

-- a call that can't be driven on waits no more
pub driven_out : (st : State) (call : ℕ) → NothingIsStuck st → chosen st (commands.Drive call) ≡ None → is_unanswered (call_of st.calling call) ≡ false
unfolding chosen
driven_out st call nothing none = by_test (is_unanswered (call_of st.calling call)) refl
  where
    by_test : (b : Bool) → is_unanswered (call_of st.calling call) ≡ b → b ≡ false
    by_test false e = refl
    by_test true e = absurd (true≢false (sym (nothing.drive call e) ∙ ap is_some none))
