-- What one more event makes of each part that is served. A past lists events, the newest first.
use Rattle.std.proofs.Common.{◌≡◌, ℕ, zero, suc, ◌≤◌, ◌<◌, ◌==◌, Bool, true, false, cond, if◌then◌else◌, List, [], ◌∷◌, ◌++◌, length, take, reverse, slice_get, Option, None, Some, is_none, is_some, refl, sym, ap, subst, ◌∙◌, arith}
use Rattle.std.proofs.lemmas.Bool.{and_parts, and_from, eq-eqb, eqb-true, true≢false}
use Rattle.std.proofs.lemmas.List.{length-append, reverse-append, take_all, take-append-le, length-map}
use Rattle.std.specs.List.{list_all}
use Rattle.grid_event.specs.Histories.{History, with_event}
use Rattle.grid_event.specs.Spans.{answers, outcome_in}
use Rattle.grid_event.specs.declared.event.Event.{Event}
use Rattle.grid_event.specs.declared.event.Event.TheVariants.{Answer, Join, Depart}
use Rattle.grid_script.specs.Scripts.{Lives}
use Rattle.grid_script.specs.declared.deed.Deed.{Deed}
use Rattle.grid_script.specs.declared.member.Member.{Member}
use Rattle.cluster_laws.proofs.answers.AnswerStays.{outcome_stays}
use Rattle.cluster_model.specs.Evidence.{how_many}
use Rattle.live_run.specs.Serving.{Begins, Doing, IsPartlyServed, changes_in, change_of, deeds_by, doing_of, has_answers, are_in_turn, is_in_turn, is_inner_event, is_timeless, load_event, load_events, orders_of, place_of, with_change, with_doing}

-- the past of one event more
pub behind : (es : List Event) (e : Event) → reverse (es ++ e ∷ []) ≡ e ∷ reverse es
behind es e = reverse-append es (e ∷ [])

-- ---- the load

-- a load that is whole stays in front
pub still_loaded : (n : ℕ) (es loads : List Event) (e : Event) → length loads ≡ n → n ≤ length es → take n es ≡ take (length es) loads →
    take n (es ++ e ∷ []) ≡ take (length (es ++ e ∷ [])) loads
still_loaded n es loads e all whole h =
    let more = length-append es (e ∷ []) in
    take-append-le n es (e ∷ []) whole ∙ h ∙ take_all (length es) loads (omega (arith, all))
    ∙ sym (take_all (length (es ++ e ∷ [])) loads (omega (arith, all)))

-- ---- lists that begin others

-- one more of what is to be done
pub begins_more : {A : Type 0} (xs ys : List A) (y : A) → Begins xs ys → slice_get ys (length xs) ≡ Some y → Begins (xs ++ y ∷ []) ys
begins_more [] [] y b g = absurd (cc)
begins_more [] (z ∷ ys) y b g = let e : z ≡ y = cc in ap (λ x. x ∷ []) (sym e)
begins_more (x ∷ xs) [] y b g = absurd (cc)
begins_more (x ∷ xs) (z ∷ ys) y b g = let p : x ≡ z = cc in let q : xs ≡ take (length xs) ys = cc in λ i. p i ∷ begins_more xs ys y q g i

-- ---- answers

-- a call without an outcome has no answer
pub none_answered : (past : List Event) (call : ℕ) → outcome_in past call ≡ None → how_many (answers call) past ≡ 0
none_answered [] call none = refl
none_answered (event ∷ past) call none = by_test (answers call event) refl (none_answered past call)
  where
    never : (event : Event) → answers call event ≡ true → outcome_in (event ∷ past) call ≡ None → ⊥
    never (Answer a) t e = let f : Some a.outcome ≡ None = sym (ap (λ b. if b then Some a.outcome else outcome_in past call) t) ∙ e in cc
    never _ t e = absurd (cc)

    by_test : (b : Bool) → answers call event ≡ b → (outcome_in past call ≡ None → how_many (answers call) past ≡ 0) → how_many (answers call) (event ∷ past) ≡ 0
    by_test true t further = absurd (never event t none)
    by_test false t further =
        let rest = further (sym (outcome_stays past event call t) ∙ none) in
        let one = ap (λ b. cond {A = ℕ} b 1 0) t in omega arith

-- a call that is answered stays so
pub answer_stays : (past : List Event) (event : Event) (call : ℕ) → is_some (outcome_in past call) ≡ true → is_some (outcome_in (event ∷ past) call) ≡ true
answer_stays past event call h = by_test (answers call event) refl
  where
    now_some : (event : Event) → answers call event ≡ true → is_some (outcome_in (event ∷ past) call) ≡ true
    now_some (Answer a) t = ap (λ b. is_some (if b then Some a.outcome else outcome_in past call)) t
    now_some _ t = absurd (cc)

    by_test : (b : Bool) → answers call event ≡ b → is_some (outcome_in (event ∷ past) call) ≡ true
    by_test true t = now_some event t
    by_test false t = ap is_some (outcome_stays past event call t) ∙ h

-- one more event answers a call for the first time, or leaves the number of its answers
pub once_more : (past : List Event) (event : Event) (call : ℕ) → (answers call event ≡ true → outcome_in past call ≡ None) →
    how_many (answers call) past ≤ 1 → how_many (answers call) (event ∷ past) ≤ 1
once_more past event call first h = by_test (answers call event) refl
  where
    by_test : (b : Bool) → answers call event ≡ b → how_many (answers call) (event ∷ past) ≤ 1
    by_test true t = let none = none_answered past call (first t) in let one = ap (λ b. cond {A = ℕ} b 1 0) t in omega arith
    by_test false t = let one = ap (λ b. cond {A = ℕ} b 1 0) t in omega arith

-- an event that isn't an answer answers no call
pub no_answer : (event : Event) (call : ℕ) (doing : Doing) → doing_of event ≡ Some doing → answers call event ≡ false
no_answer (Answer a) call doing e = absurd (cc)
no_answer _ call doing e = refl

-- ---- all parts

-- an event is inner by three tests
pub record IsInner (event : Event) : Type 0 where
  pub doing : doing_of event ≡ None
  pub change : change_of event ≡ None
  pub timeless : is_timeless event ≡ true

none_of : {A : Type 0} (o : Option A) → is_none o ≡ true → o ≡ None
none_of None h = refl
none_of (Some x) h = absurd (cc)

pub inner_tests : (event : Event) → is_inner_event event ≡ true → IsInner event
inner_tests event h =
    let p = and_parts (is_none (doing_of event)) _ h in
    let q = and_parts (is_none (change_of event)) (is_timeless event) p.1 in
    record { doing = none_of (doing_of event) p.0; change = none_of (change_of event) q.0; timeless = q.1 }

-- an inner event behind a whole load keeps each part
pub inner_keeps : (script : Lives) (history : History) (event : Event) → IsPartlyServed script history → length script.load ≤ length history.events → IsInner event →
    ((call : ℕ) → answers call event ≡ true → outcome_in (reverse history.events) call ≡ None) → IsPartlyServed script (with_event history event)
inner_keeps script history event h whole inner first =
    let past = reverse history.events in
    let on = behind history.events event in
    record {
      settings = h.settings;
      unnoted = h.unnoted;
      loaded = still_loaded (length script.load) history.events (load_events script) event (length-map script.load load_event) whole h.loaded;
      ordered = λ k.
          subst (λ (done : List Deed). Begins done (orders_of script k))
          (sym (ap (deeds_by k) on ∙ ap (λ d. with_doing k d (deeds_by k past)) inner.doing)) (h.ordered k);
      turns = ap (are_in_turn script) on ∙ and_from (is_in_turn script past (doing_of event)) _ (ap (is_in_turn script past) inner.doing) h.turns;
      once = λ call. subst (λ (p : List Event). how_many (answers call) p ≤ 1) (sym on) (once_more past event call (first call) (h.once call));
      moved =
          subst (λ (changes : List Member). Begins changes script.changes)
          (sym (ap changes_in on ∙ ap (λ c. with_change c (changes_in past)) inner.change)) h.moved;
      timeless = ap (list_all is_timeless) on ∙ and_from (is_timeless event) (list_all is_timeless past) inner.timeless h.timeless;
    }

-- ---- orders

-- what a session did is one more of its orders, and of the others nothing
order_begins : (k : ℕ) (doing : Doing) (done : List Deed) (orders : List Deed) → Begins done orders →
    ((doing.session == k) ≡ true → slice_get orders (length done) ≡ Some doing.deed) → Begins (with_doing k (Some doing) done) orders
order_begins k doing done orders h is_next = by_test (doing.session == k) refl
  where
    by_test : (b : Bool) → (doing.session == k) ≡ b → Begins (if b then done ++ doing.deed ∷ [] else done) orders
    by_test true t = begins_more done orders doing.deed h (is_next t)
    by_test false t = h

-- a change is nothing that a session does
pub no_change : (event : Event) (doing : Doing) → doing_of event ≡ Some doing → change_of event ≡ None
no_change (Join node) doing e = absurd (cc)
no_change (Depart node) doing e = absurd (cc)
no_change _ doing e = refl

-- the next order of a session keeps each part
pub order_keeps : (script : Lives) (history : History) (event : Event) (doing : Doing) → IsPartlyServed script history → length script.load ≤ length history.events →
    doing_of event ≡ Some doing → is_timeless event ≡ true →
    slice_get (orders_of script doing.session) (length (deeds_by doing.session (reverse history.events))) ≡ Some doing.deed →
    doing.node ≡ place_of script (reverse history.events) doing.session → has_answers (reverse history.events) doing.session ≡ true →
    IsPartlyServed script (with_event history event)
order_keeps script history event doing h whole does timeless is_next placed answered =
    let past = reverse history.events in
    let on = behind history.events event in
    record {
      settings = h.settings;
      unnoted = h.unnoted;
      loaded = still_loaded (length script.load) history.events (load_events script) event (length-map script.load load_event) whole h.loaded;
      ordered = λ k.
          subst (λ (done : List Deed). Begins done (orders_of script k))
          (sym (ap (deeds_by k) on ∙ ap (λ d. with_doing k d (deeds_by k past)) does))
          (order_begins k doing (deeds_by k past) (orders_of script k) (h.ordered k)
          (λ t. subst (λ n. slice_get (orders_of script n) (length (deeds_by n past)) ≡ Some doing.deed) (eqb-true doing.session k t) is_next));
      turns =
          ap (are_in_turn script) on
          ∙ and_from (is_in_turn script past (doing_of event)) _
          (ap (is_in_turn script past) does
          ∙ and_from (doing.node == place_of script past doing.session) _ (eq-eqb doing.node (place_of script past doing.session) placed) answered)
          h.turns;
      once = λ call. subst (λ (p : List Event). how_many (answers call) p ≤ 1) (sym on)
          (once_more past event call (λ t. absurd (true≢false (sym t ∙ no_answer event call doing does))) (h.once call));
      moved =
          subst (λ (changes : List Member). Begins changes script.changes)
          (sym (ap changes_in on ∙ ap (λ c. with_change c (changes_in past)) (no_change event doing does))) h.moved;
      timeless = ap (list_all is_timeless) on ∙ and_from (is_timeless event) (list_all is_timeless past) timeless h.timeless;
    }

-- ---- changes

-- who changes the membership does nothing of a session's, lets no time pass and answers nothing
pub record IsChange (event : Event) (change : Member) : Type 0 where
  pub is : change_of event ≡ Some change
  pub doing : doing_of event ≡ None
  pub timeless : is_timeless event ≡ true
  pub answers : (call : ℕ) → answers call event ≡ false

-- the next change keeps each part
pub change_keeps : (script : Lives) (history : History) (event : Event) (change : Member) → IsPartlyServed script history → length script.load ≤ length history.events →
    IsChange event change → slice_get script.changes (length (changes_in (reverse history.events))) ≡ Some change → IsPartlyServed script (with_event history event)
change_keeps script history event change h whole is is_next =
    let past = reverse history.events in
    let on = behind history.events event in
    record {
      settings = h.settings;
      unnoted = h.unnoted;
      loaded = still_loaded (length script.load) history.events (load_events script) event (length-map script.load load_event) whole h.loaded;
      ordered = λ k.
          subst (λ (done : List Deed). Begins done (orders_of script k))
          (sym (ap (deeds_by k) on ∙ ap (λ d. with_doing k d (deeds_by k past)) is.doing)) (h.ordered k);
      turns = ap (are_in_turn script) on ∙ and_from (is_in_turn script past (doing_of event)) _ (ap (is_in_turn script past) is.doing) h.turns;
      once = λ call. subst (λ (p : List Event). how_many (answers call) p ≤ 1) (sym on)
          (once_more past event call (λ t. absurd (true≢false (sym t ∙ is.answers call))) (h.once call));
      moved =
          subst (λ (changes : List Member). Begins changes script.changes)
          (sym (ap changes_in on ∙ ap (λ c. with_change c (changes_in past)) is.is))
          (begins_more (changes_in past) script.changes change h.moved is_next);
      timeless = ap (list_all is_timeless) on ∙ and_from (is_timeless event) (list_all is_timeless past) is.timeless h.timeless;
    }

-- joins and departures are such
pub is_change : (event : Event) (change : Member) → change_of event ≡ Some change → IsChange event change
is_change (Join node) change e = record { is = e; doing = refl; timeless = refl; answers = λ call. refl }
is_change (Depart node) change e = record { is = e; doing = refl; timeless = refl; answers = λ call. refl }
is_change _ change e = absurd (cc)

-- ---- the load as it is made

-- what stands behind the front of a load
pub take_one : {A : Type 0} (xs : List A) (n : ℕ) (x : A) → slice_get xs n ≡ Some x → take n xs ++ x ∷ [] ≡ take (suc n) xs
take_one [] n x h = absurd (cc)
take_one (y ∷ xs) zero x h = let e : y ≡ x = cc in ap (λ a. a ∷ []) (sym e)
take_one (y ∷ xs) (suc n) x h = ap (λ l. y ∷ l) (take_one xs n x h)

-- the next write of a load that isn't whole
pub loaded_more : (n : ℕ) (es loads : List Event) (e : Event) → length loads ≡ n → length es < n → take n es ≡ take (length es) loads → slice_get loads (length es) ≡ Some e →
    take n (es ++ e ∷ []) ≡ take (length (es ++ e ∷ [])) loads
loaded_more n es loads e all short h is_next =
    let more = length-append es (e ∷ []) in
    take_all n (es ++ e ∷ []) (omega (arith, short, more))
    ∙ ap (λ l. l ++ e ∷ []) (sym (take_all n es (omega (arith, short))) ∙ h)
    ∙ take_one loads (length es) e is_next
    ∙ ap (λ m. take m loads) (let one : suc (length es) ≡ length (es ++ e ∷ []) = omega (arith, more) in one)

-- the next write of the load keeps each part, done at the load's place
pub load_keeps : (script : Lives) (history : History) (event : Event) (doing : Doing) → IsPartlyServed script history → length history.events < length script.load →
    doing_of event ≡ Some doing → is_timeless event ≡ true → slice_get (load_events script) (length history.events) ≡ Some event →
    slice_get (orders_of script doing.session) (length (deeds_by doing.session (reverse history.events))) ≡ Some doing.deed →
    doing.node ≡ place_of script (reverse history.events) doing.session → has_answers (reverse history.events) doing.session ≡ true →
    IsPartlyServed script (with_event history event)
load_keeps script history event doing h short does timeless is_next is_order placed answered =
    let past = reverse history.events in
    let on = behind history.events event in
    record {
      settings = h.settings;
      unnoted = h.unnoted;
      loaded = loaded_more (length script.load) history.events (load_events script) event (length-map script.load load_event) short h.loaded is_next;
      ordered = λ k.
          subst (λ (done : List Deed). Begins done (orders_of script k))
          (sym (ap (deeds_by k) on ∙ ap (λ d. with_doing k d (deeds_by k past)) does))
          (order_begins k doing (deeds_by k past) (orders_of script k) (h.ordered k)
          (λ t. subst (λ n. slice_get (orders_of script n) (length (deeds_by n past)) ≡ Some doing.deed) (eqb-true doing.session k t) is_order));
      turns =
          ap (are_in_turn script) on
          ∙ and_from (is_in_turn script past (doing_of event)) _
          (ap (is_in_turn script past) does
          ∙ and_from (doing.node == place_of script past doing.session) _ (eq-eqb doing.node (place_of script past doing.session) placed) answered)
          h.turns;
      once = λ call. subst (λ (p : List Event). how_many (answers call) p ≤ 1) (sym on)
          (once_more past event call (λ t. absurd (true≢false (sym t ∙ no_answer event call doing does))) (h.once call));
      moved =
          subst (λ (changes : List Member). Begins changes script.changes)
          (sym (ap changes_in on ∙ ap (λ c. with_change c (changes_in past)) (no_change event doing does))) h.moved;
      timeless = ap (list_all is_timeless) on ∙ and_from (is_timeless event) (list_all is_timeless past) timeless h.timeless;
    }
