-- Where the topology has no event left, the next order of a session has one. A past lists events, the newest first.
use Rattle.std.proofs.Common.{◌≡◌, ℕ, zero, suc, ◌<◌, ◌≤◌, ◌==◌, nat_le, Bool, true, false, List, [], ◌∷◌, length, map, reverse, slice_get, None, Some, is_none, is_some, refl, sym, ap, subst, ◌∙◌, arith, if◌then◌else◌, inl, inr, unwrap_or}
use Rattle.std.proofs.lemmas.Bool.{and_from, and_parts, eq-eqb, eqb-true, le-leb, leb-true, ne_eqb, or_cases, or_left, true≢false}
use Rattle.std.specs.List.{AllByRecursion, filter, range_with_len}
use Rattle.std.specs.Prelude.{Result, Ok, Err, is_ok}
use Rattle.grid_base.specs.declared.datum.Datum.{Datum}
use Rattle.grid_base.specs.declared.datum.Datum.TheVariants as data_of
use Rattle.grid_base.specs.declared.limits.TheConstants.{LAST_CALL, MOST_BATCH, MOST_NODES, MOST_ROUNDS, MOST_SEGMENTS}
use Rattle.grid_event.specs.Configs.{is_config, is_up_to}
use Rattle.grid_event.specs.Members.{is_live, live_members}
use Rattle.grid_event.specs.declared.command.Command.TheVariants as commands
use Rattle.grid_event.specs.declared.config.Config.{Config}
use Rattle.grid_event.specs.declared.event.Event.{Event}
use Rattle.grid_event.specs.declared.event.Event.TheVariants as events
use Rattle.grid_event.specs.declared.request.Request.{Request}
use Rattle.grid_script.specs.Judging.{needs}
use Rattle.grid_script.specs.LiveRules.{IsDeedOf, IsLive, IsRequestOf, deeds_of}
use Rattle.grid_script.specs.Rules.{is_kind, typed}
use Rattle.grid_script.specs.Scripts.{Lives}
use Rattle.grid_script.specs.declared.deed.Deed.{Deed}
use Rattle.grid_script.specs.declared.deed.Deed.TheVariants as deed
use Rattle.grid_script.specs.declared.reason.Reason.{Reason}
use Rattle.grid_script.specs.declared.reason.Reason.TheVariants.{KeyUngrouped}
use Rattle.grid_script.specs.declared.reason.Reason.TheVariants as reasons
use Rattle.pipeline_expr.specs.Typing.{checked}
use Rattle.pipeline_expr.specs.declared.check_fault.CheckFault.{CheckFault}
use Rattle.pipeline_expr.specs.declared.check_fault.CheckFault.TheVariants.{Mistyped, Over}
use Rattle.pipeline_expr.specs.declared.kind.Kind.{Kind}
use Rattle.pipeline_expr.specs.declared.kind.ValueKind.{ValueKind}
use Rattle.pipeline_expr.specs.declared.kind.ValueKind.TheVariants as kinds
use Rattle.segment_hash.proofs.SegmentLaws.{segment_below}
use Rattle.segment_hash.specs.Segments.{segment_number}
use Rattle.topology_coord.proofs.FirstNodes.{in_row}
use Rattle.topology_coord.proofs.MemberLaws.{among-live}
use Rattle.topology_coord.specs.Coordination.{Coordination, live_nodes, lives}
use Rattle.topology_phase.specs.Owners.{among}
use Rattle.cluster_laws.proofs.Runs.{always_kept}
use Rattle.cluster_laws.proofs.causes.CauseRuns.{always_reasoned}
use Rattle.cluster_laws.proofs.stuck.StuckRuns.{never_stuck}
use Rattle.cluster_laws.specs.Laws.{NothingIsStuck, fits_journal}
use Rattle.cluster_model.specs.Answers.{first_of}
use Rattle.cluster_model.specs.Calls.{can_invoke, is_request}
use Rattle.cluster_model.specs.Commands.{advance_event, chosen, if_can}
use Rattle.cluster_model.specs.State.{State, call_of, start}
use Rattle.cluster_model.specs.Step.{runs}
use Rattle.cluster_model.specs.Told.{IsTold}
use Rattle.cluster_model.specs.Writes.{can_change, can_erase, can_write, is_of_kind}
use Rattle.grid_book.specs.Booked.{Booked, cluster_of}
use Rattle.live_run.specs.Due.{command_of}
use Rattle.live_run.specs.Serving.{deeds_by, home_in, orders_in, orders_of, place_at, place_of}
use Rattle.live_run.proofs.Calls.{found_in}
use Rattle.live_run.specs.Staying.{IsBegun}
use Rattle.live_run.proofs.Going.{call_unmade, changes_go}
use Rattle.live_run.proofs.Steps.{same_settings}

-- ---- what the rules of a script say

-- what is needed holds
pub needs_true : (b : Bool) (reason : Reason) → needs b reason ≡ Ok tt → b ≡ true
needs_true true reason h = refl
needs_true false reason h = absurd (cc)

-- what holds of each element holds of the one at a place
pub each_at : {A : Type 0} (P : A → Type 0) (xs : List A) (i : ℕ) (x : A) → AllByRecursion P xs → slice_get xs i ≡ Some x → P x
each_at P [] i x all at = absurd (cc)
each_at P (y ∷ ys) zero x all at = let same : y ≡ x = cc in subst P same all.0
each_at P (y ∷ ys) (suc i) x all at = each_at P ys i x all.1 at

-- the order of a session keeps the rules of deeds
pub deed_of : (script : Lives) (k m : ℕ) (d : Deed) → IsLive script → 1 ≤ k → slice_get (orders_of script k) m ≡ Some d → IsDeedOf script.config d
deed_of script k m d live positive at =
    let found = found_in script.sessions k m d (apart at) in each_at (IsDeedOf script.config) (deeds_of script.sessions) found.0 d live.deeds found.1
  where
    apart : slice_get (orders_of script k) m ≡ Some d → slice_get (orders_in script.sessions k) m ≡ Some d
    apart h = sym (ap (λ b. slice_get (if b then map deed.Put script.load else orders_in script.sessions k) m) (ne_eqb k 0 (λ e. absurd (omega (arith, e, positive))))) ∙ h

-- a value of a kind, by a script and by the cluster
pub kinds_alike : (kind : ValueKind) (datum : Datum) → is_kind kind datum ≡ is_of_kind kind datum
kinds_alike kinds.Int (data_of.Int n) = refl
kinds_alike kinds.Int (data_of.Text t) = refl
kinds_alike kinds.Int (data_of.Flag b) = refl
kinds_alike kinds.Text (data_of.Int n) = refl
kinds_alike kinds.Text (data_of.Text t) = refl
kinds_alike kinds.Text (data_of.Flag b) = refl
kinds_alike kinds.Flag (data_of.Int n) = refl
kinds_alike kinds.Flag (data_of.Text t) = refl
kinds_alike kinds.Flag (data_of.Flag b) = refl

-- a pipeline that a script takes checks
typed_ok : (r : Result Kind CheckFault) → typed r ≡ Ok tt → is_ok r ≡ true
typed_ok (Ok kind) h = refl
typed_ok (Err (Over op)) h = absurd (cc)
typed_ok (Err (Mistyped op)) h = absurd (cc)

-- a number in its limits
within : (most n : ℕ) → 1 ≤ n → n ≤ most → is_up_to most n ≡ true
within most n some few = and_from (nat_le 1 n) (nat_le n most) (le-leb 1 n some) (le-leb n most few)

-- a request that a script takes is one of the cluster
request_good : (config : Config) (request : Request) → IsRequestOf config request → is_request config.values request ≡ true
request_good config request h =
    and_from (is_up_to MOST_ROUNDS request.rounds) _ (within MOST_ROUNDS request.rounds h.some_rounds h.most_rounds)
    (and_from (is_up_to MOST_BATCH request.batch) _ (within MOST_BATCH request.batch h.some_batch h.most_batch)
    (typed_ok (checked request.pipeline config.values) h.typed))

-- ---- where sessions act

-- some node lives
some_key : (c : Coordination) → 0 < length (live_nodes c) → (n : ℕ) × (lives c n ≡ true)
some_key c some = by_list (live_nodes c) refl some
  where
    by_list : (ks : List ℕ) → live_nodes c ≡ ks → 0 < length ks → (n : ℕ) × (lives c n ≡ true)
    by_list [] e h = absurd (omega (arith, h))
    by_list (x ∷ ks) e h = (x, sym (among-live c x) ∙ ap (among x) e ∙ or_left (x == x) (among x ks) (eq-eqb x x refl))

-- the first of those that pass passes, where one does
first_passes : (p : ℕ → Bool) (xs : List ℕ) (n : ℕ) → p n ≡ true → among n xs ≡ true → p (unwrap_or (first_of (filter p xs)) 0) ≡ true
first_passes p [] n passes there = absurd (cc)
first_passes p (x ∷ xs) n passes there = by_test (p x) refl (first_passes p xs n passes)
  where
    by_test : (b : Bool) → p x ≡ b → (among n xs ≡ true → p (unwrap_or (first_of (filter p xs)) 0) ≡ true) →
        p (unwrap_or (first_of (if b then x ∷ filter p xs else filter p xs)) 0) ≡ true
    by_test true e rest = e
    by_test false e rest = elim (or_cases (x == n) (among n xs) there) [
      | inl here ↦ absurd (true≢false (sym passes ∙ ap p (sym (eqb-true x n here)) ∙ e))
      | inr further ↦ rest further
    ]

-- where one acts, one lives
pub place_lives : (config : Config) (past : List Event) (home n : ℕ) → is_live config past n ≡ true → n < 16 → is_live config past (place_at config past home) ≡ true
place_lives config past home n live few = by_test (is_live config past home) refl
  where
    by_test : (b : Bool) → is_live config past home ≡ b → is_live config past (if b then home else unwrap_or (first_of (live_members config past)) 0) ≡ true
    by_test true e = e
    by_test false e = first_passes (is_live config past) (range_with_len 0 16) n live (in_row 0 16 n (omega arith) (omega (arith, few)))

-- ---- orders

-- what a test lets pass is there
passes : (test : Bool) (event : Event) → test ≡ true → is_some (if_can test event) ≡ true
passes test event h = ap (λ b. is_some (if_can b event)) h

-- settings have some segment
pub some_segments : (config : Config) → is_config config ≡ true → 0 < config.segments
some_segments config good =
    let a = and_parts (is_up_to MOST_NODES config.nodes) _ good in
    let b = and_parts (is_up_to MOST_SEGMENTS config.segments) _ a.1 in
    let c = and_parts (nat_le 1 config.segments) (nat_le config.segments MOST_SEGMENTS) b.0 in
    leb-true 1 config.segments c.0

-- a deed that keeps the rules has an event at a live node, where the topology has none and its call wasn't made
pub deed_goes : (config : Config) (past : List Event) (st : State) (k node : ℕ) (d : Deed) → is_config config ≡ true → IsTold config past st → NothingIsStuck st →
    advance_event st.holding ≡ None → lives st.holding.coord node ≡ true → IsDeedOf config d →
    ((c : ℕ) (r : Request) → d ≡ deed.Call c r → call_of st.calling c ≡ None) → is_some (chosen st (command_of k node d)) ≡ true
unfolding chosen can_write can_erase can_invoke
deed_goes config past st k node d good told nothing none live rules new = by_deed d rules new
  where
    changes : (key : List ℕ) → needs (is_some (segment_number config.partition config.segments key)) KeyUngrouped ≡ Ok tt → can_change st.holding node key ≡ true
    changes key h =
        changes_go st nothing none node key live
        (λ segment e.
        in_row 0 st.holding.config.segments segment (omega arith)
        (let s = segment_below st.holding.config.partition st.holding.config.segments key segment
        (subst (λ (c : Config). 0 < c.segments) (sym told.settings) (some_segments config good)) e in omega (arith, s)))
        (ap (λ (c : Config). is_some (segment_number c.partition c.segments key)) told.settings ∙ needs_true _ KeyUngrouped h)

    by_deed : (d : Deed) → IsDeedOf config d → ((c : ℕ) (r : Request) → d ≡ deed.Call c r → call_of st.calling c ≡ None) → is_some (chosen st (command_of k node d)) ≡ true
    by_deed (deed.Put it) rules new =
        passes _ (events.Write (record { by = k; node = node; key = it.key; value = it.value; until = None }))
        (and_from (can_change st.holding node it.key) _ (changes it.key rules.0)
        (and_from (is_of_kind st.holding.config.values it.value) true
        (ap (λ (c : Config). is_of_kind c.values it.value) told.settings ∙ sym (kinds_alike config.values it.value) ∙ needs_true _ reasons.Mistyped rules.1) refl))
    by_deed (deed.Erase key) rules new = passes _ (events.Erase (record { by = k; node = node; key = key })) (changes key rules)
    by_deed (deed.Call c r) rules new =
        passes _ (events.Invoke (record { by = k; call = c; node = node; request = r }))
        (and_from (lives st.holding.coord node) _ live
        (and_from (is_none (call_of st.calling c)) _ (ap is_none (new c r refl))
        (and_from (is_up_to LAST_CALL c) _ (within LAST_CALL c rules.0 rules.1.0)
        (ap (λ (s : Config). is_request s.values r) told.settings ∙ request_good config r rules.1.1))))

-- where the topology has no event left, the next order of a session has one where it acts
pub orders_go : (script : Lives) (book : Booked) (k : ℕ) (d : Deed) → IsLive script → is_config book.config ≡ true → runs (start book.config) book.events ≡ true →
    fits_journal book.events ≡ true → IsBegun script book → 1 ≤ k → slice_get (orders_of script k) (length (deeds_by k (reverse book.events))) ≡ Some d →
    chosen (cluster_of book) commands.Advance ≡ None → is_some (chosen (cluster_of book) (command_of k (place_of script (reverse book.events) k) d)) ≡ true
unfolding chosen
orders_go script book k d live good run fits begun positive is_next none =
    let past = reverse book.events in
    let same = same_settings script book begun.partly in
    let kept = always_kept book.config book.events good run in
    let some = some_key (cluster_of book).holding.coord kept.parts.topologies.some_live in
    let member = sym (kept.told.member some.0) ∙ kept.parts.topologies.member some.0 some.1 in
    let few = (always_reasoned book.config book.events good run).few some.0 member in
    let home = home_in script.sessions k in
    let there = place_lives book.config past home some.0 (sym (kept.told.live some.0) ∙ some.1) few in
    let placed = ap (λ (c : Config). place_at c past home) same in
    deed_goes book.config past (cluster_of book) k (place_of script past k) d good kept.told (never_stuck book.config book.events good run fits) none
    (kept.told.live (place_of script past k) ∙ ap (is_live book.config past) (sym placed) ∙ there)
    (subst (λ (c : Config). IsDeedOf c d) (sym same) (deed_of script k (length (deeds_by k past)) d live positive is_next))
    (λ c r e. call_unmade script book.config book.events k c r good run live.calls begun.partly.ordered (is_next ∙ ap (λ (x : Deed). Some x) e))
