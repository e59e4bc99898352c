-- A load that is put entry by entry serves a part of its script. A past lists events, the newest first.
use Rattle.std.proofs.Common.{◌≡◌, ℕ, zero, suc, ◌+◌, ◌<◌, ◌≤◌, ◌==◌, true, List, [], ◌∷◌, ◌++◌, length, map, take, reverse, slice_get, Some, refl, sym, ap, subst, ◌∙◌, arith, if◌then◌else◌, unwrap_or}
use mathlib.Core.List.{reverse_aux}
use Rattle.std.proofs.lemmas.Bool.{and_parts, eqb-true, lt-ltb, ne_eqb}
use Rattle.std.proofs.lemmas.List.{length-map, length-take-le, take-map, take_all}
use Rattle.std.proofs.lemmas.Option.{slice_get_within}
use Rattle.grid_base.specs.declared.entry.Entry.{Entry}
use Rattle.grid_event.specs.Members.{is_live, live_members}
use Rattle.grid_event.specs.declared.config.Config.{Config}
use Rattle.grid_event.specs.declared.event.Event.{Event}
use Rattle.grid_script.specs.LiveRules.{IsLive}
use Rattle.grid_script.specs.Scripts.{Lives, are_numbered}
use Rattle.grid_script.specs.declared.deed.Deed.{Deed}
use Rattle.grid_script.specs.declared.deed.Deed.TheVariants as deed
use Rattle.grid_script.specs.declared.session.Session.{Session}
use Rattle.cluster_laws.proofs.copies.Starts.{good_config}
use Rattle.cluster_model.specs.Answers.{first_of}
use Rattle.cluster_model.specs.Commands.{chosen}
use Rattle.cluster_model.specs.State.{start}
use Rattle.cluster_model.specs.Step.{runs}
use Rattle.grid_event.specs.declared.command.Command.{Command}
use Rattle.grid_book.specs.Booked.{Booked, cluster_of, history_of, with_found}
use Rattle.live_run.specs.Due.{IsDue, command_of}
use Rattle.live_run.specs.Serving.{IsPartlyServed, deeds_by, home_in, load_event, load_events, orders_of, place_at, place_of}
use Rattle.live_run.specs.Staying.{IsBegun, with_load}
use Rattle.live_run.proofs.Filling.{order_is_due}
use Rattle.live_run.proofs.Starting.{puts_go}
use Rattle.live_run.proofs.Loads.{load_answered, loads_done}
use Rattle.live_run.proofs.Parts.{load_keeps, take_one}

-- an entry of the load by its place
pub entry_at : (load : List Entry) (n : ℕ) (it : Entry) → slice_get load n ≡ Some it → slice_get (map load_event load) n ≡ Some (load_event it)
entry_at [] n it h = absurd (cc)
entry_at (first ∷ load) zero it h = let same : first ≡ it = cc in ap (λ e. Some (load_event e)) same
entry_at (first ∷ load) (suc n) it h = entry_at load n it h

-- what is within a list stands there
some_at : {A : Type 0} (xs : List A) (n : ℕ) → n < length xs → (x : A) × (slice_get xs n ≡ Some x)
some_at [] n h = absurd (omega (arith, h))
some_at (x ∷ xs) zero h = (x, refl)
some_at (x ∷ xs) (suc n) h = some_at xs n (omega (arith, h))

-- no session has the number 0
no_home : (n : ℕ) (sessions : List Session) → are_numbered (suc n) sessions ≡ true → home_in sessions 0 ≡ 0
no_home n [] numbered = refl
no_home n (session ∷ sessions) numbered =
    let p = and_parts (session.number == suc n) (are_numbered (suc (suc n)) sessions) numbered in
    ap (λ b. if b then session.home else home_in sessions 0) (ne_eqb session.number 0 (λ e. absurd (let s = eqb-true session.number (suc n) p.0 in omega (arith, e, s))))
    ∙ no_home (suc n) sessions p.1

-- the load takes no node away
live_still : (config : Config) (load : List Entry) (past : List Event) → is_live config (reverse_aux (map load_event load) past) 0 ≡ is_live config past 0
live_still config [] past = refl
live_still config (it ∷ load) past = live_still config load (load_event it ∷ past)

-- what was done of a load is so much of it
done_so_far : (script : Lives) (n : ℕ) → deeds_by 0 (reverse (take n (load_events script))) ≡ map deed.Put (take n script.load)
done_so_far script n =
    ap (λ (es : List Event). deeds_by 0 (reverse es)) (take-map load_event n script.load) ∙ loads_done (take n script.load) []

-- so much of the load as there is
pub so_many : (script : Lives) (n : ℕ) → n ≤ length script.load → length (take n (load_events script)) ≡ n
so_many script n few = length-take-le n (load_events script) (let l = length-map script.load load_event in omega (arith, l, few))

-- one more of the load
pub load_more : (script : Lives) (n : ℕ) (it : Entry) → slice_get script.load n ≡ Some it → take n (load_events script) ++ load_event it ∷ [] ≡ take (n + 1) (load_events script)
load_more script n it at =
    take_one (load_events script) n (load_event it) (entry_at script.load n it at) ∙ ap (λ m. take m (load_events script)) (let one : suc n ≡ n + 1 = omega arith in one)

-- the next put of a load is the next that the load does
put_next : (script : Lives) (n : ℕ) (it : Entry) → slice_get script.load n ≡ Some it →
    slice_get (orders_of script 0) (length (deeds_by 0 (reverse (take n (load_events script))))) ≡ Some (deed.Put it)
put_next script n it at =
    ap (λ m. slice_get (map deed.Put script.load) m)
    (ap (λ (ds : List Deed). length ds) (done_so_far script n) ∙ length-map (take n script.load) deed.Put
    ∙ length-take-le n script.load (let within = slice_get_within script.load n it at in omega (arith, within)))
    ∙ put_at script.load n it at
  where
    put_at : (load : List Entry) (n : ℕ) (it : Entry) → slice_get load n ≡ Some it → slice_get (map deed.Put load) n ≡ Some (deed.Put it)
    put_at [] n it h = absurd (cc)
    put_at (first ∷ load) zero it h = let same : first ≡ it = cc in ap (λ e. Some (deed.Put e)) same
    put_at (first ∷ load) (suc n) it h = put_at load n it h

-- and it is done at node 0
load_placed : (script : Lives) → IsLive script → (n : ℕ) → place_of script (reverse (take n (load_events script))) 0 ≡ 0
load_placed script live n =
    ap (place_at script.config past) (no_home 0 script.sessions live.numbered)
    ∙ ap (λ b. if b then 0 else unwrap_or (first_of (live_members script.config past)) 0) alive
  where
    past : List Event
    past = reverse (take n (load_events script))

    alive : is_live script.config past 0 ≡ true
    alive =
        ap (λ (es : List Event). is_live script.config (reverse es) 0) (take-map load_event n script.load)
        ∙ live_still script.config (take n script.load) [] ∙ lt-ltb 0 script.config.nodes (good_config script.config live.settings).nodes

-- a load of which so much is put serves a part of the script
pub front_partly : (script : Lives) → IsLive script → (n : ℕ) → n ≤ length script.load → IsPartlyServed script (history_of (with_load script n))
front_partly script live zero few = record {
  settings = refl;
  unnoted = refl;
  loaded = take_all (length script.load) [] (omega arith);
  ordered = λ k. refl;
  turns = refl;
  once = λ call. omega arith;
  moved = refl;
  timeless = refl;
}
front_partly script live (suc n) few =
    let one = some_at script.load n (omega (arith, few)) in
    let long = so_many script n (omega (arith, few)) in
    subst (λ (es : List Event). IsPartlyServed script (record { config = Some script.config; events = es; idle = [] }))
    (load_more script n one.0 one.1 ∙ ap (λ m. take m (load_events script)) (let same : n + 1 ≡ suc n = omega arith in same))
    (load_keeps script (history_of (with_load script n)) (load_event one.0) (record { session = 0; node = 0; deed = deed.Put one.0 })
    (front_partly script live n (omega (arith, few))) (omega (arith, long, few)) refl refl
    (ap (slice_get (load_events script)) long ∙ entry_at script.load n one.0 one.1)
    (put_next script n one.0 one.1) (sym (load_placed script live n)) (load_answered (reverse (take n (load_events script))) (take n script.load) (done_so_far script n)))

-- the next put of a load is due
pub put_due : (script : Lives) (n : ℕ) (it : Entry) (book : Booked) (command : Command) (who node : ℕ) → IsLive script → book ≡ with_load script n → slice_get script.load n ≡ Some it →
    command ≡ command_of who node (deed.Put it) → who ≡ 0 → node ≡ 0 → IsDue script (reverse book.events) command
put_due script n it book command who node live front at is first there =
    subst (λ (b : Booked). IsDue script (reverse b.events) command) (sym front)
    (subst (IsDue script (reverse (take n (load_events script))))
    (sym (is ∙ ap (λ k. command_of k node (deed.Put it)) first ∙ ap (λ k. command_of 0 k (deed.Put it)) there))
    (order_is_due script (reverse (take n (load_events script))) 0 0 (deed.Put it) (put_next script n it at) (sym (load_placed script live n))))

-- it has its event
pub put_event : (script : Lives) (n : ℕ) (it : Entry) (book : Booked) (command : Command) (who node : ℕ) → IsLive script → book ≡ with_load script n →
    runs (start book.config) book.events ≡ true → slice_get script.load n ≡ Some it → command ≡ command_of who node (deed.Put it) → who ≡ 0 → node ≡ 0 →
    chosen (cluster_of book) command ≡ Some (load_event it)
put_event script n it book command who node live front run at is first there =
    ap (chosen (cluster_of book)) (is ∙ ap (λ k. command_of k node (deed.Put it)) first ∙ ap (λ k. command_of 0 k (deed.Put it)) there)
    ∙ ap (λ (b : Booked). chosen (cluster_of b) (command_of 0 0 (deed.Put it))) front
    ∙ puts_go script n it live (ap (λ (b : Booked). runs (start b.config) b.events) (sym front) ∙ run) at

-- behind it one more is put
pub put_done : (script : Lives) (n : ℕ) (it : Entry) (book : Booked) → book ≡ with_load script n → slice_get script.load n ≡ Some it →
    with_found book (Some (load_event it)) ≡ with_load script (n + 1)
put_done script n it book front at =
    ap (λ (b : Booked). with_found b (Some (load_event it))) front
    ∙ ap (λ (es : List Event). record { config = script.config; events = es }) (load_more script n it at)

-- the whole load is a beginning
pub front_begun : (script : Lives) → IsLive script → (n : ℕ) (book : Booked) → book ≡ with_load script n → n ≡ length script.load → IsBegun script book
front_begun script live n book front all =
    subst (IsBegun script) (sym front)
    (record {
      partly = front_partly script live n (omega (arith, all));
      whole = let l = so_many script n (omega (arith, all)) in omega (arith, l, all);
    })
