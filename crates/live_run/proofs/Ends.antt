-- The end of a live run.
use Rattle.std.proofs.Common.{◌≡◌, ℕ, zero, suc, ◌+◌, ◌<◌, ◌≤◌, ◌==◌, Bool, true, false, List, [], ◌∷◌, length, map, reverse, slice_get, None, Some, is_some, refl, sym, ap, subst, ◌∙◌, arith, if◌then◌else◌}
use Rattle.std.proofs.lemmas.Bool.{and_parts, eq-eqb, eqb-true, ltb-false, ltb-true, ne_eqb, true≢false}
use Rattle.std.proofs.lemmas.List.{length-map, take_all}
use Rattle.std.specs.List.{list_all}
use Rattle.std.specs.Prelude.{nat_lt}
use Rattle.grid_event.specs.Spans.{outcome_in}
use Rattle.grid_event.specs.declared.command.Command.TheVariants as commands
use Rattle.grid_event.specs.declared.config.Config.{Config}
use Rattle.grid_event.specs.declared.event.Event.{Event}
use Rattle.grid_script.specs.LiveRules.{IsLive}
use Rattle.grid_script.specs.Scripts.{Lives, are_numbered}
use Rattle.grid_script.specs.declared.deed.Deed.{Deed}
use Rattle.grid_script.specs.declared.deed.Deed.TheVariants as deeds
use Rattle.grid_script.specs.declared.session.Session.{Session}
use Rattle.cluster_laws.specs.Laws.{NothingIsStuck, is_settled}
use Rattle.cluster_model.specs.Commands.{advance_event, chosen}
use Rattle.cluster_model.specs.State.{start}
use Rattle.cluster_model.specs.Step.{state}
use Rattle.grid_book.specs.Booked.{Booked, cluster_of, history_of}
use Rattle.live_run.specs.Serving.{Begins, IsServed, calls_among, changes_in, deeds_by, home_in, load_event, load_events, orders_in, orders_of}
use Rattle.live_run.specs.Staying.{IsBegun, IsFinishedBy, IsSessionOf}
use Rattle.live_run.proofs.Loads.{load_answered, load_done}
use Rattle.live_run.proofs.Steps.{same_settings}

-- beyond the sessions nothing is ordered
none_ordered : (n : ℕ) (sessions : List Session) (k : ℕ) → are_numbered n sessions ≡ true → n + length sessions ≤ k → orders_in sessions k ≡ []
none_ordered n [] k numbered far = refl
none_ordered n (session ∷ sessions) k numbered far =
    let p = and_parts (session.number == n) (are_numbered (suc n) sessions) numbered in
    ap (λ b. if b then session.orders else orders_in sessions k)
    (ne_eqb session.number k (λ e. absurd (let s = eqb-true session.number n p.0 in omega (arith, e, s, far))))
    ∙ none_ordered (suc n) sessions k p.1 (omega (arith, far))

-- a session by its place
record StandsAt (n : ℕ) (sessions : List Session) (p : ℕ) (session : Session) : Type 0 where
  number : session.number ≡ n + p
  orders : orders_in sessions (n + p) ≡ session.orders
  home : home_in sessions (n + p) ≡ session.home

stands_at : (n : ℕ) (sessions : List Session) (p : ℕ) (session : Session) → are_numbered n sessions ≡ true → slice_get sessions p ≡ Some session → StandsAt n sessions p session
stands_at n [] p session numbered at = absurd (cc)
stands_at n (first ∷ sessions) zero session numbered at =
    let q = and_parts (first.number == n) (are_numbered (suc n) sessions) numbered in
    let same : first ≡ session = cc in
    let here : n + 0 ≡ n = omega arith in
    let number : first.number ≡ n + 0 = eqb-true first.number n q.0 ∙ sym here in
    let found = eq-eqb first.number (n + 0) number in
    subst (StandsAt n (first ∷ sessions) 0) same (record {
      number = number;
      orders = ap (λ b. if b then first.orders else orders_in sessions (n + 0)) found;
      home = ap (λ b. if b then first.home else home_in sessions (n + 0)) found;
    })
stands_at n (first ∷ sessions) (suc p) session numbered at =
    let q = and_parts (first.number == n) (are_numbered (suc n) sessions) numbered in
    let rest = stands_at (suc n) sessions p session q.1 at in
    let further : suc n + p ≡ n + suc p = omega arith in
    let other = ne_eqb first.number (n + suc p) (λ e. absurd (let s = eqb-true first.number n q.0 in omega (arith, e, s))) in
    record {
      number = rest.number ∙ further;
      orders =
          ap (λ b. if b then first.orders else orders_in sessions (n + suc p)) other
          ∙ ap (orders_in sessions) (sym further) ∙ rest.orders;
      home =
          ap (λ b. if b then first.home else home_in sessions (n + suc p)) other
          ∙ ap (home_in sessions) (sym further) ∙ rest.home;
    }

-- the session at a place is the script's of the number behind it
pub session_at : (script : Lives) (p : ℕ) (session : Session) → IsLive script → slice_get script.sessions p ≡ Some session → IsSessionOf script session × (session.number ≡ p + 1)
session_at script p session live at =
    let it = stands_at 1 script.sessions p session live.numbered at in
    let positive : 1 ≤ session.number = (let n = it.number in omega (arith, n)) in
    let apart = ne_eqb session.number 0 (λ e. absurd (omega (arith, e, positive))) in (
      record {
        positive = positive;
        orders =
            ap (λ b. if b then map deeds.Put script.load else orders_in script.sessions session.number) apart
            ∙ ap (orders_in script.sessions) it.number ∙ it.orders;
        home = ap (home_in script.sessions) it.number ∙ it.home;
      },
      let n = it.number in omega (arith, n),
    )

-- a book in which all is done, and whose topology has no event left, serves the script
served : (script : Lives) (book : Booked) → IsLive script → IsBegun script book → changes_in (reverse book.events) ≡ script.changes →
    ((k : ℕ) → k < length script.sessions → IsFinishedBy script book (k + 1)) → NothingIsStuck (cluster_of book) → advance_event (cluster_of book).holding ≡ None →
    IsServed script (history_of book)
served script book live begun moved finished nothing none = record {
  settings = begun.partly.settings;
  unnoted = refl;
  loaded =
      begun.partly.loaded
      ∙ take_all (length book.events) (load_events script) (let l = length-map script.load load_event in let w = begun.whole in omega (arith, l, w));
  ordered = λ k. (by_session k).all;
  turns = begun.partly.turns;
  answered = λ k. (by_session k).answered;
  once = begun.partly.once;
  moved = moved;
  timeless = begun.partly.timeless;
  settled =
      ap (λ (config : Config). is_settled (state (start config) book.events)) (sym (same_settings script book begun.partly))
      ∙ by_settled (is_settled (cluster_of book)) refl;
}
  where
    past : List Event
    past = reverse book.events

    by_settled : (b : Bool) → is_settled (cluster_of book) ≡ b → b ≡ true
    by_settled true e = refl
    by_settled false e = absurd (true≢false (sym (nothing.advance e) ∙ ap is_some none))

    nothing_done : (k : ℕ) → orders_of script k ≡ [] → IsFinishedBy script book k
    nothing_done k e =
        let empty : deeds_by k past ≡ [] = by_list (deeds_by k past) (subst (Begins (deeds_by k past)) e (begun.partly.ordered k)) in
        record {
          all = empty ∙ sym e;
          answered = ap (λ (ds : List Deed). list_all (λ call. is_some (outcome_in past call)) (calls_among ds)) empty;
        }
      where
        by_list : (ds : List Deed) → Begins ds [] → ds ≡ []
        by_list [] h = refl
        by_list (d ∷ ds) h = absurd (cc)

    by_place : (b : Bool) (j : ℕ) → nat_lt j (length script.sessions) ≡ b → IsFinishedBy script book (suc j)
    by_place true j e = subst (IsFinishedBy script book) (let s : j + 1 ≡ suc j = omega arith in s) (finished j (ltb-true j (length script.sessions) e))
    by_place false j e =
        nothing_done (suc j)
        (ap (λ b. if b then map deeds.Put script.load else orders_in script.sessions (suc j)) (ne_eqb (suc j) 0 (λ e. absurd (omega (arith, e))))
        ∙ none_ordered 1 script.sessions (suc j) live.numbered (let m = ltb-false j (length script.sessions) e in omega (arith, m)))

    by_session : (k : ℕ) → IsFinishedBy script book k
    by_session zero =
        let all = load_done script (history_of book) begun.partly begun.whole in
        record { all = all; answered = load_answered past script.load all }
    by_session (suc j) = by_place (nat_lt j (length script.sessions)) j refl

-- the same by the command that brings the topology on
pub served_by : (script : Lives) (book : Booked) → IsLive script → IsBegun script book → changes_in (reverse book.events) ≡ script.changes →
    ((k : ℕ) → k < length script.sessions → IsFinishedBy script book (k + 1)) → NothingIsStuck (cluster_of book) → chosen (cluster_of book) commands.Advance ≡ None →
    IsServed script (history_of book)
unfolding chosen
served_by script book live begun moved finished nothing none = served script book live begun moved finished nothing none
