-- Session by session all is done.
use Rattle.std.proofs.Common.{◌≡◌, ◌<◌, ◌+◌, ℕ, List, Some, length, get_or, slice_get, reverse, refl, sym, ap, subst, ◌∙◌, arith, inl, inr}
use Rattle.std.proofs.lemmas.Bool.{cases_eq, ne_eqb}
use Rattle.std.proofs.lemmas.Option.{slice_get_read}
use Rattle.grid_script.specs.LiveRules.{IsLive}
use Rattle.grid_script.specs.Scripts.{Lives}
use Rattle.grid_script.specs.declared.deed.Deed.{Deed}
use Rattle.grid_script.specs.declared.session.Session.{Session}
use Rattle.live_run.specs.Serving.{deeds_by}
use Rattle.live_run.specs.Staying.{IsFinishedBy}
use Rattle.live_run.proofs.Ends.{session_at}
use Rattle.live_run.proofs.Staying.{finished_stays}
use Rattle.live_run.proofs.serial.finish_sessions.Goals as goal

pub finish_session-requires-clause-there : goal.finish_session-requires-clause-there
finish_session-requires-clause-there c =
    let script = c.args.script.now in
    let session = c.index-sessions-place.result in
    let place = c.loop-place.place in
    let live = subst IsLive c.script.view_is c.script.invariant in
    let same = c.as_slice-sessions.ensures ∙ ap (λ (s : Lives). s.sessions) c.script.view_is in
    let within : place < length script.sessions = (let test = c.loop-place-test.true in let l = ap (λ (ss : List Session). length ss) same in omega (arith, test, l)) in
    let at : slice_get script.sessions place ≡ Some session =
    slice_get_read script.sessions (length script.sessions) place session refl within (c.index-sessions-place.is ∙ ap (λ (ss : List Session). get_or ss place session) same) in
    let it = session_at script place session live at in
    it.0

pub finish_session-requires-clause-count : goal.finish_session-requires-clause-count
finish_session-requires-clause-count c =
    let script = c.args.script.now in
    let session = c.index-sessions-place.result in
    let place = c.loop-place.place in
    let live = subst IsLive c.script.view_is c.script.invariant in
    let same = c.as_slice-sessions.ensures ∙ ap (λ (s : Lives). s.sessions) c.script.view_is in
    let within : place < length script.sessions = (let test = c.loop-place-test.true in let l = ap (λ (ss : List Session). length ss) same in omega (arith, test, l)) in
    let at : slice_get script.sessions place ≡ Some session =
    slice_get_read script.sessions (length script.sessions) place session refl within (c.index-sessions-place.is ∙ ap (λ (ss : List Session). get_or ss place session) same) in
    let it = session_at script place session live at in
    c.loop-place.invariant.counts place (omega arith) within ∙ ap (λ k. length (deeds_by k (reverse c.loop-place.book.events))) (sym it.1)

pub loop-place-preserved : goal.loop-place-preserved
loop-place-preserved c =
    let script = c.args.script.now in
    let session = c.index-sessions-place.result in
    let place = c.loop-place.place in
    let live = subst IsLive c.script.view_is c.script.invariant in
    let same = c.as_slice-sessions.ensures ∙ ap (λ (s : Lives). s.sessions) c.script.view_is in
    let within : place < length script.sessions = (let test = c.loop-place-test.true in let l = ap (λ (ss : List Session). length ss) same in omega (arith, test, l)) in
    let at : slice_get script.sessions place ≡ Some session =
    slice_get_read script.sessions (length script.sessions) place session refl within (c.index-sessions-place.is ∙ ap (λ (ss : List Session). get_or ss place session) same) in
    let it = session_at script place session live at in
    let was = c.loop-place.book in
    let is = c.finish_session.new.book in
    let apart = λ (k : ℕ) (other : k ≡ place → ⊥). ne_eqb session.number (k + 1) (λ e. other (let n = it.1 in omega (arith, e, n))) in
    record {
      begun = c.finish_session.ensures.begun;
      finished = λ k below. elim (cases_eq k place) [
        | inl here ↦ subst (IsFinishedBy script is) (it.1 ∙ ap (λ n. n + 1) (sym here)) c.in_ok-finish_session.ensures.finished
        | inr other ↦ finished_stays script was is (k + 1) (c.loop-place.invariant.finished k (omega (arith, below, other))) (c.finish_session.ensures.stays (k + 1) (apart k other))
      ];
      counts = λ k further below.
          let other : k ≡ place → ⊥ = (λ e. omega (arith, e, further)) in
          c.loop-place.invariant.counts k (omega (arith, further)) below
          ∙ ap (λ (ds : List Deed). length ds) (sym (c.finish_session.ensures.stays (k + 1) (apart k other)).deeds);
      changes = c.finish_session.ensures.changes ∙ c.loop-place.invariant.changes;
    }
