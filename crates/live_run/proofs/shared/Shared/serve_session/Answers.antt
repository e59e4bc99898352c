-- A turn of a session, whose count is told.
use Rattle.std.proofs.Common.{◌≡◌, ◌<◌, ◌≤◌, ◌+◌, length, reverse, sym, ap, subst, ◌∙◌, arith}
use Rattle.std.proofs.lemmas.List.{length-reverse}
use Rattle.grid_base.specs.declared.limits.TheConstants.{MOST_EVENTS}
use Rattle.grid_script.specs.LiveRules.{IsLive}
use Rattle.grid_script.specs.Scripts.{Lives}
use Rattle.live_run.specs.Serving.{deeds_by}
use Rattle.live_run.specs.Turns.{ordered}
use Rattle.live_run.specs.declared.turns.Turn.{Turn}
use Rattle.live_run.proofs.Staying.{deeds_few}
use Rattle.live_run.proofs.TurnsShared.{count_told, is_at, shares_order, shares_turn}
use Rattle.live_run.proofs.shared.Shared.serve_session.Goals as goal

pub take_turn-requires-clause-there : goal.take_turn-requires-clause-there
take_turn-requires-clause-there g c =
    let held = c.self.inside.script.now in
    let session = c.index-sessions-place.result in
    let place = c.args.place in
    let same = c.as_slice-sessions.ensures ∙ ap (λ (s : Lives). s.sessions) c.script.view_is in
    let below : place < length c.as_slice-sessions.result.now = (let test = c.if-place-sessions.false in omega (arith, test)) in
    let at = is_at held c.as_slice-sessions.result.now session place (subst IsLive c.script.view_is c.script.invariant) same below c.index-sessions-place.is in
    at.there

pub take_turn-requires-clause-count : goal.take_turn-requires-clause-count
take_turn-requires-clause-count g c =
    let held = c.self.inside.script.now in
    let session = c.index-sessions-place.result in
    let place = c.args.place in
    let same = c.as_slice-sessions.ensures ∙ ap (λ (s : Lives). s.sessions) c.script.view_is in
    let below : place < length c.as_slice-sessions.result.now = (let test = c.if-place-sessions.false in omega (arith, test)) in
    let at = is_at held c.as_slice-sessions.result.now session place (subst IsLive c.script.view_is c.script.invariant) same below c.index-sessions-place.is in
    count_told g.B.Scripted.script held c.self.inside.book c.self.inside.done.items c.self.inside.moved place c.index-done.result.now session c.self.invariant.same c.self.invariant.serving at c.index-done.ensures

pub overflow_add-done : goal.overflow_add-done
overflow_add-done g c =
    let past = reverse c.take_turn.new.book.events in
    let number = c.index-sessions-place.result.number in
    let t = c.in-Ok-Ordered.ensures in
    let count : c.index-done.result.now + 1 ≡ length (deeds_by number past) =
    ap (λ (turn : Turn). c.index-done.result.now + ordered turn) (sym c.in-Ok-Ordered.field-0-is) ∙ t.count in
    let few : length (deeds_by number past) ≤ length past = deeds_few number past in
    let short : length past ≡ length c.take_turn.new.book.events = length-reverse c.take_turn.new.book.events in
    let most : length c.take_turn.new.book.events ≤ MOST_EVENTS = c.kept.ensures.few in
    omega (arith, count, few, short, most)

pub invariant_of-self : goal.invariant_of-self
invariant_of-self g c =
    let held = c.self.inside.script.now in
    let session = c.index-sessions-place.result in
    let place = c.args.place in
    let same = c.as_slice-sessions.ensures ∙ ap (λ (s : Lives). s.sessions) c.script.view_is in
    let below : place < length c.as_slice-sessions.result.now = (let test = c.if-place-sessions.false in omega (arith, test)) in
    let at = is_at held c.as_slice-sessions.result.now session place (subst IsLive c.script.view_is c.script.invariant) same below c.index-sessions-place.is in
    let t = c.in-Ok-Ordered.ensures in
    let count = ap (λ (turn : Turn). c.index-done.result.now + ordered turn) (sym c.in-Ok-Ordered.field-0-is) ∙ t.count in
    shares_order g.B.Scripted.script held c.self.inside.book c.take_turn.new.book c.self.inside.done.items c.self.inside.moved place c.index-done.result.now c.self.inside.stop c.self.inside.fault session
    c.self.invariant c.if-self.false at t.begun count t.stays t.changes

pub invariant_of-self-in-Ok-Driven : goal.invariant_of-self-in-Ok-Driven
invariant_of-self-in-Ok-Driven g c =
    let held = c.self.inside.script.now in
    let session = c.index-sessions-place.result in
    let place = c.args.place in
    let same = c.as_slice-sessions.ensures ∙ ap (λ (s : Lives). s.sessions) c.script.view_is in
    let below : place < length c.as_slice-sessions.result.now = (let test = c.if-place-sessions.false in omega (arith, test)) in
    let at = is_at held c.as_slice-sessions.result.now session place (subst IsLive c.script.view_is c.script.invariant) same below c.index-sessions-place.is in
    let t = c.in-Ok-Driven.ensures in
    let none = ap (λ (turn : Turn). c.index-done.result.now + ordered turn) (sym c.in-Ok-Driven.field-0-is) ∙ t.count in
    let count : c.index-done.result.now ≡ length (deeds_by session.number (reverse c.take_turn.new.book.events)) = omega (arith, none) in
    shares_turn g.B.Scripted.script held c.self.inside.book c.take_turn.new.book c.self.inside.done.items c.self.inside.moved place c.index-done.result.now c.self.inside.stop c.self.inside.fault session
    c.self.invariant c.if-self.false at c.index-done.ensures t.begun count t.stays t.changes

pub invariant_of-self-in-Ok-Idle : goal.invariant_of-self-in-Ok-Idle
invariant_of-self-in-Ok-Idle g c =
    let held = c.self.inside.script.now in
    let session = c.index-sessions-place.result in
    let place = c.args.place in
    let same = c.as_slice-sessions.ensures ∙ ap (λ (s : Lives). s.sessions) c.script.view_is in
    let below : place < length c.as_slice-sessions.result.now = (let test = c.if-place-sessions.false in omega (arith, test)) in
    let at = is_at held c.as_slice-sessions.result.now session place (subst IsLive c.script.view_is c.script.invariant) same below c.index-sessions-place.is in
    let t = c.in-Ok-Idle.ensures in
    let none = ap (λ (turn : Turn). c.index-done.result.now + ordered turn) (sym c.in-Ok-Idle.field-0-is) ∙ t.count in
    let count : c.index-done.result.now ≡ length (deeds_by session.number (reverse c.take_turn.new.book.events)) = omega (arith, none) in
    shares_turn g.B.Scripted.script held c.self.inside.book c.take_turn.new.book c.self.inside.done.items c.self.inside.moved place c.index-done.result.now c.self.inside.stop c.self.inside.fault session
    c.self.invariant c.if-self.false at c.index-done.ensures t.begun count t.stays t.changes

pub invariant_of-self-in-Ok-Over : goal.invariant_of-self-in-Ok-Over
invariant_of-self-in-Ok-Over g c =
    let held = c.self.inside.script.now in
    let session = c.index-sessions-place.result in
    let place = c.args.place in
    let same = c.as_slice-sessions.ensures ∙ ap (λ (s : Lives). s.sessions) c.script.view_is in
    let below : place < length c.as_slice-sessions.result.now = (let test = c.if-place-sessions.false in omega (arith, test)) in
    let at = is_at held c.as_slice-sessions.result.now session place (subst IsLive c.script.view_is c.script.invariant) same below c.index-sessions-place.is in
    let t = c.in-Ok-Over.ensures in
    let none = ap (λ (turn : Turn). c.index-done.result.now + ordered turn) (sym c.in-Ok-Over.field-0-is) ∙ t.count in
    let count : c.index-done.result.now ≡ length (deeds_by session.number (reverse c.take_turn.new.book.events)) = omega (arith, none) in
    shares_turn g.B.Scripted.script held c.self.inside.book c.take_turn.new.book c.self.inside.done.items c.self.inside.moved place c.index-done.result.now c.self.inside.stop c.self.inside.fault session
    c.self.invariant c.if-self.false at c.index-done.ensures t.begun count t.stays t.changes

pub invariant_of-self-in-Err : goal.invariant_of-self-in-Err
invariant_of-self-in-Err g c =
    let held = c.self.inside.script.now in
    let session = c.index-sessions-place.result in
    let place = c.args.place in
    let same = c.as_slice-sessions.ensures ∙ ap (λ (s : Lives). s.sessions) c.script.view_is in
    let below : place < length c.as_slice-sessions.result.now = (let test = c.if-place-sessions.false in omega (arith, test)) in
    let at = is_at held c.as_slice-sessions.result.now session place (subst IsLive c.script.view_is c.script.invariant) same below c.index-sessions-place.is in
    let t = c.in-Err.ensures in
    shares_turn g.B.Scripted.script held c.self.inside.book c.take_turn.new.book c.self.inside.done.items c.self.inside.moved place c.index-done.result.now c.self.inside.stop c.self.inside.fault session
    c.self.invariant c.if-self.false at c.index-done.ensures t.begun t.err t.stays t.changes
