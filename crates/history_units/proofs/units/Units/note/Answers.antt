use Rattle.std.proofs.Common.{◌≡◌, ◌+◌, ◌∷◌, true, sym, ap, subst}
use Rattle.grid_event.specs.declared.event.Event.TheVariants.{Round, Scan}
use Rattle.audit_clauses.specs.Shapes.{is_shaped}
use Rattle.history_units.specs.Told.{AreUnitsOf, KnowsGone}
use Rattle.history_units.proofs.Asking.{asked, asked_gone}
use Rattle.history_units.proofs.Events.{scanned}
use Rattle.history_units.proofs.units.Units.note.Goals as goal

pub returns-in_ok-ask-in-Round-clause-units : goal.returns-in_ok-ask-in-Round-clause-units
returns-in_ok-ask-in-Round-clause-units g c =
    let config = c.args.members.now.config in
    let is : c.args.event.now ≡ Round c.get.result.now = cc in
    let shaped = subst (λ event. is_shaped config g.past event ≡ true) is c.requires.1.1.1.1.1 in
    subst (λ event. AreUnitsOf (event ∷ g.past) c.ask.new.self) (sym is)
    (subst (AreUnitsOf (Round c.get.result.now ∷ g.past)) (sym c.in_ok-ask-in-Round.ensures.ok)
    (asked config g.past c.get.result.now (c.args.place + 1) c.args.self.now c.requires.1.0 (ap (λ n. n + 1) c.requires.1.1.1.0) shaped))

pub returns-in_ok-ask-in-Round-clause-gone : goal.returns-in_ok-ask-in-Round-clause-gone
returns-in_ok-ask-in-Round-clause-gone g c =
    let config = c.args.members.now.config in
    let is : c.args.event.now ≡ Round c.get.result.now = cc in
    let shaped = subst (λ event. is_shaped config g.past event ≡ true) is c.requires.1.1.1.1.1 in
    subst (λ event. KnowsGone config (event ∷ g.past) c.ask.new.self) (sym is)
    (subst (KnowsGone config (Round c.get.result.now ∷ g.past)) (sym c.in_ok-ask-in-Round.ensures.ok)
    (asked_gone config g.past c.get.result.now (c.args.place + 1) c.args.self.now c.requires.1.0 c.requires.1.1.0 shaped))

pub returns-in_ok-scan-in-Scan-clause-units : goal.returns-in_ok-scan-in-Scan-clause-units
returns-in_ok-scan-in-Scan-clause-units g c =
    let config = c.args.members.now.config in
    let is : c.args.event.now ≡ Scan c.get-in-Scan.result.now = cc in
    let shaped = subst (λ event. is_shaped config g.past event ≡ true) is c.requires.1.1.1.1.1 in
    subst (λ event. AreUnitsOf (event ∷ g.past) c.scan.new.self) (sym is)
    (scanned config g.past c.get-in-Scan.result.now (c.args.place + 1) c.args.self.now c.scan.new.self c.requires.1.0 c.in_ok-scan-in-Scan.ensures.ok (ap (λ n. n + 1) c.requires.1.1.1.0) shaped)
