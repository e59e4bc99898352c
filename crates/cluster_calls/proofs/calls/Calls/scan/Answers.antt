use Rattle.std.proofs.Common.{◌≡◌, ◌≤◌, ◌+◌, true, length, length-append, Some, refl, sym, subst, ap, ◌∙◌, arith}
use Rattle.std.specs.Prelude.{slice_get}
use Rattle.grid_base.specs.Portion.{Portion}
use Rattle.grid_base.specs.declared.limits.TheConstants.{MOST_READ}
use Rattle.cluster_model.specs.Units.{read_by}
use Rattle.grid_base.specs.declared.entry.Entry.{Entry}
use Rattle.local_publisher.specs.Stages.{is_open}
use Rattle.local_publisher.specs.Units.{extended}
use Rattle.cluster_model.specs.State.{Calling, Unit, unit_in}
use Rattle.cluster_calls.specs.Calling.{changes_unit, is_one, may_read}
use Rattle.cluster_calls.proofs.CallsLaws.{changed_kept, changed_seen, nothing_flies, numbers, read_unit, may_read_is}
use Rattle.cluster_calls.proofs.ListLaws.{within_get}
use Rattle.cluster_calls.proofs.PartLaws.{began, pieced_open}
use Rattle.cluster_calls.proofs.PastLaws.{past_set}
use Rattle.cluster_calls.proofs.RightLaws.{there, after_same}
use Rattle.cluster_calls.proofs.ListedLaws.{registered_same}
use Rattle.cluster_calls.proofs.calls.Calls.scan.Goals as goal

pub index_mut-unit-requires : goal.index_mut-unit-requires
index_mut-unit-requires c =
    let units = c.self.inside.units.items in
    let may : is_one may_read (unit_in units c.args.unit) ≡ true = subst (λ (x : Calling). is_one may_read (unit_in x.units c.args.unit) ≡ true) (sym c.self.view_is) c.requires.may in
    let h = there units c.args.unit may_read (numbers c.self.inside c.self.invariant) may in
    let at : slice_get units c.place_of-place.result ≡ Some h.unit = ap (slice_get units) c.place_of-place.ensures ∙ h.at in
    omega (arith, within_get units c.place_of-place.result h.unit at, c.self.inside.units.ok.0)

pub scan-requires : goal.scan-requires
scan-requires c =
    let units = c.self.inside.units.items in
    let may : is_one may_read (unit_in units c.args.unit) ≡ true = subst (λ (x : Calling). is_one may_read (unit_in x.units c.args.unit) ≡ true) (sym c.self.view_is) c.requires.may in
    let h = there units c.args.unit may_read (numbers c.self.inside c.self.invariant) may in
    let at : slice_get units c.place_of-place.result ≡ Some h.unit = ap (slice_get units) c.place_of-place.ensures ∙ h.at in
    let is = read_unit units c.place_of-place.result h.unit c.index_mut-unit.result.now at c.index_mut-unit.ensures.value in
    subst (λ (u : Unit). may_read u ≡ true) (sym is) h.passes

pub invariant_of-self-2 : goal.invariant_of-self-2
invariant_of-self-2 c =
    let units = c.self.inside.units.items in
    let may : is_one may_read (unit_in units c.args.unit) ≡ true = subst (λ (x : Calling). is_one may_read (unit_in x.units c.args.unit) ≡ true) (sym c.self.view_is) c.requires.may in
    let h = there units c.args.unit may_read (numbers c.self.inside c.self.invariant) may in
    let at : slice_get units c.place_of-place.result ≡ Some h.unit = ap (slice_get units) c.place_of-place.ensures ∙ h.at in
    let is = read_unit units c.place_of-place.result h.unit c.index_mut-unit.result.now at c.index_mut-unit.ensures.value in
    let state = may_read_is h.unit h.passes in
    let after : Unit = record h.unit { work = extended h.unit.work c.args.batch } in
    let more : c.len-more.result ≡ length c.args.batch.entries = c.len-more.ensures ∙ ap (λ (b : Portion Entry). length b.entries) c.batch.view_is in
    let few = subst (λ (x : Calling). read_by x.units + length c.args.batch.entries ≤ MOST_READ) (sym c.self.view_is) c.requires.few in
    changed_kept c.self.inside c.self.invariant c.place_of-place.result h.unit after c.scan.new.self c.self.inside.table c.self.inside.table c.self.inside.listeners (c.self.inside.read + c.len-more.result) at
    (c.in_ok-scan.ensures.ok ∙ ap (λ (u : Unit). record u { work = extended u.work c.args.batch }) is) refl
    (omega (arith, more, length-append h.unit.work.entries c.args.batch.entries)) (omega (arith, more, few, c.self.invariant.counted))
    (after_same c.self.inside.segments units c.self.inside.table c.place_of-place.result h.unit after c.self.invariant.right at (record { id = refl; call = refl; segment = refl })
    (nothing_flies h.unit.flying state.landed) refl refl)
    (pieced_open c.self.inside.segments units c.self.inside.table c.place_of-place.result h.unit after c.self.invariant.pieced at (record { id = refl; call = refl; segment = refl })
    (ap is_open state.running) (ap is_open state.running) (began h.unit.work.state state.running))
    (past_set units c.self.inside.table c.self.inside.past c.place_of-place.result h.unit after at refl (λ e. ap is_open state.running) c.self.invariant.past)
    (registered_same units c.self.inside.listeners c.place_of-place.result h.unit after c.self.invariant.registered at refl)

pub returns-clause-ok : goal.returns-clause-ok
returns-clause-ok c =
    let units = c.self.inside.units.items in
    let may : is_one may_read (unit_in units c.args.unit) ≡ true = subst (λ (x : Calling). is_one may_read (unit_in x.units c.args.unit) ≡ true) (sym c.self.view_is) c.requires.may in
    let h = there units c.args.unit may_read (numbers c.self.inside c.self.invariant) may in
    let at : slice_get units c.place_of-place.result ≡ Some h.unit = ap (slice_get units) c.place_of-place.ensures ∙ h.at in
    let is = read_unit units c.place_of-place.result h.unit c.index_mut-unit.result.now at c.index_mut-unit.ensures.value in
    changed_seen c.self.inside c.self.invariant c.args.unit c.place_of-place.result h.unit c.scan.new.self c.self.inside.table (λ u. record u { work = extended u.work c.args.batch })
    c.place_of-place.ensures h.positive h.at (c.in_ok-scan.ensures.ok ∙ ap (λ (u : Unit). record u { work = extended u.work c.args.batch }) is) refl
    ∙ ap (changes_unit c.args.unit (λ u. record u { work = extended u.work c.args.batch })) c.self.view_is
