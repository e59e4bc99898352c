use Rattle.std.proofs.Common.{◌≡◌, ◌+◌, ◌++◌, true, List, map, filter, nat_lt, length, length-append, is_some, refl, sym, subst, ap, ◌∙◌, arith}
use Rattle.std.proofs.lemmas.List.{length-map}
use Rattle.std.specs.FinMap as map_of
use Rattle.std.specs.List.{range_with_len}
use Rattle.std.specs.Option.{option_map}
use Rattle.grid_event.specs.declared.call_events.Ask.{Ask}
use Rattle.cluster_model.specs.Calls.{granted, unit_made}
use Rattle.cluster_model.specs.State.{Call, Calling, Unit, call_of}
use Rattle.cluster_model.specs.Units.{read_by}
use Rattle.cluster_calls.specs.Calling.{is_one, round_of, with_call, with_round}
use Rattle.cluster_calls.specs.Insides.{ArePast, ArePieced, AreRight}
use Rattle.cluster_calls.specs.Rows.{Rows, calls_in, changes_row, with_row_asks}
use Rattle.cluster_calls.specs.Tallied.{AreAsked}
use Rattle.cluster_calls.specs.declared.row.Row.{Row}
use Rattle.cluster_calls.proofs.CallsLaws.{alike_kept, seen_alike}
use Rattle.cluster_calls.proofs.ListLaws.{length-filter}
use Rattle.cluster_calls.proofs.PartRounds.{pieced_asks}
use Rattle.cluster_calls.proofs.PastLaws.{past_append, past_row}
use Rattle.cluster_calls.proofs.QueryLaws.{one_is_there, none_counts, read_by-asked}
use Rattle.cluster_calls.proofs.RoundLaws.{AreNext, after_asks, are_asked}
use Rattle.cluster_calls.proofs.RowTables.{calls_in-changed, get-calls_in, one_there}
use Rattle.cluster_calls.proofs.BothLaws.{less_than}
use Rattle.cluster_calls.proofs.UnitLaws.{is_busy}
use Rattle.loss_listener.specs.Registered.{Registered}
use Rattle.cluster_calls.specs.Listed.{AreRegistered, without_asked}
use Rattle.cluster_calls.proofs.ListedLaws.{asks_new, grown, not_grown, registered_asks, undone_all}
use Rattle.cluster_calls.proofs.calls.Calls.round.Goals as goal

pub ask-requires-clause-may : goal.ask-requires-clause-may
ask-requires-clause-may c = λ row at.
    let units = c.self.inside.units.items in
    let asks = c.args.asks.now in
    let next : AreNext c.self.inside.segments units c.args.number asks =
    subst (λ (x : Calling). AreNext x.segments x.units c.args.number asks) (sym c.self.view_is) (record { closed = c.requires.closed; numbered = c.requires.numbered; segments_are = c.requires.segments }) in
    let called = subst (λ (x : Calling). is_one (λ (call : Call). nat_lt call.rounds (granted call)) (call_of x c.args.number) ≡ true) (sym c.self.view_is) c.requires.left in
    let kept = c.self.invariant.right.kept c.args.number row at in
    let none : length (filter (is_busy c.args.number) units) ≡ 0 = length-filter (is_busy c.args.number) units ∙ none_counts (is_busy c.args.number) units next.closed in
    record {
      granted = less_than row.call.rounds (granted row.call) (one_there (λ (call : Call). nat_lt call.rounds (granted call)) (map_of.get (calls_in c.self.inside.table) c.args.number) row.call
          (sym (get-calls_in c.self.inside.table c.args.number ∙ ap (option_map (λ (r : Row). r.call)) at)) called);
      few = omega (arith, none, kept.tally.unended);
      within = subst (λ n. AreAsked n asks) (sym kept.tally.wide) (are_asked c.self.inside.segments units c.args.number asks next);
    }

pub register_all-requires : goal.register_all-requires
register_all-requires c =
    asks_new c.self.inside.units.items c.self.inside.listeners c.args.number c.args.id c.args.asks.now c.self.invariant.registered
    (subst (λ (x : Calling). map (λ (ask : Ask). ask.unit) c.args.asks.now ≡ range_with_len (length x.units + 1) (length c.args.asks.now)) (sym c.self.view_is) c.requires.numbered)

pub invariant_of-self-then-is_err : goal.invariant_of-self-then-is_err
invariant_of-self-then-is_err c =
    alike_kept c.self.inside _ c.self.invariant (not_grown c.append.result _ _ c.append.new.self.items (sym c.is_err.ensures.value ∙ c.if-is_err.true) c.append.ensures.items)
    (c.end_all.ensures
    ∙ ap (λ (m : Registered). without_asked m c.args.asks.now) c.in_ok-register_all.ensures.ok
    ∙ undone_all c.self.inside.listeners c.args.asks.now
    (asks_new c.self.inside.units.items c.self.inside.listeners c.args.number c.args.id c.args.asks.now c.self.invariant.registered
    (subst (λ (x : Calling). map (λ (ask : Ask). ask.unit) c.args.asks.now ≡ range_with_len (length x.units + 1) (length c.args.asks.now)) (sym c.self.view_is) c.requires.numbered)))
    refl refl refl refl

pub invariant_of-self-2 : goal.invariant_of-self-2
invariant_of-self-2 c =
    let units = c.self.inside.units.items in
    let asks = c.args.asks.now in
    let next : AreNext c.self.inside.segments units c.args.number asks =
    subst (λ (x : Calling). AreNext x.segments x.units c.args.number asks) (sym c.self.view_is) (record { closed = c.requires.closed; numbered = c.requires.numbered; segments_are = c.requires.segments }) in
    let called = subst (λ (x : Calling). is_one (λ (call : Call). nat_lt call.rounds (granted call)) (call_of x c.args.number) ≡ true) (sym c.self.view_is) c.requires.left in
    let there_ : is_some (map_of.get c.self.inside.table c.args.number) ≡ true =
    one_is_there (λ (call : Call). nat_lt call.rounds (granted call)) (λ (r : Row). r.call) (map_of.get c.self.inside.table c.args.number)
    (subst (λ o. is_one (λ (call : Call). nat_lt call.rounds (granted call)) o ≡ true) (get-calls_in c.self.inside.table c.args.number) called) in
    let items : c.append.new.self.items ≡ units ++ map (unit_made c.args.number c.args.id) asks =
    grown c.append.result _ _ c.append.new.self.items (sym c.is_err.ensures.value ∙ c.if-is_err.false) c.append.ensures.items ∙ ap (λ (us : List Unit). units ++ us) c.in_ok-asked.ensures in
    let table : c.ask.new.self ≡ changes_row c.args.number (with_row_asks (length units + 1) asks) c.self.inside.table =
    c.ask.ensures ∙ ap (λ (us : List Unit). changes_row c.args.number (with_row_asks (length us + 1) asks) c.self.inside.table) c.as_slice-units.ensures.value in
    record {
      few_segments = c.self.invariant.few_segments;
      right =
          subst (λ (us : List Unit). AreRight c.self.inside.segments us c.ask.new.self) (sym items)
          (subst (λ (t : Rows). AreRight c.self.inside.segments (units ++ map (unit_made c.args.number c.args.id) asks) t) (sym table)
          (after_asks c.self.inside.segments units c.self.inside.table c.args.number c.args.id asks c.self.invariant.right there_ next));
      pieced =
          subst (λ (us : List Unit). ArePieced c.self.inside.segments us c.ask.new.self) (sym items)
          (subst (λ (t : Rows). ArePieced c.self.inside.segments (units ++ map (unit_made c.args.number c.args.id) asks) t) (sym table)
          (pieced_asks c.self.inside.segments units c.self.inside.table c.args.number c.args.id asks c.self.invariant.pieced next));
      registered =
          subst (λ (us : List Unit). AreRegistered us c.register_all.new.listeners) (sym items)
          (subst (λ (m : Registered). AreRegistered (units ++ map (unit_made c.args.number c.args.id) asks) m) (sym c.in_ok-register_all.ensures.ok)
          (registered_asks units c.self.inside.listeners c.args.number c.args.id asks c.self.invariant.registered next.numbered));
      numbered =
          omega (arith, ap length items, length-append units (map (unit_made c.args.number c.args.id) asks), length-map asks (unit_made c.args.number c.args.id), ap length c.as_slice-units.ensures.value);
      counted = c.self.invariant.counted ∙ sym (read_by-asked units c.args.number c.args.id asks) ∙ ap read_by (sym items);
      few = c.self.invariant.few;
      past =
          subst (λ (us : List Unit). ArePast us c.ask.new.self c.self.inside.past) (sym items)
          (subst (λ (t : Rows). ArePast (units ++ map (unit_made c.args.number c.args.id) asks) t c.self.inside.past) (sym table)
          (past_row (units ++ map (unit_made c.args.number c.args.id) asks) c.self.inside.table c.self.inside.past c.args.number (with_row_asks (length units + 1) asks) (λ row over. over)
          (past_append units (map (unit_made c.args.number c.args.id) asks) c.self.inside.table c.self.inside.past c.self.invariant.past)));
    }

pub returns-clause-ok : goal.returns-clause-ok
returns-clause-ok c =
    let units = c.self.inside.units.items in
    let asks = c.args.asks.now in
    let next : AreNext c.self.inside.segments units c.args.number asks =
    subst (λ (x : Calling). AreNext x.segments x.units c.args.number asks) (sym c.self.view_is) (record { closed = c.requires.closed; numbered = c.requires.numbered; segments_are = c.requires.segments }) in
    let called = subst (λ (x : Calling). is_one (λ (call : Call). nat_lt call.rounds (granted call)) (call_of x c.args.number) ≡ true) (sym c.self.view_is) c.requires.left in
    let items : c.append.new.self.items ≡ units ++ map (unit_made c.args.number c.args.id) asks =
    grown c.append.result _ _ c.append.new.self.items (sym c.is_err.ensures.value ∙ c.if-is_err.false) c.append.ensures.items ∙ ap (λ (us : List Unit). units ++ us) c.in_ok-asked.ensures in
    let table : c.ask.new.self ≡ changes_row c.args.number (with_row_asks (length units + 1) asks) c.self.inside.table =
    c.ask.ensures ∙ ap (λ (us : List Unit). changes_row c.args.number (with_row_asks (length us + 1) asks) c.self.inside.table) c.as_slice-units.ensures.value in
    seen_alike c.self.inside.segments c.append.new.self.items (units ++ map (unit_made c.args.number c.args.id) asks) (calls_in c.ask.new.self)
    (with_call c.args.number (with_round (map (λ (ask : Ask). ask.unit) asks)) (map_of.get (calls_in c.self.inside.table) c.args.number) (calls_in c.self.inside.table))
    items
    (ap calls_in table
    ∙ calls_in-changed c.self.inside.table c.args.number (with_row_asks (length units + 1) asks) (with_round (range_with_len (length units + 1) (length asks))) (λ row. refl)
    ∙ ap (λ ns. with_call c.args.number (with_round ns) (map_of.get (calls_in c.self.inside.table) c.args.number) (calls_in c.self.inside.table)) (sym next.numbered))
    ∙ ap (round_of c.args.number c.args.id asks) c.self.view_is
