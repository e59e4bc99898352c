use Rattle.std.proofs.Common.{refl, IsSome, sym, subst, ap, ◌∙◌}
use Rattle.std.specs.FinMap as map_of
use Rattle.cluster_calls.specs.Rows.{Rows, changes_row, with_row_asks}
use Rattle.cluster_calls.proofs.RowTables.{get_rows, rows_changed, rows_in, rows_unchanged}
use Rattle.cluster_calls.proofs.table.Table.ask.Goals as goal

pub returns-in-Some : goal.returns-in-Some
returns-in-Some c =
    let found : IsSome _ = subst IsSome c.in-Some.ensures.value refl in
    let es = c.self.inside.rows.entries in
    let was = c.in-Some.row.now in
    let change = with_row_asks c.args.start c.args.asks.now in
    let left = record was { call = c.start_round.new.self; tally = c.ask.new.self } in
    rows_changed es (c.get_mut.follows.lender left).entries c.number.result change was left c.in-Some.ensures.value
    (λ i. record was { call = c.start_round.ensures i; tally = c.ask.ensures i }) ((c.get_mut.follows.holds left).3 found).0
    ∙ ap (λ n. changes_row n change (rows_in es)) c.number.ensures
    ∙ ap (changes_row c.args.number change) c.self.view_is

pub returns : goal.returns
returns c =
    let es = c.self.inside.rows.entries in
    let change = with_row_asks c.args.start c.args.asks.now in
    ap (λ m. rows_in m.entries) c.get_mut.follows.holds-at-none
    ∙ rows_unchanged es c.number.result change c.in_default.ensures.value
    ∙ ap (λ n. changes_row n change (rows_in es)) c.number.ensures
    ∙ ap (changes_row c.args.number change) c.self.view_is

pub start_round-requires : goal.start_round-requires
start_round-requires c =
    let may = c.requires.may c.in-Some.row.now
    (sym (c.in-Some.ensures.value ∙ sym (get_rows c.self.inside.rows.entries c.number.result) ∙ ap (λ (x : Rows). map_of.get x c.number.result) c.self.view_is ∙ ap (map_of.get c.args.self.now) c.number.ensures)) in
    may.granted

pub ask-requires-clause-few : goal.ask-requires-clause-few
ask-requires-clause-few c =
    let may = c.requires.may c.in-Some.row.now
    (sym (c.in-Some.ensures.value ∙ sym (get_rows c.self.inside.rows.entries c.number.result) ∙ ap (λ (x : Rows). map_of.get x c.number.result) c.self.view_is ∙ ap (map_of.get c.args.self.now) c.number.ensures)) in
    may.few

pub ask-requires-clause-within : goal.ask-requires-clause-within
ask-requires-clause-within c =
    let may = c.requires.may c.in-Some.row.now
    (sym (c.in-Some.ensures.value ∙ sym (get_rows c.self.inside.rows.entries c.number.result) ∙ ap (λ (x : Rows). map_of.get x c.number.result) c.self.view_is ∙ ap (map_of.get c.args.self.now) c.number.ensures)) in
    may.within
