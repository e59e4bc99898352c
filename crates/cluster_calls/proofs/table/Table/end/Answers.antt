use Rattle.std.proofs.Common.{refl, IsSome, sym, subst, ap, ◌∙◌, nat_lt}
use Rattle.std.specs.FinMap as map_of
use Rattle.cluster_calls.specs.Parts.{is_within}
use Rattle.cluster_calls.specs.Rows.{Rows, changes_row, may_close, may_end_one, with_row_end}
use Rattle.cluster_calls.proofs.RowTables.{get_rows, one_there, rows_changed, rows_in, rows_unchanged}
use Rattle.cluster_calls.proofs.BothLaws.{and_left, and_right, less_than}
use Rattle.cluster_calls.proofs.table.Table.end.Goals as goal

pub returns-in-Some : goal.returns-in-Some
returns-in-Some c =
    let found : IsSome _ = subst IsSome c.in-Some.ensures.value refl in
    let es = c.self.inside.rows.entries in
    let was = c.in-Some.row.now in
    let change = with_row_end c.args.segment c.args.made in
    let left = record was { tally = c.end.new.self; parts = c.book.new.parts } in
    rows_changed es (c.get_mut.follows.lender left).entries c.number.result change was left c.in-Some.ensures.value
    (λ i. record was { tally = c.end.ensures i; parts = c.book.ensures i }) ((c.get_mut.follows.holds left).3 found).0
    ∙ ap (λ n. changes_row n change (rows_in es)) c.number.ensures
    ∙ ap (changes_row c.args.number change) c.self.view_is

pub returns : goal.returns
returns c =
    let es = c.self.inside.rows.entries in
    let change = with_row_end c.args.segment c.args.made in
    ap (λ m. rows_in m.entries) c.get_mut.follows.holds-at-none
    ∙ rows_unchanged es c.number.result change c.in_default.ensures.value
    ∙ ap (λ n. changes_row n change (rows_in es)) c.number.ensures
    ∙ ap (changes_row c.args.number change) c.self.view_is

pub end-requires-clause-some : goal.end-requires-clause-some
end-requires-clause-some c =
    let test = one_there (may_end_one c.args.segment) _ c.in-Some.row.now
    (c.in-Some.ensures.value ∙ sym (get_rows c.self.inside.rows.entries c.number.result) ∙ ap (λ (x : Rows). map_of.get x c.number.result) c.self.view_is ∙ ap (map_of.get c.args.self.now) c.number.ensures)
    c.requires.some in
    let close = and_right (nat_lt 0 c.in-Some.row.now.tally.left) (may_close c.args.segment c.in-Some.row.now) test in
    less_than 0 c.in-Some.row.now.tally.unended (and_left (nat_lt 0 c.in-Some.row.now.tally.unended) (is_within c.args.segment c.in-Some.row.now.parts) close)

pub end-requires-clause-left : goal.end-requires-clause-left
end-requires-clause-left c =
    let test = one_there (may_end_one c.args.segment) _ c.in-Some.row.now
    (c.in-Some.ensures.value ∙ sym (get_rows c.self.inside.rows.entries c.number.result) ∙ ap (λ (x : Rows). map_of.get x c.number.result) c.self.view_is ∙ ap (map_of.get c.args.self.now) c.number.ensures)
    c.requires.some in
    less_than 0 c.in-Some.row.now.tally.left (and_left (nat_lt 0 c.in-Some.row.now.tally.left) (may_close c.args.segment c.in-Some.row.now) test)

pub book-requires : goal.book-requires
book-requires c =
    let test = one_there (may_end_one c.args.segment) _ c.in-Some.row.now
    (c.in-Some.ensures.value ∙ sym (get_rows c.self.inside.rows.entries c.number.result) ∙ ap (λ (x : Rows). map_of.get x c.number.result) c.self.view_is ∙ ap (map_of.get c.args.self.now) c.number.ensures)
    c.requires.some in
    let close = and_right (nat_lt 0 c.in-Some.row.now.tally.left) (may_close c.args.segment c.in-Some.row.now) test in
    and_right (nat_lt 0 c.in-Some.row.now.tally.unended) (is_within c.args.segment c.in-Some.row.now.parts) close
