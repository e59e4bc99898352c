use Rattle.std.proofs.Common.{◌≡◌, cond, refl, IsSome, Some, sym, subst, ap, ◌∙◌}
use Rattle.std.specs.BTreeMap.{get, is_at}
use Rattle.std.specs.FinMap as map
use Rattle.state_transfer.specs.Cells.{destination_cmp}
use Rattle.state_transfer.specs.Chunks.{begun, with_chunk}
use Rattle.state_transfer.specs.Copying.{Transfers}
use Rattle.state_transfer.proofs.TransferTrees.{get_rows, rows_in, rows_insert}
use Rattle.state_transfer.proofs.transfers.Transfers.send.Goals as goal

pub returns-in-Some-clause-ok : goal.returns-in-Some-clause-ok
returns-in-Some-clause-ok c =
    let found : IsSome _ = subst IsSome c.in-Some.ensures.value refl in
    let es = c.self.inside.tree.entries in
    let chunk = c.args.chunk in
    let after : c.send.new.self ≡ with_chunk chunk (begun (map.get (rows_in es) c.args.to) c.args.provider) =
    c.send.ensures ∙ ap (λ o. with_chunk chunk (begun o c.args.provider)) (c.in-Some.ensures.value ∙ sym (get_rows es c.args.to)) in
    rows_insert es (c.get_mut.follows.lender c.send.new.self).entries c.args.to c.send.new.self ((c.get_mut.follows.holds c.send.new.self).3 found).0
    ∙ ap (map.insert (rows_in es) c.args.to) after
    ∙ ap (λ (x : Transfers). map.insert x c.args.to (with_chunk chunk (begun (map.get x c.args.to) c.args.provider))) c.self.view_is

pub returns-clause-ok : goal.returns-clause-ok
returns-clause-ok c =
    let es = c.self.inside.tree.entries in
    let chunk = c.args.chunk in
    let after : c.begun.result ≡ with_chunk chunk (begun (map.get (rows_in es) c.args.to) c.args.provider) =
    c.begun.ensures ∙ ap (λ o. with_chunk chunk (begun o c.args.provider)) (c.in_default.ensures.value ∙ sym (get_rows es c.args.to)) in
    rows_insert es c.insert.new.self.entries c.args.to c.begun.result
    (λ q. c.in_ok-insert.ensures.updates.0 q ∙ ap (λ m. cond (is_at (destination_cmp c.args.to) q) (Some c.begun.result) (get destination_cmp m q)) c.get_mut.follows.holds-at-none)
    ∙ ap (map.insert (rows_in es) c.args.to) after
    ∙ ap (λ (x : Transfers). map.insert x c.args.to (with_chunk chunk (begun (map.get x c.args.to) c.args.provider))) c.self.view_is
