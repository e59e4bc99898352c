use Rattle.std.proofs.Common.{◌≡◌, ◌≤◌, ◌+◌, Some, drop, filter, length, is_some, true, sym, ap, arith, ◌∙◌}
use Rattle.std.specs.FinSet as set
use Rattle.container_seg.specs.Lifespans.{left}
use Rattle.state_transfer.specs.Calls.{takes_back}
use Rattle.state_transfer.specs.Changes.{changes}
use Rattle.state_transfer.specs.Copying.{Stores, copy_at}
use Rattle.state_transfer.proofs.WriteLaws as laws
use Rattle.state_transfer.proofs.copies.Copies.+put_from.Goals as goal

pub returns-then-from-len-clause-ok : goal.returns-then-from-len-clause-ok
returns-then-from-len-clause-ok t c =
    let self = c.args.self.now in
    let past : length c.args.owners.now ≤ c.args.from = omega (arith, c.len.ensures.len, c.if-from-len.true) in
    let none = laws.listed_none (set.contains self.nodes) c.args.from c.args.owners.now past in
    λ i. record {
      nodes = self.nodes;
      copying =
          (laws.changes_none c.args.segment c.args.key.now (Some c.args.stamped.now) self.copying
          ∙ ap (λ ns. changes ns c.args.segment c.args.key.now (Some c.args.stamped.now) self.copying) none) i;
    }

pub returns-in_default-clause-ok : goal.returns-in_default-clause-ok
returns-in_default-clause-ok t c =
    let self = c.args.self.now in
    let past : length c.args.owners.now ≤ c.args.from = laws.none_past c.args.owners.now c.args.from c.in_default.ensures in
    let none = laws.listed_none (set.contains self.nodes) c.args.from c.args.owners.now past in
    λ i. record {
      nodes = self.nodes;
      copying =
          (laws.changes_none c.args.segment c.args.key.now (Some c.args.stamped.now) self.copying
          ∙ ap (λ ns. changes ns c.args.segment c.args.key.now (Some c.args.stamped.now) self.copying) none) i;
    }

pub take_back-requires-clause-lasting : goal.take_back-requires-clause-lasting
take_back-requires-clause-lasting t c =
    ap (λ n. left n c.in_ok-before.before.stamped) (ap (λ (x : Stores). x.copying.clock) c.in-Err.ensures.err ∙ c.in_ok-before.ensures.clock) ∙ c.in_ok-before.ensures.lasting

pub take_back-requires-clause-present : goal.take_back-requires-clause-present
take_back-requires-clause-present t c =
    ap (λ (x : Stores). is_some (copy_at x.copying.cells c.in-Some.node c.args.segment c.args.key.now)) (c.in-Err.ensures.err ∙ c.in_ok-before.ensures.ok)
    ∙ laws.written_there c.in-Some.node c.args.segment c.args.key.now c.args.stamped.now c.args.self.now.copying

pub returns-in-Ok-clause-ok : goal.returns-in-Ok-clause-ok
returns-in-Ok-clause-ok t c =
    let self = c.args.self.now in
    let n = c.in-Some.node in
    let s = c.args.segment in
    let k = c.args.key.now in
    let o = Some c.args.stamped.now in
    let there : set.contains self.nodes n ≡ true = ap (λ (x : Stores). set.contains x.nodes n) (sym c.self.view_is) ∙ sym c.has.ensures ∙ c.if-not-has.false in
    let others = filter (set.contains self.nodes) (drop (c.args.from + 1) c.args.owners.now) in
    c.in-Ok.ensures.ok
    ∙ ap (λ (x : Stores). record x { copying = changes (filter (set.contains x.nodes) (drop (c.args.from + 1) c.args.owners.now)) s k o x.copying }) c.in_ok-before.ensures.ok
    ∙ (λ i. record {
      nodes = self.nodes;
      copying =
          (laws.changes_more n others s k o self.copying
          ∙ ap (λ ns. changes ns s k o self.copying) (laws.listed_there (set.contains self.nodes) c.args.from c.args.owners.now n c.in-Some.ensures there)) i;
    })

pub returns-in-Err-clause-err : goal.returns-in-Err-clause-err
returns-in-Err-clause-err t c =
    let self = c.args.self.now in
    let n = c.in-Some.node in
    let s = c.args.segment in
    let k = c.args.key.now in
    let before = c.in_ok-before.before in
    c.take_back.ensures
    ∙ ap (λ (x : Stores). record x { copying = takes_back n s k before.stamped before.marked x.copying }) (c.in-Err.ensures.err ∙ c.in_ok-before.ensures.ok)
    ∙ (λ i. record { nodes = self.nodes; copying = laws.write_taken_back n s k (Some c.args.stamped.now) before.stamped before.marked self.copying c.in_ok-before.ensures.before c.in_ok-before.ensures.marked i })
