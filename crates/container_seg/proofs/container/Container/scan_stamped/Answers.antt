use Rattle.std.proofs.Common.{◌≡◌, ◌<◌, ◌≤◌, [], true, length, sym, ap, subst, IfOk, arith, ◌∙◌}
use Rattle.std.proofs.lemmas.List.{get_or_default, get_or_past}
use Rattle.std.proofs.lemmas.Result.{IfOk-weaker}
use Rattle.std.specs.FinMap as map
use Rattle.std.specs.List.{list_all}
use Rattle.std.specs.Option.{option_copied}
use Rattle.grid_base.specs.Portion.{Portion}
use Rattle.grid_base.specs.declared.stamped_entry.StampedEntry.{StampedEntry}
use Rattle.container_seg.specs.Contents.{Contents, part_entries}
use Rattle.container_seg.specs.Lifespans.{fresh, outlasts}
use Rattle.container_seg.specs.Scans.{first_chunk, next_chunk}
use Rattle.container_seg.specs.Stored.{part_at}
use Rattle.container_seg.proofs.Gathering.{first_none, nothing_beyond, no_entries}
use Rattle.container_seg.proofs.Lasting.{next_chunk_lasts}
use Rattle.container_seg.proofs.StoredLaws as laws
use Rattle.container_seg.proofs.container.Container.scan_stamped.Goals as goal

pub returns-then-at-len-clause-chunk : goal.returns-then-at-len-clause-chunk
returns-then-at-len-clause-chunk c =
    let clock = c.self.inside.clock in
    let parts = c.self.inside.segments.items in
    let past : length parts ≤ c.args.segment = omega arith in
    let none : part_entries c.args.self.now.entries c.args.segment ≡ [] =
    ap (λ (x : Contents). part_entries x.entries c.args.segment) (sym c.self.view_is) ∙ laws.part_entries-left_of clock parts c.args.segment
    ∙ ap (λ p. fresh clock (map.entries p)) (get_or_past parts c.args.segment map.empty past) ∙ ap (fresh clock) no_entries in
    (λ i. record { entries = c.new.ensures i; last = true })
    ∙ sym (first_none c.args.most)
    ∙ ap (first_chunk c.args.most) (sym (nothing_beyond c.args.self.now.node (option_copied c.args.after)))
    ∙ ap (next_chunk c.args.self.now.node (option_copied c.args.after) c.args.most) (sym none)

pub returns-clause-chunk : goal.returns-clause-chunk
returns-clause-chunk c =
    let clock = c.self.inside.clock in
    let parts = c.self.inside.segments.items in
    let at : c.from-at.result ≡ c.args.segment = c.from-at.ensures ∙ c.number.ensures in
    let within : c.from-at.result < length parts = omega arith in
    let here : c.index.result.now ≡ part_at parts c.args.segment =
    c.index.ensures ∙ get_or_default parts c.from-at.result c.index.result.now map.empty within ∙ ap (part_at parts) at in
    let entries : fresh clock (map.entries c.index.result.now) ≡ part_entries c.args.self.now.entries c.args.segment =
    ap (λ p. fresh clock (map.entries p)) here ∙ sym (laws.part_entries-left_of clock parts c.args.segment) ∙ ap (λ (x : Contents). part_entries x.entries c.args.segment) c.self.view_is in
    let node = c.number-2.ensures ∙ ap (λ (x : Contents). x.node) c.self.view_is in
    subst (λ (p : Portion StampedEntry). IfOk c.chunk.result (λ chunk. chunk ≡ p))
    (λ i. next_chunk (node i) (option_copied c.args.after) c.args.most (entries i))
    c.chunk.ensures

pub returns-clause-lasting : goal.returns-clause-lasting
returns-clause-lasting c =
    let clock = c.self.inside.clock in
    IfOk-weaker c.chunk.result (λ chunk. chunk ≡ next_chunk c.number-2.result (option_copied c.args.after) c.args.most (fresh clock (map.entries c.index.result.now))) _
    (λ chunk is.
    subst (λ n. list_all (λ (e : StampedEntry). outlasts n e.stamped.until) chunk.entries ≡ true) (ap (λ (x : Contents). x.clock) c.self.view_is)
    (ap (λ (p : Portion StampedEntry). list_all (λ (e : StampedEntry). outlasts clock e.stamped.until) p.entries) is
    ∙ next_chunk_lasts clock c.number-2.result (option_copied c.args.after) c.args.most (map.entries c.index.result.now)))
    c.chunk.ensures
