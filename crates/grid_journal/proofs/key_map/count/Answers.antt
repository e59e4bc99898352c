use Rattle.std.proofs.Common.{◌∙◌, refl, sym, length}
use Rattle.std.proofs.lemmas.Map.Lookups.{exact_bytes}
use Rattle.std.proofs.lemmas.Cmp.{nat_list_cmp_total}
use Rattle.std.specs.FinMap as map
use Rattle.std.specs.List.{filter}
use Rattle.grid_journal.specs.Lasting.{lasts, still_stands}
use Rattle.grid_journal.proofs.Trees.{filter_all}
use Rattle.grid_journal.proofs.Lasting.{at_first, at_last, len_kept, one_gone, some_left}
use Rattle.grid_journal.proofs.key_map.count.Goals as goal

pub loop-key-init : goal.loop-key-init
loop-key-init c =
    at_first (λ e. lasts c.args.reached e.1.until) c.args.tree.now.entries c.range-left.result c.len-count.result
    (c.range-left.ensures.between tt ∙ filter_all c.args.tree.now.entries) c.len-count.ensures.len

pub overflow_sub-count : goal.overflow_sub-count
overflow_sub-count c =
    some_left (λ e. lasts c.args.reached e.1.until) (c.in-Some._key.now, c.in-Some.stamped.now) c.next.new.self c.loop-key.left c.loop-key.count
    (length (filter (λ e. lasts c.args.reached e.1.until) c.args.tree.now.entries)) c.in-Some.ensures.steps (sym c.if-not-lasts.ensures) c.loop-key.invariant

pub loop-key-preserved-then-not-lasts : goal.loop-key-preserved-then-not-lasts
loop-key-preserved-then-not-lasts c =
    one_gone (λ e. lasts c.args.reached e.1.until) (c.in-Some._key.now, c.in-Some.stamped.now) c.next.new.self c.loop-key.left c.loop-key.count
    (length (filter (λ e. lasts c.args.reached e.1.until) c.args.tree.now.entries)) c.in-Some.ensures.steps (sym c.if-not-lasts.ensures) c.loop-key.invariant

pub returns : goal.returns
returns c =
    at_last (λ e. lasts c.args.reached e.1.until) c.loop-key.left c.loop-key.count
    (length (filter (λ e. lasts c.args.reached e.1.until) c.args.tree.now.entries)) c.in_default.ensures.steps.0 c.loop-key.invariant
    ∙ len_kept nat_list_cmp_total exact_bytes c.args.tree.now.entries (λ v. lasts c.args.reached v.until) (still_stands c.args.reached) c.len-count.ensures.ordered refl (λ v. refl)
