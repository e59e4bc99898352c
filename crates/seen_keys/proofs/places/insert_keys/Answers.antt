use Rattle.std.proofs.Common.{ap, sym, ◌∙◌, arith, ◌||◌, take}
use Rattle.std.proofs.lemmas.List.Folds.{list_any_more}
use Rattle.std.specs.List.{list_any}
use Rattle.grid_base.specs.Datum.{same_bytes}
use Rattle.seen_keys.specs.Places.{has_key}
use Rattle.seen_keys.proofs.PlaceLemmas.{has_more, or_assoc}
use Rattle.seen_keys.proofs.places.insert_keys.Goals as goal

pub loop-entry-preserved : goal.loop-entry-preserved
loop-entry-preserved c = record {
  members = λ q.
      c.in_ok-insert.ensures.updates.0 q
      ∙ has_more c.entry-item.result.key q (has_key c.loop-entry.keys q)
      ∙ ap (λ b. b || same_bytes q c.entry-item.result.key) (c.loop-entry.invariant.members q)
      ∙ or_assoc (has_key c.args.keys.now q) (list_any (λ entry. same_bytes q entry.key) (take c.loop-entry.entry-index c.args.entries.now)) (same_bytes q c.entry-item.result.key)
      ∙ ap (λ b. has_key c.args.keys.now q || b)
      (ap (λ e. list_any (λ entry. same_bytes q entry.key) (take c.loop-entry.entry-index c.args.entries.now) || same_bytes q e.key) c.entry-item.is
      ∙ sym (list_any_more (λ entry. same_bytes q entry.key) c.args.entries.now c.loop-entry.entry-index c.entry-item.result (omega arith)));
  room = omega (arith, c.insert.ensures.spare);
}
