use Rattle.std.proofs.Common.{ℕ, inl, inr}
use Rattle.std.proofs.lemmas.Bool.{or_cases}
use Rattle.topology_phase.specs.Owners.{among, members}
use Rattle.topology_phase.specs.Topologies.{read_owners}
use Rattle.topology_phase.specs.Laws.{IsSafe}
use Rattle.topology_phase.proofs.NeighbourLaws.{neighbours_safe}
use Rattle.topology_phase.proofs.Tables.{read_is_held, held_is_written, safe_later}
use Rattle.topology_phase.proofs.safety.safe_neighbours.Goals as goal

pub returns-clause-read : goal.returns-clause-read
returns-clause-read c = λ n here h.
    let a = c.args.a.now in
    let b = c.args.b.now in
    let live = members c.args.live.now in
    let present = λ (m : ℕ). among m (members c.args.present.now) in
    let safe : IsSafe a b present = safe_later a b (λ m. among m live) present (neighbours_safe live a b c.requires.follows) c.requires.named in
    elim (or_cases (among n (read_owners a c.args.segment)) (among n (read_owners b c.args.segment)) h) [
      | inl by_older ↦ safe.read_is_held n c.args.segment here by_older
      | inr by_newer ↦ read_is_held b n c.args.segment by_newer
    ]

pub returns-clause-written : goal.returns-clause-written
returns-clause-written c = λ some n here h.
    let a = c.args.a.now in
    let b = c.args.b.now in
    let live = members c.args.live.now in
    let present = λ (m : ℕ). among m (members c.args.present.now) in
    let safe : IsSafe a b present = safe_later a b (λ m. among m live) present (neighbours_safe live a b c.requires.follows) c.requires.named in
    (safe.held_was_written c.args.segment some n here h, held_is_written b n c.args.segment h)
