-- The clauses that an answer is looked at by say together what its guarantee says.
use Rattle.std.proofs.Common.{◌≡◌, ℕ, ◌≤◌, Bool, true, false, cond, ◌&&◌, List, [], ◌∷◌, refl, sym, ap, arith}
use Rattle.delivery_mode.specs.declared.guarantee.Guarantee.{Guarantee}
use Rattle.delivery_mode.specs.declared.guarantee.Guarantee.TheVariants.{Exact, AtLeast, AtMost}
use Rattle.grid_base.proofs.DatumLemmas.{same_bytes_decides}
use Rattle.grid_base.specs.Datum.{same_bytes, same_datum}
use Rattle.grid_base.specs.declared.datum.Datum.{Datum}
use Rattle.grid_base.specs.declared.entry.Entry.{Entry}
use Rattle.grid_event.specs.declared.config.Config.{Config}
use Rattle.grid_event.specs.declared.event.Event.{Event}
use Rattle.cluster_model.specs.Evidence.{entry_times, evidence, times}
use Rattle.cluster_model.specs.Guarantees.{Keeps}
use Rattle.audit_clauses.specs.Clauses.{GuaranteeHolds}
use Rattle.audit_clauses.specs.Laws.{ClausesAreGuarantees}
use Rattle.audit_clauses.specs.declared.clause.Clause.{Clause}
use Rattle.audit_clauses.specs.declared.clause.Clause.TheVariants as clauses

-- an entry is among entries no more often than its key
entry_le : (key : List ℕ) (datum : Datum) (entries : List Entry) → entry_times key datum entries ≤ times key entries
entry_le key datum [] = omega arith
entry_le key datum (e ∷ es) =
    let h = entry_le key datum es in let one = by_tests (same_bytes key e.key) (same_datum datum e.value) refl in omega arith
  where
    by_tests : (a b : Bool) → same_bytes key e.key ≡ a → cond {A = ℕ} (a && b) 1 0 ≤ cond {A = ℕ} (same_bytes e.key key) 1 0
    by_tests false b t = omega arith
    by_tests true b t =
        let same = (same_bytes_decides key e.key).0 t in
        let other : same_bytes e.key key ≡ true = (same_bytes_decides e.key key).1 (sym same) in
        let one : cond {A = ℕ} (same_bytes e.key key) 1 0 ≡ 1 = ap (λ t. cond {A = ℕ} t 1 0) other in
        let most : cond {A = ℕ} b 1 0 ≤ 1 = by_one b in omega arith
      where
        by_one : (b : Bool) → cond {A = ℕ} b 1 0 ≤ 1
        by_one true = omega arith
        by_one false = omega arith

-- the clauses together make the guarantee
all_together : (guarantee : Guarantee) (config : Config) (past : List Event) (call : ℕ)
    → ((clause : Clause) → GuaranteeHolds clause guarantee config past call) → Keeps guarantee config past call
all_together Exact config past call h = record {
  stable = λ key datum s.
      let a = h clauses.Stable key datum s in let b = h clauses.Twice key in
      let c = entry_le key datum (evidence config past call) in omega arith;
  once = h clauses.Twice;
  held = h clauses.Held;
}
all_together AtLeast config past call h = record {
  stable = h clauses.Stable;
  held = h clauses.Held;
  by_rounds = λ key. (h clauses.Often key).0;
  by_moves = λ key. (h clauses.Often key).1;
}
all_together AtMost config past call h = record {
  once = h clauses.Twice;
  held = h clauses.Held;
  ended = h clauses.Stable;
}

-- and the guarantee makes each of the clauses
each_apart : (guarantee : Guarantee) (config : Config) (past : List Event) (call : ℕ)
    → Keeps guarantee config past call → (clause : Clause) → GuaranteeHolds clause guarantee config past call
each_apart Exact config past call h clauses.Stable = λ key datum s. let a = h.stable key datum s in omega arith
each_apart Exact config past call h clauses.Twice = h.once
each_apart Exact config past call h clauses.Held = h.held
each_apart AtLeast config past call h clauses.Stable = h.stable
each_apart AtLeast config past call h clauses.Often = λ key. (h.by_rounds key, h.by_moves key)
each_apart AtLeast config past call h clauses.Held = h.held
each_apart AtMost config past call h clauses.Stable = h.ended
each_apart AtMost config past call h clauses.Twice = h.once
each_apart AtMost config past call h clauses.Held = h.held
each_apart _ config past call h _ = tt

-- both together
pub guarantees : ClausesAreGuarantees
guarantees = record { together = all_together; each = each_apart }
