-- What contracts see of a standard reader or writer that serves as a source or a sink.
use Rattle.std.specs.Prelude.{ℕ, refl}
use Rattle.std.specs.Coded.{Coded, code_by, coded×, coded_ℕ}

-- the reader or writer, and how many of its calls failed
pub record Adapter (T : Type 0) : Type 0 where
  pub inner : T
  pub faults : ℕ

-- an adapter is stored as the pair of its fields
abbrev pub adapter_code : {T : Type 0} → Coded T → Coded (Adapter T)
adapter_code {T} code =
    code_by
    (T × ℕ)
    (coded× code coded_ℕ)
    (λ adapter. (adapter.inner, adapter.faults))
    (λ pair. record { inner = pair.0; faults = pair.1 })
    (λ _. refl)
