-- What a contract sees of a `Sequence`: its items, and how many places are spare beside them.
use Rattle.std.specs.Prelude.{ℕ, List, refl}
use Rattle.std.specs.Coded.{Coded, code_by, coded×, coded_list, coded_ℕ}

-- the items in their order, and the number of places that are taken already for further items
pub record Buffered (T : Type 0) : Type 0 where
  pub list : List T
  pub spare : ℕ

-- a buffered list is stored as the pair of its fields
abbrev pub buffered_code : {T : Type 0} → Coded T → Coded (Buffered T)
buffered_code {T} code =
    code_by
    (List T × ℕ)
    (coded× (coded_list code) coded_ℕ)
    (λ buffered. (buffered.list, buffered.spare))
    (λ pair. record { list = pair.0; spare = pair.1 })
    (λ _. refl)
