-- What a result tells that is known to be an error, or to be none.
use Rattle.std.proofs.Common.{◌≡◌, true, false, Result, Ok, Err, OnOk, OnErr, sym, true≢false}
use Rattle.std.specs.Result.{is_err}

-- what holds on an error holds where there is one
pub at_err : {V E P : Type 0} (r : Result V E) → is_err r ≡ true → OnErr r P → P
at_err (Ok v) fault holds = absurd (true≢false (sym fault))
at_err (Err e) fault holds = holds

-- what holds on success holds where there is no error
pub at_ok : {V E P : Type 0} (r : Result V E) → is_err r ≡ false → OnOk r P → P
at_ok (Ok v) fine holds = holds
at_ok (Err e) fine holds = absurd (true≢false fine)
