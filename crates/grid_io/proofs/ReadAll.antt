-- Which fault a read to the end answers.
use Rattle.std.proofs.Common.{◌≡◌, Result, Ok, Err, IsErrOf}
use Rattle.std.specs.Result.{IsErrAnd}
use Rattle.grid_io.specs.declared.read_all_fault.ReadAllFault.{ReadAllFault}
use Rattle.grid_io.specs.declared.read_all_fault.ReadAllFault.TheVariants.{NoMemory, TooLong}

-- want of memory is not the fault of a source that is too long
pub not_too_long : {T : Type 0} (r : Result T ReadAllFault)
    → IsErrAnd r (λ fault. fault ≡ NoMemory)
    → IsErrOf r TooLong
    → ⊥
not_too_long (Ok x) no_memory too_long = no_memory
not_too_long (Err fault) no_memory too_long = cc
