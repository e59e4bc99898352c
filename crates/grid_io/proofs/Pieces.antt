-- What one more piece adds to what was read or written so far.
use Rattle.std.proofs.Common.{◌≡◌, ℕ, ◌+◌, ◌-◌, ◌<◌, ◌≤◌, ◌↔◌, List, [], ◌++◌, length, take, drop}
use Rattle.std.proofs.Common.{Option, Some, None, IfSome, ap, sym, ◌∙◌, arith, length-append}
use Rattle.std.proofs.lemmas.List.{take_rest, length-take-le}
use Rattle.std.proofs.Math.Seq.{take-add}
use Rattle.std.proofs.KnownBytes.{Appends-trans}
use Rattle.std.specs.Io.KnownBytes.{Appends, Consumes}

-- the first bytes were appended, and then the next ones
pub Appends-more : (a b c : Option (List ℕ)) (bytes : List ℕ) (at n : ℕ)
    → Appends a b (take at bytes)
    → Appends b c (take n (take (length bytes - at) (drop at bytes)))
    → Appends a c (take (at + n) bytes)
Appends-more a b c bytes at n before more =
    rw take-add (Appends-trans a b c _ _ before (rw (take_rest bytes at) at more))

-- a piece makes what was read longer by as many bytes as it has
pub length-piece : (bytes piece : List ℕ) (n : ℕ)
    → n ≤ length piece
    → length (bytes ++ take n piece) ≡ length bytes + n
length-piece bytes piece n within =
    length-append bytes (take n piece) ∙ ap (λ k. length bytes + k) (length-take-le n piece within)

-- a piece longer than what the limit leaves passes the limit
pub past_the_limit : (bytes piece : List ℕ) (n limit : ℕ)
    → n ≤ length piece
    → limit - length bytes < n
    → limit < length (bytes ++ take n piece)
past_the_limit bytes piece n limit within more =
    omega (arith, length-piece bytes piece n within, more)

-- a piece no longer than what the limit leaves doesn't
pub within_the_limit : (bytes piece : List ℕ) (n limit : ℕ)
    → n ≤ length piece
    → length bytes ≤ limit
    → n ≤ limit - length bytes
    → length (bytes ++ take n piece) ≤ limit
within_the_limit bytes piece n limit within short few =
    omega (arith, length-piece bytes piece n within, short, few)

-- a source whose last read gave nothing has given all
pub Consumes-end : (a b c : Option (List ℕ)) (bytes piece : List ℕ) (n : ℕ)
    → n ≡ 0
    → Consumes a b bytes
    → Consumes b c (take n piece)
    → IfSome b (λ all. (n ≡ 0) ↔ (all ≡ []))
    → IfSome a (λ _. c ≡ Some [])
Consumes-end None b c bytes piece n none before last end = tt
Consumes-end (Some x) None c bytes piece n none before last end = absurd before
Consumes-end (Some x) (Some y) None bytes piece n none before last end = absurd last
Consumes-end (Some x) (Some y) (Some z) bytes piece n none before last end =
    ap Some (sym (rw none at last) ∙ end.0 none)
