-- Tests of two parts.
use Rattle.std.proofs.Common.{◌≡◌, ℕ, ◌<◌, Bool, true, false, ◌&&◌, nat_lt, refl, arith}
use Rattle.std.proofs.lemmas.Bool.Decides.{nat_tests}

-- where two tests are passed, so is the first
pub and_left : (a b : Bool) → (a && b) ≡ true → a ≡ true
and_left true b h = refl
and_left false b h = h

-- and the second
pub and_right : (a b : Bool) → (a && b) ≡ true → b ≡ true
and_right true b h = h
and_right false b h = absurd (cc)

-- a number that tests as less is less
pub less_than : (m n : ℕ) → nat_lt m n ≡ true → m < n
less_than m n h = grind (arith, nat_tests)
