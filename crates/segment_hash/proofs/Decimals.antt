-- How large a number of few digits is.
use Rattle.std.proofs.Common.{◌≡◌, ℕ, suc, zero, ◌+◌, ◌≤◌, ◌^◌, ◌-◌, arith, ap}
use Rattle.std.proofs.Math.Nat.{pow-suc}

-- powers of ten rise
pow_later : (i j : ℕ) → 10 ^ i ≤ 10 ^ (i + j)
pow_later i zero = omega (arith, ap (λ n. 10 ^ n) (i_zero i))
  where
    i_zero : (i : ℕ) → i + 0 ≡ i
    i_zero i = omega arith
pow_later i (suc j) = omega (arith, pow_later i j, pow-suc 10 (i + j), ap (λ n. 10 ^ n) (i_suc i j))
  where
    i_suc : (i j : ℕ) → i + suc j ≡ suc (i + j)
    i_suc i j = omega arith

-- a power of ten below the ninth is at most a hundred millions
pub pow_small : (i : ℕ) → i ≤ 8 → 10 ^ i ≤ 100000000
pow_small i h = omega (arith, pow_later i (8 - i), ap (λ n. 10 ^ n) (whole i h))
  where
    whole : (i : ℕ) → i ≤ 8 → i + (8 - i) ≡ 8
    whole i h = omega arith
