-- How orders are numbered one behind the other.
use Rattle.std.proofs.Common.{◌≡◌, ℕ, suc, ◌+◌, List, [], ◌∷◌, ◌++◌, length, refl, ap, ◌∙◌, arith, append_assoc}
use Rattle.grid_script.specs.declared.order.Order.{Order}
use Rattle.grid_script.specs.declared.step_line.StepLine.{StepLine}
use Rattle.grid_script.specs.Generating.{numbered}

-- as many lines as orders
numbered_length : (n : ℕ) (orders : List Order) → length (numbered n orders) ≡ length orders
numbered_length n [] = refl
numbered_length n (order ∷ orders) = let rest = numbered_length (suc n) orders in omega (arith, rest)

-- one more order has the next number
numbered_last : (n : ℕ) (before : List Order) (order : Order)
    → numbered n before ++ record { line = n + length before; order = order } ∷ [] ≡ numbered n (before ++ order ∷ [])
numbered_last n [] order = ap (λ m. record { line = m; order = order } ∷ []) (let e : n + 0 ≡ n = omega arith in e)
numbered_last n (first ∷ before) order =
    ap (λ lines. record { line = n; order = first } ∷ lines)
    (ap (λ m. numbered (suc n) before ++ record { line = m; order = order } ∷ []) (let e : n + suc (length before) ≡ suc n + length before = omega arith in e)
    ∙ numbered_last (suc n) before order)

-- a line behind numbered ones has the number that its place gives
pub add_line : (lines : List StepLine) (before : List Order) (order : Order) → lines ≡ numbered 8 before
    → lines ++ record { line = length lines + 8; order = order } ∷ [] ≡ numbered 8 (before ++ order ∷ [])
add_line lines before order e =
    ap (λ ls. ls ++ record { line = length ls + 8; order = order } ∷ []) e
    ∙ ap (λ m. numbered 8 before ++ record { line = m; order = order } ∷ []) (let size = numbered_length 8 before in let same : length (numbered 8 before) + 8 ≡ 8 + length before = omega (arith, size) in same)
    ∙ numbered_last 8 before order

-- six orders behind others, one by one and together
pub six : (before : List Order) (a b c d e f : Order)
    → (((((before ++ a ∷ []) ++ b ∷ []) ++ c ∷ []) ++ d ∷ []) ++ e ∷ []) ++ f ∷ [] ≡ before ++ (a ∷ b ∷ c ∷ d ∷ e ∷ f ∷ [])
six [] a b c d e f = refl
six (o ∷ before) a b c d e f = ap (λ orders. o ∷ orders) (six before a b c d e f)

-- two orders behind others, one by one and together
pub two : (before : List Order) (a b : Order) → (before ++ a ∷ []) ++ b ∷ [] ≡ before ++ (a ∷ b ∷ [])
two [] a b = refl
two (o ∷ before) a b = ap (λ orders. o ∷ orders) (two before a b)

-- four parts, one by one and together
pub regroup : (k c s f : List Order) → ((k ++ c) ++ s) ++ f ≡ k ++ (c ++ (s ++ f))
regroup k c s f = append_assoc (k ++ c) s f ∙ append_assoc k c (s ++ f)
