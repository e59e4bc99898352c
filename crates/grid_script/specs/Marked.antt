-- A set of numbers, held as one mark a number.
use Rattle.std.specs.Prelude.{ℕ, suc, Bool, cond, List, [], ◌∷◌}
use Rattle.std.specs.Ordering.{nat_cmp}
use Rattle.std.specs.FinSet as set

-- the numbers whose mark is set, where the first mark is that of n
abbrev pub marked_from : ℕ → List Bool → set.FinSet nat_cmp
marked_from n [] = set.empty
marked_from n (mark ∷ marks) = cond mark (set.insert (marked_from (suc n) marks) n) (marked_from (suc n) marks)
