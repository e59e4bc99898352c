-- What operations and ends look at in whole lists.
use Rattle.std.specs.Prelude.{ℕ, ℤ, pos, ◌+ℤ◌, Bool, true, false, not, ◌==◌, List, [], ◌∷◌, Option, Some, None, if◌then◌else◌}
use Rattle.std.specs.List.{filter}
use Rattle.std.specs.Ordering.{ord_min, ord_max}
use Rattle.grid_base.specs.Datum.{same_item}
use Rattle.grid_base.specs.declared.datum.Datum.{Datum}
use Rattle.grid_base.specs.declared.item.Item.{Item}
use Rattle.pipeline_eval.specs.Values.{number_of, datum_cmp}
use Rattle.pipeline_eval.specs.Evaluation.{datum_of}

-- the first of equal elements: the head, and of what is distinct behind it all that differs
abbrev pub distinct : List Item → List Item
distinct [] = []
distinct (x ∷ xs) = x ∷ filter (λ y. not (same_item x y)) (distinct xs)

-- a byte put in front of the first of several texts
abbrev pub joined_to : ℕ → List (List ℕ) → List (List ℕ)
joined_to b [] = (b ∷ []) ∷ []
joined_to b (t ∷ ts) = (b ∷ t) ∷ ts

-- the texts between the blanks, empty ones too
abbrev pub between_blanks : List ℕ → List (List ℕ)
between_blanks [] = [] ∷ []
between_blanks (b ∷ bs) = if b == 32 then [] ∷ between_blanks bs else joined_to b (between_blanks bs)

abbrev pub is_filled : List ℕ → Bool
is_filled [] = false
is_filled (b ∷ bs) = true

-- the longest runs of bytes other than the blank, in order
abbrev pub words : List ℕ → List (List ℕ)
words t = filter is_filled (between_blanks t)

-- the sum of all numbers, without a limit
abbrev pub total : List Item → ℤ
total [] = pos 0
total (x ∷ xs) = number_of (datum_of x) +ℤ total xs

-- one of two values by a rule, where both are there
abbrev pub either_by : (Datum → Datum → Datum) → Option Datum → Option Datum → Option Datum
either_by rule None b = b
either_by rule (Some a) None = Some a
either_by rule (Some a) (Some b) = Some (rule a b)

-- the lesser, or the greater, of two values that may be missing
abbrev pub lesser : Option Datum → Option Datum → Option Datum
lesser = either_by (ord_min datum_cmp)

abbrev pub greater : Option Datum → Option Datum → Option Datum
greater = either_by (ord_max datum_cmp)

-- the least and the greatest value of a list
abbrev pub least : List Item → Option Datum
least [] = None
least (x ∷ xs) = lesser (Some (datum_of x)) (least xs)

abbrev pub greatest : List Item → Option Datum
greatest [] = None
greatest (x ∷ xs) = greater (Some (datum_of x)) (greatest xs)
