-- When two values, entries or items are the same.
use Rattle.std.specs.Prelude.{ℕ, Bool, false, ◌&&◌, List, nat_eq}
use Rattle.std.specs.Bool.{beq}
use Rattle.std.specs.Cmp.Lexicographic.{pointwise}
use Rattle.std.specs.Ordering.{int_eq}
use Rattle.grid_base.specs.declared.datum.Datum.{Datum}
use Rattle.grid_base.specs.declared.datum.Datum.TheVariants.{Int, Text, Flag}
use Rattle.grid_base.specs.declared.entry.Entry.{Entry}
use Rattle.grid_base.specs.declared.item.Item.{Item}
use Rattle.grid_base.specs.declared.item.Item.TheVariants as items

-- keys and texts are the same where their bytes are
abbrev pub same_bytes : List ℕ → List ℕ → Bool
same_bytes = pointwise nat_eq

-- values are the same where their kinds are, and what they hold
abbrev pub same_datum : Datum → Datum → Bool
same_datum (Int m) (Int n) = int_eq m n
same_datum (Text s) (Text t) = same_bytes s t
same_datum (Flag b) (Flag c) = beq b c
same_datum _ _ = false

-- entries are the same where their keys and their values are
abbrev pub same_entry : Entry → Entry → Bool
same_entry a b = same_bytes a.key b.key && same_datum a.value b.value

-- items are the same where both are entries or both are values, and these are the same
abbrev pub same_item : Item → Item → Bool
same_item (items.Entry a) (items.Entry b) = same_entry a b
same_item (items.Datum a) (items.Datum b) = same_datum a b
same_item _ _ = false
