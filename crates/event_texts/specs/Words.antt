-- Words in a row: what stands between them, and the texts of values, entries, items and lists of them.
use Rattle.std.specs.Prelude.{ℕ, Option, None, Some, List, [], ◌∷◌, ◌++◌, length, decimal, map, zero, suc}
use Rattle.std.specs.List.{join_with_byte}
use Rattle.grid_base.specs.declared.entry.Entry.{Entry}
use Rattle.grid_base.specs.declared.item.Item.{Item}
use Rattle.grid_base.specs.declared.item.Item.TheVariants as items
use Rattle.grid_base.specs.declared.stamped.Stamped.{Stamped}
use Rattle.grid_base.specs.declared.stamped_entry.StampedEntry.{StampedEntry}
use Rattle.pipeline_parse.specs.Grammar.{datum_text}

-- the words with one blank between each two
abbrev pub words : List (List ℕ) → List ℕ
words texts = join_with_byte 32 texts

-- each text behind a byte
abbrev pub each_behind : ℕ → List (List ℕ) → List ℕ
each_behind byte [] = []
each_behind byte (text ∷ texts) = byte ∷ (text ++ each_behind byte texts)

-- the byte before each text of a row but the first
abbrev pub between : ℕ → ℕ → List ℕ
between byte zero = []
between byte (suc place) = byte ∷ []

-- nothing for a value that stays, and a tilde with the deadline for one that leaves
abbrev pub until_text : Option ℕ → List ℕ
until_text None = []
until_text (Some deadline) = 126 ∷ decimal deadline

-- a value and its deadline
abbrev pub stamped_text : Stamped → List ℕ
stamped_text stamped = datum_text stamped.value ++ until_text stamped.until

-- a key and its value
abbrev pub entry_text : Entry → List ℕ
entry_text entry = words (entry.key ∷ datum_text entry.value ∷ [])

-- a key and its value with its deadline
abbrev pub stamped_entry_text : StampedEntry → List ℕ
stamped_entry_text entry = words (entry.key ∷ stamped_text entry.stamped ∷ [])

-- an entry stands behind an at sign; a value stands alone
abbrev pub item_text : Item → List ℕ
item_text (items.Entry entry) = 64 ∷ entry_text entry
item_text (items.Datum datum) = datum_text datum

-- how many there are, and the text of each behind a blank
abbrev pub counted_text : {T : Type 0} → (T → List ℕ) → List T → List ℕ
counted_text text list = decimal (length list) ++ each_behind 32 (map text list)
