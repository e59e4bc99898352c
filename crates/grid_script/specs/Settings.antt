-- The head of a script: its kind, and the settings of the cluster in their order.
use Rattle.std.specs.Prelude.{ℕ, suc, Bool, true, false, not, nat_le, ◌&&◌, List, [], ◌∷◌, length, Option, Some, None, Ok, Err, codes, if◌then◌else◌}
use Rattle.grid_base.specs.Datum.{same_bytes}
use Rattle.topology_phase.specs.declared.aim.Aim.{Aim}
use Rattle.topology_phase.specs.declared.aim.Aim.TheVariants.{Create, Least}
use Rattle.grid_base.specs.declared.limits.TheConstants.{LONGEST_LINE, MOST_CHUNK, MOST_NODES, MOST_OWNERS, MOST_SEGMENTS}
use Rattle.grid_event.specs.declared.config.Config.{Config}
use Rattle.segment_hash.specs.declared.partition.Partition.{Partition}
use Rattle.segment_hash.specs.declared.partition.Partition.TheVariants as partition
use Rattle.pipeline_expr.specs.declared.kind.ValueKind.{ValueKind}
use Rattle.pipeline_expr.specs.declared.kind.ValueKind.TheVariants as values
use Rattle.pipeline_parse.specs.Reading.{Read, literal_at, word_at}
use Rattle.grid_script.specs.declared.head_words.PartitionWord.{PartitionWord}
use Rattle.grid_script.specs.declared.head_words.KindWord.{KindWord}
use Rattle.grid_script.specs.declared.head_words.ScriptWord.{ScriptWord}
use Rattle.grid_script.specs.declared.head_words.Setting.{Setting}
use Rattle.grid_script.specs.declared.head_words.Setting.TheVariants as setting
use Rattle.grid_script.specs.declared.reason.Reason.TheVariants.{OtherKind, Syntax}
use Rattle.grid_script.specs.declared.script_kind.ScriptKind.{ScriptKind}
use Rattle.grid_script.specs.declared.script_kind.ScriptKind.TheVariants as kind
use Rattle.grid_script.specs.Fields.{end_at, last_number}
use Rattle.grid_script.specs.Judging.{Judged, Told, ◌>>=◌, needs, on_line, spelt}
use Rattle.grid_script.specs.Lines.{needs_whole, says_nothing}
use Rattle.text_lines.specs.Lines.{Line}
use Rattle.grid_script.specs.Rules.{within}

-- the first line names the kind of the script
abbrev pub kind_word : ScriptKind → List ℕ
kind_word kind.Step = codes "script step"
kind_word kind.Live = codes "script live"

abbrev pub script_word : ScriptWord → List ℕ
script_word word = kind_word word.kind

unfoldable pub kinds_at : List ℕ → Read ScriptWord
kinds_at s = word_at script_word (record { kind = kind.Step } ∷ record { kind = kind.Live } ∷ []) s

abbrev pub partition_text : Partition → List ℕ
partition_text partition.Plain = codes "plain"
partition_text partition.Grouped = codes "grouped"

abbrev pub partition_word : PartitionWord → List ℕ
partition_word word = partition_text word.partition

unfoldable pub partition_at : List ℕ → Read PartitionWord
partition_at s = word_at partition_word (record { partition = partition.Plain } ∷ record { partition = partition.Grouped } ∷ []) s

abbrev pub values_text : ValueKind → List ℕ
values_text values.Int = codes "int"
values_text values.Text = codes "text"
values_text values.Flag = codes "flag"

abbrev pub values_word : KindWord → List ℕ
values_word word = values_text word.kind

unfoldable pub values_at : List ℕ → Read KindWord
values_at s = word_at values_word (record { kind = values.Int } ∷ record { kind = values.Text } ∷ record { kind = values.Flag } ∷ []) s

-- the word of a setting, with the blank behind it
abbrev pub setting_word : Setting → List ℕ
setting_word setting.Nodes = codes "nodes "
setting_word setting.Segments = codes "segments "
setting_word setting.Owners = codes "owners "
setting_word setting.Partition = codes "partition "
setting_word setting.Values = codes "values "
setting_word setting.Chunk = codes "chunk "

-- the settings in their order
abbrev pub settings : List Setting
settings = setting.Nodes ∷ setting.Segments ∷ setting.Owners ∷ setting.Partition ∷ setting.Values ∷ setting.Chunk ∷ []

-- before a setting is read its number is 1, its keys are divided by their hash, its values are ints, and its aim is the created hash
abbrev pub unset : Config
unset = record { nodes = 1; segments = 1; owners = 1; partition = partition.Plain; values = values.Int; chunk = 1; aim = Create }

-- a number, which ends the line and is in its range
unfoldable pub number_within : ℕ → List ℕ → Judged ℕ
number_within most s = do
  number ← spelt (last_number s)
  within 1 most number

unfoldable pub partition_in : List ℕ → Judged Partition
partition_in s = do
  word ← spelt (partition_at s)
  nothing ← spelt (end_at word.1)
  Ok word.0.partition

unfoldable pub values_in : List ℕ → Judged ValueKind
values_in s = do
  word ← spelt (values_at s)
  nothing ← spelt (end_at word.1)
  Ok word.0.kind

-- the configuration with what a setting says behind its word
unfoldable pub with_setting : Config → Setting → List ℕ → Judged Config
with_setting config setting.Nodes s = number_within MOST_NODES s >>= (λ n. Ok (record { nodes = n; segments = config.segments; owners = config.owners; partition = config.partition; values = config.values; chunk = config.chunk; aim = config.aim }))
with_setting config setting.Segments s = number_within MOST_SEGMENTS s >>= (λ n. Ok (record { nodes = config.nodes; segments = n; owners = config.owners; partition = config.partition; values = config.values; chunk = config.chunk; aim = config.aim }))
with_setting config setting.Owners s = number_within MOST_OWNERS s >>= (λ n. Ok (record { nodes = config.nodes; segments = config.segments; owners = n; partition = config.partition; values = config.values; chunk = config.chunk; aim = config.aim }))
with_setting config setting.Partition s = partition_in s >>= (λ p. Ok (record { nodes = config.nodes; segments = config.segments; owners = config.owners; partition = p; values = config.values; chunk = config.chunk; aim = config.aim }))
with_setting config setting.Values s = values_in s >>= (λ v. Ok (record { nodes = config.nodes; segments = config.segments; owners = config.owners; partition = config.partition; values = v; chunk = config.chunk; aim = config.aim }))
with_setting config setting.Chunk s = number_within MOST_CHUNK s >>= (λ n. Ok (record { nodes = config.nodes; segments = config.segments; owners = config.owners; partition = config.partition; values = config.values; chunk = n; aim = config.aim }))

-- the configuration behind the line of a setting
unfoldable pub setting_in : Config → Setting → List ℕ → Judged Config
setting_in config setting s = do
  rest ← spelt (literal_at (setting_word setting) s)
  with_setting config setting rest

-- whether two kinds of scripts are one
abbrev pub same_kind : ScriptKind → ScriptKind → Bool
same_kind kind.Step kind.Step = true
same_kind kind.Live kind.Live = true
same_kind _ _ = false

-- what stands behind some lines: the number of the next line, and the lines
pub record Behind (A : Type 0) : Type 0 where
  pub it : A
  pub next : ℕ
  pub lines : List Line

-- the configuration behind a line, or none where the line says nothing
unfoldable pub setting_line_in : Config → Setting → Line → Judged (Option Config)
setting_line_in config setting line = needs_whole line >>= (λ whole.
    if says_nothing line.bytes then Ok None else (setting_in config setting line.bytes >>= (λ next. Ok (Some next))))

-- a setting that was found in a line, or what a later line says
abbrev pub found_or : Told (Behind Config) → ℕ → List Line → Option Config → Told (Behind Config)
found_or later n lines None = later
found_or later n lines (Some config) = Ok (record { it = config; next = suc n; lines = lines })

-- a setting stands in the next line that says something; where there is none, the line behind the last is at fault
abbrev pub setting_from : Config → Setting → ℕ → List Line → Told (Behind Config)
setting_from config setting n [] = Err (n, Syntax)
setting_from config setting n (line ∷ lines) = on_line n (setting_line_in config setting line) >>= found_or (setting_from config setting (suc n) lines) n lines

-- the settings stand one behind the other
unfoldable pub settings_from : Config → List Setting → ℕ → List Line → Told (Behind Config)
settings_from config [] n lines = Ok (record { it = config; next = n; lines = lines })
settings_from config (setting ∷ more) n lines = setting_from config setting n lines >>= (λ next. settings_from next.it more next.next next.lines)

-- the aim that a line sets, where it sets one
abbrev pub aim_in : Line → Option Aim
aim_in line =
    if not line.ended
    then None
    else if same_bytes line.bytes (codes "hash create") then Some Create
    else if same_bytes line.bytes (codes "hash least") then Some Least
    else None

-- a line that may stand there and says nothing
abbrev pub is_skipped : Line → Bool
is_skipped line = nat_le (length line.bytes) LONGEST_LINE && (line.ended && says_nothing line.bytes)

-- the settings, with the aim where one was found, and the lines behind it
abbrev pub aimed_or : Behind Config → ℕ → List Line → Option Aim → Behind Config
aimed_or head n lines None = head
aimed_or head n lines (Some aim) = record { it = record head.it { aim = aim }; next = suc n; lines = lines }

-- the settings with the aim that the next line sets that says something; where it sets none, no line is taken
abbrev pub aim_from : Behind Config → ℕ → List Line → Behind Config
aim_from head n [] = head
aim_from head n (line ∷ lines) = if is_skipped line then aim_from head (suc n) lines else aimed_or head n lines (aim_in line)

unfoldable pub with_aim : Behind Config → Behind Config
with_aim head = aim_from head head.next head.lines

-- the first line names the kind that is asked for
unfoldable pub needs_kind_line : ScriptKind → Line → Judged (Unit {0})
needs_kind_line asked line = do
  whole ← needs_whole line
  word ← spelt (kinds_at line.bytes)
  nothing ← spelt (end_at word.1)
  needs (same_kind word.0.kind asked) OtherKind

-- the head of a script, and the lines behind it
unfoldable pub head_of : ScriptKind → List Line → Told (Behind Config)
head_of asked [] = Err (1, Syntax)
head_of asked (line ∷ lines) = on_line 1 (needs_kind_line asked line) >>= (λ named. settings_from unset settings 2 lines >>= (λ head. Ok (with_aim head)))
