-- The second line of a report without events.
use Rattle.std.proofs.Common.{◌≡◌, ℕ, suc, ◌+◌, ◌<◌, Bool, true, false, List, [], ◌∷◌, ◌++◌, length, Option, Some, None, refl, sym, ap, ◌∙◌, subst, arith, append_assoc}
use Rattle.grid_event.specs.Configs.{is_config}
use Rattle.grid_event.specs.Histories.{History, blank}
use Rattle.grid_event.specs.declared.config.Config.{Config}
use Rattle.grid_journal.specs.Reports.{config_text, end_line, first_text, line, report_text}
use Rattle.text_lines.specs.Lines.{Line, lines_of}
use Rattle.text_lines.proofs.Cutting.{lines_cut}
use Rattle.report_reading.proofs.Heads.{first_one}
use Rattle.report_reading.proofs.Settings.{settings_one}

-- the lines behind the first
abbrev tail_lines : List Line → List Line
tail_lines [] = []
tail_lines (l ∷ ls) = ls

-- the bytes of the first line
abbrev head_bytes : List Line → List ℕ
head_bytes [] = []
head_bytes (l ∷ ls) = l.bytes

-- the lines behind the first
behind_first : (config : Config) → is_config config ≡ true → (history : History) → history ≡ record blank { config = Some config } → (out : List ℕ) → out ≡ report_text history →
    (l : Line) (rest : List ℕ) → lines_of out ≡ l ∷ lines_of rest → lines_of rest ≡ record { bytes = first_text config; ended = true } ∷ lines_of (end_line 0)
behind_first config good history fresh out made l rest cut =
    ap tail_lines (sym cut ∙ (ap lines_of (made ∙ (ap report_text fresh ∙ (append_assoc (line (config_text config)) (line (first_text config)) (end_line 0) ∙ append_assoc (config_text config) (10 ∷ []) (line (first_text config) ++ end_line 0)))) ∙ lines_cut (config_text config) (line (first_text config) ++ end_line 0) (settings_one config good)))
    ∙ (ap lines_of (append_assoc (first_text config) (10 ∷ []) (end_line 0)) ∙ lines_cut (first_text config) (end_line 0) (first_one config good))

-- there are bytes of it
pub second_there : (config : Config) → is_config config ≡ true → (history : History) → history ≡ record blank { config = Some config } → (out : List ℕ) → out ≡ report_text history →
    (l : Line) (rest : List ℕ) → lines_of out ≡ l ∷ lines_of rest → 0 < length rest
second_there config good history fresh out made l rest cut = by_rest rest (behind_first config good history fresh out made l rest cut)
  where
    by_rest : (rest : List ℕ) → lines_of rest ≡ record { bytes = first_text config; ended = true } ∷ lines_of (end_line 0) → 0 < length rest
    by_rest [] e = absurd (cc)
    by_rest (b ∷ rest) e = omega arith

-- and it is the first topology
pub second_is : (config : Config) → is_config config ≡ true → (history : History) → history ≡ record blank { config = Some config } → (out : List ℕ) → out ≡ report_text history →
    (l : Line) (rest : List ℕ) → lines_of out ≡ l ∷ lines_of rest → (m : Line) (more : List ℕ) → lines_of rest ≡ m ∷ lines_of more → m.bytes ≡ first_text config
second_is config good history fresh out made l rest cut m more next =
    ap head_bytes (sym next ∙ behind_first config good history fresh out made l rest cut)
