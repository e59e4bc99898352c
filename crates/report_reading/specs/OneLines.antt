-- What is known of single lines: none has a line feed inside, and settings are read as what they are.
use Rattle.std.specs.Prelude.{◌≡◌, ℕ, ◌<◌, true, List, Some}
use Rattle.grid_event.specs.Configs.{is_config}
use Rattle.grid_event.specs.declared.config.Config.{Config}
use Rattle.grid_journal.specs.Reports.{config_text, first_text}
use Rattle.text_lines.specs.Lines.{is_one_line}
use Rattle.report_reading.specs.ReportLines.{ReportLine, config_of, line_fits, line_text}

pub record OneLines : Type 0 where
  pub lines : (count : ℕ) (l : ReportLine) → count < 4294967295 → line_fits l ≡ true → is_one_line (line_text count l) ≡ true
  pub config : (c : Config) → is_config c ≡ true → is_one_line (config_text c) ≡ true
  pub first : (c : Config) → is_config c ≡ true → is_one_line (first_text c) ≡ true
  pub settings : (c : Config) → is_config c ≡ true → config_of (config_text c) ≡ Some c
  pub settings_only : (s : List ℕ) (c : Config) → config_of s ≡ Some c → (config_text c ≡ s) × (is_config c ≡ true)
