use Rattle.history_units.proofs.ScanLaws.{scans_told}
use Rattle.history_units.proofs.laws.scans_tell_entries.Goals as goal

pub returns : goal.returns
returns c = scans_told
