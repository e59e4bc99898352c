-- What the reading says of reports.
use Rattle.std.proofs.Common.{◌≡◌, ℕ, Bool, List, Option, Some, None, Result, Ok, Err, refl, sym, ap, ◌∙◌, subst, arith}
use Rattle.std.specs.Result.{IsErrOf}
use Rattle.grid_event.specs.Histories.{History}
use Rattle.report_reading.specs.ReportReading.{Stop, report_of}
use Rattle.report_reading.specs.Taking.{IsFaultOnly, IsOnly, Reads}
use Rattle.report_reading.specs.WholeReports.{HasNoReport, IsFirstFull, IsFirstUnread, IsNeverFull, IsReport}
use Rattle.report_reading.specs.declared.report_fault.ReportFault.{ReportFault}
use Rattle.report_reading.specs.declared.report_fault.ReportFault.TheVariants as faults
use Rattle.report_reading.proofs.Exact.{full_found, unread_found}
use Rattle.report_reading.proofs.Heads.{all_full, all_past_limit, all_sound, all_unread}

-- a stop as the fault that tells it
abbrev fault_of_stop : Stop → ReportFault
fault_of_stop (Stop.Unread line) = faults.Unread line
fault_of_stop (Stop.Full line) = faults.Full line

-- what was read is the history of whichever report the bytes are
pub read_only : (bytes : List ℕ) (after history : History) → report_of bytes ≡ Ok after → IsReport bytes history → after ≡ history
read_only bytes after history is whole = made (report_of bytes) is (all_full bytes history whole)
  where
    made : (r : Result History Stop) → r ≡ Ok after → r ≡ Ok history → after ≡ history
    made r e f = cc

-- a report is refused for want of memory alone
pub missed : (bytes : List ℕ) (fault : ReportFault) (before after history : History) → Reads (Err fault) before (report_of bytes) → IsReport bytes history → IsOnly history (Err fault) after
missed bytes (faults.Unread line) before after history is whole = absurd (let e = sym is ∙ all_full bytes history whole in cc)
missed bytes (faults.Full line) before after history is whole = absurd (let e = sym is ∙ all_full bytes history whole in cc)
missed bytes faults.NoMemory before after history is whole = tt

-- Unread names the first line with which no report begins
pub is_unread : (bytes : List ℕ) (fault : ReportFault) (before : History) (line : ℕ) → Reads (Err fault) before (report_of bytes) → IsErrOf {T = Unit {0}} (Err fault) (faults.Unread line) → IsFirstUnread bytes line
is_unread bytes fault before line is same = all_unread bytes line (subst (λ f. Reads f before (report_of bytes)) same is)

-- Full names the line of an event which would pass a limit
pub is_full : (bytes : List ℕ) (fault : ReportFault) (before : History) (line : ℕ) → Reads (Err fault) before (report_of bytes) → IsErrOf {T = Unit {0}} (Err fault) (faults.Full line) → IsFirstFull bytes line
is_full bytes fault before line is same = all_past_limit bytes line (subst (λ f. Reads f before (report_of bytes)) same is)

-- where the definition stops with a fault, the code does or finds no memory
only_fault : (bytes : List ℕ) (result : Result (Unit {0}) ReportFault) (after : History) (stop : Stop) → Reads result after (report_of bytes) → report_of bytes ≡ Err stop → IsFaultOnly (fault_of_stop stop) result
only_fault bytes (Ok done) after stop is e = absurd (let f = sym is ∙ e in cc)
only_fault bytes (Err (faults.Unread line)) after (Stop.Unread n) is e = let f = sym is ∙ e in cc
only_fault bytes (Err (faults.Unread line)) after (Stop.Full n) is e = absurd (let f = sym is ∙ e in cc)
only_fault bytes (Err (faults.Full line)) after (Stop.Unread n) is e = absurd (let f = sym is ∙ e in cc)
only_fault bytes (Err (faults.Full line)) after (Stop.Full n) is e = let f = sym is ∙ e in cc
only_fault bytes (Err faults.NoMemory) after stop is e = tt

-- and so at each of the two
pub only_unread : (bytes : List ℕ) (result : Result (Unit {0}) ReportFault) (after : History) (line : ℕ) → Reads result after (report_of bytes)
    → IsFirstUnread bytes line → HasNoReport bytes → IsNeverFull bytes → IsFaultOnly (faults.Unread line) result
only_unread bytes result after line is first none never = only_fault bytes result after (Stop.Unread line) is (unread_found bytes line first none never)

-- where a limit is passed reading says so, unless memory runs out
pub only_full : (bytes : List ℕ) (result : Result (Unit {0}) ReportFault) (after : History) (line : ℕ) → Reads result after (report_of bytes)
    → IsFirstFull bytes line → IsFaultOnly (faults.Full line) result
only_full bytes result after line is first = only_fault bytes result after (Stop.Full line) is (full_found bytes line first)
