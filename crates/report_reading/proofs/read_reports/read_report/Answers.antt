use Rattle.std.proofs.Common.{Ok, Err, subst}
use Rattle.report_reading.specs.Taking.{Reads}
use Rattle.report_reading.specs.ReportReading.{report_of}
use Rattle.report_reading.proofs.Heads.{all_sound}
use Rattle.report_reading.proofs.ReadContract.{is_full, is_unread, missed, only_full, only_unread, read_only}
use Rattle.report_reading.proofs.read_reports.read_report.Goals as goal

pub returns-in-Ok-clause-read : goal.returns-in-Ok-clause-read
returns-in-Ok-clause-read c = all_sound c.args.bytes.now c.read_into.new.journal.history c.in-Ok.ensures.read

pub returns-in-Ok-clause-only : goal.returns-in-Ok-clause-only
returns-in-Ok-clause-only c = λ history whole. read_only c.args.bytes.now c.read_into.new.journal.history history c.in-Ok.ensures.read whole

pub returns-in-Err-clause-only : goal.returns-in-Err-clause-only
returns-in-Err-clause-only c = λ history whole. missed c.args.bytes.now c.in-Err.fault c.read_into.new.journal.history c.new.result.history history c.in-Err.ensures.read whole

pub returns-in-Err-clause-unread : goal.returns-in-Err-clause-unread
returns-in-Err-clause-unread c = λ line same. is_unread c.args.bytes.now c.in-Err.fault c.read_into.new.journal.history line c.in-Err.ensures.read same

pub returns-in-Err-clause-full : goal.returns-in-Err-clause-full
returns-in-Err-clause-full c = λ line same. is_full c.args.bytes.now c.in-Err.fault c.read_into.new.journal.history line c.in-Err.ensures.read same

pub returns-in-Ok-clause-only_unread : goal.returns-in-Ok-clause-only_unread
returns-in-Ok-clause-only_unread c = λ line first none never. only_unread c.args.bytes.now (Ok c.in-Ok.field-0) c.read_into.new.journal.history line c.in-Ok.ensures.read first none never

pub returns-in-Ok-clause-only_full : goal.returns-in-Ok-clause-only_full
returns-in-Ok-clause-only_full c = λ line first. only_full c.args.bytes.now (Ok c.in-Ok.field-0) c.read_into.new.journal.history line c.in-Ok.ensures.read first

pub returns-in-Err-clause-only_unread : goal.returns-in-Err-clause-only_unread
returns-in-Err-clause-only_unread c = λ line first none never. only_unread c.args.bytes.now (Err c.in-Err.fault) c.read_into.new.journal.history line c.in-Err.ensures.read first none never

pub returns-in-Err-clause-only_full : goal.returns-in-Err-clause-only_full
returns-in-Err-clause-only_full c = λ line first. only_full c.args.bytes.now (Err c.in-Err.fault) c.read_into.new.journal.history line c.in-Err.ensures.read first
