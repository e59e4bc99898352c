pub mod ReportLines
pub mod ReportReading
pub mod WholeReports
pub mod OneLines
pub mod Taking
