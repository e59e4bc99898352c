pub mod Answers
pub mod Gives
pub mod Grammar
pub mod Parsing
pub mod Reading
pub mod Words
