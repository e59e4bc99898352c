pub mod Places
pub mod Rows
pub mod Trees
pub mod Lasting
pub mod FirstNodes
pub mod Standings
pub mod Telling
pub mod RebalanceLines
