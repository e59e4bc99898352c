mod ElementOrder
mod SetLaws
mod Continuing
mod Outcomes
