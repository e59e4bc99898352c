pub mod Guarantee
