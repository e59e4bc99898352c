pub mod Serving
pub mod Due
pub mod Staying
pub mod Turns
pub mod Laws
pub mod Sharing
