pub mod Undated
pub mod Kept
pub mod Dated
pub mod Turns
pub mod Callers
pub mod Looks
pub mod Sides
pub mod Sent
