pub mod Keeping
pub mod Places
pub mod Precedence
mod Runs
