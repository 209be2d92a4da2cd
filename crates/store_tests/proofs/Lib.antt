pub mod Standings
pub mod Planned
