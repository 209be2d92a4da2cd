pub mod Input
pub mod Session
pub mod Book
pub mod BookInside
pub mod Accounts
