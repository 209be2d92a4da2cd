pub mod Serving
pub mod Keeping
pub mod Deadlines
pub mod Sides
