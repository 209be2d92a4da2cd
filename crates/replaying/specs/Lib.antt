pub mod Faults
pub mod Printed
pub mod Reading
pub mod Replayed
