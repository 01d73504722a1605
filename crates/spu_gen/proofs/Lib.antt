pub mod Codes
pub mod Words
pub mod Relocated
pub mod Growing
pub mod Formed
