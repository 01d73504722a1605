pub mod Plans
pub mod Cuts
pub mod Choices
pub mod Cutting
pub mod Choosing
pub mod Laws
