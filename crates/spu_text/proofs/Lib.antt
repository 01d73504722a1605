pub mod LexemeSteps
pub mod LineSteps
pub mod NumberSteps
pub mod OrderSteps
pub mod ScanSteps
