pub mod Days
pub mod Forms
pub mod DigitSteps
pub mod WideDigits
pub mod Items
pub mod Variants
