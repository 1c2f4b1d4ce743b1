pub mod Device
pub mod Acts
pub mod Faults
pub mod Gives
pub mod GivesLaws
pub mod Reading
pub mod FaultEq
