pub mod DefaultIds
pub mod DefaultRows
pub mod Meanings
pub mod Places
pub mod Refusals
pub mod WriterAnswers
