pub mod FileTails
pub mod FooterAnswers
pub mod FooterReads
pub mod FooterSizes
pub mod NormalWeights
