pub mod StreamCalls
pub mod FileCalls
pub mod WholeLaws
pub mod CallRows
