pub mod Line
pub mod Reply
