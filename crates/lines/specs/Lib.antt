-- What a line means, what a reply looks like, and what the whole output is for a whole input. Read in this order.
pub mod Text
pub mod Line
pub mod Head
pub mod Render
pub mod Output
pub mod NotRead
pub mod Gather
pub mod Answering
pub mod Serving
pub mod Example
