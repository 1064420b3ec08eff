pub mod Promise
pub mod Counting
pub mod ManyLaws
pub mod KernelLaws
pub mod ReplyLaws
pub mod PromiseLaws
