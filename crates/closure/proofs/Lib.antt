pub mod PrepareLaws
pub mod KernelLaws
pub mod StepLaws
pub mod ItemLaws
pub mod AddingLaws
pub mod ExpandLaws
pub mod ReachLaws
pub mod UseLaws
