pub mod AcceptLaws
pub mod FaultLaws
pub mod VerdictLaws
pub mod StateLaws
pub mod PassLaws
