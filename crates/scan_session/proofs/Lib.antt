pub mod TerminalLaws
pub mod ScanLaws
