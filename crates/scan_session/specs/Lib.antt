pub mod ScanSession
