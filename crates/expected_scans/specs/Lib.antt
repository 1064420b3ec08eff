pub mod ExpectedScans
