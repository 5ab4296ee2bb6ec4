pub mod RawBox
