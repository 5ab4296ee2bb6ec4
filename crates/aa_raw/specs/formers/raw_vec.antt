pub mod RawVec
