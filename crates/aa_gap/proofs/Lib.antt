-- The names that the proofs of the functions cite, passed on.
pub use Common.*
pub use Pages.*
pub use Texts.*
pub mod Common
pub mod Callers
pub mod Extending
pub mod Pages
pub mod Parts
pub mod Printing
pub mod Texts
pub mod Walking
