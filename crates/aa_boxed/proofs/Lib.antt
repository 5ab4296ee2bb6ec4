-- The names that the proofs of the functions cite, passed on.
pub use Coming.*
unfoldable pub use Common.*
pub use Exact.*
pub use Texts.*
pub mod Common
pub mod Coming
pub mod Costs
pub mod Comparing
pub mod Exact
pub mod Indexed
pub mod Texts
