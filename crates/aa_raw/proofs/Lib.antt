-- The names that the proofs of the functions cite, passed on.
pub use Access.*
pub use Claims.*
unfoldable pub use Common.*
pub use Places.*
pub use Resizing.*
pub use Spots.*
pub use TwoRuns.*
pub mod Common
mod Access
pub mod Entries
pub mod EntriesLent
pub mod EntriesTaken
mod Claims
pub mod Errors
pub mod Calls
pub mod Costs
pub mod Firsts
pub mod Places
pub mod Positions
pub mod Reserving
pub mod Singles
mod Resizing
pub mod Rights
pub mod Runs
mod Spots
pub mod Beyond
pub mod BothEnds
pub mod TwoRuns
