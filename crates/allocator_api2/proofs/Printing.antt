-- What `{:?}` writes of a list, item by item, for collections that are printed by a loop.
pub use Rattle.aa_gap.proofs.Printing.{Continues, opened, begun, continued, ended}
