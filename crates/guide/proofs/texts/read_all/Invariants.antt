use Rattle.std.proofs.Common.{◌≡◌, ◌++◌, ℕ, List}
use Rattle.std.specs.Io.KnownBytes.{Consumes}
use Rattle.guide.proofs.texts.read_all.Given as goal

-- the bytes read so far are appended
abbrev pub invariant-reading : goal.invariant-reading
invariant-reading g l = (more : List ℕ) × (l.v.items ≡ l.fn.v.items ++ more) × Consumes (g.R.Read.remaining l.fn.r) (g.R.Read.remaining l.r) more
