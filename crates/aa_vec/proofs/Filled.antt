-- A new vector of n clones of one value.
use Rattle.aa_vec.proofs.Common.{ℕ, ◌<◌, replicate, arith, length-append, length-replicate, Doubling, ClonesAreEqual, AppendsCopies, Vector, IsNew, length_all_zip, IsMade, IsMadeOfOne, nat_tests}
use Rattle.aa_vec.proofs.CopiesLemmas.{all-copied}

module _ {T A : Type 0} (clones : T → T → Type 0) (size n : ℕ) (x : T) (some : 0 < n) where
  pub IsMadeOfOne-filled : (a : A) (v new : Vector T A) → IsNew size n a v
      → AppendsCopies clones v n x new → IsMadeOfOne clones size x n new
  IsMadeOfOne-filled a v new made p = grind (arith, length-append, length_all_zip, length-replicate)

  pub IsMade-copied : (v : Vector T A) → ClonesAreEqual clones → IsMadeOfOne clones size x n v
      → IsMade size n Doubling (replicate n x) n v
  IsMade-copied v copies p = grind (arith, nat_tests, all-copied)
