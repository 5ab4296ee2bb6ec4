use Rattle.aa_raw.specs.Growths.{of_new}
use Rattle.aa_raw.proofs.{None, arith, empty_places, endless-empty, nat_tests, new_capacity-empty, param, refl, replicate, type_size, ◌≡◌}
use Rattle.aa_raw.proofs.raw_vec.RawVec.with_growth_in.Goals.{else-is_zst, then-is_zst}
use Rattle.aa_raw.proofs.raw_vec.RawVec.with_growth_in.Goals as goal

pub returns : goal.returns
returns g c =
    let X : Type 0 = g.row.T.Denot in let size = type_size (param 0 g.row.T) in
    let n = c.if-is_zst.capacity in
    let made : (of_new size n ≡ of_new size 0)
    × (replicate n None ≡ empty_places {X = X} size 0) = elim c.if-is_zst.branch [
      | then-is_zst w ↦ let zst = c.is_zst.ensures.0 w.if-is_zst.true in
          (grind (arith, nat_tests), endless-empty X size 0 n zst w.capacity-is)
      | else-is_zst w ↦ let not_zst = c.is_zst.ensures.1 in let f = w.if-is_zst.false in
          rw w.capacity-is (refl, new_capacity-empty X size 0 (grind (arith, nat_tests)))
    ] in
    rw (c.from_row.ensures, c.dangling-row.ensures.0, made.0, made.1) refl
