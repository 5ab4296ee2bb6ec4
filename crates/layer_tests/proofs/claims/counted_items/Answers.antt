use Rattle.layer_tests.proofs.Claimed.{counted_once}
use Rattle.layer_tests.proofs.claims.counted_items.Goals as goal

pub returns : goal.returns
returns g c =
    let e = c.in_ok-extend_hinted.ensures.extended in
    counted_once _ c.args.items e.0 c.args.v.now c.extend_hinted.new.self c.requires.short c.requires.counted c.prove_capacity_bounds.ensures.fits_usize e.1.appended
