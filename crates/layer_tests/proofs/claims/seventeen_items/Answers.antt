use Rattle.std.proofs.lemmas.Result.{on_ok_weaker}
use Rattle.aa_vec.proofs.Counted.{ExtendsAll-items}
use Rattle.layer_tests.proofs.Claimed.{seventeen_told}
use Rattle.layer_tests.proofs.claims.seventeen_items.Goals as goal

pub returns : goal.returns
returns g c =
    on_ok_weaker _ (λ e. seventeen_told c.args.v.now c.extend_hinted.new.self c.args.items c.requires.old.0 c.requires.old.1 c.requires.old.2 c.requires.new.0 c.requires.new.1 (ExtendsAll-items _ _ _ _ _ e)) c.extend_hinted.ensures.extended.1.appended
