use Rattle.std.proofs.Common.{rules}
use Rattle.layer_tests.proofs.Claimed.{middle_stays}
use Rattle.layer_tests.proofs.claims.middle_kept.Goals as goal

pub returns : goal.returns
returns g c =
    let left = middle_stays c.args.v.now c.keep_rest.new.self.0 c.drain-range.result c.next-first.new.self c.next_back-last.new.self c.next-first.result c.next_back-last.result c.requires c.drain-range.ensures.drained c.next-first.ensures.steps c.next_back-last.ensures.steps c.keep_rest.ensures in
    search rules
