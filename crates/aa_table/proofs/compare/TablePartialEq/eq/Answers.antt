use Rattle.std.proofs.Common.{arith, false, length, ◌∙◌, ◌≡◌, ◌≢◌}
use Rattle.std.specs.Prelude.{nat_eq}
use Rattle.std.proofs.lemmas.Bool.Decides.{nat_tests}
use Rattle.aa_table.proofs.Comparing.{decided-once, unlike-many}
use Rattle.aa_table.proofs.compare.TablePartialEq.eq.Goals as goal

pub returns-then-len : goal.returns-then-len
returns-then-len g c =
    let same : length c.args.self.now.entries ≡ length c.args.other.now.entries = grind (arith, nat_tests, c.if-len.true, c.len.ensures.count, c.len-2.ensures.count) in
    c.has_all.ensures
    ∙ decided-once g.K.PartialEq.eq g.V.PartialEq.eq g.met.K.Eq.laws g.met.V.PartialEq.laws c.args.self.now.entries c.args.other.now.entries c.len.ensures.once c.len-2.ensures.once same

pub returns-else-len : goal.returns-else-len
returns-else-len g c =
    let other : length c.args.self.now.entries ≢ length c.args.other.now.entries = grind (arith, nat_tests, c.if-len.false, c.len.ensures.count, c.len-2.ensures.count) in
    let apart : nat_eq c.len.result c.len-2.result ≡ false = grind (arith, nat_tests, c.if-len.false) in
    apart
    ∙ unlike-many g.K.PartialEq.eq g.V.PartialEq.eq g.met.K.Eq.laws g.met.V.PartialEq.laws c.args.self.now.entries c.args.other.now.entries c.len.ensures.once c.len-2.ensures.once other
