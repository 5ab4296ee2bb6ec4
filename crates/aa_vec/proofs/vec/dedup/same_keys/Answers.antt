use Rattle.aa_vec.proofs.Common.{CalledAtMut, refl, rules}
use Rattle.aa_vec.proofs.vec.dedup.same_keys.Goals as goal

pub key-second-requires : goal.key-second-requires
key-second-requires g c =
    let called : CalledAtMut g.F.FnMut c.args.key.now c.args.element.now c.key-first.result
    c.key-first.new.self c.key-first.new.arg2 = search rules in
    c.requires.1 _ _ _ called _ refl

pub returns : goal.returns
returns g c =
    let first : CalledAtMut g.F.FnMut c.args.key.now c.args.element.now c.key-first.result
    c.key-first.new.self c.key-first.new.arg2 = search rules in
    let second : CalledAtMut g.F.FnMut c.key-first.new.self c.args.last.now c.key-second.result
    c.key-second.new.self c.key-second.new.arg2 = search rules in
    search (rules, first, second)
