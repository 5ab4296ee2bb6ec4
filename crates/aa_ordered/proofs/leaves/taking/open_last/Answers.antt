use Rattle.std.proofs.Common.{◌*◌, [], arith, refl, sym}
use Rattle.aa_ordered.proofs.Taking.{opened-before, own-held, part, rest-before, rest-none, rest-other_back, turned}
use Rattle.aa_ordered.proofs.leaves.taking.open_last.Goals as goal

pub overflow_mul-result : goal.overflow_mul-result
overflow_mul-result g c =
    let cs = c.args.block.now.places in let p = c.args.back in let q = c.args.front.now in let hs = c.args.heads.now.items in let is = turned cs q p hs c.requires in let news = c.last_list.new.heads.items in let h = c.in-Some.head in let s = c.in-Some.ensures.some in
    omega (arith, (own-held cs p q hs is news s.empty h s.all).1.0, c.prove_capacity_bounds.ensures.fits_usize)

pub returns-in-Some-clause-parts : goal.returns-in-Some-clause-parts
returns-in-Some-clause-parts g c =
    let cs = c.args.block.now.places in let p = c.args.back in let q = c.args.front.now in let hs = c.args.heads.now.items in let is = turned cs q p hs c.requires in let news = c.last_list.new.heads.items in let h = c.in-Some.head in let s = c.in-Some.ensures.some in
    turned cs (part (h.leaf * 64) h.len) q news (opened-before cs p q hs is news s.empty h s.all)

pub returns-in-Some-clause-same : goal.returns-in-Some-clause-same
returns-in-Some-clause-same g c =
    let cs = c.args.block.now.places in let p = c.args.back in let q = c.args.front.now in let hs = c.args.heads.now.items in let is = turned cs q p hs c.requires in let news = c.last_list.new.heads.items in let h = c.in-Some.head in let s = c.in-Some.ensures.some in
    sym (rest-before cs p q hs c.if-back-ne0.false h news s)

pub returns-in-None-clause-same : goal.returns-in-None-clause-same
returns-in-None-clause-same g c =
    let cs = c.args.block.now.places in let p = c.args.back in let q = c.args.front.now in let hs = c.args.heads.now.items in let is = turned cs q p hs c.requires in let news = c.last_list.new.heads.items in
    rw (c.replace.ensures.value, c.replace.ensures.after, c.in-None.ensures.all) (sym (rest-other_back cs p q hs c.if-back-ne0.false c.in-None.ensures.none))

pub returns-in-None-clause-none : goal.returns-in-None-clause-none
returns-in-None-clause-none g c =
    λ e. rw (c.replace.ensures.after, c.in-None.ensures.all) (rest-none c.args.block.now.places (part 0 0) c.replace.result [] refl e)
