use Rattle.std.proofs.Common.{rules, ◌≡◌, ◌-◌, [], length, sym, ap, ◌∙◌, arith}
use Rattle.std.specs.Prelude.{reverse}
use Rattle.std.specs.Mem.{type_size}
use Rattle.std.proofs.lemmas.List.{length-reverse}
use denote.Param.{param}
use Rattle.aa_inline.specs.Extending.{with_tail_at}
use Rattle.aa_inline.specs.Inlined.{in_place, with_items, with_room, with_written}
use Rattle.aa_inline.proofs.Bringing.{length-with_tail_at, length-range, range-taken}
use Rattle.aa_inline.proofs.inline.InlineVec.take_range.Goals as goal

pub returns-clause-taken : goal.returns-clause-taken
returns-clause-taken g c =
    let xs = c.args.self.now.items in let i = c.args.start in let n = c.args.end in let m = c.move_last.new.to in let ys = c.move_last.new.self.items in
    let order = c.requires.0 in let few = c.requires.1 in
    let items : c.move_tail.new.self.items ≡ with_tail_at i n xs = ap (λ s. s.items) c.move_tail.ensures in
    let long : length ys ≡ length xs - (n - i) = omega (arith, c.move_last.ensures.count, c.len.ensures, ap length items, length-with_tail_at xs i n order few) in
    let range = range-taken xs ys m.items i n (sym items ∙ c.move_last.ensures.whole) long order few in
    let count : length m.items ≡ n - i = omega (arith, length-reverse m.items, ap length range, length-range xs i n order few) in
    let none = c.new_in-taken.ensures ∙ ap (λ a. in_place [] a) c.allocator.ensures in
    let roomy = c.in_ok-reserve.ensures.reserved ∙ ap (λ s. with_room (type_size (param 0 g.row.T)) g.row.N s (n - i)) none in
    c.reverse_items.ensures ∙ ap (λ s. with_items s (reverse m.items)) c.move_last.ensures.moved ∙ (λ t. with_written (roomy t) (range t) (count t))

pub move_tail-requires : goal.move_tail-requires
move_tail-requires g c = (search rules, search rules)
