use Rattle.std.proofs.Common.{rules, ◌≡◌, [], ◌∷◌, sym, subst}
use Rattle.std.specs.Prelude.{IsOk}
use Rattle.allocator_api2.proofs.Printing.{Continues, opened, begun, continued, ended}
use Rattle.aa_ring.proofs.ring.format.RingDebug.fmt.Goals as goal
use Rattle.aa_ring.proofs.ring.format.RingDebug.fmt.Goals.{in-Some+in_ok-fmt+in-None, in_default}

pub each-init : goal.each-init
each-init g c =
    let took = g.W.Write.write_str_gives in let text = g.T.Debug.debug_output in
    let rest = c.into_iter-item-iterator.result in let x = c.in-Some.first.now in
    let ok : IsOk c.write_str.result = search rules in
    let fine : IsOk c.fmt.result = search rules in
    let all : c.args.self.now.items ≡ x ∷ rest = search rules in
    subst (λ xs. Continues took text c.args.f.now xs c.fmt.new.f rest) (sym all)
    (begun took text c.args.f.now c.write_str.new.self c.fmt.new.f c.write_str.result c.fmt.result x rest c.write_str.ensures.writes ok c.fmt.ensures.writes fine)

pub each-preserved : goal.each-preserved
each-preserved g c =
    let took = g.W.Write.write_str_gives in let text = g.T.Debug.debug_output in
    let led = c.write_str-in-each in let shown = c.fmt-in-each in
    let rest = c.next-in-each.new.self in let x = c.in-Some-item.item.now in
    let start = c.args.f.now in let xs = c.args.self.now.items in
    let ok : IsOk led.result = search rules in let fine : IsOk shown.result = search rules in
    let more : c.each.item-iterator ≡ x ∷ rest = search rules in
    continued took text c.each.f led.new.self shown.new.f led.result shown.result x rest start xs
    (subst (λ ys. Continues took text start xs c.each.f ys) more c.each.invariant) led.ensures.writes ok shown.ensures.writes fine

pub returns : goal.returns
returns g c =
    let took = g.W.Write.write_str_gives in let text = g.T.Debug.debug_output in
    let start = c.args.f.now in let xs = c.args.self.now.items in let last = c.write_str-2 in
    record {
      writes = elim c.match-next.branch [
        | in-Some+in_ok-fmt+in-None w ↦
            let done : w.each.item-iterator ≡ [] = search rules in
            ended took text start w.each.f last.new.self last.result xs (subst
            (λ ys. Continues took text start xs w.each.f ys) done w.each.invariant)
            (rw w.f-is at last.ensures.writes)
        | in_default w ↦
            let ok : IsOk c.write_str.result = search rules in
            let none : xs ≡ [] = search rules in
            let begin = opened took text start c.write_str.new.self c.write_str.result c.write_str.ensures.writes ok in
            ended took text start c.write_str.new.self last.new.self last.result xs (subst
            (λ ys. Continues took text start ys c.write_str.new.self []) (sym none) begin)
            (rw w.f-is at last.ensures.writes)
      ];
    }
