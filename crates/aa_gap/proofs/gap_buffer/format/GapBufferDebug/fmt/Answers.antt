use Rattle.aa_gap.proofs.{rules, text, [], ◌∷◌, ◌≡◌}
use Rattle.aa_gap.proofs.Printing.{opened, begun, continued, ended}
use Rattle.aa_gap.proofs.gap_buffer.format.GapBufferDebug.fmt.Goals as goal
use Rattle.aa_gap.proofs.gap_buffer.format.GapBufferDebug.fmt.Goals.{in-Some+in_ok-fmt+in-None, in_default}

pub each-init : goal.each-init
each-init g c =
    let x = c.in-Some.first.now in let rest = c.into_iter-item-iterator.result in
    let all : text c.args.self.now ≡ x ∷ rest = search rules in
    rw all (begun _ g.T.Debug.debug_output _ _ _ c.write_str.result c.fmt.result x rest
    c.write_str.ensures.writes (search rules) c.fmt.ensures.writes (search rules))

pub each-preserved : goal.each-preserved
each-preserved g c =
    let x = c.in-Some-item.item.now in let led = c.write_str-in-each in let shown = c.fmt-in-each in
    let more : c.each.item-iterator ≡ x ∷ c.next-in-each.new.self = search rules in
    continued _ g.T.Debug.debug_output _ _ _ led.result shown.result x _ _ (text c.args.self.now)
    (rw more at c.each.invariant) led.ensures.writes (search rules) shown.ensures.writes
    (search rules)

pub returns : goal.returns
returns g c =
    let shows = g.T.Debug.debug_output in let xs = text c.args.self.now in
    let start = c.args.f.now in record {
      writes = elim c.match-next.branch [
        | in-Some+in_ok-fmt+in-None w ↦
            let done : w.each.item-iterator ≡ [] = search rules in
            ended _ shows start _ _ _ xs (rw done at w.each.invariant)
            (rw w.f-is at c.write_str-2.ensures.writes)
        | in_default w ↦
            let none : xs ≡ [] = search rules in
            let begin = opened _ shows start _ c.write_str.result c.write_str.ensures.writes
            (search rules) in
            ended _ shows start _ _ _ xs (rw none begin) (rw w.f-is at c.write_str-2.ensures.writes)
      ];
    }
