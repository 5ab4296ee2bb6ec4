use Rattle.aa_vec.proofs.{Drains-read, ExtendResult-left, IsNearerEnd, LowerAtMost, None, YieldsCopies, rules, subst, whole_run}
use Rattle.aa_vec.proofs.Outcomes.{on_ok, if_err}
use Rattle.aa_vec.proofs.Reading.{Takes-read, stopped_read}
use Rattle.aa_vec.proofs.vec.Vec.extend_copied_by.Goals as goal

pub returns : goal.returns
returns g c =
    let e = c.extend_by.ensures in let steps = g.I.Iterator.next_gives in
    let LowerIs = LowerAtMost g.I.Iterator.remaining in
    let room = on_ok _ e.extended.appended
    (Takes-read _ (YieldsCopies steps) _ LowerIs (λ s. s.iter.now) (λ s. s.iter.ghost_name)
    (λ s r t p. p) (λ s n h. h)
    (λ lower xs s same w. (subst (λ u. steps s.iter.now None u) (search rules) w.0.1, w.1))) in
    let failed = if_err _ e.extended.error
    (λ _. Takes-read _ (YieldsCopies steps) _ LowerIs (λ s. s.iter.now) (λ s. s.iter.ghost_name)
    (λ s r t p. p) (λ s n h. h) (λ lower xs s same w. (search rules, w.1, w.2))) in
    let x = ExtendResult-left _ _ _ _ _ _ _ _ room failed (search rules) in
    let ran = on_ok _ x.items (Drains-read steps _ _ _) in
    record {
      items = ran;
      runs = on_ok _ ran (whole_run _ _ _);
      fits = e.fits;
      extended = x;
      advanced = stopped_read _ _ _ LowerIs (λ s. s.iter.now) (λ s. s.iter.ghost_name)
          (λ s r t p. p) (λ s n h. h) _ _
          (IsNearerEnd g.I.Iterator.can_next g.I.Iterator.remaining _)
          (λ e. search rules) _ e.extended.error e.advanced;
    }
