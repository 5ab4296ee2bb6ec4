use Rattle.std.proofs.Common.{ap, is_some, option_map, sym, true≢false, ◌∙◌}
use Rattle.aa_ordered.proofs.Sound.{value-of-entry}
use Rattle.aa_ordered.proofs.entry.OccupiedEntry.key.Goals as goal

pub unreachable-requires : goal.unreachable-requires
unreachable-requires g c =
    let o = c.args.self.now in
    let none = ap (option_map (λ (e : g.row.K.Denot × g.row.V.Denot). e.1)) c.in-None.ensures ∙ value-of-entry (g.K.Ord.cmp o.key) o.map.now.entries in
    absurd (true≢false (sym o.present ∙ sym (ap is_some none)))
