use Rattle.std.proofs.Common.{ap, is_some, option_map, sym, true≢false, ◌∙◌}
use Rattle.aa_ordered.proofs.Sound.{value-of-entry}
use Rattle.aa_ordered.proofs.map.OrderedMap.take.Goals as goal

pub unreachable-requires : goal.unreachable-requires
unreachable-requires g c =
    let none = ap (option_map (λ (e : g.row.K.Denot × g.row.V.Denot). e.1)) c.in-None.ensures.old ∙ value-of-entry (g.K.Ord.cmp c.args.key.now) c.args.self.now.entries in
    absurd (true≢false (sym c.requires ∙ sym (ap is_some none)))
