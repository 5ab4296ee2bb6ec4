use Rattle.std.proofs.Common.{List, [], ap, append-nil, append_assoc, arith, length, subst, sym, ◌++◌, ◌∙◌, ◌∷◌, ◌≡◌}
use Rattle.aa_table.specs.SetContents.{SetHasRoom}
use Rattle.aa_table.specs.SetOperators.{is_in, part_of, InsertsClones}
use Rattle.aa_table.proofs.Combining.{both-cloned, in-part, none-cloned, not-in-part, still-room}
use Rattle.aa_table.proofs.set.Set.insert_clones.Goals as goal

pub each-init : goal.each-init
each-init g c =
    let part = λ (xs : List g.row.T.Denot). part_of g.T.PartialEq.eq c.args.part xs c.args.other.now.elements in (
      [],
      none-cloned g.T.PartialEq.eq g.T.Clone.is_clone c.args.self.now,
      ap part c.iter-rest.ensures,
      subst (λ (xs : List g.row.T.Denot). SetHasRoom c.args.self.now (length (part xs))) (sym c.iter-rest.ensures) c.requires,
    )

pub each-preserved : goal.each-preserved
each-preserved g c =
    let test = is_in g.T.PartialEq.eq c.args.part c.args.other.now.elements in
    let part = λ (xs : List g.row.T.Denot). part_of g.T.PartialEq.eq c.args.part xs c.args.other.now.elements in
    let inv = c.each.invariant in let v = c.in-Some.value.now in let rest = c.next.new.self in
    let taken : part c.each.rest ≡ v ∷ part rest = ap part c.in-Some.ensures.steps ∙ in-part test v rest (sym c.has_in.ensures ∙ c.if-not-has_in.false) in
    let one = c.insert_clone.ensures c.if-not-insert_clone.false in (
      inv.0 ++ v ∷ [],
      both-cloned g.T.PartialEq.eq g.T.Clone.is_clone c.args.self.now c.each.self c.insert_clone.new.self inv.0 (v ∷ []) inv.1 one,
      append_assoc inv.0 (v ∷ []) (part rest) ∙ ap (λ zs. inv.0 ++ zs) (sym taken) ∙ inv.2,
      still-room g.T.PartialEq.eq g.T.Clone.is_clone c.each.self c.insert_clone.new.self (v ∷ []) (length (part rest)) one (omega (arith, inv.3, ap length taken)),
    )

pub each-preserved-then-not-has_in : goal.each-preserved-then-not-has_in
each-preserved-then-not-has_in g c =
    let test = is_in g.T.PartialEq.eq c.args.part c.args.other.now.elements in
    let part = λ (xs : List g.row.T.Denot). part_of g.T.PartialEq.eq c.args.part xs c.args.other.now.elements in
    let inv = c.each.invariant in let rest = c.next.new.self in
    let passed : part c.each.rest ≡ part rest = ap part c.in-Some.ensures.steps ∙ not-in-part test c.in-Some.value.now rest (sym c.has_in.ensures ∙ c.if-not-has_in.true) in (
      inv.0,
      inv.1,
      ap (λ zs. inv.0 ++ zs) (sym passed) ∙ inv.2,
      omega (arith, inv.3, ap length passed),
    )

pub insert_clone-requires : goal.insert_clone-requires
insert_clone-requires g c =
    let test = is_in g.T.PartialEq.eq c.args.part c.args.other.now.elements in
    let part = λ (xs : List g.row.T.Denot). part_of g.T.PartialEq.eq c.args.part xs c.args.other.now.elements in
    let taken : part c.each.rest ≡ c.in-Some.value.now ∷ part c.next.new.self = ap part c.in-Some.ensures.steps ∙ in-part test c.in-Some.value.now c.next.new.self (sym c.has_in.ensures ∙ c.if-not-has_in.false) in
    omega (arith, c.each.invariant.3, ap length taken)

pub returns : goal.returns
returns g c =
    let part = λ (xs : List g.row.T.Denot). part_of g.T.PartialEq.eq c.args.part xs c.args.other.now.elements in
    let inv = c.each.invariant in
    let all : inv.0 ≡ part c.args.from.now.elements = sym (append-nil inv.0) ∙ ap (λ (xs : List g.row.T.Denot). inv.0 ++ part xs) (sym c.in_default.ensures.steps.0) ∙ inv.2 in
    λ _. subst (λ (xs : List g.row.T.Denot). InsertsClones g.T.PartialEq.eq g.T.Clone.is_clone c.args.self.now xs c.each.self) all inv.1
