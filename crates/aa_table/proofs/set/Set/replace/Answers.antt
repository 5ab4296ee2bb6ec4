use Rattle.std.proofs.Common.{ap, subst, sym, ◌∙◌, ◌∷◌}
use Rattle.std.specs.Prelude.{find, is_some, map, IsPermutation}
use Rattle.std.specs.Option.{option_map}
use Rattle.std.specs.Set.{swap_key}
use Rattle.std.proofs.lemmas.List.{length-map}
use Rattle.aa_table.specs.Contents.{capacity_for, reserved_capacity, reserved_resizes, resizes_for, value, TableView}
use Rattle.aa_table.specs.SetContents.{set_capacity_for, set_resizes_for, SetView}
use Rattle.aa_table.proofs.Elements.{found, permuted}
use Rattle.aa_table.proofs.Elementwise.{swapped-keys}
use Rattle.aa_table.proofs.Placed.{value-of}
use Rattle.aa_table.proofs.set.Set.replace.Goals as goal

pub returns-in-Ok-clause-replaced : goal.returns-in-Ok-clause-replaced
returns-in-Ok-clause-replaced g c = λ _.
    let test = g.T.PartialEq.eq c.args.value in
    let elements = ap (map (λ (e : _ × _). e.0)) c.in-Ok.ensures.replaced ∙ swapped-keys test c.self.inside.table.entries c.args.value
    ∙ ap (λ (s : SetView _ _). swap_key test s.elements c.args.value) c.self.view_is in
    let capacity = c.in-Ok.ensures.capacity ∙ ap (λ (s : SetView _ _). s.capacity) c.self.view_is in
    let builder = c.in-Ok.ensures.builder ∙ ap (λ (s : SetView _ _). s.builder) c.self.view_is in
    let resizes = c.in-Ok.ensures.resizes ∙ ap (λ (s : SetView _ _). s.resizes) c.self.view_is in
    λ i. record { elements = elements i; capacity = capacity i; resizes = resizes i; builder = builder i }

pub returns-in-Err-insert-clause-absent : goal.returns-in-Err-insert-clause-absent
returns-in-Err-insert-clause-absent g c =
    let eq = g.T.PartialEq.eq in
    sym (found (eq c.args.value) c.self.inside.table.entries ∙ ap (λ (s : SetView _ _). find (eq c.args.value) s.elements) c.self.view_is)
    ∙ ap (option_map (λ (e : _ × _). e.0)) c.in-Err.ensures.absent

pub returns-clause-old : goal.returns-clause-old
returns-clause-old g c =
    let eq = g.T.PartialEq.eq in
    sym (ap (option_map (λ (e : _ × _). e.0)) c.in-Err.ensures.absent)
    ∙ (found (eq c.args.value) c.self.inside.table.entries ∙ ap (λ (s : SetView _ _). find (eq c.args.value) s.elements) c.self.view_is)

pub returns-clause-added : goal.returns-clause-added
returns-clause-added g c = λ _.
    let eq = g.T.PartialEq.eq in let k = c.in-Err in let mid = c.replace_key.new.self in
    let none = value-of (eq c.args.value) c.self.inside.table.entries ∙ ap (option_map (λ (e : _ × _). e.1)) k.ensures.absent in
    let new = ap is_some (c.in_default.ensures.old ∙ (λ i. value eq (k.ensures.unchanged i).entries (k.ensures.returned i)) ∙ none) in
    let before = ap (λ (t : TableView _ _ _). map (λ (e : _ × _). e.0) t.entries) k.ensures.unchanged ∙ ap (λ (s : SetView _ _). s.elements) c.self.view_is in
    subst (λ xs. IsPermutation xs (map (λ (e : _ × _). e.0) c.insert.new.self.entries)) (λ i. k.ensures.returned i ∷ before i)
    (permuted ((k.value, tt) ∷ mid.entries) c.insert.new.self.entries (c.in_default.ensures.added new))

pub returns-clause-made : goal.returns-clause-made
returns-clause-made g c = λ _.
    let eq = g.T.PartialEq.eq in let k = c.in-Err in
    let none = value-of (eq c.args.value) c.self.inside.table.entries ∙ ap (option_map (λ (e : _ × _). e.1)) k.ensures.absent in
    let new = ap is_some (c.in_default.ensures.old ∙ (λ i. value eq (k.ensures.unchanged i).entries (k.ensures.returned i)) ∙ none) in
    c.in_default.ensures.made new ∙ ap (λ (t : TableView _ _ _). capacity_for t 1) k.ensures.unchanged
    ∙ ap (λ n. reserved_capacity c.self.inside.table.capacity n 1) (sym (length-map c.self.inside.table.entries (λ (e : _ × _). e.0)))
    ∙ ap (λ (s : SetView _ _). set_capacity_for s 1) c.self.view_is

pub returns-clause-resized : goal.returns-clause-resized
returns-clause-resized g c = λ _.
    let eq = g.T.PartialEq.eq in let k = c.in-Err in
    let none = value-of (eq c.args.value) c.self.inside.table.entries ∙ ap (option_map (λ (e : _ × _). e.1)) k.ensures.absent in
    let new = ap is_some (c.in_default.ensures.old ∙ (λ i. value eq (k.ensures.unchanged i).entries (k.ensures.returned i)) ∙ none) in
    c.in_default.ensures.resized new ∙ ap (λ (t : TableView _ _ _). resizes_for t 1) k.ensures.unchanged
    ∙ ap (λ n. reserved_resizes c.self.inside.table.resizes c.self.inside.table.capacity n 1) (sym (length-map c.self.inside.table.entries (λ (e : _ × _). e.0)))
    ∙ ap (λ (s : SetView _ _). set_resizes_for s 1) c.self.view_is
