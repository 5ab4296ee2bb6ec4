use Rattle.std.proofs.Common.{[], ap, append-nil, append_assoc, arith, length, refl, subst, sym, ◌++◌, ◌<◌, ◌∙◌, ◌∷◌}
use Rattle.std.specs.Prelude.{is_some}
use Rattle.std.proofs.lemmas.List.Elements.{AllZip-push}
use Rattle.std.specs.List.{AllZip}
use Rattle.aa_table.specs.Contents.{TableView, capacity_for, fresh_capacity, fresh_resizes, resizes_for, value}
use Rattle.aa_table.proofs.Extending.{reserved, resized, room-after, set-more, steady-after}
use Rattle.aa_table.proofs.Maps.{none_permuted}
use Rattle.aa_table.proofs.clone.TableClone.clone.Goals as goal

pub each-init : goal.each-init
each-init g c =
    let none = none_permuted c.with_hasher_in-copy.result.entries c.reserve.new.self.entries c.reserve.ensures.same (ap (λ t. t.entries) c.with_hasher_in-copy.ensures) in
    ([], [], c.iter-rest.ensures, tt, λ q. ap (λ es. value g.K.PartialEq.eq es q) none, refl, omega (arith, c.in_default.ensures.enough, c.len.ensures.count, ap length c.iter-rest.ensures), refl, refl)

pub each-preserved : goal.each-preserved
each-preserved g c =
    let inv = c.each.invariant in
    let x : g.row.K.Denot × g.row.V.Denot = (c.in-Some.key.now, c.in-Some.item.now) in
    let y : g.row.K.Denot × g.row.V.Denot = (c.in_ok-clone-2.field-0, c.in_ok-clone-3.field-0) in
    let e = c.in-Ok.ensures in let old = is_some c.in-Ok.old in let left = length c.each.rest in let later = length c.next.new.self in
    let fewer : later < left = omega (arith, ap length c.in-Some.ensures.steps) in
    let one = steady-after c.each.copy c.insert.new.self left later old fewer inv.6 e.made e.replaced e.resized e.steady in (
      inv.0 ++ x ∷ [],
      inv.1 ++ y ∷ [],
      append_assoc inv.0 (x ∷ []) c.next.new.self ∙ ap (λ zs. inv.0 ++ zs) (sym c.in-Some.ensures.steps) ∙ inv.2,
      AllZip-push (λ (e : _ × _) (f : _ × _). g.K.Clone.is_clone e.0 f.0 × g.V.Clone.is_clone e.1 f.1) inv.0 inv.1 x y inv.3 (c.in_ok-clone-2.ensures.cases, c.in_ok-clone-3.ensures.cases),
      set-more g.K.PartialEq.eq [] inv.1 c.each.copy.entries c.insert.new.self.entries y.0 y.1 inv.4 c.in-Ok.ensures.inserted,
      c.in-Ok.ensures.builder ∙ inv.5,
      room-after c.each.copy c.insert.new.self left later old fewer inv.6 e.one_more e.replaced_count e.made e.replaced,
      one.0 ∙ inv.7,
      one.1 ∙ inv.8,
    )

pub returns : goal.returns
returns g c =
    let inv = c.each.invariant in
    let all = sym (append-nil inv.0) ∙ ap (λ zs. inv.0 ++ zs) (sym c.in_default-next.ensures.steps.0) ∙ inv.2 in
    let builder = inv.5 ∙ c.reserve.ensures.builder ∙ ap (λ t. t.builder) c.with_hasher_in-copy.ensures in
    let like = subst (λ s. g.S.Clone.is_clone s c.in_ok-clone.field-0) c.hasher.ensures c.in_ok-clone.ensures.cases in
    record {
      cases = record {
        clones = inv.1;
        each = subst (λ es. AllZip (λ (e : _ × _) (f : _ × _). g.K.Clone.is_clone e.0 f.0 × g.V.Clone.is_clone e.1 f.1) es inv.1) all inv.3;
        entries = inv.4;
        capacity = inv.7 ∙ c.in_default.ensures.made ∙ ap (λ (t : TableView _ _ _). capacity_for t c.len.result) c.with_hasher_in-copy.ensures ∙ reserved c.len.result ∙ ap fresh_capacity c.len.ensures.count;
        resizes = inv.8 ∙ c.in_default.ensures.resizes ∙ ap (λ (t : TableView _ _ _). resizes_for t c.len.result) c.with_hasher_in-copy.ensures ∙ resized c.len.result ∙ ap fresh_resizes c.len.ensures.count;
        builder = subst (g.S.Clone.is_clone c.args.self.now.builder) (sym builder) like;
      };
    }
