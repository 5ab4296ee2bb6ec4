use Rattle.std.proofs.Common.{[], ap, append-nil, append_assoc, arith, length, subst, ◌<◌, sym, ◌++◌, ◌∙◌, ◌∷◌, List}
use Rattle.std.proofs.lemmas.List.Elements.{AllZip-push}
use Rattle.std.specs.BTreeMap.{insert_entry}
use Rattle.std.specs.List.{AllZip}
use Rattle.aa_ordered.specs.Capacity.{fresh_resizes, reserved_resizes}
use Rattle.aa_ordered.specs.Entries.{OrderedView}
use Rattle.aa_ordered.proofs.Extending.{fits-after, insert-ordered, insert_all-push}
use Rattle.aa_ordered.proofs.Resizing.{fresh-reserved, stays-as}
use Rattle.aa_ordered.proofs.clone.OrderedMapClone.clone.Goals as goal

pub each-init : goal.each-init
each-init g c = (
  [],
  [],
  c.iter-rest.ensures.all,
  tt,
  ap (λ (m : OrderedView g.row.K.Denot g.row.V.Denot). m.entries) c.in_default.ensures.reserved ∙ ap (λ (m : OrderedView g.row.K.Denot g.row.V.Denot). m.entries) c.new_in-copy.ensures,
  omega (arith, c.in_default.ensures.room, c.len.ensures.len, ap length c.iter-rest.ensures.all),
  ap (λ (m : OrderedView g.row.K.Denot g.row.V.Denot). m.resizes) c.in_default.ensures.reserved ∙ ap (λ (m : OrderedView g.row.K.Denot g.row.V.Denot). reserved_resizes m c.len.result) c.new_in-copy.ensures ∙ fresh-reserved g.row.K.Denot g.row.V.Denot c.len.result ∙ ap fresh_resizes c.len.ensures.len,
)

pub each-preserved : goal.each-preserved
each-preserved g c =
    let inv = c.each.invariant in let left = c.next.new.self in let cmp = g.K.Ord.cmp in
    let x : g.row.K.Denot × g.row.V.Denot = (c.in-Some.key.now, c.in-Some.item.now) in
    let y : g.row.K.Denot × g.row.V.Denot = (c.in_ok-clone.field-0, c.in_ok-clone-2.field-0) in
    let fewer : length left < length c.each.rest = omega (arith, ap length c.in-Some.ensures.steps) in let same = c.in-Ok.ensures.capacity (omega (arith, fewer, inv.5)) in
    let whole = ap (λ zs. inv.0 ++ zs) (sym c.in-Some.ensures.steps) ∙ inv.2 in (
      inv.0 ++ x ∷ [],
      inv.1 ++ y ∷ [],
      append_assoc inv.0 (x ∷ []) left ∙ whole,
      AllZip-push (λ (e f : g.row.K.Denot × g.row.V.Denot). g.K.Clone.is_clone e.0 f.0 × g.V.Clone.is_clone e.1 f.1) inv.0 inv.1 x y inv.3
          (c.in_ok-clone.ensures.cases, c.in_ok-clone-2.ensures.cases),
      c.in-Ok.ensures.inserted ∙ ap (λ (es : List (g.row.K.Denot × g.row.V.Denot)). insert_entry cmp es y.0 y.1) inv.4 ∙ sym (insert_all-push cmp [] inv.1 y),
      fits-after cmp y.0 y.1 c.each.copy c.insert.new.self (length c.each.rest) (length left) fewer inv.5 c.in-Ok.ensures.inserted same,
      stays-as c.each.copy c.insert.new.self same c.in-Ok.ensures.resizes ∙ inv.6,
    )

pub returns : goal.returns
returns g c =
    let inv = c.each.invariant in
    let all = sym (append-nil inv.0) ∙ ap (λ zs. inv.0 ++ zs) (sym c.in_default-next.ensures.steps.0) ∙ inv.2 in
    record {
      cases = record {
        clones = inv.1;
        each = subst (λ es. AllZip (λ (e f : g.row.K.Denot × g.row.V.Denot). g.K.Clone.is_clone e.0 f.0 × g.V.Clone.is_clone e.1 f.1) es inv.1) all inv.3;
        entries = inv.4;
        same = λ s. inv.4 ∙ insert-ordered g.met.K.Ord.total [] inv.1 s;
        resizes = inv.6;
      };
    }
