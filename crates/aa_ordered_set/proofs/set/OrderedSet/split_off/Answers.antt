use Rattle.std.proofs.Common.{ap, false, length, subst, sym, ◌*◌, ◌∙◌}
use Rattle.allocator_api2.specs.Errors.{IsErrorFor}
use Rattle.aa_ordered.specs.Capacity.{capacity_of, fresh_resizes, leaves_for}
use Rattle.aa_ordered.specs.Entries.{OrderedView}
use Rattle.aa_ordered.specs.Ranges.{entries_after}
use Rattle.aa_ordered_set.specs.Sets.{less, not_less, set_of, SetView}
use Rattle.aa_ordered_set.proofs.Keys.{after, before, count, none}
use Rattle.aa_ordered_set.proofs.set.OrderedSet.split_off.Goals as goal

pub returns-in-Err-clause-none : goal.returns-in-Err-clause-none
returns-in-Err-clause-none g c = λ empty.
    let cmp = g.T.Ord.cmp in let x = c.args.value.now in let es = c.self.inside.map.entries in
    c.in-Err.ensures.none (none (entries_after cmp x false es) (after cmp x es ∙ ap (λ (s : SetView _). not_less cmp s.elements x) c.self.view_is ∙ empty))

pub returns-in-Err-clause-error : goal.returns-in-Err-clause-error
returns-in-Err-clause-error g c =
    let cmp = g.T.Ord.cmp in let x = c.args.value.now in let es = c.self.inside.map.entries in
    let rest = after cmp x es ∙ ap (λ (s : SetView _). not_less cmp s.elements x) c.self.view_is in
    subst (λ n. IsErrorFor c.in-Err.error (leaves_for n * 64)) (sym (count (entries_after cmp x false es)) ∙ ap length rest) c.in-Err.ensures.error

pub returns-clause-kept : goal.returns-clause-kept
returns-clause-kept g c =
    let cmp = g.T.Ord.cmp in let x = c.args.value.now in let kept = c.in-Ok.ensures.kept in
    let elements = ap (λ (m : OrderedView _ _). (set_of m).elements) kept ∙ before cmp x c.self.inside.map.entries
    ∙ ap (λ (s : SetView _). less cmp s.elements x) c.self.view_is in
    let capacity = ap (λ (m : OrderedView _ _). m.capacity) kept ∙ ap (λ (s : SetView _). s.capacity) c.self.view_is in
    let resizes = ap (λ (m : OrderedView _ _). m.resizes) kept ∙ ap (λ (s : SetView _). s.resizes) c.self.view_is in
    λ i. record { elements = elements i; capacity = capacity i; resizes = resizes i }

pub returns-clause-split : goal.returns-clause-split
returns-clause-split g c =
    let cmp = g.T.Ord.cmp in let x = c.args.value.now in let es = c.self.inside.map.entries in let split = c.in-Ok.ensures.split in
    let rest = after cmp x es ∙ ap (λ (s : SetView _). not_less cmp s.elements x) c.self.view_is in
    let long = sym (count (entries_after cmp x false es)) ∙ ap length rest in
    let elements = ap (λ (m : OrderedView _ _). (set_of m).elements) split ∙ rest in
    let capacity = ap (λ (m : OrderedView _ _). m.capacity) split ∙ ap (λ n. capacity_of (leaves_for n)) long in
    let resizes = ap (λ (m : OrderedView _ _). m.resizes) split ∙ ap fresh_resizes long in
    λ i. record { elements = elements i; capacity = capacity i; resizes = resizes i }
