use Rattle.std.proofs.Common.{ap, arith, sym, ◌∙◌}
use Rattle.std.specs.Prelude.{length}
use Rattle.std.specs.BTreeSet.{insert_key}
use Rattle.std.specs.Ordering.{eq_by_cmp}
use Rattle.std.specs.Set.{remove_key}
use Rattle.std.proofs.lemmas.Map.Made.{length-remove_key}
use Rattle.std_collections.proofs.SetKeys.{find_absent}
use Rattle.std_collections.proofs.SortedSets.{replace_absent}
use Rattle.aa_ordered_set.specs.Sets.{SetView}
use Rattle.aa_ordered_set.proofs.Keys.{swapped}
use Rattle.aa_ordered_set.proofs.set.OrderedSet.replace.Goals as goal

pub returns-then-not-contains-clause-old : goal.returns-then-not-contains-clause-old
returns-then-not-contains-clause-old g c =
    sym (find_absent (eq_by_cmp g.T.Ord.cmp c.args.value) c.args.self.now.elements (sym c.contains.ensures ∙ c.if-not-contains.true))

pub returns-then-not-contains-clause-replaced : goal.returns-then-not-contains-clause-replaced
returns-then-not-contains-clause-replaced g c =
    c.in_ok-insert.ensures.inserted ∙ replace_absent g.met.T.Ord.total c.args.value c.args.self.now.elements (sym c.contains.ensures ∙ c.if-not-contains.true)

pub insert_within-requires : goal.insert_within-requires
insert_within-requires g c =
    let test = eq_by_cmp g.T.Ord.cmp c.args.value in let xs = c.args.self.now.elements in
    let same = ap (λ (s : SetView _). s.elements) c.in_default.ensures.reserved in
    let less = length-remove_key test xs (sym c.contains.ensures ∙ c.if-not-contains.false) in
    let taken = ap (λ (s : SetView _). length s.elements) c.take-old.ensures.removed ∙ ap (λ ys. length (remove_key test ys)) same in
    let room = ap (λ (s : SetView _). s.capacity) c.take-old.ensures.removed in
    omega (arith, less, taken, room, c.in_default.ensures.room, ap length same)

pub returns-clause-replaced : goal.returns-clause-replaced
returns-clause-replaced g c =
    let cmp = g.T.Ord.cmp in let x = c.args.value in let xs = c.args.self.now.elements in
    let same = ap (λ (s : SetView _). s.elements) c.in_default.ensures.reserved in
    let taken = ap (λ (s : SetView _). s.elements) c.take-old.ensures.removed ∙ ap (remove_key (eq_by_cmp cmp x)) same in
    ap (λ (s : SetView _). s.elements) c.insert_within.ensures ∙ ap (λ ys. insert_key cmp ys x) taken
    ∙ swapped g.met.T.Ord.total x xs c.prove_order.ensures (sym c.contains.ensures ∙ c.if-not-contains.false)
