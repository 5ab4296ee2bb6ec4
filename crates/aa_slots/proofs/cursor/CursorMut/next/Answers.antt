use Rattle.aa_slots.proofs.Common.{Key, ap, find, inl, sym, ◌+◌, ◌∙◌}
use Rattle.aa_slots.proofs.Passing.{after-lent, before-lent, finds-first, is-first, is-found, whole-lent}
use Rattle.aa_slots.specs.Slotted.{with_value}
use Rattle.aa_slots.proofs.cursor.CursorMut.next.Goals as goal

pub index_mut-requires : goal.index_mut-requires
index_mut-requires g c =
    rw c.from.ensures (is-found c.args.self.now.map.now.slots c.args.self.now.at c.in-Some.key c.in-Some.ensures.first)

pub returns-in-Some : goal.returns-in-Some
returns-in-Some g c =
    let cursor = c.args.self.now in let slots = cursor.map.now.slots in let key = c.in-Some.key in
    let found = c.in-Some.ensures.first in
    let same = sym (is-first slots cursor.at key found) in
    let from = ap (λ (k : Key _). k.parts) c.from.ensures in (
      λ i. inl (
        c.index_mut.result.ghost_name,
        λ w. record {
          map =
              record cursor.map { now = with_value cursor.map.now ((from ∙ same) i) w };
          at =
              (same i).index + 1;
        },
      ),
      record {
        writes_back = tt;
        value = sym c.index_mut.ensures.value ∙ ap (λ k. find cursor.map.now k) from ∙ finds-first slots cursor.at key found;
        before = before-lent slots cursor.at key found;
        remaining = after-lent slots cursor.at key found;
        entries = whole-lent slots cursor.at key found;
      },
    )
