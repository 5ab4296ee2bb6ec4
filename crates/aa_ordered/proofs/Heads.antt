-- A head that moves among others.
use Rattle.std.proofs.Common.{◌≡◌, ◌+◌, ◌-◌, ◌≤◌, ◌<◌, ℕ, List, inl, inr, arith, length, get_or, set, insert, remove, length-set, ap, sym, ◌∙◌}
use Rattle.core.specs.List.{CopiedTo, SameBelow, SameFrom}
use Rattle.std.proofs.lemmas.Bool.{cases_lt}
use Rattle.std.proofs.lemmas.List.{get_or-set_other, get_or-set_same, same_lists}
use Rattle.std.proofs.lemmas.List.Edits.{get_or-insert_above, get_or-insert_at, get_or-insert_below, get_or-remove_above, get_or-remove_below, length-insert, length-remove}

module _ {X : Type 0} (xs ys : List X) (from to : ℕ) (x : X) (len : length ys ≡ length xs) where
  abbrev put : List X
  put = set ys to x

  abbrev moved : List X
  moved = insert (remove xs from) to x

  module _ (le : to ≤ from) (lt : from < length xs) where
    long-down : length put ≡ length moved
    long-down = omega (arith, len, length-set ys to x, length-remove xs from lt, length-insert (remove xs from) to x (omega (arith, length-remove xs from lt)))

    fits-down : to ≤ length (remove xs from)
    fits-down = omega (arith, length-remove xs from lt)

    pub moved-down : CopiedTo xs ys to (to + 1) (from - to) → SameBelow xs ys (to + 1) → SameFrom xs ys (to + 1 + (from - to)) → put ≡ moved
    moved-down copied below above = same_lists put moved long-down (λ j d l. elim (cases_lt j to) [
      | inl b ↦ get_or-set_other ys to j x d (omega (arith, b)) ∙ below j d (omega (arith, b)) ∙ sym (get_or-remove_below xs from d j (omega (arith, b, le)) lt) ∙ sym (get_or-insert_below (remove xs from) to x d j b fits-down)
      | inr b ↦ elim (cases_lt to j) [
        | inl f ↦
            let back : j - 1 + 1 ≡ j = omega (arith, f) in let after = get_or-insert_above (remove xs from) to x d (j - 1) (omega (arith, f)) fits-down in
            get_or-set_other ys to j x d (omega (arith, f)) ∙ elim (cases_lt from j) [
              | inl g ↦ above j d (omega (arith, g, le)) ∙ ap (λ k. get_or xs k d) (sym back) ∙ sym (get_or-remove_above xs from d (j - 1) (omega (arith, g)) lt)
              | inr g ↦
                  let at : to + (j - (to + 1)) ≡ j - 1 = omega (arith, f) in
                  copied j d (omega (arith, f)) (omega (arith, g, le)) ∙ ap (λ k. get_or xs k d) at ∙ sym (get_or-remove_below xs from d (j - 1) (omega (arith, f, g)) lt)
            ] ∙ sym after ∙ ap (λ k. get_or moved k d) back
        | inr f ↦
            let same : to ≡ j = omega (arith, b, f) in
            ap (λ k. get_or put k d) (sym same) ∙ get_or-set_same ys to x d (omega (arith, le, lt, len)) ∙ sym (get_or-insert_at (remove xs from) to x d fits-down) ∙ ap (λ k. get_or moved k d) same
      ]
    ])

  module _ (le : from ≤ to) (lt : to < length xs) where
    long-up : length put ≡ length moved
    long-up = omega (arith, len, length-set ys to x, length-remove xs from (omega (arith, le, lt)), length-insert (remove xs from) to x (omega (arith, lt, length-remove xs from (omega (arith, le, lt)))))

    fits-up : to ≤ length (remove xs from)
    fits-up = omega (arith, lt, length-remove xs from (omega (arith, le, lt)))

    pub moved-up : CopiedTo xs ys (from + 1) from (to + 1 - (from + 1)) → SameBelow xs ys from → SameFrom xs ys (from + (to + 1 - (from + 1))) → put ≡ moved
    moved-up copied below above = same_lists put moved long-up (λ j d l. let in_range : from < length xs = omega (arith, le, lt) in elim (cases_lt j to) [
      | inl b ↦ get_or-set_other ys to j x d (omega (arith, b)) ∙ elim (cases_lt j from) [
        | inl f ↦ below j d f ∙ sym (get_or-remove_below xs from d j f in_range)
        | inr f ↦
            let at : from + 1 + (j - from) ≡ j + 1 = omega (arith, f) in
            copied j d f (omega (arith, b, f)) ∙ ap (λ k. get_or xs k d) at ∙ sym (get_or-remove_above xs from d j f in_range)
      ] ∙ sym (get_or-insert_below (remove xs from) to x d j b fits-up)
      | inr b ↦ elim (cases_lt to j) [
        | inl f ↦
            let back : j - 1 + 1 ≡ j = omega (arith, f) in let after = get_or-insert_above (remove xs from) to x d (j - 1) (omega (arith, f)) fits-up in
            get_or-set_other ys to j x d (omega (arith, f)) ∙ above j d (omega (arith, f, le)) ∙ ap (λ k. get_or xs k d) (sym back)
            ∙ sym (get_or-remove_above xs from d (j - 1) (omega (arith, f, le)) in_range) ∙ sym after ∙ ap (λ k. get_or moved k d) back
        | inr f ↦
            let same : to ≡ j = omega (arith, b, f) in
            ap (λ k. get_or put k d) (sym same) ∙ get_or-set_same ys to x d (omega (arith, lt, len)) ∙ sym (get_or-insert_at (remove xs from) to x d fits-up) ∙ ap (λ k. get_or moved k d) same
      ]
    ])
