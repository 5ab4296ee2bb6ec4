-- What `{:?}` writes of a list, item by item.
use Rattle.std.proofs.Common.{◌≡◌, ℕ, List, [], ◌∷◌, Option, Some, None, Result, refl, sym, ap, subst, ◌∙◌}
use Rattle.std.specs.Prelude.{IsOk}
use Rattle.std.specs.Fmt.{IsPlainFormatter, WritesOnOk, DisplaysOnOk, ◌++?◌, comma_space, debug_items, debug_list}
use Rattle.std.specs.declared.fmt.Error.{Error}
use Rattle.std.specs.declared.fmt.Formatter.{Formatter}
use Rattle.std.proofs.Debugs.{Shows, shows_then, shows_from, displays_from}
use Rattle.std.proofs.Output.{then_text_assoc}

nothing_then : (o : Option (List ℕ)) → Some [] ++? o ≡ o
nothing_then None = refl
nothing_then (Some bs) = refl

module _ {W X : Type 0} (took : W → List ℕ → W → Type 0) (text : X → Option (List ℕ)) where
  -- what is written after an item, if `rest` are the later ones
  abbrev pub later : List X → Option (List ℕ)
  later rest = debug_items text comma_space rest ++? Some (93 ∷ [])

  -- with the later items written after `now`, all of `xs` are written after `start`
  abbrev pub Continues : (start : Formatter W) → (xs : List X) → (now : Formatter W)
      → (rest : List X) → Type 0
  Continues start xs now rest =
      IsPlainFormatter start → (end : Formatter W)
      → (IsPlainFormatter now → Shows took now (later rest) end)
      → Shows took start (debug_list text xs) end

  later-item : (x : X) (rest : List X) → later (x ∷ rest)
      ≡ Some comma_space ++? (text x ++? later rest)
  later-item x rest =
      let others : Option (List ℕ) = debug_items text comma_space rest in
      then_text_assoc (Some comma_space) (text x ++? others) (Some (93 ∷ []))
      ∙ ap (λ o. Some comma_space ++? o) (then_text_assoc (text x) others (Some (93 ∷ [])))

  first-item : (x : X) (rest : List X) → debug_list text (x ∷ rest)
      ≡ Some (91 ∷ []) ++? (text x ++? later rest)
  first-item x rest =
      let others : Option (List ℕ) = debug_items text comma_space rest in
      ap (λ o. Some (91 ∷ []) ++? o)
      (ap (λ o. o ++? Some (93 ∷ [])) (nothing_then (text x ++? others))
      ∙ then_text_assoc (text x) others (Some (93 ∷ [])))

  -- the bracket, if there is no item
  pub opened : (f g : Formatter W) (r : Result (Unit {0}) Error) → WritesOnOk took f r (91 ∷ []) g
      → IsOk r → Continues f [] g []
  opened f g r led ok plain end k = shows_then took f g end (Some (91 ∷ [])) (later [])
      (led plain ok) k

  module _ (f g h : Formatter W) (r q : Result (Unit {0}) Error) (x : X) (rest : List X) where
    -- an item after what leads to it, and then the later ones
    item_then : (lead : List ℕ) (end : Formatter W) → WritesOnOk took f r lead g → IsOk r
        → DisplaysOnOk took g q (text x) h → IsOk q → IsPlainFormatter f
        → (IsPlainFormatter h → Shows took h (later rest) end)
        → Shows took f (Some lead ++? (text x ++? later rest)) end
    item_then lead end led ok shown fine plain k =
        shows_then took f g end (Some lead) (text x ++? later rest) (led plain ok)
        (λ p. shows_then took g h end (text x) (later rest)
        (shows_from took g h q (text x) shown p fine) k)

    -- the bracket and the first item
    pub begun : WritesOnOk took f r (91 ∷ []) g → IsOk r → DisplaysOnOk took g q (text x) h → IsOk q
        → Continues f (x ∷ rest) h rest
    begun led ok shown fine plain end k =
        subst (λ o. Shows took f o end) (sym (first-item x rest))
        (item_then (91 ∷ []) end led ok shown fine plain k)

    -- one more
    pub continued : (start : Formatter W) (xs : List X) → Continues start xs f (x ∷ rest)
        → WritesOnOk took f r comma_space g → IsOk r
        → DisplaysOnOk took g q (text x) h → IsOk q → Continues start xs h rest
    continued start xs before led ok shown fine plain end k =
        before plain end
        (λ p. subst (λ o. Shows took f o end) (sym (later-item x rest))
        (item_then comma_space end led ok shown fine p k))

  -- the last bracket
  pub ended : (start f end : Formatter W) (r : Result (Unit {0}) Error) (xs : List X)
      → Continues start xs f [] → WritesOnOk took f r (93 ∷ []) end
      → DisplaysOnOk took start r (debug_list text xs) end
  ended start f end r xs before led =
      displays_from took start end r (debug_list text xs)
      (λ plain ok. before plain end (λ p. led p ok))
