-- What `retain` keeps of the keys, as the elements of a set.
use Rattle.std.proofs.Common.{Bool, false, true, List, [], ap, cond, refl, subst, suc, ◌∙◌, ◌∷◌, ◌≡◌}
use Rattle.std.specs.Borrow.{Bor, MutBor}
use Rattle.std.specs.List.{items_where_true}
use Rattle.std.specs.List.Retain.{IsFiltered}
use Rattle.std.specs.Map.{keys_of}
use Rattle.aa_ordered.specs.Retaining.{Retains}

module _ {T V : Type 0} where
  one-more : (b : Bool) (x : T) (y : V) (others : List (T × V)) (bs : List Bool) (xs : List T) → keys_of others ≡ items_where_true bs xs → keys_of (cond b ((x, y) ∷ others) others) ≡ items_where_true (b ∷ bs) (x ∷ xs)
  one-more true x y others bs xs h = ap (λ zs. x ∷ zs) h
  one-more false x y others bs xs h = h

  module _ {F G : Type 0} (step : G → Bor T → MutBor V → Bool → MutBor V → G → Type 0) (calls : F → T → Bool → F → Type 0) (of : G → F)
      (one : (f : G) (key : Bor T) (before : MutBor V) (keep : Bool) (after : MutBor V) (g : G) → step f key before keep after g → calls (of f) key.now keep (of g)) where
    -- the results of the calls for the entries are those for their keys
    pub sifted : (f : G) (es kept : List (T × V)) (g : G) → Retains step f es kept g → IsFiltered calls (of f) (keys_of es) (keys_of kept)
    sifted f [] kept g (none, same) = ([], of f, refl, refl, ap keys_of none)
    sifted f (e ∷ es) kept g (keep, y, next, call, others, is, rest) =
        let (bs, last, count, results, part) = sifted next es others g rest in
        let first = subst (λ x. calls (of f) x keep (of next)) call.keyed (one f call.key call.before keep call.after next call.call) in
        (keep ∷ bs, last, ap suc count, (of next, first, results), ap keys_of is ∙ one-more keep e.0 y others bs (keys_of es) part)
