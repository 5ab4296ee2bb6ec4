-- What `retain` keeps of the keys, as the elements of a set.
use Rattle.std.proofs.Common.{Bool, false, true, List, [], ap, cond, refl, suc, ◌∙◌, ◌∷◌, ◌≡◌}
use Rattle.std.specs.Prelude.{map}
use Rattle.std.specs.List.{items_where_true}
use Rattle.std.specs.List.Retain.{IsFiltered}
use Rattle.aa_table.specs.Retaining.{Retains}

module _ {T V F : Type 0} (calls : F → T → Bool → F → Type 0) where
  one-more : (b : Bool) (x : T) (y : V) (others : List (T × V)) (bs : List Bool) (xs : List T) → map (λ e. e.0) others ≡ items_where_true bs xs → map (λ e. e.0) (cond b ((x, y) ∷ others) others) ≡ items_where_true (b ∷ bs) (x ∷ xs)
  one-more true x y others bs xs h = ap (λ zs. x ∷ zs) h
  one-more false x y others bs xs h = h

  -- the results of the calls for the entries are those for their keys
  pub sifted : (f : F) (es kept : List (T × V)) (g : F) → Retains (λ f e keep y g. calls f e.0 keep g) f es kept g → IsFiltered calls f (map (λ e. e.0) es) (map (λ e. e.0) kept)
  sifted f [] kept g (none, same) = ([], f, refl, refl, ap (map (λ e. e.0)) none)
  sifted f (e ∷ es) kept g (keep, y, next, call, others, is, rest) =
      let (bs, last, count, results, part) = sifted next es others g rest in
      (keep ∷ bs, last, ap suc count, (next, call, results), ap (map (λ e. e.0)) is ∙ one-more keep e.0 y others bs (map (λ e. e.0) es) part)
