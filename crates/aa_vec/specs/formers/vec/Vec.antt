-- A `Vec` inside a recursive type: it has its items, and the elements in the places after them.
use Rattle.std.specs.Prelude.{◌≡◌, ◌≤◌, ℕ, ◌+◌, zero, suc, true, List, [], ◌∷◌, ◌++◌, map, take, drop, Option, Some, None, cond, is_some}
use Rattle.std.specs.List.{count_by, list_all}
use Rattle.std.specs.Option.{option_map}
use Rattle.std.specs.List.{drop-map}
use Rattle.std.proofs.Common.{true≢false}
use Rattle.std.proofs.lemmas.List.Sums.{sum_by-cons}
use mathlib.Core.Path.{refl, sym, ap, subst, ◌∙◌}
use mathlib.Core.Former.{Former, one_more, this, const, pair, list, via, children}
use native.Mathlib.Bridge.{le_prop}
use lib.ListN.{length-map}
use base.Stored.{code_map}
use denote.RattleType.{RattleType}
use denote.HoleLaws.{Alike}
use denote.HolePlaces.{Recodes, struct_places, laid}
use denote.Hole.Carrier.{listed}
use denote.Hole.Fix.{over}
use denote.Param.Weighed.{Weighed, w_const, w_pair, w_list}
use denote.Model.Placed as placed
use Rattle.std.specs.declared.alloc.Allocator.{Ghosts}
use Rattle.std.specs.declared.cmp.Ord as ord
use Rattle.std.specs.declared.cmp.PartialEq as eq
use Rattle.std.specs.declared.cmp.PartialOrd as partial
use Rattle.std.specs.declared.hash.Hash as hash
use Rattle.std.specs.Cmp.Lexicographic.{pointwise, slice_cmp, slice_partial_cmp}
use Rattle.std.specs.Cmp.Derive.Mapped.{pointwise-map, lex_map, slice_partial_cmp-map, items_map}
use Rattle.std.specs.Hash.{slice}
use Rattle.aa_raw.specs.Held.{slots, w_slots, slots_recoded, pair_recoded}
use Rattle.aa_raw.specs.Mapped.{run_over, IsRun-over, IsRun-under, IsRun-once}
use Rattle.aa_raw.specs.Places.{run, somes, IsRun}
use Rattle.aa_raw.specs.declared.raw_vec.Growth.{Growth}
use Rattle.aa_raw.specs.declared.raw_vec.Growth.TheVariants.{Doubling}
use Rattle.aa_raw.specs.formers.raw_vec.RawVec as raw
use Rattle.aa_vec.specs.Vector.{Vector, Growths, of_new}
use Rattle.aa_vec.specs.Tail.{count_from}
use Rattle.aa_vec.specs.VecInner.{IsWhole}
use Rattle.aa_raw.specs.declared.counter.Counter.{Counter}
use Rattle.aa_vec.specs.declared.vec.Vec.TheInside.{Inside}
use Rattle.aa_vec.specs.declared.vec.Vec.TheView.{view, invariant}
use Rattle.aa_vec.specs.contracts.vec.Vec as C
use Rattle.aa_vec.specs.contracts.vec.Vec.TheInside as I

abbrev Rest : Type 0 → Type 0
Rest Z = ℕ × (Growth × (Growths × (ℕ × (ℕ × Z))))

abbrev pub the_former : Former {0} → Type 0 → Former {0}
the_former g Z = via (pair (list g) (pair (slots g) (const (Rest Z)))) (λ X. Vector (g.Of X) Z)
    (λ X v. (v.items, (v.spare, (v.capacity, (v.growth, (v.grown, (v.written, (v.runs, v.alloc))))))))
    (λ X u. record { items = u.0; capacity = u.1.1.0; growth = u.1.1.1.0; grown = u.1.1.1.1.0; written = u.1.1.1.1.1.0; runs = u.1.1.1.1.1.1.0; alloc = u.1.1.1.1.1.1.1; spare = u.1.0 }) (λ X v. refl) (λ X u. refl)

abbrev pub the_weighed : {g : Former {0}} → Weighed g → (Z : Type 0) → Weighed (the_former g Z)
the_weighed w Z =
    let v = w_pair (w_list w) (w_pair (w_slots w) (w_const (Rest Z))) in
    record {
      weight = λ X μ d. v.weight X μ (d.items, (d.spare, (d.capacity, (d.growth, (d.grown, (d.written, (d.runs, d.alloc)))))));
      puts = λ X μ d. v.puts X μ (d.items, (d.spare, (d.capacity, (d.growth, (d.grown, (d.written, (d.runs, d.alloc)))))));
    }

pub the_empty : (Z : Type 0) → Z → Vector ⊥ Z
the_empty Z z = record { items = []; capacity = 0; growth = Doubling; grown = of_new 0 0; written = 0; runs = 0; alloc = z; spare = [] }

abbrev pub the_items : (Z X : Type 0) → Vector X Z → List X
the_items Z X d = d.items ++ somes d.spare

module _ (X : Type 0) where
  slots_listed : (cs : List (Option X)) → listed _ (children (slots this) X cs) ≡ somes cs
  slots_listed [] = refl
  slots_listed (None ∷ cs) = slots_listed cs
  slots_listed (Some x ∷ cs) = ap (λ l. x ∷ l) (slots_listed cs)

  both_listed : (xs : List X) (cs : List (Option X)) → listed _ (children (pair (list this) (slots this)) X (xs, cs)) ≡ xs ++ somes cs
  both_listed [] cs = slots_listed cs
  both_listed (x ∷ xs) cs = ap (λ l. x ∷ l) (both_listed xs cs)

pub the_items_listed : (Z X : Type 0) (d : Vector X Z) → listed _ (children (the_former this Z) X d) ≡ the_items Z X d
the_items_listed Z X d = both_listed X d.items d.spare

module _ {X : Type 0} where
  abbrev both_held : List X → List (Option X) → placed.Held X
  both_held xs cs = placed.held (pair (list this) (slots this)) X (xs, cs)

  parts_held : (n : ℕ) (cs : List (Option X)) → list_all is_some (take n cs) ≡ true → both_held (somes (take n cs)) (drop n cs) ≡ placed.held (slots this) X cs
  parts_held zero cs e = refl
  parts_held (suc n) [] e = refl
  parts_held (suc n) (None ∷ cs) e = absurd (true≢false (sym e))
  parts_held (suc n) (Some x ∷ cs) e = ap {B = placed.Held X} (λ (u : placed.Held X). (one_more u.0, (x, u.1))) (parts_held n cs e)

  front_held : (n : ℕ) (cs : List (Option X)) → IsRun cs 0 n → both_held (run cs 0 n) (drop n cs) ≡ placed.held (slots this) X cs
  unfolding run
  front_held n cs r = parts_held n cs r.1

abbrev fields : Type 0 → Former {0}
fields Z = via (pair (raw.the_former this Z) (const (ℕ × (Counter × Counter)))) (λ X. Inside X Z) (λ X a. (a.block, (a.len, (a.apart, a.settled)))) (λ X v. record { block = v.0; len = v.1.0; apart = v.1.1.0; settled = v.1.1.1 }) (λ X a. refl) (λ X v. refl)

abbrev one : {X : Type 0} → Option X → ℕ
one c = cond (is_some c) 1 0

module _ {X Y : Type 0} (k : X → Y) where
  filled_over : (cs : List (Option X)) → count_by is_some (map (option_map k) cs) ≡ count_by is_some cs
  filled_over [] = refl
  filled_over (None ∷ cs) = filled_over cs
  filled_over (Some x ∷ cs) = sum_by-cons one (Some (k x)) (map (option_map k) cs) ∙ ap (λ n. 1 + n) (filled_over cs) ∙ sym (sum_by-cons one (Some x) cs)

  count_over : (cs : List (Option X)) (n : ℕ) → count_from (map (option_map k) cs) n ≡ count_from cs n
  unfolding count_from
  count_over cs n = ap (count_by is_some) (drop-map (option_map k) n cs) ∙ filled_over (drop n cs)

  module _ {Z : Type 0} (v : Inside X Z) where
    abbrev cs : List (Option X)
    cs = v.block.places

    whole_over : IsWhole v → IsWhole ((fields Z).map X Y k v)
    whole_over w = record { filled = IsRun-over k 0 v.len cs w.filled; few = subst (λ n. n + v.settled.count ≤ v.apart.count) (sym (count_over cs v.len)) w.few }

    whole_under : IsWhole ((fields Z).map X Y k v) → IsWhole v
    whole_under w = record { filled = IsRun-under k 0 v.len cs w.filled; few = subst (λ n. n + v.settled.count ≤ v.apart.count) (count_over cs v.len) w.few }

whole_once : {X Z : Type 0} (v : Inside X Z) → IsProp (IsWhole v)
whole_once v p q = λ i. record { filled = IsRun-once 0 v.len v.block.places p.filled q.filled i; few = le_prop p.few q.few i }

module _ (Z : RattleType) (G : Ghosts Z.Denot) (R S : RattleType) (h : R.Denot → S.Denot) where
  pub the_places : Alike R S h → Alike (C.the_row R Z G) (C.the_row S Z G) ((the_former this Z.Denot).map R.Denot S.Denot h)
  the_places a = placed.view_places_where (fields Z.Denot) (the_former this Z.Denot) (λ X. view X Z.Denot G)
      (λ X Y k u i. record {
        items = run_over k 0 u.len u.block.places i;
        capacity = length-map u.block.places (option_map k) i;
        growth = u.block.growth;
        grown = u.block.grown;
        written = u.block.written;
        runs = u.block.runs;
        alloc = u.block.alloc;
        spare = drop-map (option_map k) u.len u.block.places i;
      })
      (λ X u. IsRun u.block.places 0 u.len) (λ X Y k u. IsRun-under k 0 u.len u.block.places) (λ X u. front_held u.len u.block.places)
      R.Denot S.Denot h (C.the_row R Z G).coded (C.the_row S Z G).coded
      (invariant R.Denot Z.Denot G) (invariant S.Denot Z.Denot G) whole_once whole_once (whole_over h) (whole_under h) (λ u w. w.filled)
      (over (I.the_row R Z G)) (over (I.the_row S Z G))
      (struct_places (I.the_type R Z G) (I.the_type S Z G) ((raw.the_former this Z.Denot).map R.Denot S.Denot h, (λ n. n, (λ n. n, (λ n. n, tt)))) _ (λ d. refl) refl
      (laid _ _ _ (raw.the_places Z G R S h a), ((refl, (λ n. refl, λ n. refl)), ((refl, (λ n. refl, λ n. refl)), ((refl, (λ n. refl, λ n. refl)), tt)))))

  pub the_codes_placed : Recodes R S h → Recodes (C.the_row R Z G) (C.the_row S Z G) ((the_former this Z.Denot).map R.Denot S.Denot h)
  the_codes_placed e d = pair_recoded (sym (code_map R.coded.code S.coded.code h (λ x. sym (e x)) d.items))
      (pair_recoded refl (pair_recoded refl (pair_recoded refl (pair_recoded refl (pair_recoded refl (pair_recoded refl (slots_recoded _ _ h refl (λ x. pair_recoded refl (sym (e x))) d.spare)))))))

module _ (Z X Y : Type 0) (h : X → Y) where
  pub the_eq_natural : (V : eq.Ghosts Y) (B : Ghosts Z) (a b : Vector X Z) → pointwise V.eq (map h a.items) (map h b.items) ≡ pointwise (λ x y. V.eq (h x) (h y)) a.items b.items
  the_eq_natural V B a b = pointwise-map h V.eq a.items b.items

  pub the_partial_cmp_natural : (V : partial.Ghosts Y) (V' : eq.Ghosts Y) (B : Ghosts Z) (a b : Vector X Z)
      → slice_partial_cmp V.partial_cmp (map h a.items) (map h b.items) ≡ slice_partial_cmp (λ x y. V.partial_cmp (h x) (h y)) a.items b.items
  the_partial_cmp_natural V V' B a b = slice_partial_cmp-map h V.partial_cmp a.items b.items

  pub the_cmp_natural : (V : ord.Ghosts Y) (V' : eq.Ghosts Y) (V'' : partial.Ghosts Y) (B : Ghosts Z) (a b : Vector X Z)
      → slice_cmp V.cmp (map h a.items) (map h b.items) ≡ slice_cmp (λ x y. V.cmp (h x) (h y)) a.items b.items
  the_cmp_natural V V' V'' B a b = lex_map h V.cmp a.items b.items

  pub the_hash_input_natural : (V : hash.Ghosts Y) (V' : eq.Ghosts Y) (B : Ghosts Z) (a : Vector X Z) → slice V.hash_input (map h a.items) ≡ slice (λ x. V.hash_input (h x)) a.items
  the_hash_input_natural V V' B a = items_map h V.hash_input a.items
