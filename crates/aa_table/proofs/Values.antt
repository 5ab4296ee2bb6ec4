-- Entries with other values: what of a table does not depend on them.
use Rattle.std.proofs.Common.{Bool, List, None, Option, Some, [], ap, cond, get_or, length, map, refl, subst, suc, sym, zero, ℕ, ◌+◌, ◌∙◌, ◌∷◌, ◌≡◌, ◌≤◌}
use Rattle.std.specs.List.{fold}
use Rattle.std.specs.Option.{option_map}
use Rattle.aa_raw.proofs.Entries.{length-with_values}
use Rattle.aa_raw.specs.Entries.{with_values}
use Rattle.allocator_api2.specs.Block.{Block, with_places}
use Rattle.allocator_api2.specs.Places.{somes}
use Rattle.aa_table.specs.Contents.{keys_like}
use Rattle.aa_table.specs.IterMutLends.{with_values_of}
use Rattle.aa_table.specs.Places.{IsIndexed, IsTable, hashes_of, tags_of}
use Rattle.aa_table.specs.Slots.{IsIndex, IsMemory}
use Rattle.aa_table.specs.declared.index.HashIndex.{HashIndex}

module _ {K V : Type 0} where
  pub same : (es : List (K × V)) → with_values_of es es ≡ es
  same [] = refl
  same (e ∷ es) = ap (λ fs. e ∷ fs) (same es)

  pub keys-kept : (es fs : List (K × V)) → map (λ e. e.0) (with_values_of es fs) ≡ map (λ e. e.0) es
  keys-kept [] fs = refl
  keys-kept (e ∷ es) [] = refl
  keys-kept (e ∷ es) (f ∷ fs) = ap (λ ks. e.0 ∷ ks) (keys-kept es fs)

  pub length-kept : (es fs : List (K × V)) → length (with_values_of es fs) ≡ length es
  length-kept [] fs = refl
  length-kept (e ∷ es) [] = refl
  length-kept (e ∷ es) (f ∷ fs) = ap suc (length-kept es fs)

  pub read : (cs : List (Option (K × V))) (ws : List V) → with_values_of (somes cs) (somes (with_values cs ws)) ≡ somes (with_values cs ws)
  read [] ws = refl
  read (None ∷ cs) ws = read cs ws
  read (Some e ∷ cs) [] = ap (λ fs. e ∷ fs) (read cs [])
  read (Some e ∷ cs) (w ∷ ws) = ap (λ fs. (e.0, w) ∷ fs) (read cs ws)

  pub as_many : (cs : List (Option (K × V))) (ws : List V) → length (somes (with_values cs ws)) ≡ length (somes cs)
  as_many [] ws = refl
  as_many (None ∷ cs) ws = as_many cs ws
  as_many (Some e ∷ cs) [] = ap suc (as_many cs [])
  as_many (Some e ∷ cs) (w ∷ ws) = ap suc (as_many cs ws)

  empty : (cs : List (Option (K × V))) (ws : List V) (s : ℕ) → get_or cs s None ≡ None → get_or (with_values cs ws) s None ≡ None
  empty [] ws s is = is
  empty (None ∷ cs) ws zero is = refl
  empty (None ∷ cs) ws (suc s) is = empty cs ws s is
  empty (Some e ∷ cs) [] zero is = is
  empty (Some e ∷ cs) [] (suc s) is = empty cs [] s is
  empty (Some e ∷ cs) (w ∷ ws) zero is = ap (option_map (λ (f : K × V). (f.0, w))) is
  empty (Some e ∷ cs) (w ∷ ws) (suc s) is = empty cs ws s is

  pub hashed : (h : K → ℕ) (cs : List (Option (K × V))) (ws : List V) → hashes_of h (with_values cs ws) ≡ hashes_of h cs
  hashed h [] ws = refl
  hashed h (None ∷ cs) ws = ap (λ hs. None ∷ hs) (hashed h cs ws)
  hashed h (Some e ∷ cs) [] = ap (λ hs. Some (h e.0) ∷ hs) (hashed h cs [])
  hashed h (Some e ∷ cs) (w ∷ ws) = ap (λ hs. Some (h e.0) ∷ hs) (hashed h cs ws)

  module _ (eq : K → K → Bool) where
    counted : (p : K → ℕ) (cs : List (Option (K × V))) (ws : List V) (n : ℕ) → fold (λ a (e : K × V). a + p e.0) n (somes (with_values cs ws)) ≡ fold (λ a (e : K × V). a + p e.0) n (somes cs)
    counted p [] ws n = refl
    counted p (None ∷ cs) ws n = counted p cs ws n
    counted p (Some e ∷ cs) [] n = counted p cs [] (n + p e.0)
    counted p (Some e ∷ cs) (w ∷ ws) n = counted p cs ws (n + p e.0)

    pub alike : (k : K) (cs : List (Option (K × V))) (ws : List V) → keys_like eq k (somes (with_values cs ws)) ≡ keys_like eq k (somes cs)
    alike k cs ws = counted (λ q. cond (eq k q) 1 0) cs ws 0

    module _ (h : K → ℕ) {A : Type 0} where
      indexed : (i : Option (HashIndex A)) (cs : List (Option (K × V))) (ws : List V) → IsIndexed eq h i cs → IsIndexed eq h i (with_values cs ws)
      indexed None cs ws is = λ s. empty cs ws s (is s)
      indexed (Some i) cs ws is = subst (λ hs. IsIndex i.tags.items i.overflows.items hs) (sym (hashed h cs ws)) is

      -- a table stays one, with other values
      pub stays : (b : Block (K × V) A) (i : Option (HashIndex A)) (count capacity : ℕ) (ws : List V) → IsTable eq h b i count capacity → IsTable eq h (with_places b (with_values b.places ws)) i count capacity
      stays b i count capacity ws t = let cs = b.places in record {
        keys = t.keys;
        once = λ k. subst (λ n. n ≤ 1) (sym (alike k cs ws)) (t.once k);
        indexed = indexed i cs ws t.indexed;
        room = t.room;
        memory = subst (λ n. IsMemory capacity (length (tags_of i)) n) (sym (length-with_values cs ws)) t.memory;
        counted = t.counted ∙ sym (as_many cs ws);
        within = t.within;
        small = t.small;
      }

pub ruleset kept_keys = (keys-kept, length-kept)
