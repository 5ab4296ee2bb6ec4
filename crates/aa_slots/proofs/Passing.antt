-- The pairs before and after a cursor, as it passes the slots.
use Rattle.aa_slots.proofs.Common.{AreFree, AreHeld, Held, KeyData, List, None, Option, Some, State, [], ap, arith, drop, entries_from, get_or, is_some, length, refl, seen, slice_get, slice_set, slot_at, state_at, subst, suc, sym, take, true, value_under, ℕ, ⊤, ◌++◌, ◌+◌, ◌<◌, ◌∙◌, ◌∷◌, ◌≡◌, ◌≤◌}
use Rattle.aa_slots.proofs.Iterating.{entries-push}
use Rattle.aa_slots.proofs.Remaining.{rest-next, rest-none, rest-onward}
use Rattle.aa_slots.proofs.Seen.{length-seen, slot-free, value-of}
use Rattle.aa_slots.specs.Passing.{first_key}
use Rattle.std.proofs.Common.{map, drop-drop, drop-set-lt, get_or-drop, length-drop, length-set, take-add, take-append-drop}
use Rattle.std.proofs.lemmas.Bool.Decides.{nat_tests}
use Rattle.std.proofs.lemmas.List.{append-nil, length-take-le, take_more_set}
use Rattle.std.specs.Option.{option_map}

module _ {T : Type 0} where
  -- the key of the first pair in the slots from one on
  pub first-is : (ss : List State) (cs : List (Option (⊤ × T))) (from : ℕ) (k : KeyData)
      → AreHeld ss cs → from ≤ k.index → k.index < length ss
      → state_at ss k.index ≡ Held k.serial → AreFree ss from k.index
      → Some k ≡ option_map (λ e. e.0) (slice_get (entries_from from (drop from (seen ss cs))) 0)
  first-is ss cs from k held a b is free =
      let v = value-of ss cs held k.index k.serial is in
      let serial : v.serial ≡ k.serial = let p : Held v.serial ≡ Held k.serial = sym v.is ∙ is in cc in
      let here : slot_at (seen ss cs) k.index ≡ Some (k.serial, v.entry.1) =
      v.slot ∙ ap (λ n. Some (n, v.entry.1)) serial in
      let first = rest-next (seen ss cs) from k.index (length (seen ss cs)) k.serial v.entry.1 a
      (omega (arith, b, length-seen ss cs)) (omega arith)
      (λ i c d. slot-free ss cs i (free i c d)) here in
      ap (λ l. option_map (λ e. e.0) (slice_get l 0)) (sym first ∙ rest-onward (seen ss cs) from)

  pub first-none : (ss : List State) (cs : List (Option (⊤ × T))) (from end : ℕ) → end ≡ length ss
      → AreFree ss from end
      → None ≡ option_map (λ e. e.0) (slice_get (entries_from from (drop from (seen ss cs))) 0)
  first-none ss cs from end e free =
      let none = rest-none (seen ss cs) from (length (seen ss cs)) (omega arith)
      (λ i c d. slot-free ss cs i (free i c (omega (arith, d, e, length-seen ss cs)))) in
      ap (λ l. option_map (λ e. e.0) (slice_get l 0)) (sym none ∙ rest-onward (seen ss cs) from)

  pub entries-append : (i : ℕ) (xs ys : List (Option (ℕ × T))) → entries_from i (xs ++ ys)
      ≡ entries_from i xs ++ entries_from (i + length xs) ys
  entries-append i [] ys = let same : i ≡ i + 0 = omega arith in ap (λ k. entries_from k ys) same
  entries-append i (None ∷ xs) ys = let same : i + 1 + length xs ≡ i + suc (length xs) =
      omega arith in entries-append (i + 1) xs ys
      ∙ ap (λ k. entries_from (i + 1) xs ++ entries_from k ys) same
  entries-append i (Some e ∷ xs) ys = let same : i + 1 + length xs ≡ i + suc (length xs) =
      omega arith in
      ap (λ zs. (record { index = i; serial = e.0 }, e.1) ∷ zs) (entries-append (i + 1) xs ys
      ∙ ap (λ k. entries_from (i + 1) xs ++ entries_from k ys) same)

  -- where the first of some pairs is
  pub record Located (i : ℕ) (ss : List (Option (ℕ × T))) (e : KeyData
      × T) (es : List (KeyData × T)) : Type 0 where
    pub n : ℕ
    pub index : e.0.index ≡ i + n
    pub within : n < length ss
    pub there : get_or ss n None ≡ Some (e.0.serial, e.1)
    pub none : entries_from i (take n ss) ≡ []
    pub rest : entries_from (suc e.0.index) (drop (suc n) ss) ≡ es

  located : (i : ℕ) (ss : List (Option (ℕ × T))) (e : KeyData × T) (es : List (KeyData × T))
      → entries_from i ss ≡ e ∷ es → Located i ss e es
  located i [] e es p = absurd (cc)
  located i (None ∷ ss) e es p = let l = located (i + 1) ss e es p in
      record {
        n = suc l.n;
        index = omega (arith, l.index);
        within =
            omega (arith, l.within);
        there = l.there;
        none = l.none;
        rest = l.rest;
      }
  located i (Some s ∷ ss) e es p =
      let a : (record { index = i; serial = s.0 }, s.1) ≡ e = cc in
      let b : entries_from (i + 1) ss ≡ es = cc in
      let at : i ≡ e.0.index = ap (λ z. z.0.index) a in let next : suc e.0.index
      ≡ i + 1 = omega (arith, at) in
      record {
        n = 0;
        index = omega (arith, at);
        within = omega arith;
        there =
            λ j. Some ((a j).0.serial, (a j).1);
        none = refl;
        rest =
            ap (λ k. entries_from k ss) next ∙ b;
      }

  module _ (slots : List (Option (ℕ × T))) (at : ℕ) (key : KeyData) (found : Some key
      ≡ option_map (λ e. e.0) (slice_get (entries_from at (drop at slots)) 0)) where
    abbrev pub left : List (KeyData × T)
    left = entries_from at (drop at slots)

    -- the first pair, and where it is
    pub record First : Type 0 where
      pub x : T
      pub rest : List (KeyData × T)
      pub is : left ≡ (key, x) ∷ rest
      pub place : Located at (drop at slots) (key, x) rest

    pub first-of : (es : List (KeyData × T)) → left ≡ es → First
    first-of [] p =
        absurd (let n : Some key ≡ None = found
        ∙ ap (λ l. option_map (λ e. e.0) (slice_get l 0)) p in cc)
    first-of (e ∷ es) p =
        let q : Some key ≡ Some e.0 = found ∙ ap (λ l. option_map (λ e. e.0) (slice_get l 0)) p in
        let same : key ≡ e.0 = cc in
        let is : left ≡ (key, e.1) ∷ es = p ∙ (λ j. (sym same j, e.1) ∷ es) in
        record { x = e.1; rest = es; is = is; place = located at (drop at slots) (key, e.1) es is }

    abbrev pub first : First
    first = first-of left refl

    pub is-first : first_key left ≡ key
    is-first = ap first_key first.is

    abbrev pub k : ℕ
    k = key.index

    lies : k ≡ at + first.place.n
    lies = first.place.index

    in_rest : first.place.n < length (drop at slots)
    in_rest = first.place.within

    pub from : at ≤ k
    from = omega (arith, lies)

    pub below : k < length slots
    below = omega (arith, lies, in_rest, length-drop at slots)

    pub has : slot_at slots k ≡ Some (key.serial, first.x)
    has = ap (λ i. get_or slots i None) lies ∙ sym (get_or-drop at slots first.place.n None)
        ∙ first.place.there

    pub is-found : is_some (value_under key.serial (slot_at slots k)) ≡ true
    is-found = rw has (grind (arith, nat_tests))

    pub finds-first : value_under key.serial (slot_at slots k)
        ≡ option_map (λ e. e.1) (slice_get left 0)
    finds-first =
        let own : value_under key.serial (Some (key.serial, first.x))
        ≡ Some first.x = grind (arith, nat_tests) in
        ap (value_under key.serial) has ∙ own
        ∙ sym (ap (λ l. option_map (λ e. e.1) (slice_get l 0)) first.is)

    abbrev pub written : T → List (Option (ℕ × T))
    written w = slice_set slots k (Some (key.serial, w))

    -- no pair was passed over
    none-between : entries_from 0 (take k slots) ≡ entries_from 0 (take at slots)
    none-between =
        let few : at ≤ length slots = omega (arith, from, below) in
        let long : 0 + length (take at slots) ≡ at = omega (arith, length-take-le at slots few) in
        ap (λ i. entries_from 0 (take i slots)) lies
        ∙ ap (entries_from 0) (take-add at first.place.n slots)
        ∙ entries-append 0 (take at slots) (take first.place.n (drop at slots))
        ∙ ap (λ i. entries_from 0 (take at slots)
        ++ entries_from i (take first.place.n (drop at slots))) long
        ∙ ap (λ l. entries_from 0 (take at slots) ++ l) first.place.none
        ∙ append-nil (entries_from 0 (take at slots))

    pub before-passed : (w : T) → entries_from 0 (take (k + 1) (written w))
        ≡ entries_from 0 (take at slots) ++ (key, w) ∷ []
    before-passed w =
        let long : k
        ≡ 0 + length (take k slots) =
        omega (arith, below, length-take-le k slots (omega (arith, below))) in
        ap (entries_from 0) (take_more_set slots k (Some (key.serial, w)) below)
        ∙ entries-push 0 k (take k slots) (Some (key.serial, w)) long
        ∙ ap (λ l. l ++ (key, w) ∷ []) none-between

    -- the same if no value is left there
    pub before-freed : entries_from 0 (take (k + 1) (slice_set slots k None))
        ≡ entries_from 0 (take at slots)
    before-freed =
        let long : k
        ≡ 0 + length (take k slots) =
        omega (arith, below, length-take-le k slots (omega (arith, below))) in
        ap (entries_from 0) (take_more_set slots k None below)
        ∙ entries-push 0 k (take k slots) None long
        ∙ append-nil (entries_from 0 (take k slots))
        ∙ none-between

    pub after-set : (o : Option (ℕ × T)) → entries_from (k + 1) (drop (k + 1) (slice_set slots k o))
        ≡ drop 1 left
    after-set o =
        let next : k + 1 ≡ suc k = omega arith in let far : suc k
        ≡ at + suc first.place.n = omega (arith, lies) in
        ap (entries_from (k + 1))
        (drop-set-lt (k + 1) slots k o (omega arith))
        ∙ ap (λ i. entries_from i (drop i slots)) next
        ∙ ap (λ i. entries_from (suc k) (drop i slots)) far
        ∙ ap (entries_from (suc k)) (sym (drop-drop (suc first.place.n) at slots))
        ∙ first.place.rest ∙ sym (ap (drop 1) first.is)

    pub after-passed : (w : T) → entries_from (k + 1) (drop (k + 1) (written w)) ≡ drop 1 left
    after-passed w = after-set (Some (key.serial, w))

    -- the first pair by the value of its key
    pub left-is : (v : T) → value_under key.serial (slot_at slots k) ≡ Some v
        → left ≡ (key, v) ∷ drop 1 left
    left-is v h =
        let both : Some first.x ≡ Some v =
        sym (ap (λ l. option_map (λ e. e.1) (slice_get l 0)) first.is) ∙ sym finds-first ∙ h in
        let same : first.x ≡ v = cc in
        first.is ∙ (λ j. (key, same j) ∷ first.rest)
        ∙ ap (λ l. (key, v) ∷ l) (sym (ap (drop 1) first.is))

    pub whole-passed : (w : T) → entries_from 0 (written w)
        ≡ entries_from 0 (take (k + 1) (written w))
        ++ entries_from (k + 1) (drop (k + 1) (written w))
    whole-passed w =
        let few : k + 1 ≤ length (written w) = omega
        (arith, below, length-set slots k (Some (key.serial, w))) in
        let long : 0 + length (take (k + 1) (written w))
        ≡ k + 1 = omega (arith, length-take-le (k + 1) (written w) few) in
        sym (ap (entries_from 0) (take-append-drop (k + 1) (written w)))
        ∙ entries-append 0 (take (k + 1) (written w)) (drop (k + 1) (written w))
        ∙ ap (λ i. entries_from 0 (take (k + 1) (written w))
        ++ entries_from i (drop (k + 1) (written w))) long

    -- the same of the key of the first pair
    abbrev pub slots_with : KeyData → T → List (Option (ℕ × T))
    slots_with k w = slice_set slots k.index (Some (k.serial, w))

    pub before-lent : (w : T) → let k = first_key left in
        entries_from 0 (take (k.index + 1) (slots_with k w)) ≡ entries_from 0 (take at slots)
        ++ (k, w) ∷ []
    before-lent w =
        subst (λ (k : KeyData). entries_from 0 (take (k.index + 1) (slots_with k w))
        ≡ entries_from 0 (take at slots) ++ (k, w) ∷ []) (sym is-first) (before-passed w)

    pub after-lent : (w : T) → let k = first_key left in
        entries_from (k.index + 1) (drop (k.index + 1) (slots_with k w)) ≡ drop 1 left
    after-lent w =
        subst (λ (k : KeyData). entries_from (k.index + 1) (drop (k.index + 1) (slots_with k w))
        ≡ drop 1 left) (sym is-first) (after-passed w)

    pub whole-lent : (w : T) → let k = first_key left in
        entries_from 0 (slots_with k w) ≡ entries_from 0 (take (k.index + 1) (slots_with k w))
        ++ entries_from (k.index + 1) (drop (k.index + 1) (slots_with k w))
    whole-lent w =
        subst (λ (k : KeyData). entries_from 0 (slots_with k w)
        ≡ entries_from 0 (take (k.index + 1) (slots_with k w))
        ++ entries_from (k.index + 1) (drop (k.index + 1) (slots_with k w)))
        (sym is-first) (whole-passed w)

-- values that are written one after another
module _ {T : Type 0} (w : T) where
  abbrev pub filled : List (KeyData × T) → List (KeyData × T)
  filled es = map (λ e. (e.0, w)) es

  joined : (bs : List (KeyData × T)) (e : KeyData × T) (cs : List (KeyData × T)) → (bs ++ e ∷ []) ++ cs
      ≡ bs ++ e ∷ cs
  joined [] e cs = refl
  joined (b ∷ bs) e cs = ap (λ l. b ∷ l) (joined bs e cs)

  pub filled-next : (bs rest : List (KeyData × T)) (x : T)
      → Some x ≡ option_map (λ e. e.1) (slice_get rest 0)
      → (bs ++ (first_key rest, w) ∷ []) ++ filled (drop 1 rest) ≡ bs ++ filled rest
  filled-next bs [] x h = absurd (cc)
  filled-next bs (e ∷ rest) x h = joined bs (e.0, w) (filled rest)

  pub filled-all : (bs rest : List (KeyData × T))
      → None ≡ option_map (λ e. e.1) (slice_get rest 0) → bs ++ rest ≡ bs ++ filled rest
  filled-all bs [] h = refl
  filled-all bs (e ∷ rest) h = absurd (cc)

pub ruleset firsts = (first-is, first-none)
