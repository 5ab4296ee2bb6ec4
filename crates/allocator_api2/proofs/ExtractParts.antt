-- Elements that a run takes out of a range of main.
use Rattle.allocator_api2.proofs.Common.{Bool, Call, CalledInOrder, Chosen, EndsTrue, Extracted-end, Extracted-more, ExtractedTo, ExtractedTo-none, HasRoom, Holds, Holds-more, IsCallableInOrder, List, None, SameBlock, SameBlock-becomes, SameBlock-refl, SameBlock-trans, Some, State, TakesOut, TakesUpTo, Vector, [], ap, append-nil, arith, asked_count, asked_parts, drop, drop-append-le, drop-drop, extracts_may, inl, inr, kept, len, length, length-append, length-drop, length-take, nat_tests, passed_over, refl, slice_range, state_with_keep, sym, take, take-append-drop, ℕ, ◌++◌, ◌+◌, ◌-◌, ◌<◌, ◌∷◌, ◌≡◌, ◌≤◌, ◌⊎◌}
use Rattle.aa_vec.specs.Extract.{ClosesExtract, Extracts, ExtractsRange, extract_remaining, extract_tail}
use Rattle.aa_vec.specs.declared.vec.extract_if.ExtractBy.{ExtractBy}

module _ {K T : Type 0} (Keeps : K → T → Bool → K → T → Type 0) where
  module _ {A : Type 0} where
    pub length-taken_out : {S : Type 0} (size : ℕ) (old : State T A K S) (start end count : ℕ)
        (new : State T A K S) → start ≤ end → end ≤ len old.main
        → (t : TakesOut Keeps size old start end count new)
        → length (take start old.main.items
        ++ (passed_over t.calls ++ drop (start + length t.calls) old.main.items)) ≤ len old.main
    length-taken_out size old start end count new low high t =
        omega (
          arith,
          asked_parts t.calls,
          asked_count Keeps old.keep new.keep _ t.calls t.called,
          length-append {A = T},
          length-take {A = T},
          length-drop {A = T},
        )

    -- so many elements were taken and appended to side; the closure may be called for others
    pub record TakenSoFar (Takes : K → T → Type 0) (k : K) (range : ExtractBy T A)
        (side : Vector T A) (count : ℕ) (h : K) (later : ExtractBy T A)
        (new : Vector T A) : Type 0 where
      pub taken : List T
      pub extracted : ExtractedTo Keeps k range taken h later
      pub many : length taken ≡ count
      pub holds : Holds side (side.items ++ taken) new
      pub may : IsCallableInOrder Keeps Takes h (extract_remaining later)

    module _ (Takes : K → T → Type 0) (k : K) (range : ExtractBy T A) (side : Vector T A) where
      pub TakenSoFar-none : IsCallableInOrder Keeps Takes k (extract_remaining range)
          → TakenSoFar Takes k range side 0 k range side
      TakenSoFar-none may =
          record {
            taken = [];
            extracted = ExtractedTo-none Keeps k range;
            many = refl;
            holds = record { items = sym (append-nil side.items); block = SameBlock-refl side };
            may = may;
          }

      module _ (count : ℕ) (h g : K) (t w : ExtractBy T A) (mid : Vector T A)
          (now : TakenSoFar Takes k range side count h t mid) where
        pub TakenSoFar-more : (x : T) (new : Vector T A) → Extracts Keeps h t (Some x) g w
            → Holds mid (mid.items ++ x ∷ []) new
            → TakenSoFar Takes k range side (count + 1) g w new
        TakenSoFar-more x new next put =
            let more = Extracted-more Keeps k h g range t w now.taken now.extracted.0 x next in
            let held = Holds-more side mid new now.taken (x ∷ []) now.holds put in
            search (
              arith,
              now.many,
              length-append now.taken (x ∷ []),
              more,
              held,
              extracts_may Keeps h g t w x next Takes now.may,
            )

        -- none was left
        pub TakesUpTo-end : (most : ℕ) → count < most → Extracts Keeps h t None g w
            → TakesUpTo Keeps k range side most g w mid
        TakesUpTo-end most less next =
            record {
              taken = now.taken;
              extracted = Extracted-end Keeps k h g range t w now.taken now.extracted.0 next;
              enough = inr (omega (arith, now.many, less), next.cases.1);
              holds = now.holds;
            }

      module _ (count most : ℕ) (h : K) (t : ExtractBy T A) (mid : Vector T A)
          (now : TakenSoFar Takes k range side count h t mid) where
        -- as many as were to be taken
        pub TakesUpTo-all : count ≤ most → most ≤ count → TakesUpTo Keeps k range side most h t mid
        TakesUpTo-all few all =
            record {
              taken = now.taken;
              extracted = now.extracted.0;
              enough = inl (omega (arith, now.many, few, all), now.extracted.1);
              holds = now.holds;
            }

        pub room_left : count < most → HasRoom side most → HasRoom mid 1
        room_left less room =
            omega (
              arith,
              ap length now.holds.items,
              length-append side.items now.taken,
              now.many,
              now.holds.block.capacity,
              room,
              less,
            )

    -- and the range is closed
    module _ (main side : Vector T A) (k : K) (start end most : ℕ)
        (ordered : (start ≤ end) × (end ≤ len main)) (range : ExtractBy T A)
        (takes : ExtractsRange main start end range) (k' : K) (later : ExtractBy T A)
        (side' : Vector T A) (up : TakesUpTo Keeps k range side most k' later side')
        (main' : Vector T A) (closes : ClosesExtract later main') where
      abbrev calls : List (Call T)
      calls = up.extracted.calls

      middle_long : length (slice_range main.items start end) ≡ end - start
      middle_long = omega (
        arith,
        length-take (end - start) (drop start main.items),
        length-drop start main.items,
        ordered,
      )

      asked : CalledInOrder Keeps k (take (length calls) (slice_range main.items start end)) calls
          k'
      asked = rw takes.rest at up.extracted.called

      few : length calls ≤ end - start
      few = omega (
        arith,
        asked_count Keeps k k' _ calls asked,
        length-take (length calls) (slice_range main.items start end),
        middle_long,
      )

      rest_are : extract_remaining later ++ extract_tail later
          ≡ drop (start + length calls) main.items
      rest_are =
          let n : ℕ = end - start in let ys : List T = drop start main.items in
          let joined = drop-append-le (length calls) (take n ys) (drop n ys) in
          grind (
            arith,
            up.extracted.rest,
            up.extracted.tail,
            takes.rest,
            takes.tail,
            few,
            middle_long,
            joined,
            take-append-drop n ys,
            drop-drop,
          )

      pub chosen : Chosen Keeps (state_with_keep main side k) start end most
          (state_with_keep main' side' k')
      chosen =
          let block : SameBlock main main' = SameBlock-trans
          (SameBlock-becomes _ _ _ _ _ takes.becomes)
          (SameBlock-trans (SameBlock-becomes _ _ _ _ _ up.extracted.becomes)
          (SameBlock-becomes _ _ _ _ _ closes)) in
          let left : Holds main
          (take start main.items
          ++ (passed_over calls ++ drop (start + length calls) main.items)) main' =
          grind (
            arith,
            block,
            closes,
            up.extracted.becomes,
            up.extracted.kept,
            takes.becomes,
            takes.kept,
            rest_are,
          ) in
          let appended : Holds side (side.items ++ kept calls) side' = grind
          (arith, up.holds, up.extracted.items) in
          let written : main'.written ≤ main.written + (len main' - start) = grind
          (arith, left.items, rest_are, nat_tests, up.extracted.few, length-append, length-take)
          in
          let enough : (length (kept calls) ≡ most) × EndsTrue calls ⊎ (length (kept calls) < most)
          × (length calls ≡ end - start) =
          grind (
            arith,
            up.enough,
            up.extracted.items,
            few,
            middle_long,
            up.extracted.rest,
            length-drop,
            takes.rest,
          ) in
          search (asked, enough, left, appended, written)

-- what a loop that takes such elements needs
pub ruleset choosing = (TakenSoFar-none, TakenSoFar-more, room_left)
