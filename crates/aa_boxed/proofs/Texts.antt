-- Texts that are taken from an iterator and appended to a text.
use Rattle.aa_boxed.proofs.Common.{StringReserveFails, List, Option, AppendsTexts, Some, FailsAtText, String, Text, TryReserveError, Yields, Yields-more, [], ap, append-nil, append_assoc, arith, flat_map, length, length-append, appended_capacity, reserved_capacity, string_bytes, string_capacity, sym, ℕ, ◌++◌, ◌+◌, ◌∙◌, ◌∷◌, ◌≡◌}

module _ {A : Type 0} where
  abbrev pub joined : List (Text A) → List ℕ
  joined ts = flat_map (λ t. t.bytes) ts

  joined-next : (ts : List (Text A)) (t : Text A) → joined (ts ++ t ∷ []) ≡ joined ts ++ t.bytes
  joined-next [] t = append-nil t.bytes
  joined-next (u ∷ ts) t = ap (λ bs. u.bytes ++ bs) (joined-next ts t)
      ∙ sym (append_assoc u.bytes (joined ts) t.bytes)

  -- the capacity after one more text is that reserved for it after the others
  appended_capacity-next : (c len : ℕ) (ts : List (Text A)) (t : Text A) (n : ℕ) → n
      ≡ len + length (joined ts)
      → appended_capacity c len (ts ++ t ∷ [])
      ≡ reserved_capacity (appended_capacity c len ts) n (length t.bytes)
  appended_capacity-next c len [] t n e =
      let same : len ≡ n = omega (arith, e) in
      ap (λ k. reserved_capacity c k (length t.bytes)) same
  appended_capacity-next c len (u ∷ ts) t n e =
      appended_capacity-next (reserved_capacity c len (length u.bytes))
      (len + length u.bytes) ts t n (omega (arith, e, length-append u.bytes (joined ts)))

  module _ {S Z : Type 0} (steps : S → Option (Text A) → S → Type 0) (iter : S)
      (old : String Z) where
    -- the texts taken from iter, which is now s, were appended to old, which is now text
    pub record Joining (s : S) (text : String Z) : Type 0 where
      pub placed : List (Text A)
      pub yields : Yields steps iter placed s
      pub appended : AppendsTexts placed old text

    module _ (s : S) (text : String Z) (p : Joining s text) where
      len_now : length (string_bytes text) ≡ length (string_bytes old) + length (joined p.placed)
      len_now = ap length p.appended.bytes ∙ length-append (string_bytes old) (joined p.placed)

      -- one more text t was appended to it, which is new now
      pub Joining-next : (t : Text A) (u : S) → steps s (Some t) u
          → (new : String Z) (more : List ℕ) → more ≡ t.bytes → string_bytes new ≡ string_bytes text
          ++ more
          → string_capacity new
          ≡ reserved_capacity (string_capacity text) (length (string_bytes text)) (length more)
          → Joining u new
      Joining-next t u step new more is bytes room = record {
        placed = p.placed ++ t ∷ [];
        yields = Yields-more steps iter p.placed s t u p.yields step;
        appended = record {
          bytes = bytes ∙ ap (λ bs. string_bytes text ++ bs) is
              ∙ ap (λ bs. bs ++ t.bytes) p.appended.bytes
              ∙ append_assoc (string_bytes old) (joined p.placed) t.bytes
              ∙ ap (λ bs. string_bytes old ++ bs) (sym (joined-next p.placed t));
          capacity = room ∙ ap (λ bs. reserved_capacity (string_capacity text)
              (length (string_bytes text)) (length bs)) is
              ∙ ap (λ c. reserved_capacity c (length (string_bytes text)) (length t.bytes))
              p.appended.capacity
              ∙ sym (appended_capacity-next (string_capacity old)
              (length (string_bytes old)) p.placed t (length (string_bytes text)) len_now);
        };
      }

      -- reserving capacity for one more text t failed, and the string is unchanged
      pub Joining-fails : (t : Text A) (u : S) → steps s (Some t) u → (new : String Z)
          → string_bytes new ≡ string_bytes text → string_capacity new ≡ string_capacity text
          → (e : TryReserveError) → StringReserveFails new (length t.bytes) e
          → FailsAtText steps iter old e new u
      Joining-fails t u step new bytes room e cause = record {
        placed = p.placed;
        failed = t;
        yields = Yields-more steps iter p.placed s t u p.yields step;
        appended = record {
          bytes = bytes ∙ p.appended.bytes;
          capacity = room
              ∙ p.appended.capacity;
        };
        cause = cause;
      }
