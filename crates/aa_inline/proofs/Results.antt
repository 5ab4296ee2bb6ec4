-- Results of a closure that are appended to a small vector.
use Rattle.std.proofs.Common.{◌≡◌, ℕ, suc, ◌+◌, ◌-◌, ◌<◌, List, [], ◌∷◌, ◌++◌, length, refl, sym, subst, ap, ◌∙◌, arith, append_assoc, length-append}
use Rattle.std.proofs.lemmas.Bool.Decides.{nat_tests}
use Rattle.std.proofs.lemmas.Fn.{FoldsTo-push}
use Rattle.std.proofs.lemmas.List.{append-nil}
use Rattle.allocator_api2.specs.Copies.{MayCallTimes}
use Rattle.aa_inline.specs.Extending.{AppendsResults}
use Rattle.aa_inline.specs.Inlined.{Inlined, HasRoom, with_room, with_written}
use Rattle.aa_inline.proofs.Extending.{room-with_written, with_written-none, with_written-with_written}

module _ {T A F : Type 0} (N : ℕ) (takes : F → Type 0) (step : F → T → F → Type 0) where
  -- the closure was called `k` times of `total`, its results were appended, and the others fit
  pub record PushesResults (total : ℕ) (old : Inlined T A) (f : F) (k : ℕ) (new : Inlined T A)
      (g : F) : Type 0 where
    pub appends : AppendsResults step old k f g new
    pub more : MayCallTimes takes step (total - k) g
    pub room : HasRoom N new (total - k)

  module _ (total : ℕ) (old : Inlined T A) (f : F) where
    pub results-none : HasRoom N old total → MayCallTimes takes step total f
        → PushesResults total old f 0 old f
    results-none room may = record {
      appends = record {
        results = [];
        calls = refl;
        count = refl;
        put = sym (with_written-none old)
            ∙ ap (λ xs. with_written old xs 0) (sym (append-nil old.items));
      };
      more = subst (λ n. MayCallTimes takes step n f) {x = total} {y = total - 0} (omega arith) may;
      room = omega (arith, room);
    }

    module _ (k : ℕ) (mid : Inlined T A) (g : F) (few : k < total)
        (p : PushesResults total old f k mid g) where
      next : MayCallTimes takes step (suc (total - (k + 1))) g
      next =
          let one_more : total - k ≡ suc (total - (k + 1)) = omega (arith, few) in
          subst (λ n. MayCallTimes takes step n g) one_more p.more

      pub results-may : takes g
      results-may = next.0

      pub results-more : (y : T) (h : F) (new : Inlined T A) → step g y h
          → new ≡ with_written mid (mid.items ++ y ∷ []) 1 → PushesResults total old f (k + 1) new h
      results-more y h new s e =
          let xs : List T = p.appends.results in
          record {
            appends = record {
              results = xs ++ y ∷ [];
              calls = FoldsTo-push step f xs g y h p.appends.calls s;
              count = length-append xs (y ∷ []) ∙ ap (λ n. n + 1) p.appends.count;
              put = e ∙ ap (λ v. with_written v (v.items ++ y ∷ []) 1) p.appends.put
                  ∙ with_written-with_written old (old.items ++ xs) ((old.items ++ xs) ++ y ∷ []) k 1
                  ∙ ap (λ zs. with_written old zs (k + 1)) (append_assoc old.items xs (y ∷ []));
            };
            more = next.1 y h s;
            room = rw e (room-with_written N mid y total k few p.room);
          }

-- the results were appended to `mid`, in which capacity for them was reserved, from n items to m
pub results-roomy : {T A F : Type 0} (step : F → T → F → Type 0) (size N : ℕ) (old mid new : Inlined T A)
    (n m : ℕ) (f g : F) → n ≡ length old.items → mid ≡ with_room size N old (m - n)
    → AppendsResults step mid (m - n) f g new
    → let k = m - length old.items in AppendsResults step (with_room size N old k) k f g new
results-roomy step size N old mid new n m f g count room p =
    let roomy : AppendsResults step (with_room size N old (m - n)) (m - n) f g new =
    subst (λ r. AppendsResults step r (m - n) f g new) room p in
    subst (λ k. AppendsResults step (with_room size N old (m - k)) (m - k) f g new) count roomy

pub ruleset resulting = (nat_tests, results-none, results-may, results-more)
