-- Sets that operators make of what an iterator returns.
use Rattle.std.proofs.Common.{◌≡◌, ℕ, ◌*◌, List, ap, length, map, subst, sym, ◌∙◌}
use Rattle.std.specs.Prelude.{Err, IfErr, IfOk, Ok, Result}
use Rattle.std.proofs.lemmas.List.{length-map}
use Rattle.std.specs.Borrow.{Bor}
use Rattle.std.specs.Iterator.{Drains, YieldsFirstBy}
use Rattle.std.specs.Map.Iter.{deref}
use Rattle.std.specs.declared.cmp.Ordering.{Ordering}
use Rattle.std_collections.proofs.SetLists.{Drains-all}
use Rattle.allocator_api2.specs.Errors.{IsErrorFor}
use Rattle.allocator_api2.specs.declared.collections.TryReserveError.{TryReserveError}
use Rattle.aa_ordered.specs.Capacity.{leaves_for}
use Rattle.aa_ordered_set.specs.Operators.{IsSetOfClones, MakesSet}
use Rattle.aa_ordered_set.specs.Sets.{SetView}

module _ {T : Type 0} where
  -- the calls of an iterator over the elements `s` that returned all of them
  abbrev Runs : (s : List T) → (List T → List (Bor T) → Type 0) → Type 0
  Runs s P = (it : List T) × (xs : List (Bor T)) × (it ≡ s) × Drains (YieldsFirstBy (λ x. x.now) (λ rest. rest)) it xs × P it xs

  -- they were counted
  pub counted : (all s : List T) (n : ℕ) → Runs s (λ it xs. n ≡ length xs) → s ≡ all → n ≡ length all
  counted all s n (it, xs, is, drains, count) e = count ∙ sym (length-map xs deref) ∙ ap length (Drains-all deref it xs drains) ∙ ap length (is ∙ e)

  -- and cloned
  pub made-set : (cmp : T → T → Ordering) (C : T → T → Type 0) (all s : List T) (n : ℕ) (r : Result (SetView T) TryReserveError) → n ≡ length all → s ≡ all
      → IfOk r (λ u. Runs s (λ it xs. IsSetOfClones cmp C (map (λ x. x.now) xs) n u)) → IfErr r (λ e. IsErrorFor e (leaves_for n * 64)) → MakesSet cmp C all r
  made-set cmp C all s n (Ok u) count e (it, xs, is, drains, set) error = record {
    made = subst (λ ys. IsSetOfClones cmp C ys (length all) u) (Drains-all deref it xs drains ∙ is ∙ e)
        (subst (λ m. IsSetOfClones cmp C (map (λ x. x.now) xs) m u) count set);
    error = tt;
  }
  made-set cmp C all s n (Err x) count e made error = record {
    made = tt;
    error = subst (λ m. IsErrorFor x (leaves_for m * 64)) count error;
  }
