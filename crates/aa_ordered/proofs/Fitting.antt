-- The capacity of a map whose free leaves are freed.
use Rattle.std.proofs.Common.{◌≡◌, ◌+◌, ◌*◌, ◌≤◌, ◌<◌, ℕ, [], All, Result, Ok, Err, inl, inr, refl, arith, length, sym, ap, subst, ◌∙◌, true≢false}
use Rattle.std.specs.Prelude.{max, min, IfErr, IsOk, OnErr, OnOk}
use Rattle.std.proofs.lemmas.Bool.{cases_lt}
use Rattle.std.proofs.lemmas.Bool.Decides.{nat_tests}
use Rattle.allocator_api2.specs.declared.collections.TryReserveError.{TryReserveError}
use Rattle.allocator_api2.specs.declared.collections.TryReserveErrorKind.TheVariants.{AllocError}
use Rattle.aa_ordered.specs.Balance.{joined, lengths, IsBalanced}
use Rattle.aa_ordered.specs.Capacity.{capacity_of, leaves_of, resizes_to, IsAllocErrorWithin}
use Rattle.aa_ordered.specs.Entries.{OrderedView}
use Rattle.aa_ordered.specs.Inside.{view_of}
use Rattle.aa_ordered.specs.Leaves.{resizes_to as leaves_to, with_room, LeavesView}
use Rattle.aa_ordered.proofs.Balance.{at-least, at-most}
use Rattle.aa_ordered.proofs.Resizing.{leaves-kept, leaves-same, moved-to}

small : (l r n : ℕ) → 32 * l ≤ n + 31 → r ≤ l → capacity_of r < n + 64
small l r n h k = grind (arith, nat_tests, h, k)

module _ {K V : Type 0} (leaves : LeavesView (K × V)) (v : OrderedView K V) (is : view_of leaves ≡ v) where
  count : length (joined leaves.lists) ≡ length v.entries
  count = ap (λ (u : OrderedView K V). length u.entries) is

  room : leaves_of v.capacity ≡ leaves.room
  room = subst (λ (u : OrderedView K V). leaves_of u.capacity ≡ leaves.room) is (leaves-same leaves.room)

  -- each leaf is needed for the entries
  pub no-more : All (λ l. length l ≤ 64) leaves.lists → leaves_of v.capacity * 64 < length v.entries + 64 → leaves.room ≤ max 0 (length leaves.lists)
  no-more a h = omega (arith, room, h, count, at-most leaves.lists a)

  module _ (b : IsBalanced (lengths leaves.lists)) where
    few : 32 * length leaves.lists ≤ length v.entries + 31
    few = omega (arith, count, at-least leaves.lists b)

    module _ (new : LeavesView (K × V)) (e : new ≡ with_room leaves (min leaves.room (max 0 (length leaves.lists)))) where
      within : new.room ≤ length leaves.lists
      within = let r = ap (λ (u : LeavesView (K × V)). u.room) e in omega (arith, r)

      pub fitted : capacity_of new.room < length v.entries + 64
      fitted = small (length leaves.lists) new.room (length v.entries) few within

      pub fitted-none : v.entries ≡ [] → capacity_of new.room ≡ 0
      fitted-none n = let z : new.room ≡ 0 = omega (arith, few, within, ap length n) in ap capacity_of z

    module _ (a : All (λ l. length l ≤ 64) leaves.lists) where
      number-within : (m : ℕ) → length leaves.lists * 64 < m → (e : TryReserveError) → e.kind ≡ AllocError (max 0 (length leaves.lists) * 64) → IsAllocErrorWithin e (length v.entries) m
      number-within m h e q = rw q (omega (arith), omega (arith, count, at-most leaves.lists a), omega (arith, h))

      pub number-few : (e : TryReserveError) → e.kind ≡ AllocError (max 0 (length leaves.lists) * 64) → IsAllocErrorWithin e (length v.entries) (2 * length v.entries + 64)
      number-few = number-within (2 * length v.entries + 64) (omega (arith, few))

      pub number-less : {T : Type 0} (r : Result T TryReserveError) → (leaves.room ≤ max 0 (length leaves.lists) → IsOk r) → IfErr r (λ e. e.kind ≡ AllocError (max 0 (length leaves.lists) * 64)) → IfErr r (λ e. IsAllocErrorWithin e (length v.entries) (leaves_of v.capacity * 64))
      number-less (Ok x) o h = tt
      number-less (Err e) o h =
          let less : length leaves.lists < leaves.room = elim (cases_lt (length leaves.lists) leaves.room) [ inl l ↦ l | inr g ↦ absurd (true≢false (sym (o (omega (arith, g))))) ] in
          number-within (leaves_of v.capacity * 64) (omega (arith, less, room)) e h

  -- the map moved to new blocks if it has another capacity
  pub shrunk-resizes : (new : LeavesView (K × V)) (n : ℕ) (r : Result (Unit {0}) TryReserveError) → OnOk r (new ≡ with_room leaves n) → OnErr r (new ≡ leaves) → new.resizes ≡ resizes_to v (capacity_of new.room)
  shrunk-resizes new n r o e = subst (λ (u : OrderedView K V). new.resizes ≡ resizes_to u (capacity_of new.room)) is (by n r o e ∙ moved-to leaves new.room)
    where
      by : (n : ℕ) (r : Result (Unit {0}) TryReserveError) → OnOk r (new ≡ with_room leaves n) → OnErr r (new ≡ leaves) → new.resizes ≡ leaves_to leaves new.room
      by n (Ok x) o e = rw o refl
      by n (Err x) o e = rw e (sym (leaves-kept leaves))
