use Rattle.std.proofs.Common.{None, ap, arith, get_or, inl, refl, rules, ℕ, ◌∙◌, ◌≡◌}
use Rattle.allocator_api2.specs.Block.{Block}
use Rattle.aa_table.specs.Places.{hashes, AreKeys}
use Rattle.aa_table.proofs.Memory.{has-places, of-none}
use Rattle.aa_table.proofs.Moving.{empty-at, none-left}
use Rattle.aa_table.proofs.Sound.{none-in}
use Rattle.aa_table.proofs.table.Table.with_hasher_in.Goals as goal

pub invariant_of-result : goal.invariant_of-result
invariant_of-result g c =
    let keys : AreKeys g.K.PartialEq.eq (hashes g.S.BuildHasher g.S.Hasher.Hasher g.K.Hash.hash_input c.args.builder) = record { equality = search rules; agree = search rules } in
    let empty : (s : ℕ) → get_or c.new_in.result.places s None ≡ None = λ s. ap (λ (b : Block _ _). get_or b.places s None) c.new_in.ensures ∙ empty-at _ 0 s in
    none-in g.K.PartialEq.eq (hashes g.S.BuildHasher g.S.Hasher.Hasher g.K.Hash.hash_input c.args.builder) keys c.new_in.result None 0 empty empty (inl refl) (of-none _ (has-places _ 0 c.new_in.result.places (ap (λ (b : Block _ _). b.places) c.new_in.ensures))) (omega arith)

pub returns : goal.returns
returns g c =
    let empty : (s : ℕ) → get_or c.new_in.result.places s None ≡ None = λ s. ap (λ (b : Block _ _). get_or b.places s None) c.new_in.ensures ∙ empty-at _ 0 s in
    let none = none-left c.new_in.result.places empty in
    λ i. record { entries = none i; capacity = 0; resizes = c.zero.ensures i; builder = c.args.builder }
