use Rattle.std.proofs.Common.{None, Some, ap, arith, get_or, get_or-set_same, length, refl, slice_set, subst, sym, ◌∙◌, ◌∷◌, ◌≡◌, ◌<◌}
use Rattle.std.specs.Prelude.{IsPermutation}
use Rattle.std.proofs.lemmas.List.{length-set}
use Rattle.std.proofs.lemmas.List.Sorted.{IsPermutation-cons, IsPermutation-trans}
use Rattle.allocator_api2.specs.Places.{somes}
use Rattle.aa_table.specs.Contents.{keys_like, TableView}
use Rattle.aa_table.specs.Places.{hashes_of, hashes}
use Rattle.aa_table.proofs.Maps.{keys-permuted}
use Rattle.aa_table.proofs.Placed.{free, held, places, some-free}
use Rattle.aa_table.proofs.Retaining.{set-twice}
use Rattle.aa_table.proofs.Sound.{added, with-one}
use Rattle.aa_table.proofs.table.Table.insert_vacant.Goals as goal

pub put_new-slot-requires-clause-free : goal.put_new-slot-requires-clause-free
put_new-slot-requires-clause-free g c =
    let t = c.self.invariant in let cs = c.self.inside.places.places in let i = rw c.in-Some.is at t.indexed in
    some-free c.in-Some.index.tags.items cs (held (hashes g.S.BuildHasher g.S.Hasher.Hasher g.K.Hash.hash_input c.self.inside.builder) cs i) (grind (arith, rw c.in-Some.is at t.room, t.within, t.counted, c.in_default.ensures.enough, c.self.view_is))

pub invariant_of-self-lent : goal.invariant_of-self-lent
invariant_of-self-lent g c = λ w.
    let t = c.self.invariant in let cs = c.self.inside.places.places in let put = c.put_new-slot.ensures in let slot = c.put_new-slot.result in
    let by = λ (b : g.row.S.Denot). hashes g.S.BuildHasher g.S.Hasher.Hasher g.K.Hash.hash_input b c.args.key in
    let h = hashes g.S.BuildHasher g.S.Hasher.Hasher g.K.Hash.hash_input c.self.inside.builder in
    let i = rw c.in-Some.is at t.indexed in
    let l : slot < length cs = omega (arith, put.within, places h cs i) in
    let entry : g.row.K.Denot × g.row.V.Denot = (c.args.key, c.args.item) in
    let now : Some c.place_mut.result.now ≡ Some entry = sym c.place_mut.ensures.value ∙ ap (λ ds. get_or ds slot None) put.put ∙ get_or-set_same cs slot (Some entry) None l in
    let is : c.place_mut.result.now ≡ entry = cc in
    let new : g.row.K.Denot × g.row.V.Denot = (c.args.key, w) in
    let written : slice_set c.put_new-slot.new.places.places slot (Some (c.place_mut.result.now.0, w)) ≡ slice_set cs slot (Some new) =
    ap (λ (e : _ × _). slice_set c.put_new-slot.new.places.places slot (Some (e.0, w))) is ∙ ap (λ ds. slice_set ds slot (Some new)) put.put ∙ set-twice cs slot (Some entry) (Some new) in
    let hash = c.requires.hash ∙ ap by (sym c.reserve.ensures.builder ∙ sym (ap (λ (f : TableView _ _ _). f.builder) c.self.view_is)) in
    let new-key = ap (λ (f : TableView _ _ _). keys_like g.K.PartialEq.eq c.args.key f.entries) c.self.view_is
    ∙ keys-permuted g.K.PartialEq.eq c.args.self.now.entries c.reserve.new.self.entries c.reserve.ensures.same c.args.key ∙ c.requires.absent in
    added t new slot l (free h cs i slot put.was_free) new-key c.in-Some.index c.put_new-slot.new.self _ written (ap length put.tags ∙ length-set c.in-Some.index.tags.items slot _)
    (rw hash at (put.index (hashes_of h cs) i)) (rw c.in-Some.is at t.room) (rw c.in-Some.is at t.memory) (grind (arith, t.counted, c.in_default.ensures.enough, c.self.view_is))

pub returns : goal.returns
returns g c =
    let t = c.self.invariant in let cs = c.self.inside.places.places in let put = c.put_new-slot.ensures in let slot = c.put_new-slot.result in
    let h = hashes g.S.BuildHasher g.S.Hasher.Hasher g.K.Hash.hash_input c.self.inside.builder in
    let i = rw c.in-Some.is at t.indexed in
    let l : slot < length cs = omega (arith, put.within, places h cs i) in
    let entry : g.row.K.Denot × g.row.V.Denot = (c.args.key, c.args.item) in
    let now : Some c.place_mut.result.now ≡ Some entry = sym c.place_mut.ensures.value ∙ ap (λ ds. get_or ds slot None) put.put ∙ get_or-set_same cs slot (Some entry) None l in
    let is : c.place_mut.result.now ≡ entry = cc in
    let new-key = ap (λ (f : TableView _ _ _). keys_like g.K.PartialEq.eq c.args.key f.entries) c.self.view_is
    ∙ keys-permuted g.K.PartialEq.eq c.args.self.now.entries c.reserve.new.self.entries c.reserve.ensures.same c.args.key ∙ c.requires.absent in
    let old = c.args.self.now.entries in let mid = c.reserve.new.self.entries in (
      (
        refl,
        (λ w _.
            let new : g.row.K.Denot × g.row.V.Denot = (c.args.key, w) in
            let written : slice_set c.put_new-slot.new.places.places slot (Some (c.place_mut.result.now.0, w)) ≡ slice_set cs slot (Some new) =
            ap (λ (e : _ × _). slice_set c.put_new-slot.new.places.places slot (Some (e.0, w))) is ∙ ap (λ ds. slice_set ds slot (Some new)) put.put ∙ set-twice cs slot (Some entry) (Some new) in
            let there : IsPermutation (new ∷ mid) (somes (slice_set cs slot (Some new))) =
            rw (ap (λ (f : TableView _ _ _). f.entries) (sym c.self.view_is)) (with-one t new slot l (free h cs i slot put.was_free) new-key) in
            record {
              entries = subst (λ ds. IsPermutation (new ∷ old) (somes ds)) (sym written) (IsPermutation-trans (new ∷ old) (new ∷ mid) (somes (slice_set cs slot (Some new))) (IsPermutation-cons new old mid c.reserve.ensures.same) there);
              capacity = ap (λ (f : TableView _ _ _). f.capacity) c.self.view_is ∙ c.in_default.ensures.made;
              resizes = ap (λ (f : TableView _ _ _). f.resizes) c.self.view_is ∙ c.in_default.ensures.resizes;
              builder = ap (λ (f : TableView _ _ _). f.builder) c.self.view_is ∙ c.reserve.ensures.builder;
            }),
        tt,
      ),
      record { writes_back = tt; value = ap (λ (e : _ × _). e.1) is; fits = λ _. refl; returned = tt; error = tt },
    )
