-- No block is the allocator's, so the right to free one is a contradiction. Assumes `Logic`.
use Rattle.aa_watched.proofs.Walk.{◌≡◌, [], ◌∷◌, w64, proved, fsep, ffalse, never_e, fact, size, align, capped, ‵, raw, ◌⊛◌, ◌$◌, ◌∵◌, !, qed, drop, split, fsplit, by, uint_vals, uint_Tells, room_for, rawptr_vals, rawptr_Tells, shr_vals, on_entry, dropped, gone}
use Rattle.test_allocators.specs.contracts.failing.FailingAllocator.deallocate as F
use Rattle.test_allocators.proofs.failing.FailingAllocator.deallocate.Statement.{statement}
use Rattle.test_allocators.proofs.failing.FailingAllocator.deallocate.Code as code

pub deallocate_spec : {M : Type 1} → statement M
deallocate_spec 𝓤 𝓛 𝓜 𝓡 wired =
    let E = F.ended in
    proved 𝓛 E (dropped E.signature.params E.kept) (F.clauses 𝓛 𝓜.mem 𝓡.returns) 𝓜 𝓡 ((λ κs x f vs ok. gone 𝓛), ((λ κs x f vs ok. gone 𝓛), ((λ κs x f vs ok. gone 𝓛), ((λ κs x f vs ok. gone 𝓛), tt))))
    F.Key.name code.function (code.unfolded 𝓤 𝓛.H 𝓜 𝓡 wired)
    (λ κs. (shr_vals, (rawptr_vals, (uint_vals w64, (uint_vals w64, tt))))) (λ κs. ((λ r vs is. is.0), (rawptr_Tells, (uint_Tells w64, (uint_Tells w64, tt)))))
    (λ κs qs bounds a τ are.
    qed 𝓛 (raw (on_entry 𝓛 E.signature κs qs a (shr_vals a.0, (rawptr_vals a.1.0, (uint_vals w64 a.1.1.0, (uint_vals w64 a.1.1.1.0, tt)))))
    ∷ (raw (fact 𝓤 ((capped (size τ) ≡ a.1.1.0) × (capped (align τ) ≡ a.1.1.1.0))) ⊛ ‵ (fsep (room_for τ a.1.0) ffalse)) ∷ []) ∵
    drop ! $ split ! $ drop ! $ fsplit ! $ drop ! $ by ! (never_e 𝓤 _))
