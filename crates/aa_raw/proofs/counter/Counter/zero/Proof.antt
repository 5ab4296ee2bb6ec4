-- `zero` makes a value of no bytes, whose ghost field is 0. (After
-- core/proofs/snapshot/Snapshot/of.)
use Rattle.aa_raw.proofs.{ !, Fml, Res, Val, [], agg, alloc_all, and_then, done, ends_at, enter, free_all, ftrue, get, join, keep, look_at, makes_shadow, no_more, nothing, pass_all, proved, qed, refl, returns, says, sets, suffices, type_at, use0, vcons, vnil, vstruct, ‵, ◌$◌, ◌∵◌, ◌∷◌, ◌⊛◌}
use Rattle.aa_raw.specs.contracts.counter.Counter.zero as f
use Rattle.aa_raw.proofs.counter.Counter.zero.Code as code

pub zero_spec : {M : Type 1} → Rattle.aa_raw.proofs.counter.Counter.zero.Statement.statement M
zero_spec 𝓤 𝓛 𝓜 𝓡 wired =
    let c = f.clauses 𝓛 𝓜.mem 𝓡.returns in
    proved 𝓛 f.ended tt c 𝓜 𝓡 tt
    f.Key.name code.function (code.unfolded 𝓤 𝓛.H 𝓜 𝓡 wired) (λ κs. tt) (λ κs. tt)
    (λ κs qs bounds a _ are.
    let v : Val = vstruct (vcons (vstruct vnil) vnil) in
    let r : Res f.ended.signature κs = record { mark = record {}; count = 0 } in
    let O : Fml = (type_at f.ended.signature.result κs).own_val r (v ∷ []) in
    qed 𝓛 ((‵ ftrue ⊛ ‵ ftrue) ∷ ‵ ftrue ∷ []) ∵ keep ! [] $
    enter ! _ _ _ _ _ $ alloc_all ! (λ l. pass_all ! refl tt $
    sets ! (agg ! (no_more !)) refl (tt, tt) $
    sets ! (agg ! (and_then ! (get ! refl) (no_more !))) refl (tt, (tt, tt)) $
    returns ! (look_at ! 0 refl) $ free_all ! refl $
    use0 𝓛 (‵ O) (makes_shadow 𝓛 O ((λ vss. (tt, ((λ uss. (tt, tt)), tt))), tt)
    (((vstruct vnil ∷ [], tt), (refl, ((tt, (refl, tt)), tt))), tt)) $
    suffices ! _ (ends_at 𝓛 f.ended tt c ((κs, qs, bounds, a, tt), tt) v r tt tt) $ says ! refl $
    nothing ! $ join ! $ nothing ! $ join ! $ done !))
