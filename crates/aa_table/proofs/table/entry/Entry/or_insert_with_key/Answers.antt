use Rattle.std.proofs.Common.{ap, refl, subst, sym}
use Rattle.std.specs.Fn.{FnOnceReturnsAt}
use Rattle.std.proofs.lemmas.Result.{IfErr-weaker, IfOk-weaker}
use Rattle.aa_table.proofs.table.entry.Entry.or_insert_with_key.Goals as goal

pub returns-in-Vacant : goal.returns-in-Vacant
returns-in-Vacant g c =
    let made = FnOnceReturnsAt g.F.FnOnce c.args.default c.in-Vacant.entry.key in
    let did : made c.default-value.result = (_, c.default-value.ensures, c.key.ensures) in
    rw c.in-Vacant.is (
      (refl, c.insert.follows.holds, c.insert.follows.holds-at-none),
      record {
        fits = c.insert.ensures.fits;
        writes_back = tt;
        value = IfOk-weaker c.insert.result _ _ (λ v is. subst made (sym is) did) c.insert.ensures.value;
        returned = IfErr-weaker c.insert.result _ _ (λ r is. (ap (λ (e : _ × _). e.0) is, subst made (sym (ap (λ (e : _ × _). e.1) is)) did)) c.insert.ensures.returned;
        absent = IfErr-weaker c.insert.result _ _ (λ _ _. refl) c.insert.ensures.returned;
        error = c.insert.ensures.error;
      },
    )
