use Rattle.std.proofs.Common.{◌≡◌, ℕ, subst, arith}
use Rattle.std.specs.Fn.{Called}
use Rattle.aa_inline.specs.Extending.{AppendsResults}
use Rattle.aa_inline.specs.Inlined.{Inlined}
use Rattle.aa_inline.proofs.Results.{PushesResults, results-none, results-may, results-more}
use Rattle.aa_inline.proofs.inline.InlineVec.push_results.Goals as goal

-- all results were appended
results-all : {T A F : Type 0} (N : ℕ) (takes : F → Type 0) (step : F → T → F → Type 0)
    (total : ℕ) (old : Inlined T A) (f : F) (k : ℕ) (new : Inlined T A) (g : F) → k ≡ total
    → PushesResults N takes step total old f k new g → AppendsResults step old total f g new
results-all N takes step total old f k new g e p =
    subst (λ n. AppendsResults step old n f g new) e p.appends

pub call-init : goal.call-init
call-init g c =
    results-none g.row.N (λ p. g.F.FnMut.pre p tt) (λ p y q. Called g.F.FnMut p tt y q) c.args.count
    c.args.self.now c.args.f.now c.requires.room c.requires.callable

pub result_of-requires : goal.result_of-requires
result_of-requires g c =
    results-may g.row.N (λ p. g.F.FnMut.pre p tt) (λ p y q. Called g.F.FnMut p tt y q) c.args.count
    c.args.self.now c.args.f.now c.call._done c.call.self c.call.f c.call-test.true
    c.call.invariant

pub call-preserved : goal.call-preserved
call-preserved g c =
    results-more g.row.N (λ p. g.F.FnMut.pre p tt) (λ p y q. Called g.F.FnMut p tt y q) c.args.count
    c.args.self.now c.args.f.now c.call._done c.call.self c.call.f c.call-test.true
    c.call.invariant c.result_of.result c.result_of.new.f c.put_last.new.self
    c.result_of.ensures c.put_last.ensures

pub returns : goal.returns
returns g c =
    results-all g.row.N (λ p. g.F.FnMut.pre p tt) (λ p y q. Called g.F.FnMut p tt y q) c.args.count
    c.args.self.now c.args.f.now c.call._done c.call.self c.call.f (omega arith)
    c.call.invariant
