use Rattle.std.proofs.Common.{rules, subst}
use Rattle.aa_table.specs.Retaining.{MayReturn}
use Rattle.aa_table.proofs.keeper.OnEntryKeeper.keeps.Goals as goal

pub returns-clause-called : goal.returns-clause-called
returns-clause-called g c =
    let call : MayReturn (goal.F-step g) c.self.inside.keep (c.args.key.now, c.args.value.now) c.call_mut.result c.call_mut.new.arg3 c.call_mut.new.self = search rules in
    subst (λ f. MayReturn (goal.F-step g) f (c.args.key.now, c.args.value.now) c.call_mut.result c.call_mut.new.arg3 c.call_mut.new.self) c.self.view_is call
