use Rattle.vecscript.proofs.Common.{codes, refl, rules}
use Rattle.vecscript.proofs.Named.{ReadsAs-named}
use Rattle.vecscript.proofs.Table.{read-by-tests}
use Rattle.vecscript.specs.Names.{SayAfter}
use Rattle.allocator_api2.specs.declared.runner.Command.TheVariants.{Insert, Remove, Reserve, ReserveExact, SwapRemove, Truncate, Within}
use Rattle.vecscript.proofs.lines.command.Goals as goal

pub returns-in-Some : goal.returns-in-Some
returns-in-Some c = let (is, read) = c.in-Some.ensures in rw is (read-by-tests (codes "push") _ _ _ read)

pub returns-then-eq : goal.returns-then-eq
returns-then-eq c = ReadsAs-named SayAfter _ _ _ c.args.name.now (codes "within") c.element.result c.map.result (search rules) Within refl c.element.ensures (search rules)

pub returns-then-eq-3 : goal.returns-then-eq-3
returns-then-eq-3 c = ReadsAs-named SayAfter _ _ _ c.args.name.now (codes "insert") c.number_and_element.result c.map-then-eq-3.result (search rules) (λ p. Insert p.0 p.1) refl c.number_and_element.ensures (search rules)

pub returns-then-eq-4 : goal.returns-then-eq-4
returns-then-eq-4 c = ReadsAs-named SayAfter _ _ _ c.args.name.now (codes "remove") c.number.result c.map-then-eq-4.result (search rules) Remove refl c.number.ensures (search rules)

pub returns-then-eq-5 : goal.returns-then-eq-5
returns-then-eq-5 c = ReadsAs-named SayAfter _ _ _ c.args.name.now (codes "swap_remove") c.number-then-eq-5.result c.map-then-eq-5.result (search rules) SwapRemove refl c.number-then-eq-5.ensures (search rules)

pub returns-then-eq-6 : goal.returns-then-eq-6
returns-then-eq-6 c = ReadsAs-named SayAfter _ _ _ c.args.name.now (codes "truncate") c.number-then-eq-6.result c.map-then-eq-6.result (search rules) Truncate refl c.number-then-eq-6.ensures (search rules)

pub returns-then-eq-8 : goal.returns-then-eq-8
returns-then-eq-8 c = ReadsAs-named SayAfter _ _ _ c.args.name.now (codes "reserve") c.number-then-eq-8.result c.map-then-eq-8.result (search rules) Reserve refl c.number-then-eq-8.ensures (search rules)

pub returns-then-eq-9 : goal.returns-then-eq-9
returns-then-eq-9 c = ReadsAs-named SayAfter _ _ _ c.args.name.now (codes "reserve_exact") c.number-then-eq-9.result c.map-then-eq-9.result (search rules) ReserveExact refl c.number-then-eq-9.ensures (search rules)
