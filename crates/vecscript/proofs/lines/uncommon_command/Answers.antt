use Rattle.vecscript.proofs.Common.{ExtractIf, SplitOff, codes, refl, rules}
use Rattle.vecscript.proofs.Named.{ReadsAs-named}
use Rattle.vecscript.specs.Names.{SayAfterUncommon}
use Rattle.allocator_api2.specs.declared.runner.Command.TheVariants.{Drain, ExtendFromWithin, Resize, ShrinkTo}
use Rattle.vecscript.proofs.lines.uncommon_command.Goals as goal

pub returns-then-eq : goal.returns-then-eq
returns-then-eq c = ReadsAs-named SayAfterUncommon _ _ _ c.args.name.now (codes "shrink_to") c.number.result c.map.result (search rules) ShrinkTo refl c.number.ensures (search rules)

pub returns-then-eq-2 : goal.returns-then-eq-2
returns-then-eq-2 c = ReadsAs-named SayAfterUncommon _ _ _ c.args.name.now (codes "split_off") c.number-then-eq-2.result c.map-then-eq-2.result (search rules) SplitOff refl c.number-then-eq-2.ensures (search rules)

pub returns-then-eq-4 : goal.returns-then-eq-4
returns-then-eq-4 c =
    ReadsAs-named SayAfterUncommon _ _ _ c.args.name.now (codes "extend_from_within") c.numbers.result c.map-then-eq-4.result (search (rules, c.if-eq-4.ensures, c.as_slice-4.ensures)) (λ p. ExtendFromWithin p.0 p.1) refl c.numbers.ensures (search rules)

pub returns-then-eq-5 : goal.returns-then-eq-5
returns-then-eq-5 c = ReadsAs-named SayAfterUncommon _ _ _ c.args.name.now (codes "resize") c.number_and_element.result c.map-then-eq-5.result (search rules) (λ p. Resize p.0 p.1) refl c.number_and_element.ensures (search rules)

pub returns-then-eq-8 : goal.returns-then-eq-8
returns-then-eq-8 c = ReadsAs-named SayAfterUncommon _ _ _ c.args.name.now (codes "drain") c.drain.result c.map-then-eq-8.result (search rules) (λ p. Drain p.0 p.1 p.2 p.3 p.4) refl c.drain.ensures (search rules)

pub returns-then-eq-9 : goal.returns-then-eq-9
returns-then-eq-9 c = ReadsAs-named SayAfterUncommon _ _ _ c.args.name.now (codes "extract") c.three_numbers.result c.map-then-eq-9.result (search rules) (λ p. ExtractIf p.0 p.1 p.2) refl c.three_numbers.ensures (search rules)
