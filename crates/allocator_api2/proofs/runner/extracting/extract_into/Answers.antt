use Rattle.allocator_api2.proofs.Common.{rules, CalledAtMut}
use Rattle.allocator_api2.proofs.ExtractParts.{chosen}
use Rattle.allocator_api2.proofs.runner.extracting.extract_into.Goals as goal

pub returns : goal.returns
returns g c =
    let done = chosen (CalledAtMut g.K.FnMut) c.args.main.now c.args.side.now c.args.keep.now
    c.args.part.range.start c.args.part.range.end c.args.part.most c.requires.range
    c.extract_by-items.result c.extract_by-items.ensures.taken
    c.take_chosen.new.keep c.take_chosen.new.range c.take_chosen.new.side c.take_chosen.ensures
    c.drop-items.new.self.0 c.drop-items.ensures in
    let lender = c.take_chosen.ensures.extracted.lender in
    search rules
