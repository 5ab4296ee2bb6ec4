use Rattle.std.proofs.Common.{[], arith, ap, length, sym, ◌∙◌}
use Rattle.aa_raw.proofs.Runs.{length-run, run-is}
use Rattle.aa_ordered.proofs.Arena.{head-held, seen-count, seen-get, seen-list}
use Rattle.aa_ordered.proofs.leaves.Leaves.list.Goals as goal

pub returns-clause-list : goal.returns-clause-list
returns-clause-list g c =
    let a = c.self.inside in let h = c.index-head.result.now in let cs = a.block.places in
    sym (seen-list cs a.heads.items a.used c.self.invariant c.args.i h c.index-head.ensures c.args.self.now c.self.view_is [] c.requires ∙ run-is cs _ _ c.slice.result.now c.slice.ensures)

pub returns-clause-get : goal.returns-clause-get
returns-clause-get g c =
    let a = c.self.inside in let h = c.index-head.result.now in let cs = a.block.places in
    seen-get cs a.heads.items a.used c.self.invariant c.args.i h c.index-head.ensures c.args.self.now c.self.view_is c.slice.result.now c.requires (run-is cs _ _ c.slice.result.now c.slice.ensures)

pub returns-clause-within : goal.returns-clause-within
returns-clause-within g c =
    let a = c.self.inside in let h = c.index-head.result.now in let cs = a.block.places in
    let used = seen-count cs a.heads.items a.used c.self.invariant c.args.i h c.index-head.ensures c.args.self.now c.self.view_is in
    let held = head-held cs a.heads.items a.used c.self.invariant c.args.i h c.index-head.ensures (omega (arith, used, c.requires)) in
    let long = ap length (run-is cs _ _ c.slice.result.now c.slice.ensures) in
    omega (arith, held.0, long, length-run cs _ _ held.1)
