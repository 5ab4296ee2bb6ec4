use Rattle.aa_gap.proofs.Common.{IsRun, ap, arith, length, length-run, ◌+◌, ◌-◌, ◌<◌, ◌≤◌}
use Rattle.aa_gap.proofs.Parts.{HasGap-parted, free-parted}
use Rattle.aa_gap.proofs.gap_buffer.GapBuffer.make_room.Goals as goal

pub invariant_of-self : goal.invariant_of-self
invariant_of-self g c =
    let v = c.self.inside in let new = c.try_reserve_parted.new.self in let cs = v.block.places in
    let tail = c.capacity.result - v.end in let view = c.self.view_is in
    let made = c.in-Ok.ensures.reserved.made in
    let ends : IsRun cs v.end tail = rw c.capacity.ensures.count c.self.invariant.after in
    let full : length cs < v.start + tail + c.args.additional = omega (
      arith,
      c.requires,
      ap (λ b. b.capacity) view,
      ap (λ b. length b.before) view,
      ap (λ b. length b.after) view,
      length-run cs 0 v.start c.self.invariant.before,
      length-run cs v.end (length cs - v.end) c.self.invariant.after,
      c.capacity.ensures.count,
      c.self.invariant.between,
      ends.0,
    ) in
    let fit : v.start + tail ≤ length new.places = omega (arith, made.room) in
    rw c.capacity-in-Ok.ensures.count
    (HasGap-parted v.block new v.start v.end tail (c.in-Ok.ensures.parted full) fit
    (free-parted _ v.block new v.start v.end tail c.args.additional _ made full
    c.self.invariant.before ends))
