use Rattle.std.proofs.Common.{◌≡◌, ◌<◌, ◌≤◌, ℕ, ap, arith, get_or, length, length-take-le, map, min, subst, ◌+◌, sym, take, All, ◌∙◌}
use Rattle.std.proofs.lemmas.List.Elements.{All-weaker}
use Rattle.aa_ordered.specs.Arena.{heads_of, list_of, AreNumbered, IsArena, IsHeld, IsMoved}
use Rattle.aa_ordered.specs.Leaves.{LeavesView}
use Rattle.aa_ordered.specs.declared.leaves.Head.{Head}
use Rattle.aa_ordered.proofs.Arena.{count-lists, once-taken}
use Rattle.aa_ordered.proofs.Edits.{numbered-arena, numbered-lists}
use Rattle.aa_ordered.proofs.Resizing.{moved-count}
use Rattle.aa_ordered.proofs.leaves.Leaves.move_to.Goals as goal

pub move_lists-requires-clause-once : goal.move_lists-requires-clause-once
move_lists-requires-clause-once g c =
    let a = c.self.inside in
    subst (λ hs. (leaf : ℕ) → heads_of leaf (take a.used hs) ≤ 1) (sym c.as_slice-2.ensures) (once-taken a.block.places a.heads.items a.used c.self.invariant)

pub invariant_of-self : goal.invariant_of-self
invariant_of-self g c =
    let a = c.self.inside in let all = a.heads.items in let is = c.self.invariant in let hs = take a.used all in let cs = a.block.places in let ds = c.move_lists.new.to.places in let news = c.in_ok-heads.heads.items in let n = c.args.leaves in
    let count : length hs ≡ a.used = length-take-le a.used all is.lists in
    let num : AreNumbered hs n news = subst (λ xs. AreNumbered (take a.used xs) n news) c.as_slice.ensures c.in_ok-heads.ensures.heads in
    let moved : (i : ℕ) (h : Head) → i < length hs → h ≡ get_or hs i h → IsMoved cs ds i h = subst (λ xs. (i : ℕ) (h : Head) → i < length (take a.used xs) → h ≡ get_or (take a.used xs) i h → IsMoved cs ds i h) c.as_slice-2.ensures c.move_lists.ensures.lists in
    let small : All (λ h. h.len ≤ 64) hs = All-weaker (IsHeld cs) (λ h. h.len ≤ 64) (λ h p. p.0) hs is.held in
    let within : length hs ≤ n = omega (arith, count, c.requires.lists, count-lists cs all a.used is, ap (λ (v : LeavesView _). length v.lists) c.self.view_is) in
    subst (λ m. IsArena ds news m) count (numbered-arena hs news n num cs ds within small moved (omega (arith, c.in_ok-block.ensures.room, c.move_lists.ensures.count)))

pub returns-clause-moved : goal.returns-clause-moved
returns-clause-moved g c =
    let a = c.self.inside in let all = a.heads.items in let is = c.self.invariant in let hs = take a.used all in let cs = a.block.places in let ds = c.move_lists.new.to.places in let news = c.in_ok-heads.heads.items in let n = c.args.leaves in
    let count : length hs ≡ a.used = length-take-le a.used all is.lists in
    let num : AreNumbered hs n news = subst (λ xs. AreNumbered (take a.used xs) n news) c.as_slice.ensures c.in_ok-heads.ensures.heads in
    let moved : (i : ℕ) (h : Head) → i < length hs → h ≡ get_or hs i h → IsMoved cs ds i h = subst (λ xs. (i : ℕ) (h : Head) → i < length (take a.used xs) → h ≡ get_or (take a.used xs) i h → IsMoved cs ds i h) c.as_slice-2.ensures c.move_lists.ensures.lists in
    let small : All (λ h. h.len ≤ 64) hs = All-weaker (IsHeld cs) (λ h. h.len ≤ 64) (λ h p. p.0) hs is.held in
    let within : length hs ≤ n = omega (arith, count, c.requires.lists, count-lists cs all a.used is, ap (λ (v : LeavesView _). length v.lists) c.self.view_is) in
    let times = c.add.ensures ∙ ap (λ k. a.resizes.count + k) c.min.ensures ∙ ap (λ (v : LeavesView _). v.resizes + min n 1) c.self.view_is ∙ moved-count c.args.self.now n c.requires.other in (λ j. record {
      lists = (ap (λ m. map (list_of ds) (take m news)) (sym count) ∙ numbered-lists hs news n num cs ds within small moved ∙ ap (λ (v : LeavesView _). v.lists) c.self.view_is) j;
      room = num.count j;
      resizes = times j;
    })
