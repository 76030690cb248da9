-- One more line stands in its slot. (What answers share is stated in each: the facts `c` of each
-- goal have a type of their own.)
use Rattle.std.proofs.Common.{◌≡◌, ◌∙◌, sym, ap, refl, length, get_or, Some, arith}
use Rattle.std.specs.Prelude.{slice_get}
use Rattle.std.proofs.lemmas.Option.{slice_get_read}
use Rattle.tsc_check.proofs.Slots.{fine_line, more_add, more_lookup}
use Rattle.tsc_check.proofs.order.Order.put.Goals as goal

pub returns-then-is_add : goal.returns-then-is_add
returns-then-is_add c =
    let o = c.args.self.now in
    let lines = c.args.lines.now in
    let line = c.index-lines-i.result in
    let at : slice_get lines c.args.i ≡ Some line =
    slice_get_read lines (length lines) c.args.i line refl c.requires.index
    c.index-lines-i.is in
    let is = c.index-before.ensures ∙
    ap (λ k. get_or o.lookups.items k c.index-before.result.now) c.front-slot.ensures in
    rw (c.front-slot.ensures, c.in_ok-push.ensures.items, c.reach.ensures)
    (more_add o.adds.items o.lookups.items o.earlier.items o.reached.items lines c.args.i line
    c.requires.placed at c.requires.fine (sym c.if-is_add.ensures) c.index-before.result.now is)

pub returns-else-is_add : goal.returns-else-is_add
returns-else-is_add c =
    let o = c.args.self.now in
    let lines = c.args.lines.now in
    let line = c.index-lines-i.result in
    let at : slice_get lines c.args.i ≡ Some line =
    slice_get_read lines (length lines) c.args.i line refl c.requires.index
    c.index-lines-i.is in
    let is = c.index-before.ensures ∙
    ap (λ k. get_or o.lookups.items k c.index-before.result.now) c.front-slot.ensures in
    rw (c.front-slot.ensures, c.in_ok-push.ensures.items, c.reach.ensures)
    (more_lookup o.adds.items o.lookups.items o.earlier.items o.reached.items lines c.args.i line
    c.requires.placed at c.requires.fine (sym c.if-is_add.ensures) c.index-before.result.now is)

pub index_mut-requires : goal.index_mut-requires
index_mut-requires c =
    let o = c.args.self.now in
    let lines = c.args.lines.now in
    let line = c.index-lines-i.result in
    let at : slice_get lines c.args.i ≡ Some line =
    slice_get_read lines (length lines) c.args.i line refl c.requires.index
    c.index-lines-i.is in
    let within = c.requires.placed.of_lists c.args.i line at in
    omega (arith, within, o.reached.ok.0)

pub index_mut-requires-then-is_add : goal.index_mut-requires-then-is_add
index_mut-requires-then-is_add c =
    let o = c.args.self.now in
    let lines = c.args.lines.now in
    let line = c.index-lines-i.result in
    let at : slice_get lines c.args.i ≡ Some line =
    slice_get_read lines (length lines) c.args.i line refl c.requires.index
    c.index-lines-i.is in
    let fine = fine_line lines c.args.i line at c.requires.fine in
    omega (arith, fine.within, c.requires.placed.add_slots, c.front-slot.ensures, o.adds.ok.0)

pub index_mut-requires-else-is_add : goal.index_mut-requires-else-is_add
index_mut-requires-else-is_add c =
    let o = c.args.self.now in
    let lines = c.args.lines.now in
    let line = c.index-lines-i.result in
    let at : slice_get lines c.args.i ≡ Some line =
    slice_get_read lines (length lines) c.args.i line refl c.requires.index
    c.index-lines-i.is in
    let fine = fine_line lines c.args.i line at c.requires.fine in
    omega (arith, fine.within, c.requires.placed.lookup_slots, c.front-slot.ensures, o.lookups.ok.0)
