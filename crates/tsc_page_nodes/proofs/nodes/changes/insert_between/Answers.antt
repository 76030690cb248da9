-- Both new keys have nodes before the value is ratcheted in.
use Rattle.std.proofs.Common.{◌∙◌, ap, sym, subst, List, arith}
use Rattle.tsc_span.specs.Span.{between}
use Rattle.tsc_page_nodes.specs.Nodes.{Node, IsSorted, FitsIn, paired, with_new, raise_nodes}
use Rattle.tsc_page_nodes.specs.Insertions.{InsertionView}
use Rattle.tsc_page_nodes.proofs.nodes.changes.insert_between.Goals as goal

pub split-requires-clause-room : goal.split-requires-clause-room
split-requires-clause-room c = record {
  key_room = omega (arith, c.requires.room.key_room);
  value_room = omega (arith, c.requires.room.value_room);
}

pub split-requires-2-clause-fits : goal.split-requires-2-clause-fits
split-requires-2-clause-fits c = subst (λ (ns : List Node). FitsIn ns c.args.new.first)
    (sym c.split.ensures.inserted) c.requires.ready.first

pub split-requires-2-clause-room : goal.split-requires-2-clause-room
split-requires-2-clause-room c = c.split.ensures.room _ c.requires.room

pub raise_values-requires-clause-sorted : goal.raise_values-requires-clause-sorted
raise_values-requires-clause-sorted c =
    let made = c.split-2.ensures.inserted ∙
    ap (λ (ns : List Node). with_new ns c.args.new.first) c.split.ensures.inserted in
    subst IsSorted (sym (ap (λ ks. paired ks c.split-2.new.values.items) c.as_slice.ensures.value ∙
    made)) c.requires.ready.sorted

pub raise_values-requires-clause-order : goal.raise_values-requires-clause-order
raise_values-requires-clause-order c = c.add.invariant.0

pub returns-clause-added : goal.returns-clause-added
returns-clause-added c =
    let made = c.split-2.ensures.inserted ∙
    ap (λ (ns : List Node). with_new ns c.args.new.first) c.split.ensures.inserted in
    let before = ap (λ ks. paired ks c.split-2.new.values.items) c.as_slice.ensures.value ∙ made in
    let both : List Node = with_new
    (with_new (paired c.args.keys.now.items c.args.values.now.items) c.args.new.second)
    c.args.new.first in
    ap (λ ks. paired ks c.raise_values.new.values.items) (sym c.as_slice.ensures.value) ∙
    c.raise_values.ensures.raised
    ∙ ap (raise_nodes (between c.add.inside.from.now c.add.inside.to.now) c.add.inside.value) before
    ∙ ap (λ (b : InsertionView). raise_nodes (between b.from b.to) b.value both) c.add.view_is
