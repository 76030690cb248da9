-- The value of the gap before a place is that of the node before it, or none.
use Rattle.std.proofs.Common.{◌≡◌, ◌∙◌, refl, ap, subst, sym, ◌-◌, ◌+◌, cond, ℕ, List, get_or, arith}
use Rattle.std.specs.Prelude.{is_some}
use Rattle.std.specs.List.{insert}
use Rattle.tsc_time.specs.Time.{zero_time}
use Rattle.tsc_time.specs.ValueView.{ValueView, unowned}
use Rattle.tsc_span.specs.Span.{KeyBytes}
use Rattle.tsc_page_nodes.specs.declared.nodes.Values.{Values}
use Rattle.tsc_page_nodes.specs.Nodes.{Node, FitsIn, with_new, node_in_gap, gap_value, paired}
use Rattle.tsc_page_nodes.specs.Insertions.{HaveRoom}
use Rattle.tsc_page_nodes.proofs.Indices.{some_node}
use Rattle.tsc_page_nodes.proofs.Edits.{gap_value-at, first_number}
use Rattle.tsc_page_nodes.proofs.Apart.{paired-length, paired-insert, gap_at}
use Rattle.tsc_page_nodes.proofs.nodes.changes.split.Goals as goal
use Rattle.tsc_page_nodes.proofs.nodes.changes.split.Goals.{in-Some-checked_sub, in-None}

pub index-requires : goal.index-requires
index-requires c =
    let fits = subst (FitsIn (paired c.args.keys.now.items c.args.values.now.items)) c.in-Some.is
    c.requires.fits in
    let before = c.in-Some-checked_sub.ensures in
    omega (
      arith,
      fits.1,
      before.0,
      before.1,
      paired-length c.args.keys.now.items c.args.values.now.items c.requires.same,
      c.args.values.now.ok.0,
    )

pub insert-requires : goal.insert-requires
insert-requires c =
    let fits = subst (FitsIn (paired c.args.keys.now.items c.args.values.now.items)) c.in-Some.is
    c.requires.fits in
    omega (
      arith,
      fits.1,
      c.requires.same,
      paired-length c.args.keys.now.items c.args.values.now.items c.requires.same,
      c.args.keys.now.ok.0,
    )

pub insert-requires-2 : goal.insert-requires-2
insert-requires-2 c =
    let fits = subst (FitsIn (paired c.args.keys.now.items c.args.values.now.items)) c.in-Some.is
    c.requires.fits in
    omega (
      arith,
      fits.1,
      paired-length c.args.keys.now.items c.args.values.now.items
          c.requires.same,
      c.args.values.now.ok.0,
    )

pub returns-clause-inserted : goal.returns-clause-inserted
returns-clause-inserted c =
    let keys : List KeyBytes = c.args.keys.now.items in
    let values : List Values = c.args.values.now.items in
    let nodes : List Node = paired keys values in
    let index : ℕ = c.in-Some.index in
    let fits = subst (FitsIn nodes) c.in-Some.is c.requires.fits in
    let value : ValueView = c.match-checked_sub.value in
    let room : HaveRoom c.args.keys.now c.args.values.now 1 =
    subst (λ o. HaveRoom c.args.keys.now c.args.values.now (cond (is_some o) 1 0)) c.in-Some.is
    c.requires.room in
    let new_keys : c.insert.new.self.items ≡ insert keys index c.in-Some.key =
    rw (c.insert.ensures.succeeds (omega (arith, room.key_room))) at c.insert.ensures.items in
    let new_values : c.insert-2.new.self.items ≡ insert values index
    (record { value = value; gap = value }) =
    rw (c.insert-2.ensures.succeeds (omega (arith, room.value_room))) at
    c.insert-2.ensures.items in
    let inserted = ap (λ (ks : List KeyBytes). paired ks c.insert-2.new.self.items) new_keys ∙
    ap (λ (vs : List Values). paired (insert keys index c.in-Some.key) vs) new_values ∙
    paired-insert keys values c.requires.same index c.in-Some.key
    (record { value = value; gap = value }) in
    let with_value = λ (v : ValueView). insert nodes index (node_in_gap c.in-Some.key v) in
    let reported = ap (with_new nodes) c.in-Some.is in
    let long = paired-length keys values c.requires.same in
    elim c.match-checked_sub.branch [
      | in-Some-checked_sub w ↦
          let before = w.in-Some-checked_sub.ensures in
          let d : Values = w.index.result.now in
          let gap = gap_at keys values nodes c.requires.same refl (index - 1) some_node d
          (omega (arith, before.0, fits.1, long)) in
          let here : d ≡ get_or values (index - 1) d = w.index.ensures ∙
          ap (λ (i : ℕ). get_or values i d) before.1 in
          inserted ∙ ap with_value
          (w.value-is ∙ ap (λ (v : Values). v.gap) here ∙ sym gap ∙
          sym (gap_value-at (unowned zero_time) nodes index some_node before.0 fits.1)) ∙
          sym reported
      | in-None w ↦ inserted ∙ ap with_value
          (w.value-is ∙ w.unowned-value.ensures ∙
          ap (gap_value (unowned zero_time) nodes) (first_number index w.in-None.ensures)) ∙
          sym reported
    ]

pub returns-clause-room : goal.returns-clause-room
returns-clause-room c more room =
    let here : HaveRoom c.args.keys.now c.args.values.now 1 =
    subst (λ o. HaveRoom c.args.keys.now c.args.values.now (cond (is_some o) 1 0)) c.in-Some.is
    c.requires.room in
    let all : HaveRoom c.args.keys.now c.args.values.now (more + 1) =
    subst (λ o. HaveRoom c.args.keys.now c.args.values.now (more + cond (is_some o) 1 0))
    c.in-Some.is room in
    let keys = rw (c.insert.ensures.succeeds (omega (arith, here.key_room))) at
    c.insert.ensures.len in
    let values = rw (c.insert-2.ensures.succeeds (omega (arith, here.value_room))) at
    c.insert-2.ensures.len in
    record {
      key_room = omega (arith, keys, all.key_room, c.insert.ensures.capacity);
      value_room = omega (arith, values, all.value_room, c.insert-2.ensures.capacity);
    }

pub returns-in_default-clause-room : goal.returns-in_default-clause-room
returns-in_default-clause-room c more room =
    let all : HaveRoom c.args.keys.now c.args.values.now (more + 0) =
    subst (λ o. HaveRoom c.args.keys.now c.args.values.now (more + cond (is_some o) 1 0))
    c.in_default.is room in
    record { key_room = omega (arith, all.key_room); value_room = omega (arith, all.value_room) }
