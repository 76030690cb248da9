-- A new key comes in behind the first node.
use Rattle.std.proofs.Common.{◌≡◌, ◌∙◌, refl, ap, List, arith, subst}
use Rattle.std.specs.Prelude.{Some}
use Rattle.tsc_span.specs.Span.{point, KeyBytes}
use Rattle.tsc_page_nodes.specs.Nodes.{Node, paired, with_new, raise_nodes, IsSorted}
use Rattle.tsc_page_nodes.proofs.Apart.{kept_pair}
use Rattle.tsc_page_nodes.proofs.Searches.{new_at}
use Rattle.tsc_page_nodes.proofs.NewKeys.{new_fits}
use Rattle.tsc_page_nodes.proofs.KeyAdds.{new_added}
use Rattle.tsc_page_nodes.proofs.PairedOrder.{paired_by, paired_raised, with_new-sorted}
use Rattle.tsc_page_nodes.proofs.nodes.Nodes.insert_key.Goals as goal

pub returns : goal.returns
returns c =
    let ns : List Node = c.args.self.now in
    let kept : paired c.in-Some.keys.now.items c.self.inside.values.items ≡ ns =
    kept_pair _ c.in-Some.keys.now.items _ c.self.inside.values.items ns
    (ap (λ v. v.items) c.in-Some.ensures.value) refl c.self.view_is in
    let added = c.in_ok-insert.ensures.added ∙
    ap (λ (ms : List Node). raise_nodes (point c.args.add.now.key) c.args.add.now.value
    (with_new ms (Some (c.args.index, c.args.add.now.key)))) kept in
    record {
      reported = new_added ns _ c.args.add.now.key c.args.add.now.value c.args.index
          c.cost.result c.args.room (omega (arith, c.if-index-eq0.false)) c.requires.falls
          c.cost.ensures.value (omega (arith, c.if-room-more.false))
          (omega (arith, c.if-room-more-2.false)) added;
    }

pub invariant_of-self-in_err-insert : goal.invariant_of-self-in_err-insert
invariant_of-self-in_err-insert c =
    let ns : List Node = c.args.self.now in
    let kept : paired c.in-Some.keys.now.items c.self.inside.values.items ≡ ns =
    kept_pair _ c.in-Some.keys.now.items _ c.self.inside.values.items ns
    (ap (λ v. v.items) c.in-Some.ensures.value) refl c.self.view_is in
    paired_by _ _ ns c.insert.ensures.same (c.in_err-insert.ensures.unchanged ∙ kept)
    (subst IsSorted c.self.view_is c.self.invariant.sorted)

pub invariant_of-self-2 : goal.invariant_of-self-2
invariant_of-self-2 c =
    let ns : List Node = c.args.self.now in
    let k : KeyBytes = c.args.add.now.key in
    let kept : paired c.in-Some.keys.now.items c.self.inside.values.items ≡ ns =
    kept_pair _ c.in-Some.keys.now.items _ c.self.inside.values.items ns
    (ap (λ v. v.items) c.in-Some.ensures.value) refl c.self.view_is in
    let added = c.in_ok-insert.ensures.added ∙
    ap (λ (ms : List Node). raise_nodes (point k) c.args.add.now.value
    (with_new ms (Some (c.args.index, k)))) kept in
    let sorted : IsSorted ns = subst IsSorted c.self.view_is c.self.invariant.sorted in
    let fresh = new_at ns k c.args.index k refl c.requires.falls in
    paired_raised _ _ (point k) c.args.add.now.value (with_new ns (Some (c.args.index, k)))
    c.insert.ensures.same added (with_new-sorted ns (Some (c.args.index, k)) sorted
    (new_fits ns (Some k) (Some (c.args.index, k)) fresh))
