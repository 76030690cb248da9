-- What inserting makes of all that can be seen of a page.
use Rattle.std.proofs.Common.{◌≡◌, ◌∙◌, sym, ap, refl, subst, ◌++◌, ◌≤◌, ℕ, List, Bool, true, false, Ok, arith}
use Rattle.std.specs.Prelude.{Option, Some, None}
use Rattle.std.proofs.lemmas.Bool.{le-leb, lt-leb}
use Rattle.tsc_time.specs.Time.{Time, later}
use Rattle.tsc_time.specs.ValueView.{ValueView}
use Rattle.tsc_span.specs.Span.{SpanView, between, end_keys, key_cost}
use Rattle.tsc_page_model.specs.Page.{with_mark, cost_distinct}
use Rattle.tsc_page_model.specs.PageView.{PageView, Represents, NoAnswerAboveTop, is_in, has_room_for}
use Rattle.tsc_page_model.specs.PageAdds.{AddsMark, IsMarkedReported}
use Rattle.tsc_page_nodes.specs.Insertions.{InsertionView}
use Rattle.tsc_page_nodes.specs.Nodes.{Node, answer_of, node_keys, nodes_cost, page_of}
use Rattle.tsc_page_tree.specs.Roots.{TreeView, Inserts, IsFullFor}
use Rattle.tsc_page.specs.Tries.{IsMarkTried}
use Rattle.tsc_page_nodes.proofs.Costs.{cost-raised}
use Rattle.tsc_page_nodes.proofs.Standing.{split_weight, added_keys, added_answers, added_covers, added_stands}

-- a tree that is full has no room for the span
pub no_room : (size : ℕ) (t : Time) (tree : TreeView) (a : InsertionView) (v : PageView)
    (s : SpanView) →
    between a.from a.to ≡ s → page_of size t tree.nodes tree.sizes ≡ v → IsFullFor tree a size →
    has_room_for v s ≡ false
no_room size t tree a v s span view full =
    subst (λ (w : PageView). has_room_for w s ≡ false) view
    (subst (λ (x : SpanView). has_room_for (page_of size t tree.nodes tree.sizes) x ≡ false)
    span (lt-leb (cost_distinct (node_keys tree.nodes ++ end_keys (between a.from a.to)))
    size full))

module _ (size : ℕ) (t u : Time) (old new : TreeView) (a : InsertionView)
    (inserts : Inserts old new a size) (is : u ≡ later t a.value.time) where
  pub page_adds : AddsMark (page_of size t old.nodes old.sizes) (page_of size u new.nodes new.sizes)
      (between a.from a.to) a.value
  page_adds =
      let mid : List Node = inserts.adds.mid in
      let split = inserts.adds.split in
      let raised = inserts.adds.raised in
      let costs = ap (λ (ns : List Node). nodes_cost ns) raised ∙
      cost-raised (between a.from a.to) a.value mid ∙
      split_weight key_cost old.nodes mid (between a.from a.to) split in
      let few : cost_distinct (node_keys old.nodes ++ end_keys (between a.from a.to)) ≤ size =
      omega (arith, inserts.within, inserts.known.bytes, costs) in
      record {
        room = le-leb (cost_distinct (node_keys old.nodes ++ end_keys (between a.from a.to)))
            size few;
        stands = λ p stood. subst (λ (ns : List Node). Represents (page_of size u ns new.sizes)
            (with_mark p (record { span = between a.from a.to; value = a.value }))) (sym raised)
            (added_stands old.nodes mid a.from a.to inserts.order a.value split old.sizes new.sizes
            size t u p stood is);
        size = refl;
        top = is;
        keys = λ k. ap (λ (ns : List Node). is_in k (node_keys ns)) raised ∙
            added_keys old.nodes mid a.from a.to inserts.order a.value split k;
        answers = λ s. ap (λ (ns : List Node). answer_of ns s) raised ∙
            added_answers old.nodes mid a.from a.to inserts.order a.value split s;
      }

  pub page_covers : NoAnswerAboveTop (page_of size t old.nodes old.sizes) →
      NoAnswerAboveTop (page_of size u new.nodes new.sizes)
  page_covers covers =
      subst (λ (ns : List Node). NoAnswerAboveTop (page_of size u ns new.sizes))
      (sym inserts.adds.raised)
      (added_covers old.nodes inserts.adds.mid a.from a.to inserts.order a.value inserts.adds.split
      old.sizes new.sizes size t u covers is)

-- what a call tells that may leave the page as it is, by its answer
pub was_marked : (E : Type 0) (d : Bool) (old new : PageView) (s : SpanView) (v : ValueView) →
    d ≡ true → IsMarkTried {E = E} old new s v (Ok d) → AddsMark old new s v
was_marked E d old new s v is reported =
    subst (λ (b : Bool). IsMarkTried {E = E} old new s v (Ok b)) is reported

pub was_unmarked : (E : Type 0) (d : Bool) (old new : PageView) (s : SpanView) (v : ValueView) →
    d ≡ false → IsMarkTried {E = E} old new s v (Ok d) → new ≡ old
was_unmarked E d old new s v is reported =
    subst (λ (b : Bool). IsMarkTried {E = E} old new s v (Ok b)) is reported
