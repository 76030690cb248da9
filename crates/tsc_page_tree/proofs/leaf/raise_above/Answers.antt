-- Below the lazy value, or by it alone where no node lies below the cut.
use Rattle.std.proofs.Common.{◌≡◌, ◌∙◌, sym, ap, subst, List, length, [], ◌∷◌}
use Rattle.std.specs.Prelude.{Option}
use Rattle.tsc_time.specs.ValueView.{ValueView}
use Rattle.tsc_time.specs.Joint.{joint}
use Rattle.tsc_span.specs.Span.{Cut, last, between}
use Rattle.tsc_page_nodes.specs.Nodes.{Node, raise_nodes}
use Rattle.tsc_span.proofs.CutOrder.{Le}
use Rattle.tsc_page_nodes.proofs.Edits.{raise_nodes-length}
use Rattle.tsc_page_tree.specs.Leaves.{start_of}
use Rattle.tsc_page_tree.specs.Lazy.{with_lazy, IsReportedOf}
use Rattle.tsc_page_tree.proofs.Lazy.{raise_lazy, raise_merged, raise_all, raise_each, lazy-start}
use Rattle.tsc_page_tree.proofs.AllJoint.{starts_below_last}
use Rattle.tsc_page_tree.proofs.SubtreeAcross.{reported_reached}
use Rattle.tsc_page_tree.proofs.Reported.{reported_some, reported_raised}
use Rattle.tsc_page_tree.proofs.Wholes.{reported_as}
use Rattle.tsc_page_tree.proofs.leaf.raise_above.Goals as goal
use Rattle.tsc_page_tree.proofs.leaf.raise_above.Goals.{After-raise_hinted}

-- what the nodes become
raised_is : (c : After-raise_hinted) →
    c.raise_hinted.new.self ≡ raise_nodes (between c.args.from.now last) c.args.value
    c.args.nodes.now
raised_is c = c.raise_hinted.ensures ∙
    ap (λ (z : Cut). raise_nodes (between c.args.from.now z) c.args.value c.args.nodes.now)
    c.new.ensures

pub returns-then-starts_below-clause-raised : goal.returns-then-starts_below-clause-raised
returns-then-starts_below-clause-raised c =
    let p = c.args.aggregate.now.lazy in
    let is = raised_is (goal.at.returns-then-starts_below-clause-raised c).After-raise_hinted in
    ap (λ (o : Option ValueView). with_lazy o c.raise_hinted.new.self) c.reach.ensures.lazy ∙
    ap (with_lazy p) is ∙ raise_lazy p (between c.args.from.now last) c.args.value
    c.args.nodes.now

pub returns-then-starts_below-clause-reported : goal.returns-then-starts_below-clause-reported
returns-then-starts_below-clause-reported c =
    let s = c.args.aggregate.now in
    let ns : List Node = c.args.nodes.now in
    let v : ValueView = c.args.value in
    let is = raised_is (goal.at.returns-then-starts_below-clause-reported c).After-raise_hinted in
    let reached = reported_reached s.start s.joint v s.lazy c.args.from.now last ns
    c.requires.sorted
    c.requires.order (starts_below_last (with_lazy s.lazy ns)
    (reported_some s.start s.joint s.lazy ns c.requires.reported)) c.requires.reported in
    reported_as s.start c.reach.new.self.start _ c.reach.new.self.joint _ c.reach.new.self.lazy
    c.raise_hinted.new.self c.reach.ensures.start c.reach.ensures.joint c.reach.ensures.lazy
    (subst (λ (ms : List Node). IsReportedOf s.start (joint s.joint (v ∷ [])) s.lazy ms) (sym is)
    reached)

pub returns-then-starts_below-clause-len : goal.returns-then-starts_below-clause-len
returns-then-starts_below-clause-len c =
    ap length (raised_is (goal.at.returns-then-starts_below-clause-len c).After-raise_hinted) ∙
    raise_nodes-length (between c.args.from.now last) c.args.value c.args.nodes.now

pub returns-else-starts_below-clause-raised : goal.returns-else-starts_below-clause-raised
returns-else-starts_below-clause-raised c =
    let p = c.args.aggregate.now.lazy in
    let ns : List Node = c.args.nodes.now in
    let f : Cut = c.args.from.now in
    let v : ValueView = c.args.value in
    let low : Le f (start_of (with_lazy p ns)) =
    subst (Le f) (sym (lazy-start p ns))
    (sym c.starts_below.ensures ∙ c.if-starts_below.false) in
    ap (λ (o : Option ValueView). with_lazy o ns) c.raise.ensures.lazy ∙ raise_merged p v ns ∙
    raise_all v (with_lazy p ns) c.requires.sorted ∙
    sym (raise_each f v (with_lazy p ns) c.requires.sorted low)

pub returns-else-starts_below-clause-reported : goal.returns-else-starts_below-clause-reported
returns-else-starts_below-clause-reported c =
    let s = c.args.aggregate.now in
    let ns : List Node = c.args.nodes.now in
    reported_as s.start c.raise.new.self.start _ c.raise.new.self.joint _ c.raise.new.self.lazy ns
    c.raise.ensures.start c.raise.ensures.joint c.raise.ensures.lazy
    (reported_raised s.start s.joint c.args.value s.lazy ns c.requires.sorted c.requires.reported)
