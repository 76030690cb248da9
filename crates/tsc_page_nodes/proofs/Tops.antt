-- No answer of a page is later than its top.
use Rattle.std.proofs.Common.{◌≡◌, ◌∙◌, ap, Bool, true, false, cond, List, [], ◌∷◌, map, arith}
use Rattle.tsc_time.specs.Time.{Time, zero_time, is_before, later}
use Rattle.tsc_time.specs.ValueView.{ValueView}
use Rattle.tsc_time.specs.Joint.{joint, latest}
use Rattle.tsc_time.proofs.TimeOrder.{is_before-reports, later-reports}
use Rattle.tsc_span.specs.Span.{SpanView, last, between, overlaps}
use Rattle.tsc_page_model.specs.Page.{Mark}
use Rattle.tsc_page_nodes.specs.Nodes.{Node, below_nodes, answer_of}
use Rattle.tsc_page_model.proofs.Tops.{none_below_zero}

-- without nodes nothing is answered above time zero
pub none_covers : (base : Time) (ns : List Node) → ns ≡ [] → (s : SpanView) →
    is_before base (answer_of ns s).time ≡ false
none_covers base ns none s = ap (λ (ms : List Node). is_before base (answer_of ms s).time) none ∙
    by (overlaps (between below_nodes.from last) s)
  where
    by : (b : Bool) → is_before base
        (latest zero_time (map (λ (m : Mark). m.value)
        (cond b (record { span = between below_nodes.from last; value = below_nodes.value } ∷ [])
        []))) ≡ false
    by true = none_below_zero base
    by false = none_below_zero base

-- an answer into which a value is ratcheted stays below a top that the value raises
pub raised_covers : (t : Time) (w v : ValueView) (b : Bool) → is_before t w.time ≡ false →
    is_before (later t v.time) (cond b (joint w (v ∷ [])) w).time ≡ false
raised_covers t w v true h = joined t v.time w.time h
  where
    joined : (a b c : Time) → is_before a c ≡ false → is_before (later a b) (later b c) ≡ false
    joined a b c h = grind (arith, is_before-reports, later-reports)
raised_covers t w v false h = kept t v.time w.time h
  where
    kept : (a b c : Time) → is_before a c ≡ false → is_before (later a b) c ≡ false
    kept a b c h = grind (arith, is_before-reports, later-reports)
