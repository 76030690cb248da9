-- Copies of the keys so far are these keys.
use Rattle.std.proofs.Common.{◌∙◌, ◌++◌, ◌∷◌, [], sym, ap, List, take}
use Rattle.std.proofs.lemmas.List.{take_more}
use Rattle.tsc_span.specs.Span.{KeyBytes}
use Rattle.tsc_page_nodes.proofs.nodes.changes.copy_of_keys.Goals as goal

pub loop-key-preserved : goal.loop-key-preserved
loop-key-preserved c =
    let keys : List KeyBytes = c.deref-key-items.result.now in
    let i = c.loop-key.key-index in
    c.in_ok-push.ensures.items ∙ ap (λ (ks : List KeyBytes). ks ++ c.in_ok-clone.field-0 ∷ [])
    c.loop-key.invariant
    ∙ ap (λ (k : KeyBytes). take i keys ++ k ∷ []) (c.in_ok-clone.ensures.cases ∙ c.key-item.is) ∙
    sym (take_more keys i c.key-item.result c.loop-key-test.true)
