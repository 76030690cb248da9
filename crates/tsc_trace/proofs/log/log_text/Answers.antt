-- Proves the contract of `log_text`. The text of a log.
use Rattle.std.proofs.Common.{◌≡◌, ◌∙◌, ℕ, suc, ◌+◌, ◌<◌, ◌≤◌, List, ◌++◌, length, get_or, drop, All, arith, sym, ap, subst, append-nil, drop-cons, add-one}
use Rattle.std.proofs.lemmas.List.{drop_all}
use Rattle.std.proofs.lemmas.Grind.{common_steps}
use Rattle.std.proofs.lemmas.List.Elements.{All-cons, All-nil}
use Rattle.tsc_trace.specs.declared.log.Line.{Line}
use Rattle.tsc_trace.specs.LogText.{log_text}
use Rattle.tsc_trace.specs.LogReading.{IsWritable}
use Rattle.tsc_trace.proofs.log.log_text.Goals as goal

-- what is left is writable, where the next line is and what comes after it
one_more_left : (items : List Line) (i : ℕ) (line : Line) → i < length items →
    line ≡ get_or items i line → IsWritable line
    → All IsWritable (drop (i + 1) items) → All IsWritable (drop i items)
one_more_left items i line within here held rest =
    rw (drop-cons items i line within)
    (All-cons IsWritable (get_or items i line) (drop (suc i) items) (subst IsWritable here held)
    (rw add-one at rest))

pub loop-line-preserved : goal.loop-line-preserved
loop-line-preserved c = record {
  text = grind (arith, common_steps);
  writable = λ rest. c.loop-line.invariant.writable
      (one_more_left c.slice-line-items.result.now c.loop-line.line-index c.line-item.result
      (omega arith) c.line-item.is c.held-line.ensures.writable rest);
}

-- where no line is left, the text so far is the text of all
nothing_left : (text : List ℕ) (items lines : List Line) (i : ℕ) → items ≡ lines →
    length items ≤ i → text ++ log_text (drop i items) ≡ log_text items → text ≡ log_text lines
nothing_left text items lines i same over reported =
    sym (append-nil text) ∙ ap (λ ls. text ++ log_text ls) (sym (drop_all i items over)) ∙ reported
    ∙ ap log_text same

pub returns-clause-value : goal.returns-clause-value
returns-clause-value c =
    nothing_left c.loop-line.text.items c.slice-line-items.result.now c.args.log.now.lines
    c.loop-line.line-index c.slice-line-items.ensures c.loop-line-test.false
    c.loop-line.invariant.text

pub returns-clause-writable : goal.returns-clause-writable
returns-clause-writable c =
    let none = drop_all c.loop-line.line-index c.slice-line-items.result.now
    c.loop-line-test.false in
    subst (All IsWritable) c.slice-line-items.ensures
    (c.loop-line.invariant.writable (subst (All IsWritable) (sym none) (All-nil IsWritable)))
