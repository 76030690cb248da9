-- Proves the contract of `find_touched_by`.
use Rattle.std.proofs.Common.{◌∙◌, ◌+◌, inl, inr, sym, ap, subst, arith, min, max, ℕ}
use Rattle.std.proofs.Common.{List, take}
use Rattle.std.proofs.lemmas.List.{take_all}
use Rattle.tsc_page_model.specs.Page.{Mark}
use Rattle.tsc_striped.specs.Touching.{first_touched, last_touched}
use Rattle.tsc_striped.specs.Cutting.{LieWithin}
use Rattle.tsc_striped.proofs.Adds.{last_there}
use Rattle.tsc_striped.proofs.Outside.{within_more}
use Rattle.tsc_striped.proofs.bounds.find_touched_by.Goals as goal

pub loop-mark-preserved : goal.loop-mark-preserved
loop-mark-preserved c =
    let bounds = c.args.bounds.now in
    let ms = c.args.marks.now in
    let m = c.mark-item.result in
    let k = c.loop-mark.mark-index in
    let touched = c.find_touched-touched.ensures in
    let span = c.borrowed.ensures ∙ ap (λ (n : Mark). n.span) c.mark.view_is in
    let first = c.min-first.ensures ∙ ap (λ (i : ℕ). min i c.loop-mark.first)
    (touched.first ∙ ap (first_touched bounds) span) in
    let last = c.max-last.ensures ∙ ap (λ (i : ℕ). max i c.loop-mark.last)
    (touched.last ∙ ap (last_touched bounds) span) in (
      omega (
        arith,
        c.max-last.ensures,
        touched.last,
        last_there bounds c.borrowed.result,
        c.loop-mark.invariant.0,
      ),
      subst (λ (i : ℕ). LieWithin bounds (take (k + 1) ms) i c.max-last.result) (sym first)
          (subst (λ (i : ℕ). LieWithin bounds (take (k + 1) ms)
          (min (first_touched bounds m.span) c.loop-mark.first) i) (sym last)
          (within_more bounds ms k m c.loop-mark.first c.loop-mark.last c.requires.order
          c.loop-mark-test.true c.mark-item.is c.loop-mark.invariant.1)),
    )

pub returns : goal.returns
returns c =
    let bounds = c.args.bounds.now in
    let all = subst (λ (ms : List Mark). LieWithin bounds ms c.loop-mark.first c.loop-mark.last)
    (take_all c.loop-mark.mark-index c.args.marks.now (omega (arith, c.loop-mark-test.false)))
    c.loop-mark.invariant.1 in record {
      onward = (omega (arith, c.min.ensures), c.loop-mark.invariant.0);
      within = λ stripe out. all stripe (elim out [
        | inl low ↦ inl (omega (arith, low, c.min.ensures))
        | inr high ↦ inr high
      ]);
    }
