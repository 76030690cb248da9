-- An object is a span by the members that a span may have, and by no other.
use Rattle.std.proofs.Common.{◌≡◌, ◌∙◌, sym, true, false, Option, Result, Ok, Err, refl}
use Rattle.std.specs.Prelude.{codes}
use Rattle.std.proofs.lemmas.Result.{err_from_is_err_and}
use Rattle.serde_json.specs.Data.{Data, Members}
use Rattle.serde_json.specs.Find.{get_member}
use Rattle.serde_json.specs.View.{view}
use Rattle.tsc_trace_format.specs.declared.read.part.PartFault.TheVariants.{Shape}
use Rattle.tsc_trace_format.specs.declared.read.part.Refusal.{Refusal}
use Rattle.tsc_trace_format.specs.declared.read.part.Refusal.TheVariants as refusal
use Rattle.tsc_trace_format.specs.declared.read.span.SpanForm.{SpanForm}
use Rattle.tsc_trace_format.specs.Reading.{Refuses, Gives}
use Rattle.tsc_trace_format.specs.TraceText.{object_of, names_only, needed, span_names, form_of, span_form}
use Rattle.tsc_trace_format.proofs.read.span.span_form.Goals as goal

has_others : (d : Data) (ms : Members) → object_of d ≡ Ok ms → names_only span_names ms ≡ false →
    span_form d ≡ Err Shape
unfolding span_form
has_others d ms is only = rw (is, only) refl

has_no_start : (e : Refusal) (d : Data) (ms : Members) → object_of d ≡ Ok ms →
    names_only span_names ms ≡ true → Refuses e (needed (codes "start") ms) →
    Refuses e (span_form d)
unfolding span_form
has_no_start refusal.Memory d ms is only none = tt
has_no_start (refusal.Fault fault) d ms is only none = rw (is, only, none) refl

has_form : (d : Data) (ms : Members) (start : Data) (end ends side : Option Data)
    (r : Result SpanForm Refusal) → object_of d ≡ Ok ms → names_only span_names ms ≡ true →
    needed (codes "start") ms ≡ Ok start
    → end ≡ get_member (codes "end") ms → ends ≡ get_member (codes "ends") ms →
    side ≡ get_member (codes "onward") ms →
    Gives (λ form. form) r (form_of start end ends side) → Gives (λ form. form) r (span_form d)
unfolding span_form
has_form d ms start end ends side r is only first second third fourth gives =
    rw (is, only, first, sym second, sym third, sym fourth) gives

pub returns-then-not-has_only : goal.returns-then-not-has_only
returns-then-not-has_only c = has_others (view c.args.value.now) _ c.in_ok-members.ensures
    (sym c.has_only.ensures ∙ c.if-not-has_only.true)

pub returns-in_err-start : goal.returns-in_err-start
returns-in_err-start c =
    let p = err_from_is_err_and c.from_residual-in_err-start.result
    c.from_residual-in_err-start.ensures.1 in
    rw (p.1, p.2) (has_no_start c.in_err-start.field-0.0 (view c.args.value.now) _
    c.in_ok-members.ensures (sym c.has_only.ensures ∙ c.if-not-has_only.false)
    c.in_err-start.ensures)

pub returns : goal.returns
returns c =
    has_form (view c.args.value.now) _ (view c.in_ok-start.start.now) _ _ _ c.form.result
    c.in_ok-members.ensures (sym c.has_only.ensures ∙ c.if-not-has_only.false)
    c.in_ok-start.ensures
    c.optional-end.ensures c.optional-ends.ensures c.optional-onward.ensures c.form.ensures
