-- Proves the contract of `owner_name`. The name of an owner.
use Rattle.std.proofs.Common.{Ok, sym, ap, ◌∙◌}
use Rattle.std.proofs.lemmas.Result.{err_from_is_err_and}
use Rattle.serde_json.specs.View.{view}
use Rattle.tsc_time.specs.ValueView.{owner_of}
use Rattle.tsc_trace_format.proofs.Owners.{null_owner, no_text, text_owner}
use Rattle.tsc_trace_format.proofs.read.call.owner_name.Goals as goal

pub returns-then-is_null : goal.returns-then-is_null
returns-then-is_null c = null_owner (view c.args.value.now)
    (sym c.is_null.ensures ∙ c.if-is_null.true) ∙
    ap (λ uuid. Ok (owner_of uuid)) (sym c.nil.ensures)

pub returns-in_err-text : goal.returns-in_err-text
returns-in_err-text c =
    let p = err_from_is_err_and c.from_residual.result c.from_residual.ensures.1 in
    rw (p.1, p.2) (no_text c.in_err-text.field-0.0 (view c.args.value.now)
    (sym c.is_null.ensures ∙ c.if-is_null.false) c.in_err-text.ensures)

pub returns : goal.returns
returns c = text_owner (view c.args.value.now) c.in_ok-text.field-0.now c.owner_by_text.result
    c.in_ok-text.ensures c.owner_by_text.ensures
