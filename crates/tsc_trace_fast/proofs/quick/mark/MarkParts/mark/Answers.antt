-- Proves the contract of `MarkParts::mark`. Makes the mark that the members are.
use Rattle.std.proofs.Common.{◌∙◌, ap, sym, Ok}
use Rattle.std.specs.Prelude.{unwrap_or}
use Rattle.tsc_time.specs.ValueView.{owner_of}
use Rattle.tsc_trace_fast.proofs.MarkMembers.{mark_is}
use Rattle.tsc_trace_fast.proofs.quick.mark.MarkParts.mark.Goals as goal

pub returns : goal.returns
returns c = λ found h.
    let at = c.in_ok-self.field-0 in
    mark_is found c.args.self c.in_ok-span.span at h (cc) (cc)
    ∙ ap (λ v. Ok (record { span = c.in_ok-span.span; value = v }))
    (sym (c.of-value.ensures ∙
    ap (λ u. record { time = at; owner = owner_of u })
    (c.unwrap_or.ensures ∙ ap (unwrap_or c.args.self.owner) c.nil.ensures)))
