-- Proves the contract of `json_value`. The JSON value that bytes are.
use Rattle.std.proofs.Common.{inr, refl, sym, ◌∙◌, true≢false}
use Rattle.serde_json.specs.View.{view}
use Rattle.tsc_trace_format.proofs.Texts.{is_json, is_no_json}
use Rattle.tsc_trace_format.proofs.read.json_value.Goals as goal

pub returns-in-Ok-clause-ok : goal.returns-in-Ok-clause-ok
returns-in-Ok-clause-ok c = is_json c.args.bytes.now (view c.in-Ok.value) c.in-Ok.ensures.ok.0
    c.in-Ok.ensures.ok.1

pub returns-else-is_memory-clause-err : goal.returns-else-is_memory-clause-err
returns-else-is_memory-clause-err c =
    inr (
      refl,
      is_no_json c.args.bytes.now
          (λ text. c.in-Err.ensures.err
          (λ memory. true≢false (sym (c.is_memory.ensures.1 memory) ∙ c.if-is_memory.false)) text),
    )
