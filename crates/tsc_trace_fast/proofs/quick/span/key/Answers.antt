-- Proves the contract of `key`. A key.
use Rattle.serde_json.specs.Data.{string}
use Rattle.tsc_trace_format.specs.TraceText.{key_of}
use Rattle.std.proofs.Common.{refl}
use Rattle.tsc_trace_fast.proofs.Values.{got_as}
use Rattle.tsc_trace_fast.proofs.quick.span.key.Goals as goal

pub returns : goal.returns
returns c = got_as 0 key_of c.args.reader.now c.text.new.reader (string c.in_ok-digits.digits.now)
    c.key_by_text.result _ c.in_ok-digits.ensures refl c.key_by_text.ensures
