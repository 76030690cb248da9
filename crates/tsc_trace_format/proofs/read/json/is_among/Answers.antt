-- Proves the contract of `is_among`. Whether a name is one of these.
use Rattle.std.proofs.Common.{sym, ◌∙◌, arith}
use Rattle.std.specs.Str.{bytes_eq}
use Rattle.tsc_trace_format.proofs.Items.{any_at}
use Rattle.tsc_trace_format.proofs.read.json.is_among.Goals as goal

pub returns-then-eq : goal.returns-then-eq
returns-then-eq c = sym (any_at (bytes_eq c.args.name.now) c.args.names.now c.loop-known.known-index
    _ (omega arith) (sym c.eq.ensures ∙ c.if-eq.true))
