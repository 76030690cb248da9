-- What a slice of bytes holds is below 256.
use Rattle.std.proofs.Common.{arith, ◌<◌}
use Rattle.std.proofs.lemmas.List.Elements.{All-from_get_or}
use Rattle.tsc_span.proofs.key.bytes_of.Goals as goal

pub returns-clause-small : goal.returns-clause-small
returns-clause-small c = All-from_get_or (λ b. b < 256) c.args.bytes.now 0
    (λ i within. omega (arith, c.type_inv.bytes i))
