-- Proves the contract of `id_of`. The id of a transaction.
use Rattle.std.proofs.Common.{◌∙◌, arith}
use Rattle.example_lease_holder.proofs.Plans.{same_name, id_is}
use Rattle.example_lease_holder.proofs.id_of.Goals as goal

pub returns-clause-value : goal.returns-clause-value
returns-clause-value c = id_is _ _ _ c.from_u128.ensures (c.from-2.ensures ∙ c.from.ensures)

pub returns-clause-own : goal.returns-clause-own
returns-clause-own c =
    let value = id_is c.args.name c.from-2.result c.from_u128.result c.from_u128.ensures
    (c.from-2.ensures ∙ c.from.ensures) in
    λ other small same. same_name other c.args.name small (omega arith) (same ∙ value)
