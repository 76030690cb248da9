-- Proves the contract of `id_of`. The id of a transaction.
use Rattle.std.proofs.Common.{◌∙◌}
use Rattle.example_hand_over.proofs.Times.{id_is}
use Rattle.example_hand_over.proofs.id_of.Goals as goal

pub returns : goal.returns
returns c = id_is _ _ _ c.from_u128.ensures (c.from-2.ensures ∙ c.from.ensures)
