-- Proves the contract of `see_end`. A load tells it.
use mathlib.Core.Option as maybe
use Rattle.atomic_table.specs.Table.{step}
use Rattle.tsc_striped.proofs.SeeingEnds.{end_allowed}
use Rattle.tsc_striped.proofs.retiring.see_end.Goals as goal

pub load-requires : goal.load-requires
load-requires c = (
  c.requires.table.0,
  c.requires.table.1,
  end_allowed c.args.shared.now.key c.args.shared.now.table_id.slots
      (step c.args.shared.now.table_id.slots 0 0 0 maybe.none) c.args.all.id 0 c.args.all.me,
)

pub returns : goal.returns
returns c = c.load.ensures.2 c.requires.all
