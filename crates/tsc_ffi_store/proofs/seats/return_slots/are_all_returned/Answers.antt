-- It may look at the next word. Where that is 0, its seat is missing.
use Rattle.std.proofs.Common.{◌∙◌, refl, arith, rules}
use mathlib.Core.Option as maybe
use Rattle.atomic_table.specs.Table.{step}
use Rattle.tsc_ffi_store.proofs.Returning.{look_at}
use Rattle.tsc_ffi_store.proofs.Looking.{looks_in_vain, still_keeps}
use Rattle.tsc_ffi_store.proofs.seats.return_slots.are_all_returned.Goals as goal

pub load-requires : goal.load-requires
load-requires c =
    let words = c.requires.known.sized.words in let low = c.loop-returned-test.true in (
      c.loop-returned.invariant.0 ∙ c.requires.known.its_table,
      omega (arith, words, low),
      look_at c.args.slots.now.key c.args.slots.now.table_id.slots
          (step c.args.slots.now.table_id.slots c.loop-returned.returned 0 0 maybe.none)
          c.loop-returned.keeper.id c.args.seats c.loop-returned.returned
          c.args.keeper.now.me.0.back c.args.keeper.now.me.0.missed c.loop-returned.keeper.me
          c.loop-returned.invariant.1 refl,
    )

pub returns-then-load-eq0-clause-missed : goal.returns-then-load-eq0-clause-missed
returns-then-load-eq0-clause-missed c _ =
    looks_in_vain c.args.slots.now.key c.args.seats c.loop-returned.returned c.args.keeper.now.me.0
    (step c.args.slots.now.table_id.slots c.loop-returned.returned 0 0 maybe.none) c.load.result
    c.loop-returned.keeper.me c.load.new.seat.me c.loop-returned.invariant.1
    c.loop-returned-test.true refl (search rules) c.load.ensures.2

pub returns-then-load-eq0-clause-known : goal.returns-then-load-eq0-clause-known
returns-then-load-eq0-clause-known c = record {
  its_table = c.load.ensures.0 ∙ c.loop-returned.invariant.0 ∙ c.requires.known.its_table;
  sized = c.requires.known.sized;
  known = still_keeps c.args.slots.now.key c.args.seats c.loop-returned.returned
      c.args.keeper.now.me.0
      (step c.args.slots.now.table_id.slots c.loop-returned.returned 0 0 maybe.none) c.load.result
      c.loop-returned.keeper.me c.load.new.seat.me c.loop-returned.invariant.1 (search rules)
      c.load.ensures.2;
  some = c.loop-returned.invariant.2;
}
