-- One mark more, and in the end all.
use Rattle.std.proofs.Common.{subst, refl, inr}
use Rattle.tsc_ffi_store.specs.Marks.{AskForMarks}
use Rattle.tsc_ffi_store.proofs.MarksMade.{one_checked, all_checked}
use Rattle.tsc_ffi_store.proofs.marks.check_marks.Goals as goal

pub loop-words-preserved : goal.loop-words-preserved
loop-words-preserved c =
    one_checked c.args.config.now c.args.keys.now c.args.asked.now c.loop-words.words-index _ _
    c.loop-words.fit c.fits_ref-fit.result c.loop-words-test.true c.in_ok-span.ensures.value
    c.fits_ref-fit.ensures c.loop-words.invariant

pub returns-then-fit-clause-fit : goal.returns-then-fit-clause-fit
returns-then-fit-clause-fit c =
    subst (AskForMarks c.args.config.now c.args.keys.now c.args.asked.now) c.if-fit.true
    (all_checked c.args.config.now c.args.keys.now c.args.asked.now c.loop-words.words-index
    c.loop-words.fit c.loop-words-test.false c.loop-words.invariant)

pub returns-else-fit-clause-refused : goal.returns-else-fit-clause-refused
returns-else-fit-clause-refused c = inr (
  refl,
  subst (AskForMarks c.args.config.now c.args.keys.now c.args.asked.now) c.if-fit.false
      (all_checked c.args.config.now c.args.keys.now c.args.asked.now c.loop-words.words-index
      c.loop-words.fit c.loop-words-test.false c.loop-words.invariant),
)
