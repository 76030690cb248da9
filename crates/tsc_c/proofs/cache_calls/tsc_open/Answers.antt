-- The number tells what the store did.
use Rattle.tsc_c.proofs.cache_calls.tsc_open.Goals as goal

pub returns : goal.returns
returns c = record {
  answers = record {
    did = c.open.result;
    code_is = c.code.ensures;
    answers = c.open.ensures.answers;
    kept = c.open.ensures.kept;
  };
}
