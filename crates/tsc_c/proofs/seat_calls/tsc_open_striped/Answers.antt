-- The number tells what the store did.
use Rattle.tsc_c.proofs.seat_calls.tsc_open_striped.Goals as goal

pub returns : goal.returns
returns c = record {
  answers = record {
    did = c.open_striped.result;
    code_is = c.code.ensures;
    answers = c.open_striped.ensures.answers;
    kept = c.open_striped.ensures.kept;
  };
}
