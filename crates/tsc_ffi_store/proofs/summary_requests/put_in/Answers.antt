-- The bytes that are told are those that go into the buffer.
use Rattle.std.proofs.Common.{ℕ, List, subst, rules}
use Rattle.std.specs.Prelude.{Ok, Err}
use Rattle.tsc_ffi_store.specs.Puts.{Puts}
use Rattle.tsc_ffi_store.proofs.summary_requests.put_in.Goals as goal

pub returns-in-Ok : goal.returns-in-Ok
returns-in-Ok c = record {
  did = Ok c.in-Ok.bytes.items;
  answers = record { reported = c.in-Ok.ensures.reported; refused = tt };
  put = subst (λ (text : List ℕ). Puts 0 text c.put.result c.args.out.now c.put.new.out
      c.put.new.len) c.as_slice.ensures.value c.put.ensures;
}

pub returns-in-Err : goal.returns-in-Err
returns-in-Err c = record {
  did = Err c.in-Err.why;
  answers = record { reported = tt; refused = c.in-Err.ensures.refused };
  put = search rules;
}
