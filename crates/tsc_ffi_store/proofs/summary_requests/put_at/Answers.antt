-- The bytes that are told are those that go into the buffer.
use Rattle.std.proofs.Common.{ℕ, List, refl, subst, rules}
use Rattle.std.specs.Prelude.{Ok, Err}
use Rattle.tsc_ffi_store.specs.Puts.{Puts}
use Rattle.tsc_ffi_store.specs.Summaries.{asked_summary}
use Rattle.tsc_ffi_store.proofs.SummariesReported.{summary_reported, summary_refused}
use Rattle.tsc_ffi_store.proofs.summary_requests.put_at.Goals as goal

pub returns-in-Ok : goal.returns-in-Ok
returns-in-Ok c = record {
  did = Ok c.in-Ok.reported.bytes.items;
  answers = record {
    works = summary_reported (asked_summary c.args.args.now) c.in-Ok.reported
        c.args.held.now.seat.seat c.bytes_at.new.seat.seat c.in-Ok.ensures.answers;
    stays = record { returns = c.in-Ok.ensures.same; opened = refl };
    same = refl;
  };
  put = subst (λ (text : List ℕ). Puts 0 text c.put.result c.args.out.now c.put.new.out
      c.put.new.len) c.as_slice.ensures.value c.put.ensures;
  kept = tt;
}

pub returns-in-Err : goal.returns-in-Err
returns-in-Err c = record {
  did = Err c.in-Err.why;
  answers = record {
    works = summary_refused (asked_summary c.args.args.now) c.args.seen.now c.in-Err.why
        c.args.held.now.seat.seat c.bytes_at.new.seat.seat c.in-Err.ensures.answers;
    stays = record { returns = c.in-Err.ensures.same; opened = refl };
    same = refl;
  };
  put = search rules;
  kept = refl;
}
