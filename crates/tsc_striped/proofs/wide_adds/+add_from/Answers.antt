-- Proves the contract of `add_from`. Adds a batch in the stripes from one on.
use Rattle.std.proofs.Common.{◌∙◌, ◌<◌, refl, sym, subst, arith}
use Rattle.tsc_stripe_table.specs.Stripes.{Terms}
use Rattle.tsc_stripe_table.specs.Participating.{IsSized}
use Rattle.tsc_striped.proofs.Batches.{has_acquired, can_acquire_above, has_it, version_is, setup_same}
use Rattle.tsc_striped.proofs.Batches.{can_release_it, can_go_on, covers, can_add_all, stays}
use Rattle.tsc_striped.proofs.Batches.{can_release_then, setup_stays, stays_at_once, stands_last}
use Rattle.tsc_striped.proofs.Batches.{adds_last, setup_added, has_it_then, stands_then, adds_more}
use Rattle.tsc_striped.proofs.Batches.{stays_there, room_in}
use Rattle.tsc_striped.proofs.wide_adds.+add_from.Goals as goal

pub try_acquire-requires-clause-can : goal.try_acquire-requires-clause-can
try_acquire-requires-clause-can g t c =
    let onward = c.next_stripe-stripe.ensures.onward in
    can_acquire_above c.args.who.now.me.0 c.args.from _ c.requires.can.0.acquire
    (omega (arith, onward.0)) (omega (arith, onward.1, c.requires.can.0.cut.there))

pub returns-then-not-try_acquire-clause-stopped : goal.returns-then-not-try_acquire-clause-stopped
returns-then-not-try_acquire-clause-stopped g t c = (
  stays_there c.args.who.now.me c.try_acquire.new.who.me c.args.batch.now c.args.from
      c.requires.can.0 (c.try_acquire.ensures.busy c.if-not-try_acquire.true),
  refl,
)

pub next_version-requires-clause-of : goal.next_version-requires-clause-of
next_version-requires-clause-of g t c =
    let me = c.args.who.now.me in
    let b = c.args.batch.now in
    let taken = c.try_acquire.ensures.acquired c.if-not-try_acquire.false in
    let stripe = c.next_stripe-stripe.result in
    let onward = c.next_stripe-stripe.ensures.onward in
    let skips = c.next_stripe-stripe.ensures.skips me.0.setup.bounds c.requires.can.0.cut in
    let q = has_acquired me c.try_acquire.new.who.me c.try_acquire.new.who.me b c.args.from stripe
    taken.0 taken.1 taken.2 refl c.requires.can.0 onward.0 onward.1 skips in
    record {
      table = c.try_acquire.ensures.table ∙ c.requires.of.table;
      sized = subst (λ (t : Terms). IsSized c.args.shared.now.table_id t.bounds)
          (sym (setup_same me c.try_acquire.new.who.me b c.args.from stripe q))
          c.requires.of.sized;
    }

pub next_version-requires-clause-has : goal.next_version-requires-clause-has
next_version-requires-clause-has g t c =
    let me = c.args.who.now.me in
    let b = c.args.batch.now in
    let taken = c.try_acquire.ensures.acquired c.if-not-try_acquire.false in
    let stripe = c.next_stripe-stripe.result in
    let onward = c.next_stripe-stripe.ensures.onward in
    let skips = c.next_stripe-stripe.ensures.skips me.0.setup.bounds c.requires.can.0.cut in
    let q = has_acquired me c.try_acquire.new.who.me c.try_acquire.new.who.me b c.args.from stripe
    taken.0 taken.1 taken.2 refl c.requires.can.0 onward.0 onward.1 skips in
    (q.x, has_it me c.try_acquire.new.who.me b c.args.from stripe q)

pub next_version-requires-clause-room : goal.next_version-requires-clause-room
next_version-requires-clause-room g t c =
    let me = c.args.who.now.me in
    let b = c.args.batch.now in
    let taken = c.try_acquire.ensures.acquired c.if-not-try_acquire.false in
    let stripe = c.next_stripe-stripe.result in
    let onward = c.next_stripe-stripe.ensures.onward in
    let skips = c.next_stripe-stripe.ensures.skips me.0.setup.bounds c.requires.can.0.cut in
    let q = has_acquired me c.try_acquire.new.who.me c.try_acquire.new.who.me b c.args.from stripe
    taken.0 taken.1 taken.2 refl c.requires.can.0 onward.0 onward.1 skips in
    room_in me c.try_acquire.new.who.me b c.args.from stripe q

pub release-requires-clause-of : goal.release-requires-clause-of
release-requires-clause-of g t c =
    let me = c.args.who.now.me in
    let b = c.args.batch.now in
    let taken = c.try_acquire.ensures.acquired c.if-not-try_acquire.false in
    let stripe = c.next_stripe-stripe.result in
    let onward = c.next_stripe-stripe.ensures.onward in
    let skips = c.next_stripe-stripe.ensures.skips me.0.setup.bounds c.requires.can.0.cut in
    let same = c.next_version.ensures.same.1 in
    let q = has_acquired me c.try_acquire.new.who.me c.next_version.new.who.me b c.args.from stripe
    taken.0 taken.1 taken.2 same c.requires.can.0 onward.0 onward.1 skips in
    record {
      table = c.next_version.ensures.same.0 ∙ c.try_acquire.ensures.table ∙ c.requires.of.table;
      sized = subst (λ (t : Terms). IsSized c.args.shared.now.table_id t.bounds)
          (sym (setup_same me c.next_version.new.who.me b c.args.from stripe q)) c.requires.of.sized;
    }

pub release-requires-clause-can : goal.release-requires-clause-can
release-requires-clause-can g t c =
    let me = c.args.who.now.me in
    let b = c.args.batch.now in
    let taken = c.try_acquire.ensures.acquired c.if-not-try_acquire.false in
    let stripe = c.next_stripe-stripe.result in
    let onward = c.next_stripe-stripe.ensures.onward in
    let skips = c.next_stripe-stripe.ensures.skips me.0.setup.bounds c.requires.can.0.cut in
    let same = c.next_version.ensures.same.1 in
    let q = has_acquired me c.try_acquire.new.who.me c.next_version.new.who.me b c.args.from stripe
    taken.0 taken.1 taken.2 same c.requires.can.0 onward.0 onward.1 skips in
    (q.x, can_release_it me c.next_version.new.who.me b c.args.from stripe q)

pub returns-in_default-clause-stopped : goal.returns-in_default-clause-stopped
returns-in_default-clause-stopped g t c =
    let me = c.args.who.now.me in
    let b = c.args.batch.now in
    let taken = c.try_acquire.ensures.acquired c.if-not-try_acquire.false in
    let stripe = c.next_stripe-stripe.result in
    let onward = c.next_stripe-stripe.ensures.onward in
    let skips = c.next_stripe-stripe.ensures.skips me.0.setup.bounds c.requires.can.0.cut in
    let same = c.next_version.ensures.same.1 in
    let q = has_acquired me c.try_acquire.new.who.me c.next_version.new.who.me b c.args.from stripe
    taken.0 taken.1 taken.2 same c.requires.can.0 onward.0 onward.1 skips in (
      stays_at_once me c.next_version.new.who.me b c.args.from stripe q c.release.new.who.me
          c.release.ensures.released,
      refl,
    )

pub put_last-before-requires : goal.put_last-before-requires
put_last-before-requires g t c =
    let me = c.args.who.now.me in
    let b = c.args.batch.now in
    let taken = c.try_acquire.ensures.acquired c.if-not-try_acquire.false in
    let stripe = c.next_stripe-stripe.result in
    let onward = c.next_stripe-stripe.ensures.onward in
    let skips = c.next_stripe-stripe.ensures.skips me.0.setup.bounds c.requires.can.0.cut in
    let same = c.next_version.ensures.same.1 in
    let q = has_acquired me c.try_acquire.new.who.me c.next_version.new.who.me b c.args.from stripe
    taken.0 taken.1 taken.2 same c.requires.can.0 onward.0 onward.1 skips in
    let own = c.in-Ok.version.added in
    let v = version_is me c.next_version.new.who.me b c.args.from stripe q c.try_acquire.new.who.me c.in-Ok.version.cache own same
    c.in-Ok.ensures.made in
    let last = c.if-stripe-batch.true in record {
      of = record {
        table = c.next_version.ensures.same.0 ∙ c.try_acquire.ensures.table ∙ c.requires.of.table;
        sized = subst (λ (t : Terms). IsSized c.args.shared.now.table_id t.bounds)
            (sym (setup_same me c.next_version.new.who.me b c.args.from stripe q)) c.requires.of.sized;
      };
      has = (q.x, has_it me c.next_version.new.who.me b c.args.from stripe q);
      can = (can_add_all me c.next_version.new.who.me b c.args.from stripe q, covers me c.next_version.new.who.me b c.args.from stripe q last);
      stands = stands_last me c.next_version.new.who.me b c.args.from stripe q c.in-Ok.version.cache own v;
    }

pub returns-then-stripe-batch-clause-added : goal.returns-then-stripe-batch-clause-added
returns-then-stripe-batch-clause-added g t c =
    let me = c.args.who.now.me in
    let b = c.args.batch.now in
    let taken = c.try_acquire.ensures.acquired c.if-not-try_acquire.false in
    let stripe = c.next_stripe-stripe.result in
    let onward = c.next_stripe-stripe.ensures.onward in
    let skips = c.next_stripe-stripe.ensures.skips me.0.setup.bounds c.requires.can.0.cut in
    let same = c.next_version.ensures.same.1 in
    let q = has_acquired me c.try_acquire.new.who.me c.next_version.new.who.me b c.args.from stripe
    taken.0 taken.1 taken.2 same c.requires.can.0 onward.0 onward.1 skips in
    let own = c.in-Ok.version.added in
    let v = version_is me c.next_version.new.who.me b c.args.from stripe q c.try_acquire.new.who.me c.in-Ok.version.cache own same
    c.in-Ok.ensures.made in
    let done = c.put_last-before.ensures.committed in (
      adds_last me c.next_version.new.who.me b c.args.from stripe q c.in-Ok.version.cache own v
          c.put_last-before.new.who.me c.if-stripe-batch.true c.is_counted.ensures done.0 done.1,
      c.give.ensures.gate,
    )

pub add_from-requires : goal.add_from-requires
add_from-requires g t c κs within =
    let me = c.args.who.now.me in
    let b = c.args.batch.now in
    let taken = c.try_acquire.ensures.acquired c.if-not-try_acquire.false in
    let stripe = c.next_stripe-stripe.result in
    let onward = c.next_stripe-stripe.ensures.onward in
    let skips = c.next_stripe-stripe.ensures.skips me.0.setup.bounds c.requires.can.0.cut in
    let same = c.next_version.ensures.same.1 in
    let q = has_acquired me c.try_acquire.new.who.me c.next_version.new.who.me b c.args.from stripe
    taken.0 taken.1 taken.2 same c.requires.can.0 onward.0 onward.1 skips in
    let lower : stripe < b.last = omega (arith, onward.1, c.if-stripe-batch.false) in (
      omega (arith, c.decreases, lower, onward.0),
      (
        within,
        (
          record {
            table = c.next_version.ensures.same.0 ∙ c.try_acquire.ensures.table
                ∙ c.requires.of.table;
            sized = subst (λ (t : Terms). IsSized c.args.shared.now.table_id t.bounds)
                (sym (setup_same me c.next_version.new.who.me b c.args.from stripe q))
                c.requires.of.sized;
          },
          (
            can_go_on me c.next_version.new.who.me b c.args.from stripe q lower,
            omega (arith, c.requires.can.1, lower, onward.0),
            c.requires.can.2,
          ),
        ),
      ),
    )

pub put-before-requires : goal.put-before-requires
put-before-requires g t c =
    let me = c.args.who.now.me in
    let b = c.args.batch.now in
    let taken = c.try_acquire.ensures.acquired c.if-not-try_acquire.false in
    let stripe = c.next_stripe-stripe.result in
    let onward = c.next_stripe-stripe.ensures.onward in
    let skips = c.next_stripe-stripe.ensures.skips me.0.setup.bounds c.requires.can.0.cut in
    let same = c.next_version.ensures.same.1 in
    let q = has_acquired me c.try_acquire.new.who.me c.next_version.new.who.me b c.args.from stripe
    taken.0 taken.1 taken.2 same c.requires.can.0 onward.0 onward.1 skips in
    let own = c.in-Ok.version.added in
    let v = version_is me c.next_version.new.who.me b c.args.from stripe q c.try_acquire.new.who.me c.in-Ok.version.cache own same
    c.in-Ok.ensures.made in
    let r = c.in-Ok-add_from.ensures.added.0 in
    let args = c.add_from.new.who.me in record {
      of = record {
        table = c.add_from.ensures.table.0 ∙ c.next_version.ensures.same.0 ∙ c.try_acquire.ensures.table ∙ c.requires.of.table;
        sized = subst (λ (t : Terms). IsSized c.args.shared.now.table_id t.bounds)
            (sym (setup_added me c.next_version.new.who.me b c.args.from stripe q c.in-Ok.version.cache own v args c.in-Ok-add_from.others r))
            c.requires.of.sized;
      };
      has = (q.x, has_it_then me c.next_version.new.who.me b c.args.from stripe q c.in-Ok.version.cache own v args c.in-Ok-add_from.others r);
      stands = stands_then me c.next_version.new.who.me b c.args.from stripe q c.in-Ok.version.cache own v args c.in-Ok-add_from.others r;
    }

pub returns-in-Ok-add_from-clause-added : goal.returns-in-Ok-add_from-clause-added
returns-in-Ok-add_from-clause-added g t c =
    let me = c.args.who.now.me in
    let b = c.args.batch.now in
    let taken = c.try_acquire.ensures.acquired c.if-not-try_acquire.false in
    let stripe = c.next_stripe-stripe.result in
    let onward = c.next_stripe-stripe.ensures.onward in
    let skips = c.next_stripe-stripe.ensures.skips me.0.setup.bounds c.requires.can.0.cut in
    let same = c.next_version.ensures.same.1 in
    let q = has_acquired me c.try_acquire.new.who.me c.next_version.new.who.me b c.args.from stripe
    taken.0 taken.1 taken.2 same c.requires.can.0 onward.0 onward.1 skips in
    let own = c.in-Ok.version.added in
    let v = version_is me c.next_version.new.who.me b c.args.from stripe q c.try_acquire.new.who.me c.in-Ok.version.cache own same
    c.in-Ok.ensures.made in
    let lower : stripe < b.last = omega (arith, onward.1, c.if-stripe-batch.false) in (
      adds_more me c.next_version.new.who.me b c.args.from stripe q c.in-Ok.version.cache own v
          c.add_from.new.who.me c.in-Ok-add_from.others c.in-Ok-add_from.ensures.added.0
          c.put-before.new.who.me c.join.result c.put-before.ensures.released lower c.join.ensures,
      c.in-Ok-add_from.ensures.added.1,
    )

pub release-requires-in-Err-clause-of : goal.release-requires-in-Err-clause-of
release-requires-in-Err-clause-of g t c =
    let me = c.args.who.now.me in
    let b = c.args.batch.now in
    let taken = c.try_acquire.ensures.acquired c.if-not-try_acquire.false in
    let stripe = c.next_stripe-stripe.result in
    let onward = c.next_stripe-stripe.ensures.onward in
    let skips = c.next_stripe-stripe.ensures.skips me.0.setup.bounds c.requires.can.0.cut in
    let same = c.next_version.ensures.same.1 in
    let q = has_acquired me c.try_acquire.new.who.me c.next_version.new.who.me b c.args.from stripe
    taken.0 taken.1 taken.2 same c.requires.can.0 onward.0 onward.1 skips in
    record {
      table = c.add_from.ensures.table.0 ∙ c.next_version.ensures.same.0 ∙ c.try_acquire.ensures.table ∙ c.requires.of.table;
      sized = subst (λ (t : Terms). IsSized c.args.shared.now.table_id t.bounds)
          (sym (setup_stays me c.next_version.new.who.me b c.args.from stripe q c.add_from.new.who.me
          c.in-Err.ensures.stopped.0))
          c.requires.of.sized;
    }

pub release-requires-in-Err-clause-can : goal.release-requires-in-Err-clause-can
release-requires-in-Err-clause-can g t c =
    let me = c.args.who.now.me in
    let b = c.args.batch.now in
    let taken = c.try_acquire.ensures.acquired c.if-not-try_acquire.false in
    let stripe = c.next_stripe-stripe.result in
    let onward = c.next_stripe-stripe.ensures.onward in
    let skips = c.next_stripe-stripe.ensures.skips me.0.setup.bounds c.requires.can.0.cut in
    let same = c.next_version.ensures.same.1 in
    let q = has_acquired me c.try_acquire.new.who.me c.next_version.new.who.me b c.args.from stripe
    taken.0 taken.1 taken.2 same c.requires.can.0 onward.0 onward.1 skips in (
      q.x,
      can_release_then me c.next_version.new.who.me b c.args.from stripe q c.add_from.new.who.me
          c.in-Err.ensures.stopped.0,
    )

pub returns-in-Err-clause-stopped : goal.returns-in-Err-clause-stopped
returns-in-Err-clause-stopped g t c =
    let me = c.args.who.now.me in
    let b = c.args.batch.now in
    let taken = c.try_acquire.ensures.acquired c.if-not-try_acquire.false in
    let stripe = c.next_stripe-stripe.result in
    let onward = c.next_stripe-stripe.ensures.onward in
    let skips = c.next_stripe-stripe.ensures.skips me.0.setup.bounds c.requires.can.0.cut in
    let same = c.next_version.ensures.same.1 in
    let q = has_acquired me c.try_acquire.new.who.me c.next_version.new.who.me b c.args.from stripe
    taken.0 taken.1 taken.2 same c.requires.can.0 onward.0 onward.1 skips in (
      stays me c.next_version.new.who.me b c.args.from stripe q c.add_from.new.who.me
          c.in-Err.ensures.stopped.0 c.release-in-Err.new.who.me c.release-in-Err.ensures.released,
      c.in-Err.ensures.stopped.1,
    )
