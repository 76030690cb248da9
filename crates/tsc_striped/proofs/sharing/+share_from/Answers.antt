-- Proves the contract of `share_from`. Copies the caches of the stripes from one to the last.
use Rattle.std.proofs.Common.{◌∙◌, ◌<◌, refl, sym, subst, arith}
use Rattle.tsc_stripe_table.specs.Stripes.{Terms}
use Rattle.tsc_stripe_table.specs.Participating.{IsSized}
use Rattle.tsc_striped.proofs.Copied.{stays_put, has_taken, setup_same, has_it, copy_is}
use Rattle.tsc_striped.proofs.Copied.{can_release_it, can_go_on, setup_stays, can_release_then}
use Rattle.tsc_striped.proofs.Copied.{stays, stays_at_once, shares_last, setup_shared}
use Rattle.tsc_striped.proofs.Copied.{can_release_shared, shares_more}
use Rattle.tsc_striped.proofs.sharing.+share_from.Goals as goal

pub returns-then-not-try_acquire-clause-stopped : goal.returns-then-not-try_acquire-clause-stopped
returns-then-not-try_acquire-clause-stopped t c =
    stays_put c.args.who.now.me c.try_acquire.new.who.me c.args.stripe c.args.last
    c.requires.can.0 (c.try_acquire.ensures.busy c.if-not-try_acquire.true)

pub copy_in_hand-requires : goal.copy_in_hand-requires
copy_in_hand-requires t c =
    let me = c.args.who.now.me in
    let taken = c.try_acquire.ensures.acquired c.if-not-try_acquire.false in
    let q = has_taken me c.try_acquire.new.who.me c.try_acquire.new.who.me c.args.stripe
    c.args.last taken.0 taken.1 taken.2 refl c.requires.can.0 in record {
      of = record {
        table = c.try_acquire.ensures.table ∙ c.requires.of.table;
        sized = subst (λ (t : Terms). IsSized c.args.shared.now.table_id t.bounds)
            (sym (setup_same me c.try_acquire.new.who.me c.args.stripe c.args.last q))
            c.requires.of.sized;
      };
      has = (q.x, has_it me c.try_acquire.new.who.me c.args.stripe c.args.last q);
    }

pub release-requires : goal.release-requires
release-requires t c =
    let me = c.args.who.now.me in
    let taken = c.try_acquire.ensures.acquired c.if-not-try_acquire.false in
    let same = c.copy_in_hand.ensures.same.1 in
    let q = has_taken me c.try_acquire.new.who.me c.copy_in_hand.new.who.me c.args.stripe
    c.args.last taken.0 taken.1 taken.2 same c.requires.can.0 in
    record {
      of = record {
        table = c.copy_in_hand.ensures.same.0 ∙ c.try_acquire.ensures.table ∙ c.requires.of.table;
        sized = subst (λ (t : Terms). IsSized c.args.shared.now.table_id t.bounds)
            (sym (setup_same me c.copy_in_hand.new.who.me c.args.stripe c.args.last q)) c.requires.of.sized;
      };
      can = (q.x, can_release_it me c.copy_in_hand.new.who.me c.args.stripe c.args.last q);
    }

pub returns-in_default-clause-stopped : goal.returns-in_default-clause-stopped
returns-in_default-clause-stopped t c =
    let me = c.args.who.now.me in
    let taken = c.try_acquire.ensures.acquired c.if-not-try_acquire.false in
    let same = c.copy_in_hand.ensures.same.1 in
    let q = has_taken me c.try_acquire.new.who.me c.copy_in_hand.new.who.me c.args.stripe
    c.args.last taken.0 taken.1 taken.2 same c.requires.can.0 in
    stays_at_once me c.copy_in_hand.new.who.me c.args.stripe c.args.last q c.release.new.who.me
    c.release.ensures.released

pub release_seen-requires : goal.release_seen-requires
release_seen-requires t c =
    let me = c.args.who.now.me in
    let taken = c.try_acquire.ensures.acquired c.if-not-try_acquire.false in
    let same = c.copy_in_hand.ensures.same.1 in
    let q = has_taken me c.try_acquire.new.who.me c.copy_in_hand.new.who.me c.args.stripe
    c.args.last taken.0 taken.1 taken.2 same c.requires.can.0 in
    record {
      of = record {
        table = c.copy_in_hand.ensures.same.0 ∙ c.try_acquire.ensures.table ∙ c.requires.of.table;
        sized = subst (λ (t : Terms). IsSized c.args.shared.now.table_id t.bounds)
            (sym (setup_same me c.copy_in_hand.new.who.me c.args.stripe c.args.last q)) c.requires.of.sized;
      };
      can = (q.x, can_release_it me c.copy_in_hand.new.who.me c.args.stripe c.args.last q);
    }

pub returns-then-stripe-last-clause-shared : goal.returns-then-stripe-last-clause-shared
returns-then-stripe-last-clause-shared t c =
    let me = c.args.who.now.me in
    let taken = c.try_acquire.ensures.acquired c.if-not-try_acquire.false in
    let same = c.copy_in_hand.ensures.same.1 in
    let q = has_taken me c.try_acquire.new.who.me c.copy_in_hand.new.who.me c.args.stripe
    c.args.last taken.0 taken.1 taken.2 same c.requires.can.0 in
    let copy = c.in-Ok.copy in
    let is = copy_is me c.copy_in_hand.new.who.me c.args.stripe c.args.last q
    c.try_acquire.new.who.me copy same c.in-Ok.ensures.copied in
    shares_last me c.copy_in_hand.new.who.me c.args.stripe c.args.last q copy is c.args.copies.now.items
    c.push_reserved.new.self.items c.push_reserved.ensures.items c.release_seen.new.who.me
    c.if-stripe-last.true c.release_seen.ensures.released

pub share_from-requires : goal.share_from-requires
share_from-requires t c =
    let me = c.args.who.now.me in
    let taken = c.try_acquire.ensures.acquired c.if-not-try_acquire.false in
    let same = c.copy_in_hand.ensures.same.1 in
    let q = has_taken me c.try_acquire.new.who.me c.copy_in_hand.new.who.me c.args.stripe
    c.args.last taken.0 taken.1 taken.2 same c.requires.can.0 in
    let lower : c.args.stripe < c.args.last =
    omega (arith, c.requires.can.0.order, c.if-stripe-last.false) in (
      omega (arith, c.decreases, lower),
      (
        record {
          table = c.copy_in_hand.ensures.same.0 ∙ c.try_acquire.ensures.table ∙ c.requires.of.table;
          sized = subst (λ (t : Terms). IsSized c.args.shared.now.table_id t.bounds)
              (sym (setup_same me c.copy_in_hand.new.who.me c.args.stripe c.args.last q)) c.requires.of.sized;
        },
        (
          can_go_on me c.copy_in_hand.new.who.me c.args.stripe c.args.last q lower,
          omega (
            arith,
            c.requires.can.1,
            lower,
            c.push_reserved.ensures.len,
            c.push_reserved.ensures.capacity,
          ),
        ),
      ),
    )

pub release-requires-in-Ok-share_from : goal.release-requires-in-Ok-share_from
release-requires-in-Ok-share_from t c =
    let me = c.args.who.now.me in
    let taken = c.try_acquire.ensures.acquired c.if-not-try_acquire.false in
    let same = c.copy_in_hand.ensures.same.1 in
    let q = has_taken me c.try_acquire.new.who.me c.copy_in_hand.new.who.me c.args.stripe
    c.args.last taken.0 taken.1 taken.2 same c.requires.can.0 in
    let copy = c.in-Ok.copy in
    let is = copy_is me c.copy_in_hand.new.who.me c.args.stripe c.args.last q
    c.try_acquire.new.who.me copy same c.in-Ok.ensures.copied in
    let r = c.in-Ok-share_from.ensures.shared in record {
      of = record {
        table = c.share_from.ensures.table ∙ c.copy_in_hand.ensures.same.0
            ∙ c.try_acquire.ensures.table ∙ c.requires.of.table;
        sized = subst (λ (t : Terms). IsSized c.args.shared.now.table_id t.bounds)
            (sym (setup_shared me c.copy_in_hand.new.who.me c.args.stripe c.args.last q copy is
            c.args.copies.now.items c.push_reserved.new.self.items c.push_reserved.ensures.items
            c.share_from.new.who.me c.share_from.new.copies.items r)) c.requires.of.sized;
      };
      can = (
        q.x,
        can_release_shared me c.copy_in_hand.new.who.me c.args.stripe c.args.last q copy is
            c.args.copies.now.items c.push_reserved.new.self.items c.push_reserved.ensures.items
            c.share_from.new.who.me c.share_from.new.copies.items r,
      );
    }

pub returns-in-Ok-share_from-clause-shared : goal.returns-in-Ok-share_from-clause-shared
returns-in-Ok-share_from-clause-shared t c =
    let me = c.args.who.now.me in
    let taken = c.try_acquire.ensures.acquired c.if-not-try_acquire.false in
    let same = c.copy_in_hand.ensures.same.1 in
    let q = has_taken me c.try_acquire.new.who.me c.copy_in_hand.new.who.me c.args.stripe
    c.args.last taken.0 taken.1 taken.2 same c.requires.can.0 in
    let copy = c.in-Ok.copy in
    let is = copy_is me c.copy_in_hand.new.who.me c.args.stripe c.args.last q
    c.try_acquire.new.who.me copy same c.in-Ok.ensures.copied in
    let lower : c.args.stripe < c.args.last =
    omega (arith, c.requires.can.0.order, c.if-stripe-last.false) in
    shares_more me c.copy_in_hand.new.who.me c.args.stripe c.args.last q copy is c.args.copies.now.items
    c.push_reserved.new.self.items c.push_reserved.ensures.items c.share_from.new.who.me
    c.share_from.new.copies.items c.in-Ok-share_from.ensures.shared c.release-in-Ok-share_from.new.who.me
    lower c.release-in-Ok-share_from.ensures.released

pub release-requires-in-Err : goal.release-requires-in-Err
release-requires-in-Err t c =
    let me = c.args.who.now.me in
    let taken = c.try_acquire.ensures.acquired c.if-not-try_acquire.false in
    let same = c.copy_in_hand.ensures.same.1 in
    let q = has_taken me c.try_acquire.new.who.me c.copy_in_hand.new.who.me c.args.stripe
    c.args.last taken.0 taken.1 taken.2 same c.requires.can.0 in
    let r = c.in-Err.ensures.stopped in record {
      of = record {
        table = c.share_from.ensures.table ∙ c.copy_in_hand.ensures.same.0
            ∙ c.try_acquire.ensures.table ∙ c.requires.of.table;
        sized = subst (λ (t : Terms). IsSized c.args.shared.now.table_id t.bounds)
            (sym (setup_stays me c.copy_in_hand.new.who.me c.args.stripe c.args.last q
            c.share_from.new.who.me r)) c.requires.of.sized;
      };
      can = (
        q.x,
        can_release_then me c.copy_in_hand.new.who.me c.args.stripe c.args.last q c.share_from.new.who.me r,
      );
    }

pub returns-in-Err-clause-stopped : goal.returns-in-Err-clause-stopped
returns-in-Err-clause-stopped t c =
    let me = c.args.who.now.me in
    let taken = c.try_acquire.ensures.acquired c.if-not-try_acquire.false in
    let same = c.copy_in_hand.ensures.same.1 in
    let q = has_taken me c.try_acquire.new.who.me c.copy_in_hand.new.who.me c.args.stripe
    c.args.last taken.0 taken.1 taken.2 same c.requires.can.0 in
    stays me c.copy_in_hand.new.who.me c.args.stripe c.args.last q c.share_from.new.who.me
    c.in-Err.ensures.stopped c.release-in-Err.new.who.me c.release-in-Err.ensures.released
