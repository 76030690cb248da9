-- Proves the contract of `OrderedLog::look_up_all`. Lowers a line number to the least of a lookup
-- with this front whose answer is another than the cache gives. (What answers share is stated in
-- each: the facts `c` of each goal have a type of their own.)
use Rattle.std.proofs.Common.{◌≡◌, ◌∙◌, sym, subst, refl, ◌<◌, ℕ, suc, length, Bool, Option, Some, None, arith}
use Rattle.tsc_check.specs.Verdict.{is_wrong_answer}
use Rattle.tsc_check.specs.CheckParts.{looks_up_there, last_below}
use Rattle.tsc_check.proofs.Sweeping.{last_is, lowers_none, lowers_more, lowers_all, next_is, within_lines}
use Rattle.tsc_check.proofs.sweep.OrderedLog.look_up_all.Goals as goal
use Rattle.tsc_check.proofs.Sweeping.{number_from_1}

pub look_up-lowest-requires : goal.look_up-lowest-requires
look_up-lowest-requires g c =
    let trace = c.args.self.now.trace.now in
    let lines = c.args.self.now.lines.now in
    let o = c.args.self.now.order.now in
    let front = c.args.front in
    let i = c.in-Some.i in
    let inv = c.loop-next.invariant in
    let last = last_is (looks_up_there lines front) inv.above i (sym inv.here ∙ c.in-Some.is) in
    omega (arith, last.below, inv.within)

pub index-next-requires-in-Some : goal.index-next-requires-in-Some
index-next-requires-in-Some g c =
    let trace = c.args.self.now.trace.now in
    let lines = c.args.self.now.lines.now in
    let o = c.args.self.now.order.now in
    let front = c.args.front in
    let i = c.in-Some.i in
    let inv = c.loop-next.invariant in
    let last = last_is (looks_up_there lines front) inv.above i (sym inv.here ∙ c.in-Some.is) in
    omega (arith, last.below, inv.within, c.args.self.now.placed.count, o.earlier.ok.0)

none_after : (test : ℕ → Bool) (i : ℕ) (o : Option ℕ) → o ≡ last_below test i →
    number_from_1 o < suc i
none_after test i None e = omega arith
none_after test i (Some j) e = omega (arith, (last_is test i j (sym e)).below)

pub loop-next-smaller : goal.loop-next-smaller
loop-next-smaller g c =
    let trace = c.args.self.now.trace.now in
    let lines = c.args.self.now.lines.now in
    let o = c.args.self.now.order.now in
    let front = c.args.front in
    let i = c.in-Some.i in
    let inv = c.loop-next.invariant in
    let last = last_is (looks_up_there lines front) inv.above i (sym inv.here ∙ c.in-Some.is) in
    let next = c.index-next-in-Some.result.now in
    let is : next ≡ last_below (looks_up_there lines front) i =
    c.index-next-in-Some.ensures ∙
    next_is o.adds.items o.lookups.items o.earlier.items o.reached.items lines c.args.self.now.placed
    front i last.passes next in
    subst (λ n. number_from_1 next < number_from_1 n) (sym c.in-Some.is)
    (none_after (looks_up_there lines front) i next is)

pub loop-next-preserved : goal.loop-next-preserved
loop-next-preserved g c =
    let trace = c.args.self.now.trace.now in
    let lines = c.args.self.now.lines.now in
    let o = c.args.self.now.order.now in
    let front = c.args.front in
    let i = c.in-Some.i in
    let inv = c.loop-next.invariant in
    let last = last_is (looks_up_there lines front) inv.above i (sym inv.here ∙ c.in-Some.is) in
    let next = c.index-next-in-Some.result.now in
    let is : next ≡ last_below (looks_up_there lines front) i =
    c.index-next-in-Some.ensures ∙
    next_is o.adds.items o.lookups.items o.earlier.items o.reached.items lines c.args.self.now.placed
    front i last.passes next in
    let at = c.look_up-lowest.ensures front last.passes c.requires.stands in
    record {
      above = i;
      within = omega (arith, last.below, inv.within);
      here = is;
      lowers = lowers_more (is_wrong_answer trace lines) (looks_up_there lines front) inv.above i
          c.args.least c.loop-next.lowest c.look_up-lowest.result last inv.lowers at;
    }

none_is : (o : Option ℕ) → ((x : ℕ) → o ≡ Some x → ⊥) → o ≡ None
none_is None f = refl
none_is (Some x) f = absurd (f x refl)

pub returns : goal.returns
returns g c =
    let lines = c.args.self.now.lines.now in
    let inv = c.loop-next.invariant in
    let none = none_is c.loop-next.next (λ x. c.in_default.not-Some x) in
    lowers_all (is_wrong_answer c.args.self.now.trace.now lines) (looks_up_there lines c.args.front)
    inv.above c.args.least c.loop-next.lowest (sym inv.here ∙ none) inv.lowers

pub loop-next-init : goal.loop-next-init
loop-next-init g c =
    let lines = c.args.self.now.lines.now in
    let front = c.args.front in
    record {
      above = length lines;
      within = omega arith;
      here = c.index-next.ensures ∙
          c.args.self.now.placed.lookups_at front c.index-next.result.now c.requires.front;
      lowers = lowers_none (is_wrong_answer c.args.self.now.trace.now lines) (looks_up_there lines front)
          (length lines) c.args.least (within_lines lines front);
    }
