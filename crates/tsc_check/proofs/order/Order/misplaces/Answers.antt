-- The slots tell what the lines before tell. (What answers share is stated in each: the facts `c`
-- of each goal have a type of their own.)
use Rattle.std.proofs.Common.{◌≡◌, ◌∙◌, sym, ap, refl, ◌-◌, ◌≤◌, ◌<◌, ℕ, length, get_or, is_some, Some, None, nat_le, nat_lt, true, false, arith}
use Rattle.std.specs.Prelude.{slice_get}
use Rattle.std.proofs.lemmas.Bool.Decides.{nat_tests}
use Rattle.std.proofs.lemmas.Option.{slice_get_read}
use Rattle.tsc_trace.specs.CallAnswers.{front_of}
use Rattle.tsc_check.specs.Verdict.{adds_in}
use Rattle.tsc_check.proofs.Misplaced.{known_above, past_last, taken, front_wrong}
use Rattle.tsc_check.proofs.order.Order.misplaces.Goals as goal

past_test : (n x : ℕ) → n ≤ x → nat_le n x ≡ true
past_test n x e = grind (arith, nat_tests)

before_test : (n x : ℕ) → x < n → nat_le n x ≡ false
before_test n x e = grind (arith, nat_tests)

pub returns-then-knows_more : goal.returns-then-knows_more
returns-then-knows_more c =
    let o = c.args.self.now in
    let lines = c.args.lines.now in
    let line = c.index-lines-i.result in
    let at : slice_get lines c.args.i ≡ Some line =
    slice_get_read lines (length lines) c.args.i line refl c.requires.index
    c.index-lines-i.is in
    known_above o.adds.items o.lookups.items o.earlier.items o.reached.items lines c.args.i line
    c.requires.placed at (ap (λ f. nat_lt f (get_or o.reached.items line.thread 0))
    (sym c.front-front.ensures) ∙ sym (c.if-knows_more.ensures 0))

pub returns-then-front-last : goal.returns-then-front-last
returns-then-front-last c =
    let o = c.args.self.now in
    let lines = c.args.lines.now in
    let line = c.index-lines-i.result in
    let at : slice_get lines c.args.i ≡ Some line =
    slice_get_read lines (length lines) c.args.i line refl c.requires.index
    c.index-lines-i.is in
    let last : c.len-last.result - 1 ≡ adds_in lines =
    omega (arith, c.len-last.ensures, c.requires.placed.add_slots, o.adds.ok.0) in
    let front : c.front-front.result ≡ front_of line.said = c.front-front.ensures in
    let less : nat_lt (front_of line.said) (get_or o.reached.items line.thread 0) ≡ false =
    ap (λ f. nat_lt f (get_or o.reached.items line.thread 0)) (sym front) ∙
    sym (c.if-knows_more.ensures 0) in
    past_test (c.len-last.result - 1) c.front-front.result c.if-front-last.true
    ∙ past_last o.adds.items o.lookups.items o.earlier.items o.reached.items lines c.args.i line
    c.requires.placed at less (sym c.if-is_add.ensures)
    (past_test (adds_in lines) (front_of line.said)
    (omega (arith, last, front, c.if-front-last.true)))

pub returns-else-front-last : goal.returns-else-front-last
returns-else-front-last c =
    let o = c.args.self.now in
    let lines = c.args.lines.now in
    let line = c.index-lines-i.result in
    let at : slice_get lines c.args.i ≡ Some line =
    slice_get_read lines (length lines) c.args.i line refl c.requires.index
    c.index-lines-i.is in
    let last : c.len-last.result - 1 ≡ adds_in lines =
    omega (arith, c.len-last.ensures, c.requires.placed.add_slots, o.adds.ok.0) in
    let front : c.front-front.result ≡ front_of line.said = c.front-front.ensures in
    let less : nat_lt (front_of line.said) (get_or o.reached.items line.thread 0) ≡ false =
    ap (λ f. nat_lt f (get_or o.reached.items line.thread 0)) (sym front) ∙
    sym (c.if-knows_more.ensures 0) in
    c.has_add.ensures ∙ ap (λ k. is_some (get_or o.adds.items k None)) front
    ∙ taken o.adds.items o.lookups.items o.earlier.items o.reached.items lines c.args.i line
    c.requires.placed at c.requires.index less (sym c.if-is_add.ensures)
    (before_test (adds_in lines) (front_of line.said)
    (omega (arith, last, front, c.if-front-last.false)))

pub returns-else-is_add : goal.returns-else-is_add
returns-else-is_add c =
    let o = c.args.self.now in
    let lines = c.args.lines.now in
    let line = c.index-lines-i.result in
    let at : slice_get lines c.args.i ≡ Some line =
    slice_get_read lines (length lines) c.args.i line refl c.requires.index
    c.index-lines-i.is in
    let last : c.len-last.result - 1 ≡ adds_in lines =
    omega (arith, c.len-last.ensures, c.requires.placed.add_slots, o.adds.ok.0) in
    let front : c.front-front.result ≡ front_of line.said = c.front-front.ensures in
    let less : nat_lt (front_of line.said) (get_or o.reached.items line.thread 0) ≡ false =
    ap (λ f. nat_lt f (get_or o.reached.items line.thread 0)) (sym front) ∙
    sym (c.if-knows_more.ensures 0) in
    ap (λ n. nat_lt n c.front-front.result) last ∙ ap (nat_lt (adds_in lines)) front
    ∙ front_wrong o.adds.items o.lookups.items o.earlier.items o.reached.items lines c.args.i line
    c.requires.placed at less (sym c.if-is_add.ensures)

pub knows_more-requires : goal.knows_more-requires
knows_more-requires c =
    let lines = c.args.lines.now in
    let line = c.index-lines-i.result in
    let at : slice_get lines c.args.i ≡ Some line =
    slice_get_read lines (length lines) c.args.i line refl c.requires.index
    c.index-lines-i.is in
    c.requires.placed.of_lists c.args.i line at
