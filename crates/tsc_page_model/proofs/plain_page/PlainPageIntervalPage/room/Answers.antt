-- What the different keys cost, and each end key that is new.
use Rattle.std.proofs.Common.{◌≡◌, ◌∙◌, sym, ap, subst, nat_le, ◌++◌, ◌+◌, ℕ, List, true, arith}
use Rattle.std.specs.Prelude.{Option, option_map}
use Rattle.tsc_span.specs.Span.{KeyBytes, key_cost, end_keys}
use Rattle.tsc_page_model.specs.Page.{marked_keys, cost_distinct}
use Rattle.tsc_page_model.specs.PageView.{PageView, has_room_for, new_weight}
use Rattle.tsc_page_model.proofs.DistinctKeys.{has_no_repeats}
use Rattle.tsc_page_model.proofs.Ends.{end_keys_once}
use Rattle.tsc_page_model.proofs.Weights.{weigh_with}
use Rattle.tsc_page_model.proofs.Standing.{same_room}
use Rattle.tsc_page_model.proofs.plain_page.PlainPageIntervalPage.room.Goals as goal

value : goal.returns-clause-value
value c =
    let keys : List KeyBytes = marked_keys c.self.inside.marks.items in
    let first : Option KeyBytes = option_map (λ k. k.now) c.end_keys.result.0 in
    let second : Option KeyBytes = option_map (λ k. k.now) c.end_keys.result.1 in
    let once = subst (λ ks. has_no_repeats ks ≡ true) (sym c.end_keys.ensures.keys)
    (end_keys_once c.args.span.now) in
    let cost = weigh_with key_cost keys first second once in
    let slice = ap marked_keys c.as_slice-marks.ensures.value in
    let all = c.cost_keys.ensures ∙ ap cost_distinct slice in
    let one : c.new_cost.result ≡ new_weight key_cost keys first =
    omega (arith, c.new_cost.ensures.value, ap (λ ks. new_weight key_cost ks first) slice) in
    let two : c.new_cost-2.result ≡ new_weight key_cost keys second =
    omega (arith, c.new_cost-2.ensures.value, ap (λ ks. new_weight key_cost ks second) slice) in
    let sum : c.cost_keys.result + c.new_cost.result + c.new_cost-2.result ≡
    cost_distinct (keys ++ end_keys c.args.span.now) =
    omega (
      arith,
      all,
      one,
      two,
      cost,
      ap (λ ks. cost_distinct (keys ++ ks)) c.end_keys.ensures.keys,
    ) in
    ap (λ (n : ℕ). nat_le n c.self.inside.size) sum ∙
    ap (λ (v : PageView). has_room_for v c.args.span.now) c.self.view_is

pub returns-clause-value : goal.returns-clause-value
returns-clause-value = value

pub returns-clause-stands : goal.returns-clause-stands
returns-clause-stands c p stands = value c ∙ same_room c.args.self.now p c.args.span.now stands
