-- Proves the contract of `lists`. Lists of calls, however many.
use Rattle.std.proofs.Common.{◌≡◌, ◌∷◌, [], ◌++◌, map, Some, ap, ◌∙◌, arith}
use Rattle.std.proofs.lemmas.List.{map-append}
use Rattle.json.specs.Json.{after_end_array}
use Rattle.tsc_trace_fast.specs.Kept.{call_list}
use Rattle.tsc_trace_fast.proofs.Each.{each_begin, each_go_on, each_over}
use Rattle.tsc_trace_fast.proofs.quick.head.lists.Goals as goal

pub lists-init : goal.lists-init
lists-init c = each_begin 5 call_list _ _
    (ap (map (λ calls. calls.items)) c.new-lists.ensures.items)

pub lists-preserved : goal.lists-preserved
lists-preserved c =
    let same : c.take_end_array.new.self ≡ c.lists.reader = grind arith in
    let pushed : c.push.new.self.items ≡ c.lists.lists.items ++ c.in_ok-list.list ∷ [] =
    grind arith in
    each_go_on 5 call_list c.open_array.new.reader c.lists.reader c.calls.new.reader
    (map (λ calls. calls.items) c.lists.lists.items)
    (map (λ calls. calls.items) c.push.new.self.items) c.in_ok-list.list.items
    c.lists.invariant (rw same at c.in_ok-list.ensures)
    (ap (map (λ calls. calls.items)) pushed ∙
    map-append (λ calls. calls.items) c.lists.lists.items (c.in_ok-list.list ∷ []))

pub returns : goal.returns
returns c =
    let over : after_end_array c.lists.reader ≡ Some c.take_end_array.new.self = grind arith in
    each_over 5 call_list c.args.reader.now c.open_array.new.reader c.lists.reader
    c.take_end_array.new.self (map (λ calls. calls.items) c.lists.lists.items)
    c.in_ok-open_array.ensures c.lists.invariant over
