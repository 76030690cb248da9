-- One more list of a trace, in a replay.
use Rattle.std.proofs.Common.{◌≡◌, ◌∙◌, refl, sym, ap, subst, ℕ, suc, ◌+◌, ◌<◌, ◌≤◌, List, [], ◌∷◌, ◌++◌, length, get_or, drop, drop-cons, Some, append_assoc, append-nil, add-one}
use Rattle.std.specs.Prelude.{slice_get}
use Rattle.std.proofs.lemmas.Option.{slice_get_within, get_or_from_slice_get, slice_get_read}
use Rattle.std.proofs.Math.ListN.{drop_of_length-le}
use Rattle.tsc_cache.specs.ConfigView.{ConfigView}
use Rattle.tsc_trace.specs.Play.{Standing, said_at, next, next_all, played, played_lists}
use Rattle.tsc_trace_format.specs.declared.trace.Call.{Call}
use Rattle.tsc_trace.specs.declared.log.Line.{Line}
use Rattle.tsc_trace.specs.declared.log.CallAnswer.{CallAnswer}
use Rattle.tsc_trace.specs.declared.player.Player.{Player}
use Rattle.tsc_trace.specs.PlayerParts.{StandsAt}

-- what is left from a place on begins with what stands there
pub left_from : {X : Type 0} (xs : List X) (i : ℕ) (x : X) → slice_get xs i ≡ Some x →
    drop i xs ≡ x ∷ drop (i + 1) xs
left_from xs i x at =
    drop-cons xs i x (slice_get_within xs i x at) ∙
    ap (λ y. y ∷ drop (suc i) xs) (get_or_from_slice_get xs i x x at)
    ∙ ap (λ n. x ∷ drop n xs) (sym (add-one i))

-- the lines with those of the list, and those of the lists after it
pub reported_with_list : (config : ConfigView) (thread : ℕ) (at : Standing)
    (lines more whole : List Line) (calls : List Call) (lists : List (List Call)) →
    slice_get lists thread ≡ Some calls → more ≡ lines ++ played config thread 0 at calls →
    lines ++ played_lists config thread at (drop thread lists) ≡ whole →
    more ++ played_lists config (thread + 1) (next_all config at calls)
    (drop (thread + 1) lists) ≡ whole
reported_with_list config thread at lines more whole calls lists here added reported =
    ap (λ ls. ls ++ played_lists config (thread + 1) (next_all config at calls)
    (drop (thread + 1) lists)) added
    ∙ append_assoc lines (played config thread 0 at calls)
    (played_lists config (thread + 1) (next_all config at calls) (drop (thread + 1) lists))
    ∙ ap (λ n. lines ++ (played config thread 0 at calls ++
    played_lists config n (next_all config at calls) (drop (thread + 1) lists)))
    (add-one thread)
    ∙ ap (λ ls. lines ++ played_lists config thread at ls)
    (sym (left_from lists thread calls here))
    ∙ reported

-- A replay in the midst of a list: what it has told, with what the calls that are left tell, is
-- what it told before with what all of them tell; and they lead to where all of them lead.
pub record IsUnderWay (old new : Player) (config : ConfigView) (thread index : ℕ)
    (calls left : List Call) (from : Standing) : Type 0 where
  pub at : Standing
  pub stands : StandsAt new config at
  pub reported : new.lines.items ++ played config thread index at left ≡ old.lines.items ++
      played config thread 0 from calls
  pub leads : next_all config at left ≡ next_all config from calls

-- One more call of the list is answered, and its line is told.
pub one_more_call : (old mid new : Player) (config : ConfigView) (thread index : ℕ)
    (calls : List Call) (call : Call) (said : CallAnswer) (from : Standing) → index < length calls →
    call ≡ get_or calls index call
    → ((config : ConfigView) (at : Standing) → StandsAt mid config at →
    said ≡ said_at config at call)
    → ((config : ConfigView) (at : Standing) → StandsAt mid config at →
    StandsAt new config (next config at call))
    → new.lines.items ≡ mid.lines.items ++
    record { thread = thread; index = index; said = said } ∷ []
    → IsUnderWay old mid config thread index calls (drop index calls) from →
    IsUnderWay old new config thread (index + 1) calls (drop (index + 1) calls) from
one_more_call old mid new config thread index calls call said from lt is says stands lines u =
    let here : drop index calls ≡ call ∷ drop (index + 1) calls =
    left_from calls index call (slice_get_read calls (length calls) index call refl lt is) in
    let after = next config u.at call in
    let left = drop (index + 1) calls in
    let line : record { thread = thread; index = index; said = said } ∷
    played config thread (index + 1) after left ≡ played config thread index u.at
    (drop index calls)
    = ap (λ (s : CallAnswer). record { thread = thread; index = index; said = s } ∷
    played config thread (index + 1) after left) (says config u.at u.stands)
    ∙ ap (λ n. record { thread = thread; index = index; said = said_at config u.at call } ∷
    played config thread n after left) (add-one index)
    ∙ sym (ap (played config thread index u.at) here) in
    record {
      at = after;
      stands = stands config u.at u.stands;
      reported = ap (λ ls. ls ++ played config thread (index + 1) after left) lines
          ∙ append_assoc mid.lines.items
          (record { thread = thread; index = index; said = said } ∷ [])
          (played config thread (index + 1) after left)
          ∙ ap (λ ls. mid.lines.items ++ ls) line ∙ u.reported;
      leads = sym (ap (next_all config u.at) here) ∙ u.leads;
    }

-- Where no call is left, all lines of the list are told.
pub all_reported : (old new : Player) (config : ConfigView) (thread index : ℕ) (calls : List Call)
    (from : Standing) → length calls ≤ index →
    IsUnderWay old new config thread index calls (drop index calls) from
    → new.lines.items ≡ old.lines.items ++ played config thread 0 from calls
all_reported old new config thread index calls from le u =
    sym (append-nil new.lines.items) ∙
    ap (λ cs. new.lines.items ++ played config thread index u.at cs)
    (sym (drop_of_length-le calls le)) ∙ u.reported

-- And the replay stands where all calls lead.
pub all_made : (old new : Player) (config : ConfigView) (thread index : ℕ) (calls : List Call)
    (from : Standing) → length calls ≤ index →
    IsUnderWay old new config thread index calls (drop index calls) from
    → StandsAt new config (next_all config from calls)
all_made old new config thread index calls from le u =
    subst (StandsAt new config) (sym (ap (next_all config u.at) (drop_of_length-le calls le)) ∙
    u.leads) u.stands
