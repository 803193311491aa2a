-- The fair finish of what is kept, part by part.
use Rattle.std.specs.Prelude.{◌≡◌, ℕ, suc, ◌+◌, Bool, true, false, length, fold}
use Rattle.std.specs.List.{range_with_len}
use Rattle.swap_digraph.specs.Graph.{arcs}
use Rattle.swap_job.specs.declared.event.Event.TheVariants.{Look, Act}
use Rattle.swap_run.specs.Fair.{repeat, most_acts}
use Rattle.swap_many.specs.declared.many_event.ManyEvent.TheVariants.{Tick, In, Sweep}
use Rattle.swap_many.specs.Chains.{Setup, slots}
use Rattle.swap_many.specs.Many.{last_horizon, swap_looks, swap_turn, swap_turns, many_round, all_ended, round_or_rest}
use Rattle.swap_many.specs.Kept.{Kept, kept_done}

abbrev pub high : Kept → ℕ → ℕ
high z i = (z.clocks i).height

-- party v of swap s looks at arc a
abbrev pub kept_look : ℕ → ℕ → Setup → Kept → ℕ → Kept
kept_look s v m z a = kept_done false m z (In s (Look v a))

abbrev pub kept_looks : ℕ → ℕ → Setup → Kept → Kept
kept_looks s v m z = swap_looks m (kept_done false m) (kept_done true m) high s v z

abbrev pub kept_act : ℕ → ℕ → Setup → Kept → Kept
kept_act s v m z = kept_done false m z (In s (Act v))

-- a party that conforms acts until nothing is due
abbrev pub kept_acts : ℕ → ℕ → Setup → Kept → Kept
kept_acts s v m z = repeat (most_acts (m.cast s).deal) (kept_act s v m) z

abbrev pub kept_turn : ℕ → Setup → Kept → ℕ → Kept
kept_turn s m z v = swap_turn m (kept_done false m) (kept_done true m) high s z v

abbrev pub kept_turns : Setup → Kept → ℕ → Kept
kept_turns m z s = swap_turns m (kept_done false m) (kept_done true m) high z s

abbrev pub kept_chain_tick : Setup → Kept → ℕ → Kept
kept_chain_tick m z i = kept_done false m z (Tick i 1)

abbrev pub kept_ticks : Setup → Kept → Kept
kept_ticks m z = fold (kept_chain_tick m) z (range_with_len 0 (length m.chains))

abbrev pub kept_round : Setup → Kept → Kept
kept_round m z = many_round m (kept_done false m) (kept_done true m) high z

abbrev pub have_ended : Setup → Kept → Bool
have_ended m z = all_ended m (kept_done false m) (kept_done true m) high z

abbrev pub kept_round_or_rest : Setup → Kept → Kept
kept_round_or_rest m z = round_or_rest m (kept_done false m) (kept_done true m) high z

abbrev pub kept_rounds : Setup → Kept → Kept
kept_rounds m z = repeat (last_horizon m + 1) (kept_round_or_rest m) z

-- a sweep of the slot of arc a of swap s
abbrev pub swept_kept : ℕ → Setup → Kept → ℕ → Kept
swept_kept s m z a = kept_done true m z (Sweep s a)

abbrev pub kept_swap_sweeps : Setup → Kept → ℕ → Kept
kept_swap_sweeps m z s = fold (swept_kept s m) z (arcs (m.cast s).deal.graph)

abbrev pub kept_sweeps : Setup → Kept → Kept
kept_sweeps m z = fold (λ z t. kept_done true m z (Sweep t.swap t.arc)) z (slots m)

-- a round after n ticks of each chain leads from z to where n + 1 rounds lead
abbrev pub SkipsKeptRounds : Setup → ℕ → Kept → Type 0
SkipsKeptRounds m n z = repeat (suc n) (kept_round_or_rest m) z ≡ kept_round m (repeat n (kept_ticks m) z)
