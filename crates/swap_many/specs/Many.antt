-- The run of many swaps, by the histories of their chains.
use Rattle.std.specs.Prelude.{ℕ, ◌+◌, Bool, true, false, nat_lt, List, [], length, fold, Option, Some, None, option_map, if◌then◌else◌}
use Rattle.std.specs.List.{list_all, range_with_len}
use Rattle.swap_base.specs.Lists.{greatest}
use Rattle.swap_job.specs.declared.event.Event.{Event}
use Rattle.swap_job.specs.declared.event.Event.TheVariants.{Look, Act}
use Rattle.swap_run.specs.Run.{State, conforms, start}
use Rattle.swap_run.specs.Fair.{repeat, adjacent_arcs, most_acts, the_horizon}
use Rattle.swap_many.specs.declared.many_event.ManyEvent.{ManyEvent}
use Rattle.swap_many.specs.declared.many_event.ManyEvent.TheVariants.{Tick, In, Pay, Sweep}
use Rattle.swap_many.specs.declared.many_reply.ManyReply.{ManyReply}
use Rattle.swap_run.specs.Called.{Called as Call, called, before_call, called_state}
use Rattle.swap_many.specs.Chains.{Setup, slots, arc_chain, put, Ticked, Called, Paid, Emptied, ChainEntry, chain_height, chain_ticks, projection}
use Rattle.swap_many.specs.Chains.{Chains, book, free, is_swept, reply_to_call, chain_tick_reply, reply_to_payment, reply_to_sweep, entered}

-- The histories of the chains so far; and of each swap what its parties know and plan, and what its
-- strategies were asked.
pub record Run : Type 0 where
  pub chains : Chains
  pub minds : ℕ → State

-- swap s, over the projections of the chains
abbrev pub swap_state : Setup → Run → ℕ → State
swap_state m r s = record (r.minds s) { book = book m r.chains s }

-- An entry that an event makes, and its chain.
pub record Post : Type 0 where
  pub chain : ℕ
  pub entry : ChainEntry

-- the entry of a call of a party of swap s
abbrev pub post_call : Setup → Run → ℕ → Call → Post
post_call m r s x = record {
  chain = arc_chain m s x.arc;
  entry =
      record {
        height = chain_height (r.chains (arc_chain m s x.arc));
        deed = Called s x.arc x.sender x.call;
        reply = reply_to_call m (r.chains (arc_chain m s x.arc)) s x.arc x.sender x.call;
      };
}

-- the entry that an event makes, where it makes one
abbrev pub post : (fair : Bool) → Setup → Run → ManyEvent → Option Post
post fair m r (Tick i k) = Some (record {
  chain = i;
  entry =
      record {
        height = chain_height (r.chains i) + k;
        deed = Ticked k;
        reply = chain_tick_reply (chain_ticks (r.chains i)) (chain_height (r.chains i)) k;
      };
})
post fair m r (In s e) = option_map (post_call m r s) (called (m.cast s) (swap_state m r s) e)
post fair m r (Pay i from to units) = Some (record {
  chain = i;
  entry =
      record {
        height = chain_height (r.chains i);
        deed = Paid from to units;
        reply = reply_to_payment (free m i (r.chains i) from) units;
      };
})
post fair m r (Sweep s a) = Some (record {
  chain = arc_chain m s a;
  entry =
      record {
        height = chain_height (r.chains (arc_chain m s a));
        deed = Emptied s a;
        reply =
            reply_to_sweep fair (the_horizon (m.cast s).deal) (chain_height (r.chains (arc_chain m s a))) (is_swept s a (r.chains (arc_chain m s a)))
            (projection s a (r.chains (arc_chain m s a)));
      };
})

-- the chains after an entry, if any
abbrev pub posted : Chains → Option Post → Chains
posted h None = h
posted h (Some x) = put h x.chain (entered (h x.chain) x.entry)

-- the state of swap s after an event of its own; the event's call, if any, is made, and the chains
-- are then h
abbrev pub heard : Setup → Run → Chains → ℕ → Event → Option Call → State
heard m r h s e None = before_call (m.cast s) (swap_state m r s) e
heard m r h s e (Some x) = called_state (m.cast s) (swap_state m r s) e x (projection s x.arc (h (arc_chain m s x.arc)))

abbrev pub next_minds : Setup → Run → Chains → ManyEvent → ℕ → State
next_minds m r h (In s e) = put r.minds s (heard m r h s e (called (m.cast s) (swap_state m r s) e))
next_minds m r h _ = r.minds

-- what an event does; a sweep of a fair finish does also what the last row of its table refuses
abbrev pub done : (fair : Bool) → Setup → Run → ManyEvent → Run
done fair m r e = record { chains = posted r.chains (post fair m r e); minds = next_minds m r (posted r.chains (post fair m r e)) e }

abbrev pub many_step : Setup → Run → ManyEvent → Run
many_step m r e = done false m r e

-- the reply to the tick, the call, the payment or the sweep of an event
abbrev pub many_reply : Setup → Run → ManyEvent → Option ManyReply
many_reply m r e = option_map (λ x. x.entry.reply) (post false m r e)

-- before any event
abbrev pub many_start : Setup → Run
many_start m = record { chains = λ i. []; minds = λ s. start (m.cast s) }

-- after a list of events
abbrev pub many_run : Setup → List ManyEvent → Run
many_run m events = fold (many_step m) (many_start m) events

-- The fair finish.

-- The greatest horizon of a swap.
abbrev pub last_horizon : Setup → ℕ
last_horizon m = greatest (λ s. the_horizon (m.cast s).deal) (range_with_len 0 m.swaps)

-- The words of a fair finish over any kind of state with a step and with heights.
module _ {S : Type 0} (m : Setup) (step : S → ManyEvent → S) (sweep : S → ManyEvent → S) (height : S → ℕ → ℕ) where
  -- party v of swap s looks at each arc that touches it
  abbrev pub swap_looks : ℕ → ℕ → S → S
  swap_looks s v z = fold (λ z a. step z (In s (Look v a))) z (adjacent_arcs (m.cast s).deal v)

  -- party v of swap s looks and then acts: until nothing is due where it conforms, else once
  abbrev pub swap_turn : ℕ → S → ℕ → S
  swap_turn s z v =
      if conforms (m.cast s) v then repeat (most_acts (m.cast s).deal) (λ z. step z (In s (Act v))) (swap_looks s v z)
      else step (swap_looks s v z) (In s (Act v))

  -- the turns of the parties of swap s
  abbrev pub swap_turns : S → ℕ → S
  swap_turns z s = fold (swap_turn s) z (range_with_len 0 (m.cast s).deal.graph.n)

  -- every swap's turns, and then a tick by 1 of each chain
  abbrev pub many_round : S → S
  many_round z =
      fold (λ z i. step z (Tick i 1)) (fold swap_turns z (range_with_len 0 m.swaps)) (range_with_len 0 (length m.chains))

  -- every chain is above every horizon
  abbrev pub all_ended : S → Bool
  all_ended z = list_all (λ i. nat_lt (last_horizon m) (height z i)) (range_with_len 0 (length m.chains))

  abbrev pub round_or_rest : S → S
  round_or_rest z = if all_ended z then z else many_round z

  -- rounds until every chain is above every horizon, for which one more than the greatest are
  -- enough, and then a sweep of every slot
  abbrev pub swept_finish : S → S
  swept_finish z = fold (λ z t. sweep z (Sweep t.swap t.arc)) (repeat (last_horizon m + 1) round_or_rest z) (slots m)

abbrev pub many_finish : Setup → Run → Run
many_finish m r = swept_finish m (done false m) (done true m) (λ r i. chain_height (r.chains i)) r
