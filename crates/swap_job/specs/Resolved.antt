-- The call that a move stands for.
use Rattle.std.specs.Prelude.{ℕ, ◌+◌, nat_le, Bool, true, false, not, List, length, Option, Some, None, option_map, unwrap_or, is_some}
use Rattle.swap_digraph.specs.declared.deal.Deal.{Deal}
use Rattle.swap_digraph.specs.Deal.{path_limit}
use Rattle.hashkey_path.specs.declared.hashkey.Hashkey.{Hashkey}
use Rattle.escrow_core.specs.declared.terms.Terms.{Terms}
use Rattle.escrow_core.specs.Terms.{stated_terms}
use Rattle.ledger_core.specs.declared.entry.Call.{Call}
use Rattle.ledger_core.specs.declared.entry.Call.TheVariants as calls
use Rattle.ledger_core.specs.Facts.{opened_key}
use Rattle.ledger_core.specs.Book.{Histories, history}
use Rattle.swap_job.specs.Crafted.{Seeds, crafted, crafted_within_limit}
use Rattle.swap_job.specs.declared.moves.Move.{Move}
use Rattle.swap_job.specs.declared.moves.Move.TheVariants.{Publish, Craft, Replay, Raw, Claim, Refund, Transfer, Wait}

-- the arc on which a move stands
abbrev pub move_arc : Move → ℕ
move_arc (Publish a start delta bound timelock amount locks) = a
move_arc (Craft a lock via onto) = a
move_arc (Replay a lock onto) = a
move_arc (Raw a key) = a
move_arc (Claim a) = a
move_arc (Refund a) = a
move_arc (Transfer a to units) = a
move_arc (Wait a height) = a

-- the correct terms of arc a, with the given ones in their place
abbrev pub overridden_terms : Terms → (start delta bound timelock amount : Option ℕ) → Option (List (List ℕ)) → Terms
overridden_terms t start delta bound timelock amount locks = record {
  locks = unwrap_or locks t.locks;
  start = unwrap_or start t.start;
  delta = unwrap_or delta t.delta;
  bound = unwrap_or bound t.bound;
  timelock = unwrap_or timelock t.timelock;
  amount = unwrap_or amount t.amount;
}

-- the call of a move that stands for one by itself
abbrev pub plain_call : Deal → Move → Option Call
plain_call d (Publish a start delta bound timelock amount locks) = Some (calls.Publish (overridden_terms (stated_terms d a) start delta bound timelock amount locks))
plain_call d (Raw a key) = Some (calls.Unlock key)
plain_call d (Claim a) = Some calls.Claim
plain_call d (Refund a) = Some calls.Refund
plain_call d (Transfer a to units) = Some (calls.Transfer to units)
plain_call d _ = None

-- the arc and the lock whose opening a move names
abbrev pub opening_named : Move → Option (ℕ × ℕ)
opening_named (Craft a lock via onto) = option_map (λ b. (b, lock)) onto
opening_named (Replay a lock onto) = Some (onto, lock)
opening_named _ = None

-- the hashkey that opened a lock on an arc, in what is known
abbrev pub key_opened : Histories → Option (ℕ × ℕ) → Option Hashkey
key_opened k None = None
key_opened k (Some x) = opened_key (history k x.0) x.1

-- the call of a move, where key is the hashkey of the opening that it names
abbrev pub build_call : Deal → Seeds → Option Hashkey → Move → Option Call
build_call d seeds key (Craft a lock via None) = option_map calls.Unlock (crafted d seeds lock None via)
build_call d seeds key (Craft a lock via (Some onto)) = option_map calls.Unlock (crafted_within_limit d seeds lock key via)
build_call d seeds key (Replay a lock onto) = option_map calls.Unlock key
build_call d seeds key mv = plain_call d mv

-- the call of a move, over what is known
abbrev pub call_of_move : Deal → Seeds → Histories → Move → Option Call
call_of_move d seeds k mv = build_call d seeds (key_opened k (opening_named mv)) mv

-- the call of a move with its arc, over what is known
abbrev pub resolved : Deal → Seeds → Histories → Move → Option (ℕ × Call)
resolved d seeds k mv = option_map (λ c. (move_arc mv, c)) (call_of_move d seeds k mv)

-- the parties can't extend the hashkey: there is none, or the path would be too long
abbrev pub is_out_of_reach : Deal → List ℕ → Option Hashkey → Bool
is_out_of_reach d via None = true
is_out_of_reach d via (Some key) = not (nat_le (length via + length key.path) (path_limit d))

-- a move stands for no call: it waits, it names an opening that isn't known, or the path that it
-- crafts would be too long
abbrev pub is_idle : Deal → Histories → Move → Bool
is_idle d k (Wait a height) = true
is_idle d k (Replay a lock onto) = not (is_some (opened_key (history k onto) lock))
is_idle d k (Craft a lock via (Some onto)) = is_out_of_reach d via (opened_key (history k onto) lock)
is_idle d k mv = false
