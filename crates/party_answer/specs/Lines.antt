-- What is answered for each useful call: that it may be presented, or that its hashkey has to be
-- kept first.
use Rattle.std.specs.Prelude.{ℕ, Bool, true, false, List, [], ◌∷◌, map, Option, Some, if◌then◌else◌}
use Rattle.time_bounds.specs.Times as times
use Rattle.swap_digraph.specs.declared.deal.Deal.{Deal}
use Rattle.hashkey_path.specs.declared.hashkey.Hashkey.{Hashkey}
use Rattle.ledger_core.specs.declared.entry.Call.{Call}
use Rattle.ledger_core.specs.declared.entry.Call.TheVariants.{Publish, Unlock}
use Rattle.ledger_core.specs.Book.{Histories}
use Rattle.swap_rules.specs.Due.{Action}
use Rattle.wallet_promise.specs.Life.{is_kept}
use Rattle.wallet_promise.specs.Answers.{is_asked}
use Rattle.answer_rules.specs.Heights.{last_on_time, last_accepted}
use Rattle.party_answer.specs.declared.timed.Timed.{Timed}

-- the last height at which a call helps: a publish as long as contracts open, and an unlock as long
-- as the contract accepts its hashkey
abbrev pub last_helpful : Deal → ℕ → Call → Option ℕ
last_helpful d a (Publish t) = Some (times.opening_deadline d.start d.delta d.bound)
last_helpful d a c = last_accepted d a c

-- a call with its heights: the last at which it is on time, and the last at which it helps
abbrev pub timed : Deal → Histories → ℕ → Action → Timed
timed d k v x = record { arc = x.arc; call = x.call; last = last_on_time d k v x.arc x.call; until = last_helpful d x.arc x.call }

-- the call without its heights
abbrev pub untimed : Timed → Action
untimed t = record { arc = t.arc; call = t.call }

pub data Line : Type 0 where
  -- the call may be presented
  Present : Timed → Line
  -- the hashkey has to be kept before this unlock with it
  KeepFirst : Timed → Hashkey → Line

abbrev pub keep_line : Timed → Call → Line
keep_line t (Unlock key) = KeepFirst t key
keep_line t c = Present t

abbrev pub kept_line : Bool → Timed → Line
kept_line true t = Present t
kept_line false t = keep_line t t.call

-- what is answered for a call by itself
abbrev pub own_line : (ℕ → Option Hashkey) → Timed → Line
own_line kept t = kept_line (is_kept kept t.call) t

-- with each hashkey asked for once: unlocks for one lock stand together, and carry one hashkey
abbrev pub each_once : Option ℕ → List Line → List Line
each_once asked [] = []
each_once asked (Present t ∷ xs) = Present t ∷ each_once asked xs
each_once asked (KeepFirst t key ∷ xs) = if is_asked asked key.lock then each_once asked xs else KeepFirst t key ∷ each_once (Some key.lock) xs

-- what is answered for these calls, where a hashkey for that lock, if any, was asked for before
-- them
abbrev pub call_lines : (ℕ → Option Hashkey) → Option ℕ → List Timed → List Line
call_lines kept asked ts = each_once asked (map (own_line kept) ts)
