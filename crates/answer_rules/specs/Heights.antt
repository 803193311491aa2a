-- The heights that an answer tells of a call: up to which it is on time, and up to which the
-- contract accepts it.
use Rattle.std.specs.Prelude.{◌≡◌, ◌≤◌, ℕ, ◌+◌, true, nat_lt, length, Option, Some, None, if◌then◌else◌}
use Rattle.swap_digraph.specs.declared.deal.Deal.{Deal}
use Rattle.hashkey_path.specs.declared.hashkey.Hashkey.{Hashkey}
use Rattle.escrow_core.specs.Terms.{stated_terms, last_unlock}
use Rattle.ledger_core.specs.declared.entry.Call.{Call}
use Rattle.ledger_core.specs.declared.entry.Call.TheVariants.{Publish, Unlock, Claim, Refund, Transfer}
use Rattle.ledger_core.specs.Book.{Histories}
use Rattle.swap_rules.specs.declared.finding.Rule.{Rule}
use Rattle.swap_rules.specs.declared.finding.Rule.TheVariants.{Publish as ToPublish, Unlock as ToUnlock, Claim as ToClaim, Refund as ToRefund}
use Rattle.swap_rules.specs.Party.{ready_height}
use Rattle.swap_rules.specs.Late.{reference_height}
use Rattle.swap_rules.specs.Due.{Action}
use Rattle.swap_rules.specs.Machine.{rule_test}

-- the height from which a rule of the deal asks v for the call on arc a, where the rule is enabled
-- over what is known
abbrev pub asked_height : Deal → Histories → ℕ → ℕ → Call → Option ℕ
asked_height d k v a (Publish t) = reference_height d k v ToPublish a
asked_height d k v a (Unlock key) = if nat_lt key.lock (length d.leaders) then reference_height d k v (ToUnlock key.lock) a else None
asked_height d k v a Claim = reference_height d k v ToClaim a
asked_height d k v a Refund = reference_height d k v ToRefund a
asked_height d k v a (Transfer to units) = None

abbrev pub height_or : Option ℕ → ℕ → ℕ
height_or (Some n) m = n
height_or None m = m

-- The last height at which v's call on arc a is on time: delta above the height from which the
-- call's rule asks for it. Where what is known doesn't enable the rule, it is delta above the
-- height from which v is ready. An unlock can be such a call: its hashkey was kept, and the ledgers
-- tell nothing of it.
abbrev pub last_on_time : Deal → Histories → ℕ → ℕ → Call → ℕ
last_on_time d k v a c = height_or (asked_height d k v a c) (ready_height d k v) + d.delta

-- the last height at which the contract of arc a, with the correct terms, accepts the hashkey of an
-- unlock; of another call there is none
abbrev pub last_accepted : Deal → ℕ → Call → Option ℕ
last_accepted d a (Unlock key) = Some (last_unlock d.mode (stated_terms d a) key)
last_accepted d a _ = None

-- A hashkey that the call presents has at most a million vertices on its path.
abbrev pub IsShort : Call → Type 0
IsShort (Unlock key) = length key.path ≤ 1000000
IsShort _ = Unit {0}

-- Why a call of v is on time up to that height, where these hashkeys were kept: its rule asks for
-- it, delta before; or it presents a hashkey that was kept, and the rule isn't enabled over what is
-- known.
pub data HasHeight (d : Deal) (k : Histories) (v : ℕ) (kept : ℕ → Option Hashkey) (x : Action) (last : ℕ) : Type 0 where
  ByRule : (rule : Rule) (ref : ℕ) → rule_test rule (Some x.call) ≡ true → reference_height d k v rule x.arc ≡ Some ref → last ≡ ref + d.delta
      → HasHeight d k v kept x last
  OfKept : (key : Hashkey) → x.call ≡ Unlock key → kept key.lock ≡ Some key → reference_height d k v (ToUnlock key.lock) x.arc ≡ None
      → last ≡ ready_height d k v + d.delta → HasHeight d k v kept x last
