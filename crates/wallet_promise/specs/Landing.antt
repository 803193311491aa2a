-- What becomes of calls that are answered, and of hashkeys that are withheld.
use Rattle.std.specs.Prelude.{◌≡◌, ◌⊎◌, ℕ, ◌<◌, ◌≤◌, true, false, length, List, Option, Some, None}
use Rattle.swap_base.specs.Lists.{IsElement, IsMoment}
use Rattle.time_bounds.specs.Times as times
use Rattle.swap_digraph.specs.Graph.{leaving, entering}
use Rattle.swap_digraph.specs.declared.deal.Deal.{Deal}
use Rattle.hashkey_path.specs.declared.hashkey.Hashkey.{Hashkey}
use Rattle.escrow_core.specs.declared.terms.Terms.{Terms}
use Rattle.escrow_core.specs.declared.reply.Reply.TheVariants.{Accepted}
use Rattle.escrow_core.specs.Terms.{stated_terms}
use Rattle.ledger_core.specs.declared.entry.Call.TheVariants.{Publish, Unlock}
use Rattle.ledger_core.specs.declared.entry.Entry.{Entry}
use Rattle.ledger_core.specs.History.{height, published, Publication, settled, is_full, is_open, history_reply}
use Rattle.ledger_core.specs.Book.{Histories, history, IsLegalBook}
use Rattle.swap_rules.specs.declared.finding.Rule.TheVariants.{Unlock as ToUnlock}
use Rattle.swap_rules.specs.declared.outcome.Outcome.TheVariants.{Underwater}
use Rattle.swap_rules.specs.Accepted.{IsAccepted}
use Rattle.swap_rules.specs.Party.{is_triggered, is_ready, pick_call}
use Rattle.swap_rules.specs.Conduct.{IsConducted}
use Rattle.swap_rules.specs.Late.{reference_height}
use Rattle.swap_rules.specs.Due.{Wallet, Action}
use Rattle.swap_rules.specs.Machine.{Begins, IsWallet, IsGoodKey}
use Rattle.swap_rules.specs.Outcome.{outcome}
use Rattle.swap_rules.specs.Laws.{IsUnforged}
use Rattle.swap_rules.specs.Walking.{HasLost}
use Rattle.swap_rules.specs.Counted.{all_counted}
use Rattle.swap_rules.specs.Useful.{takes, useful}

-- What v hands over: every hashkey opens its lock on each arc that enters v, and what v published
-- has the correct terms.
pub record IsInOrder (d : Deal) (v : ℕ) (kept : ℕ → Option Hashkey) (k : Histories) : Type 0 where
  pub good : (i : ℕ) (key : Hashkey) → kept i ≡ Some key → IsGoodKey d v i key
  pub own : (c : ℕ) (p : Publication) → IsElement c (leaving d.graph v) → published (history k c) ≡ Some p → p.terms ≡ stated_terms d c

-- The ledger as a call of v lands that presents a hashkey for this lock: it went on from what was
-- known to a height of at most `most`. The contract isn't settled, the lock isn't open, and v's
-- entries don't fill the ledger.
pub record LandsOpen (v lock most : ℕ) (known h : List Entry) : Type 0 where
  pub later : Begins known h
  pub low : height h ≤ most
  pub unsettled : settled h ≡ None
  pub closed : is_open h lock ≡ false
  pub room : is_full h v ≡ false

-- An unlock that is answered is accepted wherever it lands by then. Refused calls of v make no
-- difference.
abbrev pub AnsweredIsAccepted : Type 0
AnsweredIsAccepted =
    (d : Deal) (v : ℕ) (at : ℕ → ℕ) (w : Wallet) (kept : ℕ → Option Hashkey) (k : Histories) (x : Action) (key : Hashkey) (h : List Entry)
    → IsLegalBook d k → IsWallet d v w → IsInOrder d v kept k → IsElement x (useful d v at w kept (all_counted v k)) → x.call ≡ Unlock key
    → LandsOpen v key.lock (at x.arc) (history k x.arc) h → history_reply d x.arc h v (Unlock key) ≡ Accepted

-- a publish that is answered has the correct terms, and lands by the height by which contracts open
abbrev pub AnsweredOpens : Type 0
AnsweredOpens =
    (d : Deal) (v : ℕ) (at : ℕ → ℕ) (w : Wallet) (kept : ℕ → Option Hashkey) (k : Histories) (x : Action) (t : Terms)
    → IsElement x (useful d v at w kept k) → x.call ≡ Publish t
    → (t ≡ stated_terms d x.arc) × (at x.arc ≤ times.opening_deadline d.start d.delta d.bound)

-- The unlocks of v for lock i on arc c carry this hashkey, and land no earlier than at c unless
-- they are known.
abbrev pub LandsLate : Histories → Histories → ℕ → ℕ → ℕ → Hashkey → ℕ → Type 0
LandsLate k b v i c key at =
    (past : List Entry) (e : Entry) (other : Hashkey) → IsMoment (history b c) past e → pick_call v e ≡ Some (Unlock other) → other.lock ≡ i
    → (other ≡ key) × (IsMoment (history k c) past e ⊎ (at ≤ e.height))

-- Where an arc that enters v doesn't take v's hashkey for a lock, that arc is never triggered: v
-- never has the whole deal, and it is underwater if it loses anything. So to present the hashkey
-- elsewhere can't help it to be safe, and can only help others to trigger what leaves it.
abbrev pub MissedIsNeverPaid : Type 0
MissedIsNeverPaid =
    (d : Deal) (v i c : ℕ) (at : ℕ → ℕ) (k b : Histories) (key : Hashkey) → IsLegalBook d b → IsConducted d b v → i < length d.leaders
    → Begins (history k c) (history b c) → IsElement c (entering d.graph v) → takes d at k i (Some key) c ≡ false → LandsLate k b v i c key (at c)
    → (is_triggered d b c ≡ false) × (HasLost d b v → outcome d b v ≡ Underwater)

-- Whatever v withheld: once an arc that leaves it is triggered, v is ready, and each unlock on each
-- arc that enters it is enabled.
abbrev pub LostIsEnabled : Type 0
LostIsEnabled =
    (d : Deal) (v : ℕ) (b : Histories) → IsAccepted d → IsLegalBook d b → IsConducted d b v → IsUnforged d b v → HasLost d b v
    → (is_ready d b v ≡ true)
    × ((i a : ℕ) → i < length d.leaders → IsElement a (entering d.graph v) → (ref : ℕ) × (reference_height d b v (ToUnlock i) a ≡ Some ref))
