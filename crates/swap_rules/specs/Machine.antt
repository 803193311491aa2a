-- A party that acts on what it knows: its knowledge, its wallet, and the rules that each of its
-- calls keeps as it is made.
use Rattle.std.specs.Prelude.{◌≡◌, ℕ, ◌<◌, Bool, true, false, ◌||◌, ◌==◌, IsTrue, List, ◌++◌, length, Option, Some, is_some, if◌then◌else◌}
use Rattle.std.specs.Str.{bytes_eq}
use Rattle.swap_base.specs.Lists.{IsElement, IsMoment}
use Rattle.swap_digraph.specs.Graph.{leaving, entering, is_listed}
use Rattle.swap_digraph.specs.declared.deal.Mode.{Mode}
use Rattle.swap_digraph.specs.declared.deal.Mode.TheVariants.{Timelocks, Hashkeys}
use Rattle.swap_digraph.specs.declared.deal.Deal.{Deal}
use Rattle.swap_digraph.specs.Deal.{leads, lock_hashlock}
use Rattle.hashkey_path.specs.declared.hashkey.Hashkey.{Hashkey}
use Rattle.hashkey_path.specs.Hashkey.{is_valid}
use Rattle.escrow_core.specs.Terms.{stated_terms, same_terms}
use Rattle.ledger_core.specs.declared.entry.Call.{Call}
use Rattle.ledger_core.specs.declared.entry.Call.TheVariants.{Publish, Unlock, Claim, Refund, Transfer}
use Rattle.ledger_core.specs.declared.entry.Entry.{Entry}
use Rattle.ledger_core.specs.History.{height, published, triggered, is_sender, history_reply}
use Rattle.ledger_core.specs.Ledger.{call_entry}
use Rattle.ledger_core.specs.Book.{Histories, history, IsLegalBook}
use Rattle.swap_rules.specs.declared.finding.Rule.{Rule}
use Rattle.swap_rules.specs.declared.finding.Rule.TheVariants.{Publish as ToPublish, Unlock as ToUnlock, Claim as ToClaim, Refund as ToRefund}
use Rattle.swap_rules.specs.Party.{is_ready, has_expired, leads_one, pick_call}
use Rattle.swap_rules.specs.Conduct.{is_publish, is_alone, extends_without_party, has_origin}
use Rattle.swap_rules.specs.Due.{Wallet, unlocks_lock, is_claiming, is_refunding, has_called}

-- Knowledge.

-- the list h begins with k
abbrev pub Begins : {A : Type 0} → List A → List A → Type 0
Begins {A} k h = (rest : List A) × (h ≡ k ++ rest)

-- k is a prefix of h that holds every call of v in h.
pub record Knows (v : ℕ) (k h : List Entry) : Type 0 where
  pub rest : List Entry
  pub whole : h ≡ k ++ rest
  pub others : (e : Entry) → IsElement e rest → is_sender v e.sender ≡ false

-- the entry of a call of p at the end of the history
abbrev pub appended_entry : Deal → ℕ → List Entry → ℕ → Call → Entry
appended_entry d a h p c = call_entry p (height h) c (history_reply d a h p c)

-- What a wallet of v signs: hashkeys that are valid on every arc that enters v, with the origin
-- that conduct asks for.

-- v's own hashkey: with hashkeys, its path is v alone
abbrev pub IsOwnKey : Mode → ℕ → Hashkey → Type 0
IsOwnKey Timelocks v key = Unit {0}
IsOwnKey Hashkeys v key = IsTrue (is_alone v key.path)

-- a hashkey made from another. With hashkeys it extends the other by v, and the other's path lacks
-- v. With timelocks it has the other's secret.
abbrev pub IsDerivedHashkey : Mode → ℕ → Hashkey → Hashkey → Type 0
IsDerivedHashkey Timelocks v inner key = IsTrue (bytes_eq inner.secret key.secret)
IsDerivedHashkey Hashkeys v inner key = IsTrue (extends_without_party v key (Some (Unlock inner)))

-- A hashkey for lock i that opens it on every arc that enters v.
pub record IsGoodKey (d : Deal) (v i : ℕ) (key : Hashkey) : Type 0 where
  pub lock : key.lock ≡ i
  pub valid : (a : ℕ) → IsElement a (entering d.graph v) → is_valid d a (lock_hashlock d key.lock) key ≡ true

-- A wallet of v: its own hashkeys for the locks that v leads, and hashkeys made from valid ones
-- with a path without v.
pub record IsWallet (d : Deal) (v : ℕ) (w : Wallet) : Type 0 where
  pub first : (i : ℕ) → i < length d.leaders → leads d v i ≡ true → IsGoodKey d v i (w.first i) × IsOwnKey d.mode v (w.first i)
  pub onto : (c : ℕ) (inner : Hashkey) → IsElement c (leaving d.graph v) → inner.lock < length d.leaders
      → is_valid d c (lock_hashlock d inner.lock) inner ≡ true → is_listed v inner.path ≡ false
      → IsGoodKey d v inner.lock (w.onto inner) × IsDerivedHashkey d.mode v inner (w.onto inner)

-- the hashkeys that were signed, after a call
abbrev pub noted : (ℕ → Option Hashkey) → Call → ℕ → Option Hashkey
noted signed (Unlock key) i = if i == key.lock then Some key else signed i
noted signed _ i = signed i

-- The rules that a machine keeps call by call. Conduct follows from them in every book that holds
-- its knowledge and no further call of it.

-- whether a call is one that the rule speaks of
abbrev pub rule_test : Rule → Option Call → Bool
rule_test ToPublish = is_publish
rule_test (ToUnlock i) = unlocks_lock i
rule_test ToClaim = is_claiming
rule_test ToRefund = is_refunding

-- what a call of v on arc a keeps, over the book, the entries before it and what v has signed: it
-- is allowed, and the first of its kind
abbrev pub KeepsOwn : Deal → Histories → (ℕ → Option Hashkey) → ℕ → ℕ → List Entry → Call → Type 0
KeepsOwn d b signed v a past (Publish t) =
    (same_terms t (stated_terms d a) ≡ true) × ((leads_one d v || is_ready d b v) ≡ true) × (has_called v is_publish past ≡ false)
KeepsOwn d b signed v a past (Unlock key) =
    (is_some (published past) ≡ true) × (is_ready d b v ≡ true) × (signed key.lock ≡ Some key) × IsElement a (entering d.graph v)
    × (has_called v (unlocks_lock key.lock) past ≡ false)
KeepsOwn d b signed v a past Claim = (triggered d past ≡ true) × (has_called v is_claiming past ≡ false)
KeepsOwn d b signed v a past Refund = (has_expired d a past (height past) ≡ true) × (has_called v is_refunding past ≡ false)
KeepsOwn d b signed v a past (Transfer to units) = ⊥

-- What a hashkey that v signed for lock i keeps.
pub record KeepsKey (d : Deal) (b : Histories) (v i : ℕ) (key : Hashkey) : Type 0 where
  pub below : i < length d.leaders
  pub good : IsGoodKey d v i key
  pub origin : has_origin d.mode d b v key ≡ true

-- What all calls and hashkeys of v keep.
pub record KeepsRules (d : Deal) (b : Histories) (signed : ℕ → Option Hashkey) (v : ℕ) : Type 0 where
  pub own : (a : ℕ) (past : List Entry) (e : Entry) (c : Call) → IsMoment (history b a) past e → pick_call v e ≡ Some c → KeepsOwn d b signed v a past c
  pub keys : (i : ℕ) (key : Hashkey) → signed i ≡ Some key → KeepsKey d b v i key

-- A machine's state is sound: what it knows is legal, and its calls there keep its rules.
pub record IsSound (d : Deal) (known : Histories) (signed : ℕ → Option Hashkey) (v : ℕ) : Type 0 where
  pub legal : IsLegalBook d known
  pub rules : KeepsRules d known signed v
