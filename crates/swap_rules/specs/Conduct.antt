-- The rules of conduct, as tests of one finished book (Herlihy 2018, section 4.2).
use Rattle.std.specs.Prelude.{ℕ, Bool, true, false, not, ◌&&◌, ◌||◌, ◌==◌, IsTrue, List, [], ◌∷◌, count_by, Option, Some, None, is_some, if◌then◌else◌}
use Rattle.std.specs.List.{list_any, list_all}
use Rattle.std.specs.Str.{bytes_eq}
use Rattle.swap_base.specs.Lists.{Moment, moments, same_list}
use Rattle.swap_digraph.specs.Graph.{leaving, is_listed}
use Rattle.swap_digraph.specs.declared.deal.Mode.{Mode}
use Rattle.swap_digraph.specs.declared.deal.Mode.TheVariants.{Timelocks, Hashkeys}
use Rattle.swap_digraph.specs.declared.deal.Deal.{Deal}
use Rattle.swap_digraph.specs.Deal.{leads, lock_hashlock}
use Rattle.hash_signature.specs.declared.sig.Sig.{Sig}
use Rattle.hashkey_path.specs.declared.hashkey.Hashkey.{Hashkey}
use Rattle.hashkey_path.specs.Hashkey.{same_key, is_valid}
use Rattle.escrow_core.specs.Terms.{stated_terms, same_terms}
use Rattle.ledger_core.specs.declared.entry.Call.{Call}
use Rattle.ledger_core.specs.declared.entry.Call.TheVariants.{Publish, Unlock, Claim, Refund, Transfer}
use Rattle.ledger_core.specs.declared.entry.Entry.{Entry}
use Rattle.ledger_core.specs.History.{accepted, published, triggered}
use Rattle.ledger_core.specs.Book.{Histories, history}
use Rattle.swap_rules.specs.Party.{is_ready, has_expired, leads_one, pick_call, first_key}

-- the call is a publish
abbrev pub is_publish : Option Call → Bool
is_publish (Some (Publish t)) = true
is_publish _ = false

-- the hashkey is the first one
abbrev pub is_first_key : Option Hashkey → Hashkey → Bool
is_first_key None key = false
is_first_key (Some first) key = same_key first key

-- the call is an unlock with that secret
abbrev pub carries : List ℕ → Option Call → Bool
carries secret (Some (Unlock key)) = bytes_eq key.secret secret
carries secret _ = false

-- the hashkey, whose path and signatures are these, is v and v's signature put before the inner
-- hashkey
abbrev pub extends_inner_key : ℕ → Hashkey → List ℕ → List Sig → Hashkey → Bool
extends_inner_key v inner (u ∷ p) (s ∷ sigs) key = (u == v) && same_key inner (record { lock = key.lock; secret = key.secret; path = p; sigs = sigs })
extends_inner_key v inner _ _ key = false

-- the call is an unlock with a hashkey that this one extends by v
abbrev pub extends : ℕ → Hashkey → Option Call → Bool
extends v key (Some (Unlock inner)) = extends_inner_key v inner key.path key.sigs key
extends v key _ = false

-- the call is an unlock with an inner hashkey: this one extends it by v, and its path lacks v
abbrev pub extends_without_party : ℕ → Hashkey → Option Call → Bool
extends_without_party v key (Some (Unlock inner)) = not (is_listed v inner.path) && extends_inner_key v inner key.path key.sigs key
extends_without_party v key _ = false

-- the path is v alone
abbrev pub is_alone : ℕ → List ℕ → Bool
is_alone v p = same_list (λ x y. x == y) p (v ∷ [])

-- whether an accepted call on an arc that leaves v passes the test
abbrev pub has_seen : Deal → Histories → ℕ → (Option Call → Bool) → Bool
has_seen d b v test = list_any (λ a. list_any (λ e. test (accepted e)) (history b a)) (leaving d.graph v)

-- where the hashkey of an unlock comes from: from v where it leads the lock, else from an arc that
-- leaves v, and there from a path without v
abbrev pub has_origin : Mode → Deal → Histories → ℕ → Hashkey → Bool
has_origin Timelocks d b v key = leads d v key.lock || has_seen d b v (carries key.secret)
has_origin Hashkeys d b v key = if leads d v key.lock then is_alone v key.path else has_seen d b v (extends_without_party v key)

-- the rules of conduct: for a call of v on arc a, made at a height after the entries before it
unfoldable pub keeps : Deal → Histories → ℕ → ℕ → List Entry → ℕ → Option Call → Bool
keeps d b v a past at None = true
keeps d b v a past at (Some (Publish t)) =
    same_terms t (stated_terms d a)
    && (count_by (λ e. is_publish (pick_call v e)) (history b a) == 1)
    && (leads_one d v || is_ready d b v)
keeps d b v a past at (Some (Unlock key)) =
    is_some (published past)
    && is_ready d b v
    && is_first_key (first_key b v key.lock) key
    && is_valid d a (lock_hashlock d key.lock) key
    && has_origin d.mode d b v key
keeps d b v a past at (Some Claim) = triggered d past
keeps d b v a past at (Some Refund) = has_expired d a past at
keeps d b v a past at (Some (Transfer to units)) = false

-- the entry, where it is a call of v, keeps the rules of conduct
abbrev pub keeps_entry : Deal → Histories → ℕ → ℕ → Moment Entry → Bool
keeps_entry d b v a m = keeps d b v a m.past m.now.height (pick_call v m.now)

-- v is conducted: every call of v keeps the rules of conduct
abbrev pub IsConducted : Deal → Histories → ℕ → Type 0
IsConducted d b v = (a : ℕ) → IsTrue (list_all (keeps_entry d b v a) (moments (history b a)))
