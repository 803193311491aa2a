-- What the rules of conduct ask of a call, as the program computes it.
use Rattle.std.specs.Prelude.{ℕ, ◌<◌, Bool, not, ◌&&◌, length, take, List, Option, Some}
use Rattle.std.specs.List.{flat_map, list_any}
use Rattle.std.specs.Str.{bytes_eq}
use Rattle.swap_digraph.specs.declared.deal.Deal.{Deal}
use Rattle.swap_digraph.specs.Deal.{leads, lock_hashlock}
use Rattle.hash_signature.specs.declared.sig.Sig.{Sig}
use Rattle.hash_signature.specs.Signature.{hashed_value}
use Rattle.hashkey_path.specs.declared.hashkey.Hashkey.{Hashkey}
use Rattle.ledger_core.specs.declared.entry.Call.{Call}
use Rattle.ledger_core.specs.declared.entry.Call.TheVariants.{Unlock}
use Rattle.hashkey_path.specs.Hashkey.{is_valid}
use Rattle.ledger_core.specs.Book.{Histories, history}
use Rattle.history_index.specs.declared.made.Made.{Made}
use Rattle.swap_rules.specs.declared.finding.Finding.{Finding}
use Rattle.swap_rules.specs.declared.finding.Finding.TheVariants.{Broke, Forged}
use Rattle.swap_rules.specs.Party.{pick_call, first_key}
use Rattle.swap_rules.specs.Conduct.{carries, has_origin, is_first_key, keeps, keeps_entry}
use Rattle.swap_rules.specs.Forged.{has_made, is_forged}
use Rattle.swap_rules.specs.Findings.{failing}

-- an unlock is for a lock of the deal
abbrev pub HasDealLock : Deal → Option Call → Type 0
HasDealLock d (Some (Unlock key)) = key.lock < length d.leaders
HasDealLock d _ = Unit {0}

-- whether an unlock call of v carries a hashkey of these parts
abbrev pub has_made_parts : Histories → ℕ → ℕ → List ℕ → List ℕ → List Sig → Bool
has_made_parts b v lock secret path sigs = has_made b v (record { lock = lock; secret = secret; path = path; sigs = sigs })

-- whether an unlock call of v carries the secret
abbrev pub has_sent : Histories → ℕ → List ℕ → Bool
has_sent b v secret = list_any (λ e. carries secret (pick_call v e)) (flat_map (λ h. h) b)

-- whether the secret opens a lock that v leads, and no unlock call of v carries it
abbrev pub is_forged_secret : Deal → Histories → ℕ → Hashkey → Bool
is_forged_secret d b v key = bytes_eq (hashed_value key.secret) (lock_hashlock d key.lock) && leads d v key.lock && not (has_sent b v key.secret)

-- whether the hashkey is valid on arc a under the deal's hashlock
abbrev pub is_arc_key_valid : Deal → ℕ → Hashkey → Bool
is_arc_key_valid d a key = is_valid d a (lock_hashlock d key.lock) key

-- whether the hashkey is valid on arc a, and comes from where the rules allow v to have it
abbrev pub is_good_key : Deal → Histories → ℕ → ℕ → Hashkey → Bool
is_good_key d b v a key = is_arc_key_valid d a key && has_origin d.mode d b v key

-- whether the hashkey is v's first one for its lock
abbrev pub is_first : Histories → ℕ → Hashkey → Bool
is_first b v key = is_first_key (first_key b v key.lock) key

-- the rules of conduct for a call of v on arc a at a height, which is the entry with number n
abbrev pub keeps_call : Deal → Histories → ℕ → ℕ → ℕ → ℕ → Call → Bool
keeps_call d b v a n at c = keeps d b v a (take n (history b a)) at (Some c)

-- whether v keeps the rules of conduct with a numbered entry of arc a, as far as the entry is v's
abbrev pub keeps_made : Deal → Histories → ℕ → ℕ → Made → Bool
keeps_made d b v a m = keeps_entry d b v a (record { past = take m.number (history b a); now = m.entry })

-- the entries of arc a by which v broke a rule of conduct
abbrev pub arc_broken_findings : Deal → Histories → ℕ → ℕ → List Finding
arc_broken_findings d b v a = failing (Broke v a) (keeps_entry d b v a) (history b a)

-- the entries of arc a that are forged in v's name
abbrev pub arc_forged_findings : Deal → Histories → ℕ → ℕ → List Finding
arc_forged_findings d b v a = failing (Forged v a) (λ m. not (is_forged d b v m.now)) (history b a)
