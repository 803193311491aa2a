-- A disk in memory, as its callers see it.
use Rattle.std.specs.Prelude.{◌==◌, ℕ, ◌+◌, Bool, false, List, [], ◌∷◌, ◌++◌, length, take, drop, replicate, map, zero, suc, Option, Some, None}
use Rattle.wallet_journal.specs.Device.{Write}
use Rattle.wallet_journal.specs.Held.{Held}
use Rattle.wallet_journal.specs.declared.contents.Span.{Span}

-- no call passes any more
abbrev pub passes_no_call : Option ℕ → Bool
passes_no_call None = false
passes_no_call (Some n) = n == 0

pub record DiskState : Type 0 where
  pub held : Held
  -- what was held before each write and sync so far
  pub past : List Held
  pub failing : List ℕ
  pub calls : ℕ
  pub left : Option ℕ
  pub faults : ℕ

-- the writes whose bytes follow each other in one list
abbrev pub span_writes : List ℕ → List Span → List Write
span_writes bytes [] = []
span_writes bytes (s ∷ ss) = record { at = s.at; bytes = take s.len bytes } ∷ span_writes (drop s.len bytes) ss

-- how many bytes the spans have
abbrev pub total : List Span → ℕ
total [] = 0
total (s ∷ ss) = s.len + total ss

-- one write more
abbrev pub with_write : Held → ℕ → List ℕ → ℕ → Held
with_write h at bytes spare = record { synced = h.synced; loose = h.loose ++ record { at = at; bytes = bytes } ∷ []; spare = spare }

-- all is synced
abbrev pub all_synced : Held → Held
all_synced h = record { synced = h.synced ++ h.loose; loose = []; spare = h.spare }

-- a write whose bytes are all of one value
abbrev pub filled : ℕ → Write → Write
filled n w = record { at = w.at; bytes = replicate (length w.bytes) n }

-- the writes after a crash, of those that were synced and those that weren't: what isn't synced
-- holds its old bytes for 0, its new ones for 1, and else that value
abbrev pub crash_writes : ℕ → List Write → List Write → List Write
crash_writes zero synced loose = synced
crash_writes (suc zero) synced loose = synced ++ loose
crash_writes (suc (suc n)) synced loose = synced ++ map (filled (suc (suc n))) loose

abbrev pub crashed : ℕ → Held → Held
crashed n h = record { synced = crash_writes n h.synced h.loose; loose = []; spare = 0 }
