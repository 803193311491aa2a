-- What the calls of a disk do to its bytes, and what a crash may leave.
use Rattle.std.specs.Prelude.{◌≡◌, ◌⊎◌, ℕ, zero, suc, ◌+◌, ◌≤◌, List, [], ◌++◌, length, take, drop, Result, Ok, Err, IsOk, IsErr}

-- n bytes from a place on
abbrev pub slice : ℕ → ℕ → List ℕ → List ℕ
slice at n bytes = take n (drop at bytes)

-- these bytes stand at that place, and all else is as it was
abbrev pub written : List ℕ → ℕ → List ℕ → List ℕ
written old at bytes = take at old ++ (bytes ++ drop (at + length bytes) old)

-- bytes that were written at a place
pub record Write : Type 0 where
  pub at : ℕ
  pub bytes : List ℕ

-- Any bytes stand in the range of n bytes from a place on, and all else is as it was.
pub record Torn (at n : ℕ) (old new : List ℕ) : Type 0 where
  pub before : take at new ≡ take at old
  pub after : drop (at + n) new ≡ drop (at + n) old
  pub as_long : length new ≡ length old

-- each new outcome of a crash is an old outcome with a range torn
abbrev pub Tears : ℕ → ℕ → (List ℕ → Type 0) → (List ℕ → Type 0) → Type 0
Tears at n old new = (c : List ℕ) → new c → (d : List ℕ) × old d × Torn at n d c

-- each new outcome of a crash is an old one
abbrev pub AddsNone : (List ℕ → Type 0) → (List ℕ → Type 0) → Type 0
AddsNone old new = (c : List ℕ) → new c → old c

-- a crash leaves this and nothing else
abbrev pub Only : List ℕ → (List ℕ → Type 0) → Type 0
Only bytes outcomes = (c : List ℕ) → outcomes c → c ≡ bytes

-- The disk reads as it did, and a crash leaves nothing that it couldn't leave.
pub record IsUntouched (old new : List ℕ) (was now : List ℕ → Type 0) : Type 0 where
  pub seen : new ≡ old
  pub crash : AddsNone was now

-- Time goes on: a crash since t might have left what it might have left before, or what it may
-- leave now.
pub record Elapses (before now : ℕ) (past since : ℕ → List ℕ → Type 0) (may_leave : List ℕ → Type 0) : Type 0 where
  pub later : before ≤ now
  pub nothing_else : (t : ℕ) (c : List ℕ) → t ≤ before → since t c → past t c ⊎ may_leave c
  pub keeps : (t : ℕ) (c : List ℕ) → t ≤ before → past t c → since t c

-- A crash at any moment since old leaves bytes that have P.
pub record LeavesOnly {D : Type 0} (moment : D → ℕ) (left_since : D → ℕ → List ℕ → Type 0) (old new : D) (P : List ℕ → Type 0) : Type 0 where
  pub later : moment old ≤ moment new
  pub each : (c : List ℕ) → left_since new (moment old) c → P c
  -- for a run that began earlier
  pub before : (t : ℕ) (c : List ℕ) → t ≤ moment old → left_since new t c → left_since old t c ⊎ P c

-- The disk has its size, what it reads as is all that a crash leaves, and no write waits for a
-- sync.
pub record IsStill (bytes : List ℕ) (may_leave : List ℕ → Type 0) (loose : List Write) : Type 0 where
  pub sized : length bytes ≡ 549426
  pub only : Only bytes may_leave
  pub among : may_leave bytes
  pub settled : loose ≡ []

-- one call of n that pass before every later one fails
abbrev pub IsStoppingCall : {T E : Type 0} → ℕ → Result T E → (ℕ → Type 0) → Type 0
IsStoppingCall zero result stops = IsErr result × stops 0
IsStoppingCall (suc n) result stops = IsOk result × stops n

-- two of them
abbrev pub AreStopped : {T E : Type 0} → ℕ → Result T E → (ℕ → Type 0) → Type 0
AreStopped zero result stops = IsErr result
AreStopped (suc zero) result stops = IsErr result
AreStopped (suc (suc n)) result stops = IsOk result × stops n

-- What was known of calls to come holds of this one, and of those after it.
pub record IsFated {T E : Type 0} (never never' : Type 0) (stops stops' : ℕ → Type 0) (result : Result T E) : Type 0 where
  pub passes : never → IsOk result × never'
  pub stopped : (n : ℕ) → stops n → IsStoppingCall n result stops'

-- what a sync does to the writes that were synced and those that weren't
abbrev pub IsSettled : {T E : Type 0} → Result T E → List Write → List Write → List Write → List Write → Type 0
IsSettled (Ok x) synced loose synced' loose' = (synced' ≡ synced ++ loose) × (loose' ≡ [])
IsSettled (Err e) synced loose synced' loose' = (synced' ≡ synced) × (loose' ≡ loose)
