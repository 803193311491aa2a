-- Unlocks of the party with hashkeys that it never kept: somebody else has its seed, or what it
-- kept is lost.
use Rattle.std.specs.Prelude.{ℕ, ◌+◌, ◌==◌, ◌&&◌, ◌||◌, Bool, List, [], ◌∷◌, ◌++◌, filter, map, Option, if◌then◌else◌}
use Rattle.std.specs.List.{list_any}
use Rattle.swap_digraph.specs.Graph.{is_listed}
use Rattle.swap_digraph.specs.declared.deal.Deal.{Deal}
use Rattle.swap_digraph.specs.Deal.{locks}
use Rattle.hashkey_path.specs.declared.hashkey.Hashkey.{Hashkey}
use Rattle.swap_rules.specs.Conduct.{is_first_key}
use Rattle.told_ledgers.specs.declared.told_ledger.OwnUnlock.{OwnUnlock}
use Rattle.told_ledgers.specs.declared.told_ledger.ToldLedger.{ToldLedger}
use Rattle.party_answer.specs.declared.unkept.Unkept.{Unkept}

-- one of them is for the lock on arc a
abbrev pub has_lock : List Unkept → ℕ → ℕ → Bool
has_lock us a i = list_any (λ u. (u.arc == a) && (u.lock == i)) us

-- with an unlock on arc a, where its hashkey isn't the one that was kept: the first of each arc and
-- lock
abbrev pub with_unlock : (ℕ → Option Hashkey) → ℕ → List Unkept → OwnUnlock → List Unkept
with_unlock kept a us x =
    if is_first_key (kept x.key.lock) x.key || has_lock us a x.key.lock then us
    else us ++ record { arc = a; entry = x.entry; lock = x.key.lock } ∷ []

-- the list with the unkept ones of these unlocks on arc a
abbrev pub with_unlocks : (ℕ → Option Hashkey) → ℕ → List Unkept → List OwnUnlock → List Unkept
with_unlocks kept a us [] = us
with_unlocks kept a us (x ∷ xs) = with_unlocks kept a (with_unlock kept a us x) xs

-- the list with the unkept unlocks of further ledgers, where the first ledger is that of arc a
abbrev pub with_ledgers : (ℕ → Option Hashkey) → ℕ → List Unkept → List ToldLedger → List Unkept
with_ledgers kept a us [] = us
with_ledgers kept a us (t ∷ ts) = with_ledgers kept (a + 1) (with_unlocks kept a us t.unlocks) ts

-- the first unlock of each arc and lock with a hashkey that isn't the one that was kept, by arc and
-- entry
abbrev pub all_unkept : (ℕ → Option Hashkey) → List ToldLedger → List Unkept
all_unkept kept ts = with_ledgers kept 0 [] ts

-- the locks whose notes are torn or differ, ascending
abbrev pub noted_locks : Deal → (noted : List ℕ) → List ℕ
noted_locks d noted = filter (λ i. is_listed i noted) (locks d)

-- the locks of these
abbrev pub unkept_locks : List Unkept → List ℕ
unkept_locks us = map (λ u. u.lock) us
