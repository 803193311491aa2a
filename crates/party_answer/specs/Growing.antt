-- The lines of useful calls, one after another.
use Rattle.std.specs.Prelude.{◌≡◌, ℕ, List, [], ◌∷◌, ◌++◌, Option, Some, None, if◌then◌else◌}
use Rattle.std.specs.List.{flat_map}
use Rattle.hashkey_path.specs.declared.hashkey.Hashkey.{Hashkey}
use Rattle.ledger_core.specs.declared.entry.Call.{Call}
use Rattle.ledger_core.specs.declared.entry.Call.TheVariants.{Unlock}
use Rattle.swap_rules.specs.Conduct.{is_first_key}
use Rattle.wallet_promise.specs.Answers.{is_asked}
use Rattle.party_answer.specs.declared.line.Part.{Part}
use Rattle.party_answer.specs.declared.timed.Timed.{Timed}
use Rattle.party_answer.specs.Lines.{KeepFirst, call_lines}
use Rattle.party_answer.specs.Text.{line_text}

-- the hashkey of a call, where it isn't the one that was kept for its lock
abbrev pub unkept_key : (ℕ → Option Hashkey) → Call → Option Hashkey
unkept_key kept (Unlock key) = if is_first_key (kept key.lock) key then None else Some key
unkept_key kept _ = None

-- the line of a hashkey that has to be kept, none where one for its lock was asked for last
abbrev pub asking_text : Part → ℕ → Option ℕ → Timed → Hashkey → List ℕ
asking_text part v asked t key = if is_asked asked key.lock then [] else line_text part v (KeepFirst t key)

-- From old to new the text grows by the line of the first of these calls: with those of the others
-- it is the text of all.
abbrev pub GrowsByLine : Part → ℕ → (ℕ → Option Hashkey) → Option ℕ → Option ℕ → List ℕ → List ℕ → Timed → List Timed → Type 0
GrowsByLine part v kept asked next old new t ts =
    old ++ flat_map (line_text part v) (call_lines kept asked (t ∷ ts)) ≡ new ++ flat_map (line_text part v) (call_lines kept next ts)
