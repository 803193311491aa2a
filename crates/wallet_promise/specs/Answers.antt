-- All that is answered at once: every call that is useful, in its order, and not the first alone.
-- Calls land at at a on the ledger of arc a, and the party's refused calls are passed over.
use Rattle.std.specs.Prelude.{◌≡◌, ◌⊎◌, ◌==◌, ◌&&◌, not, ℕ, Bool, true, false, List, [], ◌∷◌, map, filter, Option, Some, None, if◌then◌else◌}
use Rattle.swap_base.specs.Lists.{IsElement}
use Rattle.swap_digraph.specs.declared.deal.Deal.{Deal}
use Rattle.hashkey_path.specs.declared.hashkey.Hashkey.{Hashkey}
use Rattle.swap_rules.specs.Conduct.{is_publish}
use Rattle.swap_rules.specs.Due.{Wallet, Action, due, first}
use Rattle.swap_rules.specs.Counted.{all_counted}
use Rattle.swap_rules.specs.Useful.{useful, IsHarmful}
use Rattle.wallet_promise.specs.Life.{Asking, Answer, Rest, Make, Keep, is_kept, action_answer}

-- whether the call is a publish, and one was written down as sent on its arc: it may have gone out,
-- so it never goes again
abbrev pub was_sent : (ℕ → Bool) → Action → Bool
was_sent sent x = is_publish (Some x.call) && sent x.arc

-- whether the hashkey that was asked for last is for this lock
abbrev pub is_asked : Option ℕ → ℕ → Bool
is_asked None i = false
is_asked (Some j) i = j == i

-- the answers with each hashkey asked for once: unlocks for one lock that are due stand together,
-- and carry one
abbrev pub once : Option ℕ → List Answer → List Answer
once asked [] = []
once asked (Rest ∷ xs) = once asked xs
once asked (Make x ∷ xs) = Make x ∷ once asked xs
once asked (Keep key ∷ xs) = if is_asked asked key.lock then once asked xs else Keep key ∷ once (Some key.lock) xs

-- the calls of these that aren't publishes which were sent
abbrev pub unsent : (ℕ → Bool) → List Action → List Action
unsent sent xs = filter (λ x. not (was_sent sent x)) xs

-- what is answered for these calls
abbrev pub action_answers : (ℕ → Option Hashkey) → (ℕ → Bool) → List Action → List Answer
action_answers kept sent xs = once None (map (λ x. action_answer kept (Some x)) (unsent sent xs))

-- what is answered to an asking first, where calls land at at a on the ledger of arc a
abbrev pub answer : Deal → ℕ → (ℕ → ℕ) → Wallet → Asking → Answer
answer d v at w q = action_answer q.kept (first (useful d v at w q.kept (all_counted v q.known)))

-- all that is answered to it
abbrev pub answers : Deal → ℕ → (ℕ → ℕ) → Wallet → Asking → (ℕ → Bool) → List Answer
answers d v at w q sent = action_answers q.kept sent (useful d v at w q.kept (all_counted v q.known))

-- A call that may go out after an asking: it is due over what counts of what was told, and its
-- hashkey, if any, was kept.
pub record MayGo (d : Deal) (v : ℕ) (w : Wallet) (q : Asking) (x : Action) : Type 0 where
  pub is_due : IsElement x (due d v w q.kept (all_counted v q.known))
  pub was_kept : is_kept q.kept x.call ≡ true

-- A hashkey that may be kept after an asking.
pub record MayKeep (d : Deal) (v : ℕ) (w : Wallet) (q : Asking) (key : Hashkey) : Type 0 where
  pub unlock : Action
  pub is_due : IsElement unlock (due d v w q.kept (all_counted v q.known))
  pub asks : action_answer q.kept (Some unlock) ≡ Keep key

-- A law of all answers to an asking.
abbrev pub OfAllAnswers : (Deal → ℕ → (ℕ → ℕ) → Wallet → Asking → (ℕ → Bool) → Type 0) → Type 0
OfAllAnswers P = (d : Deal) (v : ℕ) (at : ℕ → ℕ) (w : Wallet) (q : Asking) (sent : ℕ → Bool) → P d v at w q sent

-- each call that is answered may go out, and each hashkey that is answered may be kept
abbrev pub AllMayGo : Type 0
AllMayGo = OfAllAnswers (λ d v at w q sent. (x : Action) → IsElement (Make x) (answers d v at w q sent) → MayGo d v w q x)

abbrev pub AllMayBeKept : Type 0
AllMayBeKept = OfAllAnswers (λ d v at w q sent. (key : Hashkey) → IsElement (Keep key) (answers d v at w q sent) → MayKeep d v w q key)

-- no publish goes out that was sent
abbrev pub NoneIsSentTwice : Type 0
NoneIsSentTwice = OfAllAnswers (λ d v at w q sent. (x : Action) → IsElement (Make x) (answers d v at w q sent) → was_sent sent x ≡ false)

-- whatever may go out is answered, unless it was sent or can only hurt
abbrev pub NothingIsLeftOut : Type 0
NothingIsLeftOut =
    OfAllAnswers (λ d v at w q sent. (x : Action) → MayGo d v w q x → was_sent sent x ≡ false
    → IsElement (Make x) (answers d v at w q sent) ⊎ IsHarmful d v at w q.kept (all_counted v q.known) x)

-- for each lock for which a hashkey may be kept one is asked for, unless presenting it can only
-- hurt
abbrev pub EachKeyIsAsked : Type 0
EachKeyIsAsked =
    OfAllAnswers (λ d v at w q sent. (key : Hashkey) (may : MayKeep d v w q key)
    → ((asked : Hashkey) × IsElement (Keep asked) (answers d v at w q sent) × (asked.lock ≡ key.lock)) ⊎ IsHarmful d v at w q.kept (all_counted v q.known) may.unlock)

-- every call that is answered is useful
abbrev pub AllIsUseful : Type 0
AllIsUseful = OfAllAnswers (λ d v at w q sent. (x : Action) → IsElement (Make x) (answers d v at w q sent) → IsElement x (useful d v at w q.kept (all_counted v q.known)))

-- a wallet rests exactly where nothing is useful; then nothing is answered
abbrev pub RestIsNothing : Type 0
RestIsNothing =
    OfAllAnswers (λ d v at w q sent. (answer d v at w q ≡ Rest → useful d v at w q.kept (all_counted v q.known) ≡ [])
    × (useful d v at w q.kept (all_counted v q.known) ≡ [] → (answer d v at w q ≡ Rest) × (answers d v at w q sent ≡ [])))

-- a call that is answered first may go out
abbrev pub AnswersMayGo : Type 0
AnswersMayGo = (d : Deal) (v : ℕ) (at : ℕ → ℕ) (w : Wallet) (q : Asking) (x : Action) → answer d v at w q ≡ Make x → MayGo d v w q x

-- a hashkey that is answered first to be kept may be kept
abbrev pub AnswersMayBeKept : Type 0
AnswersMayBeKept = (d : Deal) (v : ℕ) (at : ℕ → ℕ) (w : Wallet) (q : Asking) (key : Hashkey) → answer d v at w q ≡ Keep key → MayKeep d v w q key
