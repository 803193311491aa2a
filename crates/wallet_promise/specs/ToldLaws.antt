-- What the life of a wallet promises that is told no noise, and of useless arcs no more than the
-- ticks.
use Rattle.std.specs.Prelude.{◌≡◌, ℕ, ◌≤◌, Bool, true, false, List, map, count_by, Option, None}
use Rattle.swap_base.specs.Lists.{IsElement, IsMoment}
use Rattle.swap_digraph.specs.Graph.{leaving, entering}
use Rattle.swap_digraph.specs.declared.deal.Deal.{Deal}
use Rattle.hashkey_path.specs.declared.hashkey.Hashkey.{Hashkey}
use Rattle.ledger_core.specs.declared.entry.Entry.{Entry}
use Rattle.ledger_core.specs.History.{height, is_sender, is_tick}
use Rattle.ledger_core.specs.Book.{Histories, history, IsLegalBook}
use Rattle.swap_rules.specs.Accepted.{IsAccepted}
use Rattle.swap_rules.specs.Party.{is_correct, pick_call}
use Rattle.swap_rules.specs.Conduct.{IsConducted}
use Rattle.swap_rules.specs.Due.{Wallet}
use Rattle.swap_rules.specs.Machine.{Begins, IsWallet}
use Rattle.swap_rules.specs.Laws.{IsOnTime, IsSafe}
use Rattle.swap_rules.specs.Walking.{IsWatchful}
use Rattle.wallet_promise.specs.WithoutNoise.{tellings, is_useless, all_needed, SayEnough, IsNeededBook, MakesNoTransfer}
use Rattle.wallet_promise.specs.Life.{Asking, IsLife, HaveNearEnded}
use Rattle.wallet_promise.specs.Answers.{answer, answers}
use Rattle.swap_rules.specs.Counted.{all_counted}
use Rattle.wallet_promise.specs.ToldLife.{Hearing, whole_asking, without_noise, as_needed, IsHeard, IsToldLife, IsToldAttentive}

-- what is answered goes by what is said alone of what counts
abbrev pub AnswersAreTold : Type 0
AnswersAreTold =
    (d : Deal) (v : ℕ) (at : ℕ → ℕ) (w : Wallet) (q r : Asking) (sent : ℕ → Bool) → SayEnough d v (all_counted v q.known) (all_counted v r.known)
    → q.kept ≡ r.kept → (answer d v at w q ≡ answer d v at w r) × (answers d v at w q sent ≡ answers d v at w r sent)

-- whatever begins each ledger's history is heard: as it stands, and as what v needs of it
abbrev pub BeginningsAreHeard : Type 0
BeginningsAreHeard =
    (d : Deal) (v : ℕ) (k b : Histories) (kept : ℕ → Option Hashkey) → ((a : ℕ) → Begins (history k a) (history b a))
    → IsHeard d v b (record { asking = record { known = k; kept = kept }; behind = k })
    × IsHeard d v b (record { asking = record { known = all_needed d v k; kept = kept }; behind = k })

-- a told life is a life that is told all, in the same book: what holds of every life in a legal
-- book holds of it
abbrev pub ToldLifeIsLife : Type 0
ToldLifeIsLife =
    (d : Deal) (v : ℕ) (w : Wallet) (b : Histories) (hearings : List Hearing) (kept : ℕ → Option Hashkey) → IsToldLife d v w b hearings kept
    → IsLife d v w b (map whole_asking hearings) kept

-- a told life is a told life in what is told of the book
abbrev pub ToldLifeIsToldLife : Type 0
ToldLifeIsToldLife =
    (d : Deal) (v : ℕ) (w : Wallet) (b : Histories) (hearings : List Hearing) (kept : ℕ → Option Hashkey) → IsToldLife d v w b hearings kept
    → IsLife d v w (tellings v b) (map (without_noise v) hearings) kept

-- a told life is a told life in what v needs of the book
abbrev pub ToldLifeIsNeededLife : Type 0
ToldLifeIsNeededLife =
    (d : Deal) (v : ℕ) (w : Wallet) (b : Histories) (hearings : List Hearing) (kept : ℕ → Option Hashkey) → IsToldLife d v w b hearings kept
    → IsLife d v w (all_needed d v b) (map (as_needed d v b) hearings) kept

-- the party makes no transfer
abbrev pub NothingIsGiven : Type 0
NothingIsGiven =
    (d : Deal) (v : ℕ) (w : Wallet) (b : Histories) (hearings : List Hearing) (kept : ℕ → Option Hashkey) → IsToldLife d v w b hearings kept
    → (a : ℕ) → MakesNoTransfer v (history b a)

-- the party makes no call on an arc that enters it, doesn't leave it, and in the end has no
-- accepted publish of the correct terms: the arc is useless, so of its ledger nothing is needed but
-- the ticks
abbrev pub NothingIsCalledThere : Type 0
NothingIsCalledThere =
    (d : Deal) (v : ℕ) (w : Wallet) (b : Histories) (hearings : List Hearing) (kept : ℕ → Option Hashkey) (a : ℕ) → IsToldLife d v w b hearings kept
    → IsElement a (entering d.graph v) → (IsElement a (leaving d.graph v) → ⊥) → is_correct d b a ≡ false
    → ((past : List Entry) (e : Entry) → IsMoment (history b a) past e → pick_call v e ≡ None) × (is_useless d v a (history b a) ≡ true)

-- The party's own entries, and the clock's, are within the limits of a ledger on each arc; those of
-- others may be any number.
pub record IsWithinLimits (v : ℕ) (b : Histories) : Type 0 where
  pub calls : (a : ℕ) → count_by (λ e. is_sender v e.sender) (history b a) ≤ 32
  pub ticks : (a : ℕ) → count_by (λ e. is_tick e.sender) (history b a) ≤ 20000
  pub heights : (a : ℕ) → height (history b a) ≤ 1000000

-- A law of every told life on a chain without limits. Of a contract on an arc that is useless to
-- the party nothing is asked.
abbrev pub OfEveryToldLife : (Deal → ℕ → Wallet → Histories → List Hearing → Type 0) → Type 0
OfEveryToldLife P =
    (d : Deal) (v : ℕ) (w : Wallet) (b : Histories) (hearings : List Hearing) (kept : ℕ → Option Hashkey) → IsAccepted d → IsNeededBook d v b
    → IsWithinLimits v b → IsWallet d v w → IsToldLife d v w b hearings kept → P d v w b hearings

-- what the party needs of the book is legal
abbrev pub ToldIsLegal : Type 0
ToldIsLegal = OfEveryToldLife (λ d v w b hearings. IsLegalBook d (all_needed d v b))

-- the party is conducted
abbrev pub ToldLifeConducts : Type 0
ToldLifeConducts = OfEveryToldLife (λ d v w b hearings. IsConducted d b v)

-- the party is safe where the ledgers next to it have ended and it was nowhere late
abbrev pub ToldLifeIsSafe : Type 0
ToldLifeIsSafe = OfEveryToldLife (λ d v w b hearings. HaveNearEnded d b v → IsOnTime d b v → IsSafe d b v)

-- it is, if within delta of each action that it has to do nothing is left due for it
abbrev pub ToldAttentiveIsSafe : Type 0
ToldAttentiveIsSafe =
    OfEveryToldLife (λ d v w b hearings. IsToldAttentive d v w b hearings → IsOnTime d b v × (HaveNearEnded d b v → IsSafe d b v))

-- the party is safe where it was watchful, whatever it published or left out
abbrev pub ToldWatchfulIsSafe : Type 0
ToldWatchfulIsSafe = OfEveryToldLife (λ d v w b hearings. IsWatchful d b v → IsSafe d b v)
