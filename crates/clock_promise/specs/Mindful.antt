-- A mindful wallet, as wallet_promise has it, but that only the ledgers are bounded that enter its
-- party: with ledgers that run apart, one on which the party pays may be anywhere.
use Rattle.std.specs.Prelude.{◌≡◌, ℕ, ◌+◌, ◌<◌, ◌≤◌, List, [], length, map, Some}
use Rattle.swap_base.specs.Lists.{IsElement}
use Rattle.swap_digraph.specs.Graph.{arcs, entering}
use Rattle.swap_digraph.specs.declared.deal.Deal.{Deal}
use Rattle.hashkey_path.specs.declared.hashkey.Hashkey.{Hashkey}
use Rattle.ledger_core.specs.History.{height}
use Rattle.ledger_core.specs.Book.{Histories, history}
use Rattle.swap_rules.specs.declared.finding.Rule.TheVariants.{Unlock as ToUnlock}
use Rattle.swap_rules.specs.Party.{first_key}
use Rattle.swap_rules.specs.Late.{reference_height}
use Rattle.swap_rules.specs.Due.{Wallet}
use Rattle.swap_rules.specs.Rounds.{IsNear}
use Rattle.swap_rules.specs.Walking.{HasLost}
use Rattle.swap_rules.specs.Counted.{all_counted}
use Rattle.swap_rules.specs.Useful.{pressing}
use Rattle.wallet_promise.specs.Life.{Asking}
use Rattle.wallet_promise.specs.Mindful.{Finished, as_heard}

-- The wallet saw on time to the party's unlocks for lock i, which were to be done from the height
-- ref on. Nothing pressed over what one of its askings was told. Every ledger next to the party was
-- past ref then, and nothing that it might have presented on an arc that enters the party would have
-- landed more than delta above ref. The hashkey that it handed over for the lock is the one that the
-- party presents, if any; and each other one that it handed over the party presents too.
pub record HasActedThere (d : Deal) (v : ℕ) (w : Wallet) (b : Histories) (askings : List Asking) (i ref : ℕ) : Type 0 where
  pub asking : Asking
  pub asked : IsElement asking askings
  pub at : ℕ → ℕ
  pub done : pressing d v at w asking.kept (all_counted v asking.known) ≡ []
  pub past : (c : ℕ) → IsNear d v c → ref < height (history asking.known c)
  pub ahead : (c : ℕ) → IsElement c (entering d.graph v) → height (history asking.known c) ≤ at c
  pub soon : (c : ℕ) → IsElement c (entering d.graph v) → at c ≤ ref + d.delta
  pub handed : asking.kept i ≡ first_key b v i
  pub shown : (j : ℕ) (key : Hashkey) → asking.kept j ≡ Some key → first_key b v j ≡ Some key

-- where an arc that leaves the party is triggered, it saw on time to each unlock that was enabled;
-- and it saw to what presses at the end
pub record IsMindfulThere (d : Deal) (v : ℕ) (w : Wallet) (b : Histories) (askings : List Asking) : Type 0 where
  pub unlocks : HasLost d b v → (i a ref : ℕ) → i < length d.leaders → IsElement a (arcs d.graph) → reference_height d b v (ToUnlock i) a ≡ Some ref
      → ref + d.delta < height (history b a) → HasActedThere d v w b askings i ref
  pub finished : Finished d v w b (map as_heard askings)
