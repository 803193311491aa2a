-- The turn of a conforming party among the turns of a round, where the ledgers all stand at one
-- height and every party conforms.
use Rattle.std.proofs.Common.{◌≡◌, ℕ, ◌<◌, true, subst}
use Rattle.ledger_core.specs.Book.{Histories, history}
use Rattle.swap_rules.specs.Due.{due}
use Rattle.swap_rules.specs.Machine.{Knows}
use Rattle.swap_rules.specs.Rounds.{IsTurn}
use Rattle.party_wallet.specs.Value.{signed_hashkey}
use Rattle.swap_run.specs.Run.{Cast, State, conforms, state_notes}
use Rattle.swap_run.specs.Laws.{IsReadyCast, IsGood}
use Rattle.swap_run.specs.Fair.{turns}
use Rattle.swap_run.proofs.Acts.{first_none}
use Rattle.swap_run.proofs.Fair.{IsAtOneHeight, known_low, round_turn}

module _ (c : Cast) (ready : IsReadyCast c) (all : (v : ℕ) → v < c.deal.graph.n → conforms c v ≡ true) where
  -- the turn of v in a round, after which the ledgers have these histories
  pub turn_of_round : (r : ℕ) (s : State) (b : Histories) → IsAtOneHeight c s r → IsGood c (record (turns c s) { book = b }) → (v : ℕ) → v < c.deal.graph.n
      → IsTurn c.deal v (c.wallet v) s.book b r
  turn_of_round r s b x good v lv =
      let m = round_turn c ready all s x.good v lv in
      let new = good.notes v lv (all v lv) in
      let old = m.good.notes v lv (all v lv) in
      record {
        known = (state_notes m.mid v).known;
        signed = signed_hashkey (state_notes m.mid v).signed;
        seen = m.seen;
        knows = λ a. subst (λ n. Knows v (history n.known a) (history b a)) m.same (new.knows a);
        done = first_none (due c.deal v (c.wallet v) (signed_hashkey (state_notes m.mid v).signed) (state_notes m.mid v).known) m.rest;
        top = λ a. known_low c ready all r s m.mid v a x m.calm (old.knows a);
      }
