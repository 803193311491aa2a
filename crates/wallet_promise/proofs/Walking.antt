-- The life of a wallet that publishes as it likes.
use Rattle.std.proofs.Common.{◌≡◌, ℕ, true, not, List, Option, Some, is_some, is_none}
use Rattle.swap_base.specs.Lists.{IsElement, IsMoment}
use Rattle.swap_digraph.specs.declared.deal.Deal.{Deal}
use Rattle.swap_digraph.specs.Graph.{leaving}
use Rattle.hashkey_path.specs.declared.hashkey.Hashkey.{Hashkey}
use Rattle.ledger_core.specs.declared.entry.Call.TheVariants.{Refund}
use Rattle.ledger_core.specs.declared.entry.Entry.{Entry}
use Rattle.ledger_core.specs.History.{height, published, settled}
use Rattle.ledger_core.specs.Book.{Histories, history, IsLegalBook}
use Rattle.swap_rules.specs.Accepted.{IsAccepted}
use Rattle.swap_rules.specs.Party.{is_triggered, has_expired, pick_call}
use Rattle.swap_rules.specs.Due.{Wallet, is_due_refund}
use Rattle.swap_rules.specs.Machine.{IsWallet}
use Rattle.swap_rules.proofs.Cases.{Case, ToPublish, ToUnlock, ToClaim, ToRefund, case_of}
use Rattle.swap_rules.proofs.Growth.{is_published-more}
use Rattle.swap_rules.proofs.Refunds.{watchful_is_safe}
use Rattle.swap_rules.proofs.Words.{and_five}
use Rattle.wallet_promise.specs.Life.{Asking, IsAnswered, IsLife}
use Rattle.wallet_promise.specs.Laws.{WatchfulLifeIsSafe}
use Rattle.wallet_promise.proofs.Living.{life_conducts}

pub watchful_life_is_safe : WatchfulLifeIsSafe
watchful_life_is_safe d v w b askings kept acc legal wallet life watchful =
    watchful_is_safe d b v acc legal (life_conducts d v w b askings kept acc legal wallet life) watchful

module _ (d : Deal) (v : ℕ) (w : Wallet) (b : Histories) (askings : List Asking) (kept : ℕ → Option Hashkey) (acc : IsAccepted d) (legal : IsLegalBook d b)
    (wallet : IsWallet d v w) (life : IsLife d v w b askings kept) where
  -- a wallet asks back only what was published
  pub asks : (a : ℕ) (past : List Entry) (e : Entry) → IsElement a (leaving d.graph v) → IsMoment (history b a) past e → pick_call v e ≡ Some Refund
      → is_some (published past) ≡ true
  unfolding is_due_refund
  asks a past e i m k =
      let x = life.calls a past e Refund m k in
      go x (case_of d v w x.asking.kept x.asking.known (record { arc = a; call = Refund }) x.may.is_due)
    where
      go : (x : IsAnswered d v w askings a past Refund) → Case d v w x.asking.kept x.asking.known a Refund → is_some (published past) ≡ true
      go x (ToPublish j t q) = absurd (cc q)
      go x (ToUnlock j key l en may t q) = absurd (cc q)
      go x (ToClaim j t q) = absurd (cc q)
      go x (ToRefund j t q) =
          let r =
          and_five (is_some (published (history x.asking.known a))) (is_none (settled (history x.asking.known a))) (not (is_triggered d x.asking.known a))
          (has_expired d a (history x.asking.known a) (height (history x.asking.known a))) _ t in
          is_published-more (history x.asking.known a) past x.later r.0
