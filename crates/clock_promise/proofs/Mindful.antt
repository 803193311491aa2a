-- A mindful wallet of which only the ledgers are bounded that enter its party.
use Rattle.std.proofs.Common.{◌≡◌, ℕ, ◌+◌, ◌<◌, ◌≤◌, true, List, [], map, Option, Some, inl, inr, arith, subst}
use Rattle.swap_base.specs.Lists.{IsElement}
use Rattle.swap_digraph.specs.declared.deal.Deal.{Deal}
use Rattle.hashkey_path.specs.declared.hashkey.Hashkey.{Hashkey}
use Rattle.ledger_core.specs.declared.entry.Call.TheVariants.{Unlock}
use Rattle.ledger_core.specs.History.{height}
use Rattle.ledger_core.specs.Book.{Histories, history, IsLegalBook}
use Rattle.swap_rules.specs.declared.finding.Rule.TheVariants.{Unlock as RuleUnlock}
use Rattle.swap_rules.specs.Accepted.{IsAccepted}
use Rattle.swap_rules.specs.Conduct.{IsConducted}
use Rattle.swap_rules.specs.Late.{is_done}
use Rattle.swap_rules.specs.Due.{Wallet}
use Rattle.swap_rules.specs.Machine.{IsWallet}
use Rattle.swap_rules.specs.Rounds.{IsNear, IsDoneInTime}
use Rattle.swap_rules.specs.Party.{first_key}
use Rattle.swap_rules.specs.Laws.{IsSafe}
use Rattle.swap_rules.specs.Walking.{IsWatchful}
use Rattle.swap_rules.specs.Counted.{all_counted}
use Rattle.swap_rules.specs.Useful.{pressing}
use Rattle.swap_rules.proofs.Leaving.{enabled_parts}
use Rattle.wallet_promise.specs.Life.{Asking, IsLife, HaveNearEnded}
use Rattle.wallet_promise.specs.Mindful.{ActedOnTime, as_heard}
use Rattle.wallet_promise.proofs.Living.{life_conducts}
use Rattle.wallet_promise.proofs.Mindful.{from_heard, asked_to_the_end}
use Rattle.wallet_promise.proofs.Timely.{Acting, unlocks_timely, watches_by}
use Rattle.clock_promise.specs.Mindful.{HasActedThere, IsMindfulThere}
use Rattle.clock_promise.specs.Laws.{MindfulIsThere, MindfulThereIsSafe}
use Rattle.clock_promise.proofs.Acts.{asks, keeping, unlock_by, unlock_presses}

pub mindful_is_there : MindfulIsThere
mindful_is_there d v w b askings kept_keys acc legal wallet life mindful = record {
  unlocks = λ stake i a ref below j e up. go i ref (mindful.unlocks stake i a ref below j e up);
  finished = mindful.finished;
}
  where
    go : (i ref : ℕ) → ActedOnTime d v w b (map as_heard askings) i ref → HasActedThere d v w b askings i ref
    go i ref x = by (from_heard askings x.hearing x.heard)
      where
        by : (q : Asking) × IsElement q askings × (x.hearing ≡ as_heard q) → HasActedThere d v w b askings i ref
        by q = record {
          asking = q.0;
          asked = q.1;
          at = x.at;
          done = subst (λ h. pressing d v x.at w h.asking.kept (all_counted v h.asking.known) ≡ []) q.2 x.done;
          past = subst (λ h. (c : ℕ) → IsNear d v c → ref < height (history h.behind c)) q.2 x.past;
          ahead = λ c on. subst (λ h. (c : ℕ) → height (history h.behind c) ≤ x.at c) q.2 x.ahead c;
          soon = λ c on. x.soon c;
          handed = subst (λ h. h.asking.kept i ≡ first_key b v i) q.2 x.handed;
          shown = subst (λ h. (j : ℕ) (key : Hashkey) → h.asking.kept j ≡ Some key → first_key b v j ≡ Some key) q.2 x.shown;
        }

module _ (d : Deal) (v : ℕ) (w : Wallet) (b : Histories) (askings : List Asking) (kept_keys : ℕ → Option Hashkey) (acc : IsAccepted d) (legal : IsLegalBook d b)
    (wallet : IsWallet d v w) (life : IsLife d v w b askings kept_keys) where
  conduct : IsConducted d b v
  conduct = life_conducts d v w b askings kept_keys acc legal wallet life

  done_of : (i a ref : ℕ) → ref + d.delta < height (history b a) → IsDoneInTime d b v (RuleUnlock i) a (ref + d.delta)
      → is_done d b v (RuleUnlock i) a (ref + d.delta) ≡ true
  done_of i a ref above (inl e) = e
  done_of i a ref above (inr l) = absurd (omega arith)

  acts : (i ref : ℕ) → HasActedThere d v w b askings i ref → Acting d v w b acc legal conduct wallet i ref
  acts i ref x =
      let k = keeping d v w b askings kept_keys acc legal wallet life in
      record {
        known = x.asking.known;
        signed = x.asking.kept;
        at = x.at;
        grows = life.told x.asking x.asked;
        good = k.each x.asking x.asked;
        past = x.past;
        ahead = x.ahead;
        soon = x.soon;
        handed = x.handed;
        shown = x.shown;
        does = λ z on q higher free.
            let en = (enabled_parts d b v i z ref q).enters in
            let h = x.ahead z en in
            let s = x.soon z en in
            done_of i z ref higher
            (unlock_by d v w b askings kept_keys acc legal wallet life x.asking x.asked ref (ref + d.delta) x.past i z on (omega arith)
            (λ key may due. none key z (unlock_presses d v x.at w x.asking.kept x.asking.known i z key on en may due free)) q);
      }
    where
      none : {P : Type 0} (key : Hashkey) (z : ℕ) → IsElement (record { arc = z; call = Unlock key }) (pressing d v x.at w x.asking.kept (all_counted v x.asking.known)) → P
      none key z i = absurd (subst (λ l. IsElement (record { arc = z; call = Unlock key }) l) x.done i)

  pub there_is_safe : IsMindfulThere d v w b askings → HaveNearEnded d b v → IsWatchful d b v × IsSafe d b v
  there_is_safe m ended =
      watches_by d v w b acc legal (λ a i. ended a (inr i)) conduct
      (λ stake. unlocks_timely d v w b acc legal conduct wallet (λ i a ref below j e above. acts i ref (m.unlocks stake i a ref below j e above)))
      (asked_to_the_end d v w b askings kept_keys acc legal wallet life m.finished)
      (λ a past e i n called. asks d v w b askings kept_keys acc legal wallet life a past e n called)

pub mindful_there_is_safe : MindfulThereIsSafe
mindful_there_is_safe d v w b askings kept acc legal wallet life m ended = there_is_safe d v w b askings kept acc legal wallet life m ended
