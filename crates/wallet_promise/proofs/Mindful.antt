-- A mindful wallet that presents again what was refused is watchful and safe.
use Rattle.std.proofs.Common.{◌≡◌, ℕ, ◌<◌, ◌≤◌, List, [], ◌∷◌, map, Option, Some, refl, sym, ◌∙◌, subst, inl, inr}
use Rattle.swap_base.specs.Lists.{IsElement}
use Rattle.swap_base.proofs.Lists.{in_map}
use Rattle.swap_digraph.specs.declared.deal.Deal.{Deal}
use Rattle.hashkey_path.specs.declared.hashkey.Hashkey.{Hashkey}
use Rattle.ledger_core.specs.History.{height}
use Rattle.ledger_core.specs.Book.{Histories, history, IsLegalBook}
use Rattle.swap_rules.specs.Accepted.{IsAccepted}
use Rattle.swap_rules.specs.Party.{first_key}
use Rattle.swap_rules.specs.Conduct.{IsConducted}
use Rattle.swap_rules.specs.Due.{Wallet}
use Rattle.swap_rules.specs.Rounds.{IsNear}
use Rattle.swap_rules.specs.Useful.{pressing}
use Rattle.wallet_promise.specs.Timely.{IsPastExpiries}
use Rattle.swap_rules.specs.Machine.{Knows, IsWallet, KeepsKey}
use Rattle.swap_rules.specs.Walking.{AsksAfterPublish}
use Rattle.swap_rules.proofs.Calls.{OwnPublish, own_publish}
use Rattle.swap_rules.specs.Counted.{all_counted}
use Rattle.wallet_promise.specs.Timely as timely_party
use Rattle.wallet_promise.proofs.Timely.{timely_is_safe}
use Rattle.wallet_promise.specs.Life as life
use Rattle.wallet_promise.specs.ToldLife.{Hearing, whole_asking}
use Rattle.wallet_promise.proofs.Keys.{journal_keeps}
use Rattle.wallet_promise.proofs.Living.{life_conducts}
use Rattle.wallet_promise.proofs.Lives.{is_life}
use Rattle.wallet_promise.proofs.Walking.{watchful_life_is_safe, asks}
use Rattle.wallet_promise.specs.Retrying.{IsRetryingLife, whole}
use Rattle.wallet_promise.specs.Mindful.{ActedOnTime, Finished, IsMindful, as_heard, MindfulIsSafe, RetryingMindfulIsSafe, RetryingWatchfulIsSafe}
use Rattle.wallet_promise.proofs.Again.{told_life}
use Rattle.wallet_promise.proofs.Enough.{same_pressing}

module _ (d : Deal) (v : ℕ) (w : Wallet) (b : Histories) (hs : List Hearing) (kept : ℕ → Option Hashkey) (acc : IsAccepted d) (legal : IsLegalBook d b)
    (wallet : IsWallet d v w) (retrying : IsRetryingLife d v w b hs kept) where
  abbrev askings : List life.Asking
  askings = map whole_asking (map whole hs)

  ordinary : life.IsLife d v w b askings kept
  ordinary = is_life d v w b (map whole hs) kept (told_life d v w b hs kept retrying)

  pub conducted : IsConducted d b v
  conducted = life_conducts d v w b askings kept acc legal wallet ordinary

  -- what was handed over are hashkeys that the party may present
  good : (h : Hearing) → IsElement h hs → (j : ℕ) (key : Hashkey) → h.asking.kept j ≡ Some key → KeepsKey d b v j key
  good h i =
      let k =
      journal_keeps d v w b legal wallet (λ c p j e. OwnPublish.correct (own_publish d b v conducted legal c p j e)) life.nothing_kept askings kept ordinary.told
      (λ j key e. absurd (cc e)) ordinary.journal in
      k.each (whole_asking (whole h)) (in_map whole_asking (map whole hs) (whole h) (in_map whole hs h i))

  back : AsksAfterPublish d b v
  back a past e i m k = asks d v w b askings kept acc legal wallet ordinary a past e i m k

  acted : (i ref : ℕ) → ActedOnTime d v w b hs i ref → timely_party.ActedOnTime d v w b i ref
  acted i ref x =
      let t = retrying.told x.hearing x.heard in
      record {
        known = x.hearing.behind;
        signed = x.hearing.asking.kept;
        at = x.at;
        grows = t.begins;
        good = good x.hearing x.heard;
        done = sym (same_pressing d v (all_counted v x.hearing.asking.known) (all_counted v x.hearing.behind) t.says x.at w x.hearing.asking.kept) ∙ x.done;
        past = x.past;
        ahead = x.ahead;
        soon = x.soon;
        handed = x.handed;
        shown = x.shown;
      }

  finished : Finished d v w b hs → timely_party.Finished d v w b
  finished x =
      let t = retrying.told x.hearing x.heard in
      record {
        known = x.hearing.behind;
        signed = x.hearing.asking.kept;
        at = x.at;
        done = sym (same_pressing d v (all_counted v x.hearing.asking.known) (all_counted v x.hearing.behind) t.says x.at w x.hearing.asking.kept) ∙ x.done;
        past = x.past;
        all = x.all;
      }

  timely : IsMindful d v w b hs → timely_party.IsTimely d v w b
  timely m = record { unlocks = λ s i a ref l j e n. acted i ref (m.unlocks s i a ref l j e n); finished = finished m.finished; asks = back }

pub retrying_is_safe : RetryingMindfulIsSafe
retrying_is_safe d v w b hs kept acc legal wallet retrying mindful ended =
    timely_is_safe d v w b acc legal (λ a i. ended a (inr i)) (conducted d v w b hs kept acc legal wallet retrying) wallet
    (timely d v w b hs kept acc legal wallet retrying mindful)

pub watchful_is_safe : RetryingWatchfulIsSafe
watchful_is_safe d v w b hs kept acc legal wallet retrying watchful =
    watchful_life_is_safe d v w b (askings d v w b hs kept acc legal wallet retrying) kept acc legal wallet
    (ordinary d v w b hs kept acc legal wallet retrying) watchful

-- A wallet that is told all.

pub from_heard : (qs : List life.Asking) (h : Hearing) → IsElement h (map as_heard qs) → (q : life.Asking) × IsElement q qs × (h ≡ as_heard q)
from_heard [] h i = absurd i
from_heard (q ∷ qs) h (inl e) = (q, inl refl, e)
from_heard (q ∷ qs) h (inr i) = let r = from_heard qs h i in (r.0, inr r.1, r.2)

module _ (d : Deal) (v : ℕ) (w : Wallet) (b : Histories) (qs : List life.Asking) (kept : ℕ → Option Hashkey) (acc : IsAccepted d) (legal : IsLegalBook d b)
    (wallet : IsWallet d v w) (lived : life.IsLife d v w b qs kept) where
  keeps_conduct : IsConducted d b v
  keeps_conduct = life_conducts d v w b qs kept acc legal wallet lived

  good_asked : (q : life.Asking) → IsElement q qs → (j : ℕ) (key : Hashkey) → q.kept j ≡ Some key → KeepsKey d b v j key
  good_asked q i =
      let k =
      journal_keeps d v w b legal wallet (λ c p j e. OwnPublish.correct (own_publish d b v keeps_conduct legal c p j e)) life.nothing_kept qs kept lived.told
      (λ j key e. absurd (cc e)) lived.journal in
      k.each q i

  asked_on_time : (i ref : ℕ) → ActedOnTime d v w b (map as_heard qs) i ref → timely_party.ActedOnTime d v w b i ref
  asked_on_time i ref x = go x (from_heard qs x.hearing x.heard)
    where
      go : (x : ActedOnTime d v w b (map as_heard qs) i ref) → (q : life.Asking) × IsElement q qs × (x.hearing ≡ as_heard q)
          → timely_party.ActedOnTime d v w b i ref
      go x q = record {
        known = q.0.known;
        signed = q.0.kept;
        at = x.at;
        grows = lived.told q.0 q.1;
        good = good_asked q.0 q.1;
        done = subst (λ h. pressing d v x.at w h.asking.kept (all_counted v h.asking.known) ≡ []) q.2 x.done;
        past = subst (λ h. (c : ℕ) → IsNear d v c → ref < height (history h.behind c)) q.2 x.past;
        ahead = subst (λ h. (c : ℕ) → height (history h.behind c) ≤ x.at c) q.2 x.ahead;
        soon = x.soon;
        handed = subst (λ h. h.asking.kept i ≡ first_key b v i) q.2 x.handed;
        shown = subst (λ h. (j : ℕ) (key : Hashkey) → h.asking.kept j ≡ Some key → first_key b v j ≡ Some key) q.2 x.shown;
      }

  pub asked_to_the_end : Finished d v w b (map as_heard qs) → timely_party.Finished d v w b
  asked_to_the_end x = go x (from_heard qs x.hearing x.heard)
    where
      go : (x : Finished d v w b (map as_heard qs)) → (q : life.Asking) × IsElement q qs × (x.hearing ≡ as_heard q) → timely_party.Finished d v w b
      go x q = record {
        known = q.0.known;
        signed = q.0.kept;
        at = x.at;
        done = subst (λ h. pressing d v x.at w h.asking.kept (all_counted v h.asking.known) ≡ []) q.2 x.done;
        past = subst (λ h. IsPastExpiries d v h.behind) q.2 x.past;
        all = subst (λ h. (a : ℕ) → Knows v (history h.behind a) (history b a)) q.2 x.all;
      }

  asked_timely : IsMindful d v w b (map as_heard qs) → timely_party.IsTimely d v w b
  asked_timely m = record {
    unlocks = λ s i a ref l j e n. asked_on_time i ref (m.unlocks s i a ref l j e n);
    finished = asked_to_the_end m.finished;
    asks = λ a past e i m k. asks d v w b qs kept acc legal wallet lived a past e i m k;
  }

pub mindful_is_safe : MindfulIsSafe
mindful_is_safe d v w b qs kept acc legal wallet lived mindful ended =
    timely_is_safe d v w b acc legal (λ a i. ended a (inr i)) (keeps_conduct d v w b qs kept acc legal wallet lived) wallet
    (asked_timely d v w b qs kept acc legal wallet lived mindful)
