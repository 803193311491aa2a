-- A mindful wallet is watchful and safe on a chain without limits, whatever the noise.
use Rattle.std.proofs.Common.{◌≡◌, ℕ, ◌+◌, ◌<◌, ◌≤◌, Bool, true, false, not, ◌&&◌, List, [], map, filter, Option, Some, is_some}
use Rattle.std.proofs.Common.{refl, sym, ap, ◌∙◌, subst, inr}
use Rattle.std.proofs.lemmas.List.Elements.{filter-append}
use Rattle.std.proofs.lemmas.Bool.{false≢true}
use Rattle.swap_base.specs.Lists.{IsElement, first_given_answer}
use Rattle.swap_base.proofs.Lists.{in_map, and_parts, and_both, from_filter}
use Rattle.swap_digraph.specs.declared.deal.Deal.{Deal}
use Rattle.swap_digraph.specs.Graph.{leaving, entering, is_listed}
use Rattle.hashkey_path.specs.declared.hashkey.Hashkey.{Hashkey}
use Rattle.ledger_core.specs.declared.entry.Entry.{Entry}
use Rattle.ledger_core.specs.History.{height, published}
use Rattle.ledger_core.specs.Book.{Histories, history, IsLegalBook}
use Rattle.swap_rules.specs.declared.finding.Rule.TheVariants.{Unlock as OfUnlock}
use Rattle.swap_rules.specs.Accepted.{IsAccepted}
use Rattle.swap_rules.specs.Party.{is_arc_correct, is_triggered, pick_call, unlock_hashkey, first_key}
use Rattle.swap_rules.specs.Conduct.{IsConducted}
use Rattle.swap_rules.specs.Due.{Wallet, has_called}
use Rattle.swap_rules.specs.Machine.{Begins, Knows, IsWallet, KeepsKey}
use Rattle.swap_rules.specs.Walking.{HasLost, IsWatchful, AsksAfterPublish}
use Rattle.wallet_promise.specs.Life.{HaveNearEnded}
use Rattle.wallet_promise.proofs.Walking.{asks}
use Rattle.swap_rules.specs.Laws.{IsSafe}
use Rattle.swap_rules.proofs.Calls.{OwnPublish, own_publish}
use Rattle.swap_rules.proofs.Prefixes.{begins_refl}
use Rattle.swap_rules.specs.Counted.{is_passed, counted, all_counted}
use Rattle.swap_rules.specs.Useful.{pressing}
use Rattle.wallet_promise.specs.Timely as timely_party
use Rattle.swap_rules.proofs.Counted.{counted_is, counted_reads}
use Rattle.wallet_promise.proofs.Timely.{timely_is_safe}
use Rattle.wallet_promise.specs.WithoutNoise.{is_useless, is_needed, parts, needs, all_needed, SayEnough, IsNeededBook}
use Rattle.wallet_promise.specs.BookLaws.{HoldsAsTold}
use Rattle.wallet_promise.specs.Life as life
use Rattle.wallet_promise.specs.ToldLife.{Hearing, as_needed, IsToldLife}
use Rattle.wallet_promise.specs.ToldLaws.{IsWithinLimits}
use Rattle.wallet_promise.proofs.Enough as enough
use Rattle.wallet_promise.proofs.Filters.{first_given_answer-filter, first_each, any-same}
use Rattle.wallet_promise.proofs.Holding.{needed_holds_as_told}
use Rattle.wallet_promise.proofs.Keys.{journal_keeps}
use Rattle.wallet_promise.proofs.Living.{life_conducts}
use Rattle.wallet_promise.proofs.Lives.{is_needed_life, told_is_legal, told_watchful_is_safe}
use Rattle.wallet_promise.proofs.Needed.{part_is, not_called, same_height, says_enough, needed_says_enough}
use Rattle.wallet_promise.specs.Retrying.{IsRetryingLife, whole}
use Rattle.wallet_promise.specs.Mindful.{ActedOnTime, Finished, IsMindful, ToldMindfulIsSafe}
use Rattle.wallet_promise.proofs.Again.{told_life}
use Rattle.wallet_promise.proofs.Enough.{same_pressing}
use Rattle.wallet_promise.proofs.Noise.{filters-swap}
use Rattle.time_bounds.specs.Times as times

begins_filter : {A : Type 0} (p : A → Bool) (k h : List A) → Begins k h → Begins (filter p k) (filter p h)
begins_filter p k h b = (filter p b.0, ap (filter p) b.1 ∙ filter-append p k b.0)

-- an arc that is useless is useless by what counts
still_useless : (d : Deal) (v a : ℕ) (h : List Entry) → is_useless d v a h ≡ true → is_useless d v a (counted v h) ≡ true
still_useless d v a h e =
    let r = counted_reads v h in
    let p =
    and_parts (is_listed a (entering d.graph v) && not (is_listed a (leaving d.graph v)) && not (is_arc_correct d a (published h)))
    (not (has_called v is_some h)) e in
    let same : not (is_arc_correct d a (published (counted v h))) ≡ not (is_arc_correct d a (published h)) = ap (λ o. not (is_arc_correct d a o)) r.published in
    and_both (is_listed a (entering d.graph v) && not (is_listed a (leaving d.graph v)) && not (is_arc_correct d a (published (counted v h))))
    (not (has_called v is_some (counted v h)))
    (ap (λ x. is_listed a (entering d.graph v) && not (is_listed a (leaving d.graph v)) && x) same ∙ p.0)
    (silent (has_called v is_some (counted v h)) (has_called v is_some h) (r.calls is_some) p.1)
  where
    silent : (x y : Bool) → (x ≡ true → y ≡ true) → not y ≡ true → not x ≡ true
    silent false y f n = refl
    silent true true f n = n
    silent true false f n = absurd (false≢true (f refl))

module _ (d : Deal) (v : ℕ) (w : Wallet) (b : Histories) (hs : List Hearing) (kept : ℕ → Option Hashkey) (acc : IsAccepted d) (book : IsNeededBook d v b)
    (limits : IsWithinLimits v b) (wallet : IsWallet d v w) (retrying : IsRetryingLife d v w b hs kept) where
  abbrev c : Histories
  c = all_needed d v b

  abbrev u : ℕ → Bool
  u a = is_useless d v a (history b a)

  abbrev tell : Histories → Histories
  tell k = parts (needs d v b) k

  abbrev askings : List life.Asking
  askings = map (as_needed d v b) (map whole hs)

  told : IsToldLife d v w b (map whole hs) kept
  told = told_life d v w b hs kept retrying

  ordinary : life.IsLife d v w c askings kept
  ordinary = is_needed_life d v w b (map whole hs) kept told

  legal : IsLegalBook d c
  legal = told_is_legal d v w b (map whole hs) kept acc book limits wallet told

  conducted : IsConducted d c v
  conducted = life_conducts d v w c askings kept acc legal wallet ordinary

  holds : HoldsAsTold d v c b
  holds = needed_holds_as_told d v b

  asking_in : (h : Hearing) → IsElement h hs → IsElement (as_needed d v b (whole h)) askings
  asking_in h i = in_map (as_needed d v b) (map whole hs) (whole h) (in_map whole hs h i)

  good : (h : Hearing) → IsElement h hs → (j : ℕ) (key : Hashkey) → h.asking.kept j ≡ Some key → KeepsKey d c v j key
  good h i =
      let k =
      journal_keeps d v w c legal wallet (λ a p j e. OwnPublish.correct (own_publish d c v conducted legal a p j e)) life.nothing_kept askings kept ordinary.told
      (λ j key e. absurd (cc e)) ordinary.journal in
      k.each (as_needed d v b (whole h)) (asking_in h i)

  heights : (k : Histories) (a : ℕ) → height (history (tell k) a) ≡ height (history k a)
  heights k a = ap height (part_is (needs d v b) k a) ∙ same_height (u a) v (history k a)

  -- what v presents first is told
  same_first : (i : ℕ) → first_key c v i ≡ first_key b v i
  unfolding first_key
  same_first i =
      first_each (λ e. unlock_hashkey i (pick_call v e)) c b (λ a. ap (first_given_answer (λ e. unlock_hashkey i (pick_call v e))) (part_is (needs d v b) b a)
      ∙ first_given_answer-filter (is_needed (u a) v) (λ e. unlock_hashkey i (pick_call v e)) (history b a) (λ e n.
      ap (unlock_hashkey i) (not_called (u a) v e n)))

  -- what counts of what is needed says enough of what counts
  says_counted : (h : Hearing) → IsElement h hs → SayEnough d v (all_counted v (tell h.behind)) (all_counted v h.behind)
  says_counted h i =
      says_enough d v u (all_counted v b) (λ a e. subst (λ z. is_useless d v a z ≡ true) (sym (counted_is v b a)) (still_useless d v a (history b a) e))
      (all_counted v (tell h.behind)) (all_counted v h.behind)
      (λ a. counted_is v (tell h.behind) a ∙ (ap (counted v) (part_is (needs d v b) h.behind a)
      ∙ (filters-swap (λ e. not (is_passed v e)) (is_needed (u a) v) (history h.behind a)
      ∙ ap (filter (is_needed (u a) v)) (sym (counted_is v h.behind a)))))
      (λ a. subst (λ z. Begins z (history (all_counted v b) a)) (sym (counted_is v h.behind a))
      (subst (λ z. Begins (counted v (history h.behind a)) z) (sym (counted_is v b a))
      (begins_filter (λ e. not (is_passed v e)) (history h.behind a) (history b a) ((retrying.told h i).begins a))))

  -- so the same presses
  presses : (h : Hearing) → IsElement h hs → (at : ℕ → ℕ) → pressing d v at w h.asking.kept (all_counted v h.asking.known) ≡ []
      → pressing d v at w h.asking.kept (all_counted v (tell h.behind)) ≡ []
  presses h i at e =
      same_pressing d v (all_counted v (tell h.behind)) (all_counted v h.behind) (says_counted h i) at w h.asking.kept
      ∙ (sym (same_pressing d v (all_counted v h.asking.known) (all_counted v h.behind) (retrying.told h i).says at w h.asking.kept) ∙ e)

  back : AsksAfterPublish d c v
  back a past e i m k = asks d v w c askings kept acc legal wallet ordinary a past e i m k

  acted : (i ref : ℕ) → ActedOnTime d v w b hs i ref → timely_party.ActedOnTime d v w c i ref
  acted i ref x = record {
    known = tell x.hearing.behind;
    signed = x.hearing.asking.kept;
    at = x.at;
    grows = ordinary.told (as_needed d v b (whole x.hearing)) (asking_in x.hearing x.heard);
    good = good x.hearing x.heard;
    done = presses x.hearing x.heard x.at x.done;
    past = λ a n. subst (λ z. ref < z) (sym (heights x.hearing.behind a)) (x.past a n);
    ahead = λ a. subst (λ z. z ≤ x.at a) (sym (heights x.hearing.behind a)) (x.ahead a);
    soon = x.soon;
    handed = x.handed ∙ sym (same_first i);
    shown = λ j key e. same_first j ∙ x.shown j key e;
  }

  knows_part : (p : Entry → Bool) (k h : List Entry) → Knows v k h → Knows v (filter p k) (filter p h)
  knows_part p k h n = record {
    rest = filter p n.rest;
    whole = ap (filter p) n.whole ∙ filter-append p k n.rest;
    others = λ e i. n.others e (from_filter p e n.rest i).0;
  }

  finished : Finished d v w b hs → timely_party.Finished d v w c
  finished x = record {
    known = tell x.hearing.behind;
    signed = x.hearing.asking.kept;
    at = x.at;
    done = presses x.hearing x.heard x.at x.done;
    past = λ a n. subst (λ z. times.last_expiry d.start d.delta d.bound < z) (sym (heights x.hearing.behind a)) (x.past a n);
    all =
        λ a. subst (λ z. Knows v z (history c a)) (sym (part_is (needs d v b) x.hearing.behind a))
        (subst (λ z. Knows v (filter (needs d v b a) (history x.hearing.behind a)) z) (sym (part_is (needs d v b) b a))
        (knows_part (needs d v b a) (history x.hearing.behind a) (history b a) (x.all a)));
  }

  same_stake : HasLost d c v → HasLost d b v
  same_stake s =
      sym (any-same (is_triggered d c) (is_triggered d b) (leaving d.graph v) (λ a i.
      enough.same_trigger d v c b (needed_says_enough d v b b (λ a. begins_refl (history b a))) a
      (enough.leaving_same d v c b (needed_says_enough d v b b (λ a. begins_refl (history b a))) a i))) ∙ s

  timely : IsMindful d v w b hs → timely_party.IsTimely d v w c
  timely m = record {
    unlocks =
        λ s i a ref l j e n. acted i ref (m.unlocks (same_stake s) i a ref l j (sym (holds.refs (OfUnlock i) a) ∙ e)
        (subst (λ z. ref + d.delta < z) (heights b a) n));
    finished = finished m.finished;
    asks = back;
  }

  pub mindful : IsMindful d v w b hs → HaveNearEnded d b v → IsWatchful d b v × IsSafe d b v
  mindful m e =
      let k = timely_is_safe d v w c acc legal (λ a i. subst (λ z. times.horizon d.start d.delta d.bound < z) (sym (heights b a)) (e a (inr i))) conducted wallet (timely m) in
      let watchful = holds.watchful.0 k.0 in
      (watchful, told_watchful_is_safe d v w b (map whole hs) kept acc book limits wallet told watchful)

pub told_mindful_is_safe : ToldMindfulIsSafe
told_mindful_is_safe d v w b hs kept acc book limits wallet retrying m e = mindful d v w b hs kept acc book limits wallet retrying m e
