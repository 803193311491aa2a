-- A life that is told no noise, and of useless arcs the ticks alone, is a life.
use Rattle.std.proofs.Common.{◌≡◌, ℕ, ◌+◌, ◌<◌, ◌≤◌, nat_le, Bool, true, false, not, ◌&&◌, List, [], ◌∷◌, filter, map, Option, Some, None, is_some}
use Rattle.std.proofs.Common.{refl, sym, ap, ap₂, ◌∙◌, subst, inl, inr}
use Rattle.std.proofs.lemmas.Bool.{false≢true}
use Rattle.std.proofs.lemmas.List.Elements.{filter-append}
use Rattle.swap_base.specs.Lists.{IsElement, IsMoment}
use Rattle.swap_base.proofs.Lists.{in_map, and_parts, and_both, moment_from_in}
use Rattle.time_bounds.specs.Times as times
use Rattle.swap_digraph.specs.declared.deal.Deal.{Deal}
use Rattle.swap_digraph.specs.Graph.{leaving, entering, is_listed}
use Rattle.swap_digraph.proofs.Paths.{in-is_listed, not_among}
use Rattle.hashkey_path.specs.declared.hashkey.Hashkey.{Hashkey}
use Rattle.ledger_core.specs.declared.entry.Call.{Call}
use Rattle.ledger_core.specs.declared.entry.Entry.{Entry}
use Rattle.ledger_core.specs.declared.facts.Settlement.{Settlement}
use Rattle.ledger_core.specs.declared.facts.Settlement.TheVariants.{Claimed, Refunded}
use Rattle.ledger_core.specs.History.{height, published, settled, balance}
use Rattle.ledger_core.specs.Book.{Histories, history, IsLegalBook}
use Rattle.ledger_core.proofs.History.{claimed_done, of_claim, triggered-past, not-true}
use Rattle.swap_rules.specs.Accepted.{IsAccepted}
use Rattle.swap_rules.specs.Party.{is_correct, publication_height, is_ready, is_triggered, pick_call}
use Rattle.swap_rules.specs.Conduct.{is_publish, IsConducted}
use Rattle.swap_rules.specs.Outcome.{is_claim}
use Rattle.swap_rules.specs.Due.{Wallet, Action, due, has_called, unlocks_lock, is_claiming, is_due_claim, first}
use Rattle.swap_rules.specs.Machine.{Begins, IsWallet}
use Rattle.swap_rules.specs.Laws.{IsOnTime, IsSafe, HasRefunds}
use Rattle.swap_rules.specs.Walking.{IsWatchful}
use Rattle.swap_rules.specs.Useful.{useful}
use Rattle.swap_rules.specs.Counted.{all_counted}
use Rattle.swap_rules.proofs.Cases.{Case, ToPublish, ToUnlock, ToClaim, ToRefund, case_of}
use Rattle.swap_rules.proofs.Growth.{is_correct-more, ready_good}
use Rattle.swap_rules.proofs.Prefixes.{begins_refl, list_any-none}
use Rattle.swap_rules.proofs.Words.{and_three, leaves}
use Rattle.wallet_promise.specs.WithoutNoise.{telling, tellings, is_useless, is_needed, parts, needs, all_needed, SaysTheSame, SayEnough, IsChain, IsNeededBook}
use Rattle.wallet_promise.specs.WithoutNoise.{is_transfer, MakesNoTransfer}
use Rattle.wallet_promise.specs.BookLaws.{KeepsLedgerLimits, HoldsAsTold}
use Rattle.wallet_promise.proofs.Telling.{history_is}
use Rattle.wallet_promise.proofs.Needed.{part_is, all_told, useless, same_called, same_height, says_enough, needed_says_enough}
use Rattle.wallet_promise.proofs.Enough as enough
use Rattle.wallet_promise.proofs.Watching as watching
use Rattle.wallet_promise.proofs.Holding.{needed_holds_as_told}
use Rattle.wallet_promise.proofs.Merged.{says_refl}
use Rattle.wallet_promise.proofs.Ticks.{needed_legal}
use Rattle.wallet_promise.proofs.Funds.{balances_are_told}
use Rattle.wallet_promise.specs.Life.{Asking, nothing_kept, action_answer, MayGo, MayKeep, IsKeepingStep, IsJournal, IsLife, HasRested}
use Rattle.wallet_promise.specs.Life.{HaveNearEnded}
use Rattle.wallet_promise.specs.Answers.{action_answers}
use Rattle.wallet_promise.proofs.Living.{life_conducts, life_is_safe, attentive_is_safe}
use Rattle.wallet_promise.proofs.Walking.{watchful_life_is_safe}
use Rattle.wallet_promise.specs.ToldLife.{Hearing, whole_asking, as_needed, IsToldAnswered, IsToldLife, CameToRest, IsToldAttentive}
use Rattle.wallet_promise.specs.ToldLaws.{AnswersAreTold, BeginningsAreHeard, ToldLifeIsLife, ToldLifeIsToldLife, ToldLifeIsNeededLife, NothingIsGiven}
use Rattle.wallet_promise.specs.ToldLaws.{NothingIsCalledThere, IsWithinLimits, ToldIsLegal, ToldLifeConducts, ToldLifeIsSafe, ToldAttentiveIsSafe}
use Rattle.wallet_promise.specs.ToldLaws.{ToldWatchfulIsSafe}

-- Answers.

pub answers_are_told : AnswersAreTold
answers_are_told d v at w q r sent s k =
    let same : useful d v at w q.kept (all_counted v q.known) ≡ useful d v at w r.kept (all_counted v r.known) =
    enough.same_useful d v (all_counted v q.known) (all_counted v r.known) s at w q.kept ∙ ap (λ f. useful d v at w f (all_counted v r.known)) k in
    (ap₂ (λ f x. action_answer f (first x)) k same, ap₂ (λ f x. action_answers f sent x) k same)

pub beginnings_are_heard : BeginningsAreHeard
beginnings_are_heard d v k b kept begins = (
  record { says = λ a. inl (says_refl v (history k a)); begins = begins },
  record { says = needed_says_enough d v k k (λ a. begins_refl (history k a)); begins = begins },
)

-- A hearing, and another asking over which the same is due.
module _ (d : Deal) (v : ℕ) (w : Wallet) (to : Hearing → Histories) where
  abbrev said : Hearing → Asking
  said h = record { known = to h; kept = h.asking.kept }

  abbrev Says : Hearing → Type 0
  Says h = (signed : ℕ → Option Hashkey) → due d v w signed h.asking.known ≡ due d v w signed (to h)

  may_go : (h : Hearing) (x : Action) → Says h → MayGo d v w h.asking x → MayGo d v w (said h) x
  may_go h x s m = record { is_due = subst (IsElement x) (s h.asking.kept) m.is_due; was_kept = m.was_kept }

  may_keep : (h : Hearing) (key : Hashkey) → Says h → MayKeep d v w h.asking key → MayKeep d v w (said h) key
  may_keep h key s m = record { unlock = m.unlock; is_due = subst (IsElement m.unlock) (s h.asking.kept) m.is_due; asks = m.asks }

  kept_after : (before next : ℕ → Option Hashkey) (h : Hearing) → Says h → IsKeepingStep d v w before h.asking next → IsKeepingStep d v w before (said h) next
  kept_after before next h s (inl e) = inl e
  kept_after before next h s (inr k) = inr (k.0, may_keep h k.0 s k.1, k.2, k.3)

  journal_as : (before : ℕ → Option Hashkey) (hs : List Hearing) (after : ℕ → Option Hashkey) → ((h : Hearing) → IsElement h hs → Says h)
      → IsJournal d v w before (map (λ h. h.asking) hs) after → IsJournal d v w before (map said hs) after
  journal_as before [] after says j = j
  journal_as before (h ∷ hs) after says j =
      (j.0, j.1, kept_after before j.1 h (says h (inl refl)) j.2, journal_as j.1 hs after (λ x i. says x (inr i)) j.3)

  from_map : (hs : List Hearing) (q : Asking) → IsElement q (map said hs) → (h : Hearing) × IsElement h hs × (q ≡ said h)
  from_map [] q i = absurd i
  from_map (h ∷ hs) q (inl e) = (h, inl refl, e)
  from_map (h ∷ hs) q (inr i) = let r = from_map hs q i in (r.0, inr r.1, r.2)

-- The life that is told all.

module _ (d : Deal) (v : ℕ) (w : Wallet) (b : Histories) (hs : List Hearing) (kept : ℕ → Option Hashkey) (life : IsToldLife d v w b hs kept) where
  same_behind : (h : Hearing) → IsElement h hs → (signed : ℕ → Option Hashkey) → due d v w signed h.asking.known ≡ due d v w signed h.behind
  same_behind h i signed = enough.same_due d v h.asking.known h.behind (life.told h i).says w signed

  pub whole_life : IsLife d v w b (map whole_asking hs) kept
  whole_life = record {
    journal = journal_as d v w (λ h. h.behind) nothing_kept hs kept same_behind life.journal;
    told =
        λ q i a. let r = from_map d v w (λ h. h.behind) hs q i in
        subst (λ z. Begins (history z.known a) (history b a)) (sym r.2) ((life.told r.0 r.1).begins a);
    calls =
        λ a past e c m k. let i = life.calls a past e c m k in
        record {
          asking = whole_asking i.hearing;
          asked = in_map whole_asking hs i.hearing i.heard;
          may = may_go d v w (λ h. h.behind) i.hearing (record { arc = a; call = c }) (same_behind i.hearing i.heard) i.may;
          later = i.later;
        };
    once = life.once;
  }

  -- why a call was due over what the ledgers had done
  case_at : (a : ℕ) (past : List Entry) (c : Call) (i : IsToldAnswered d v w hs a past c) → Case d v w i.hearing.asking.kept i.hearing.behind a c
  case_at a past c i =
      case_of d v w i.hearing.asking.kept i.hearing.behind (record { arc = a; call = c })
      (subst (IsElement (record { arc = a; call = c })) (same_behind i.hearing i.heard i.hearing.asking.kept) i.may.is_due)

  -- v makes no transfer
  pub no_transfer : (a : ℕ) → MakesNoTransfer v (history b a)
  no_transfer a past e m = go (pick_call v e) refl
    where
      due_none : {s : ℕ → Option Hashkey} {n : Histories} (c : Call) → Case d v w s n a c → is_transfer (Some c) ≡ false
      due_none c (ToPublish j t q) = ap (λ z. is_transfer (Some z)) q
      due_none c (ToUnlock j key l en may t q) = ap (λ z. is_transfer (Some z)) q
      due_none c (ToClaim j t q) = ap (λ z. is_transfer (Some z)) q
      due_none c (ToRefund j t q) = ap (λ z. is_transfer (Some z)) q

      go : (o : Option Call) → pick_call v e ≡ o → is_transfer o ≡ false
      go None k = refl
      go (Some c) k = due_none c (case_at a past c (life.calls a past e c m k))

  -- an arc that was correct when it was heard of is correct in the end
  still_correct : (h : Hearing) → IsElement h hs → (a : ℕ) → is_correct d h.behind a ≡ true → is_correct d b a ≡ true
  still_correct h i a c = is_correct-more d h.behind b a (life.told h i).begins c

  -- v makes no call on an arc that doesn't leave it and isn't correct
  module _ (a : ℕ) (apart : IsElement a (leaving d.graph v) → ⊥) (wrong : is_correct d b a ≡ false) where
    not_due : (h : Hearing) → IsElement h hs → (s : ℕ → Option Hashkey) (c : Call) → Case d v w s h.behind a c → ⊥
    unfolding is_due_claim
    not_due h i s c (ToPublish j t q) = apart j
    not_due h i s c (ToUnlock j key l en may t q) =
        let ready = (and_parts (is_ready d h.behind v) (not (has_called v (unlocks_lock j) (history h.behind a))) may).0 in
        let good = ready_good d h.behind v a ready en in
        let correct = (and_parts (is_correct d h.behind a) (nat_le (publication_height (published (history h.behind a)))
        (times.opening_deadline d.start d.delta d.bound)) good).0 in
        false≢true (sym wrong ∙ still_correct h i a correct)
    not_due h i s c (ToClaim j t q) =
        false≢true (sym wrong ∙ still_correct h i a (and_three (is_correct d h.behind a) (is_triggered d h.behind a)
        (not (has_called v is_claiming (history h.behind a))) t).0)
    not_due h i s c (ToRefund j t q) = apart j

    pub not_called : (past : List Entry) (e : Entry) → IsMoment (history b a) past e → pick_call v e ≡ None
    not_called past e m = go (pick_call v e) refl
      where
        go : (o : Option Call) → pick_call v e ≡ o → pick_call v e ≡ None
        go None k = k
        go (Some c) k =
            let i = life.calls a past e c m k in
            absurd (not_due i.hearing i.heard i.hearing.asking.kept c (case_at a past c i))

    silent : has_called v is_some (history b a) ≡ false
    silent =
        list_any-none (λ e. is_some (pick_call v e)) (history b a)
        (λ e i. let m = moment_from_in (history b a) e i in ap (λ o. is_some o) (not_called m.0 e m.1))

    pub is_idle : IsElement a (entering d.graph v) → is_useless d v a (history b a) ≡ true
    is_idle en =
        let enters : Bool = is_listed a (entering d.graph v) in
        let not_leaving : Bool = not (is_listed a (leaving d.graph v)) in
        let incorrect : Bool = not (is_correct d b a) in
        and_both (enters && not_leaving && incorrect) (not (has_called v is_some (history b a)))
        (and_both (enters && not_leaving) incorrect
        (and_both enters not_leaving (in-is_listed a (entering d.graph v) en) (not_among a (leaving d.graph v) apart)) (ap not wrong)) (ap not silent)

pub is_life : ToldLifeIsLife
is_life d v w b hs kept life = whole_life d v w b hs kept life

-- The life in what is told of the book, by what is told of each useless arc and of each other one.

begins_filter : {A : Type 0} (p : A → Bool) (k h : List A) → Begins k h → Begins (filter p k) (filter p h)
begins_filter p k h b = (filter p b.0, ap (filter p) b.1 ∙ filter-append p k b.0)

module _ (d : Deal) (v : ℕ) (w : Wallet) (b : Histories) (hs : List Hearing) (kept : ℕ → Option Hashkey) (life : IsToldLife d v w b hs kept)
    (u : ℕ → Bool) (tell : Histories → Histories) (is_part : (k : Histories) (a : ℕ) → history (tell k) a ≡ filter (is_needed (u a) v) (history k a))
    (idle : (a : ℕ) → u a ≡ true → is_useless d v a (history b a) ≡ true) where
  abbrev heard_as : Hearing → Asking
  heard_as h = record { known = tell h.behind; kept = h.asking.kept }

  pub told_enough : (h : Hearing) → IsElement h hs → SayEnough d v (tell h.behind) h.behind
  told_enough h i = says_enough d v u b idle (tell h.behind) h.behind (is_part h.behind) (life.told h i).begins

  pub same_told : (h : Hearing) → IsElement h hs → (signed : ℕ → Option Hashkey) → due d v w signed h.asking.known ≡ due d v w signed (tell h.behind)
  same_told h i signed =
      same_behind d v w b hs kept life h i signed ∙ sym (enough.same_due d v (tell h.behind) h.behind (told_enough h i) w signed)

  begins_at : (k : Histories) (a : ℕ) (h : List Entry) → Begins (history k a) h → Begins (history (tell k) a) (filter (is_needed (u a) v) h)
  begins_at k a h s =
      subst (λ z. Begins z (filter (is_needed (u a) v) h)) (sym (is_part k a)) (begins_filter (is_needed (u a) v) (history k a) h s)

  pub told_life : IsLife d v w (tell b) (map heard_as hs) kept
  told_life = record {
    journal = journal_as d v w (λ h. tell h.behind) nothing_kept hs kept same_told life.journal;
    told =
        λ q i a. let r = from_map d v w (λ h. tell h.behind) hs q i in
        subst (λ z. Begins (history z.known a) (history (tell b) a)) (sym r.2)
        (subst (λ z. Begins (history (tell r.0.behind) a) z) (sym (is_part b a))
        (begins_at r.0.behind a (history b a) ((life.told r.0 r.1).begins a)));
    calls =
        λ a past e c m k. let t = watching.back d v u b (tell b) (is_part b) idle a past e m in
        let i = life.calls a t.0 e c t.1 k in
        record {
          asking = heard_as i.hearing;
          asked = in_map heard_as hs i.hearing i.heard;
          may = may_go d v w (λ h. tell h.behind) i.hearing (record { arc = a; call = c }) (same_told i.hearing i.heard) i.may;
          later = subst (λ z. Begins (history (tell i.hearing.behind) a) z) t.2 (begins_at i.hearing.behind a t.0 i.later);
        };
    once =
        λ a past e m p. let t = watching.back d v u b (tell b) (is_part b) idle a past e m in
        subst (λ z. has_called v is_publish z ≡ false) t.2
        (same_called (u a) v is_publish refl t.0 ∙ life.once a t.0 e t.1 p);
  }

pub is_told_life : ToldLifeIsToldLife
is_told_life d v w b hs kept life =
    told_life d v w b hs kept life (λ a. false) (tellings v) (λ k a. history_is v k a ∙ sym (all_told v (history k a))) (λ a e. absurd (cc e))

-- What v needs of the book.

module _ (d : Deal) (v : ℕ) (w : Wallet) (b : Histories) (hs : List Hearing) (kept : ℕ → Option Hashkey) (life : IsToldLife d v w b hs kept) where
  abbrev c : Histories
  c = all_needed d v b

  abbrev tell : Histories → Histories
  tell k = parts (needs d v b) k

  abbrev u : ℕ → Bool
  u a = is_useless d v a (history b a)

  pub needed_life : IsLife d v w c (map (as_needed d v b) hs) kept
  needed_life = told_life d v w b hs kept life u tell (part_is (needs d v b)) (λ a e. e)

  holds : HoldsAsTold d v c b
  holds = needed_holds_as_told d v b

  said_needed : SayEnough d v c b
  said_needed = needed_says_enough d v b b (λ a. begins_refl (history b a))

  says_behind : (h : Hearing) → IsElement h hs → SayEnough d v (tell h.behind) h.behind
  says_behind h i = told_enough d v w b hs kept life u tell (part_is (needs d v b)) (λ a e. e) h i

  heights : (k : Histories) (a : ℕ) → height (history (tell k) a) ≡ height (history k a)
  heights k a = ap height (part_is (needs d v b) k a) ∙ same_height (u a) v (history k a)

  module _ (acc : IsAccepted d) (book : IsNeededBook d v b) (limits : IsWithinLimits v b) (wallet : IsWallet d v w) where
    within : (a : ℕ) → KeepsLedgerLimits v (history b a)
    within a = record {
      calls = limits.calls a;
      ticks = limits.ticks a;
      height = limits.heights a;
      transfers = no_transfer d v w b hs kept life a;
    }

    pub legal : IsLegalBook d c
    legal = needed_legal d v b acc.leaders.1 book within

    pub conducted : IsConducted d b v
    conducted = holds.conduct.0 (life_conducts d v w c (map (as_needed d v b) hs) kept acc legal wallet needed_life)

    -- of an arc that leaves v all is told
    leaving_told : (a : ℕ) → IsElement a (leaving d.graph v) → u a ≡ false
    leaving_told a i = not-true (u a) (λ t. (useless d v a (history b a) t).apart i)

    leaving_is : (a : ℕ) → IsElement a (leaving d.graph v) → history c a ≡ telling v (history b a)
    leaving_is a i =
        part_is (needs d v b) b a ∙ (ap (λ t. filter (is_needed t v) (history b a)) (leaving_told a i) ∙ all_told v (history b a))

    says_leaving : (a : ℕ) → IsElement a (leaving d.graph v) → SaysTheSame v (history c a) (history b a)
    says_leaving a i = enough.leaving_same d v c b said_needed a i

    trigger_leaving : (a : ℕ) → IsElement a (leaving d.graph v) → is_triggered d c a ≡ is_triggered d b a
    trigger_leaving a i = enough.same_trigger d v c b said_needed a (says_leaving a i)

    chain_leaving : (a : ℕ) → IsElement a (leaving d.graph v) → IsChain d v a (history b a)
    chain_leaving a i = (book.chain a (rw book.one_each (leaves d v a i).0)).contract (leaving_told a i)

    -- an arc that isn't triggered isn't claimed
    unclaimed : (a : ℕ) → IsElement a (leaving d.graph v) → is_triggered d b a ≡ false → is_claim (settled (history b a)) ≡ false
    unclaimed a i n = go (settled (history c a)) refl
      where
        same : settled (history c a) ≡ settled (history b a)
        same = (says_leaving a i).settled

        go : (s : Option Settlement) → settled (history c a) ≡ s → is_claim (settled (history b a)) ≡ false
        go None e = ap is_claim (sym same ∙ e)
        go (Some Refunded) e = ap is_claim (sym same ∙ e)
        go (Some Claimed) e =
            let k = (claimed_done d a (history c a) (legal.legal a (rw legal.one_each (leaves d v a i).0)) e).1 in
            let p = of_claim d a k.past k.act.by k.clear in
            absurd (false≢true (sym n ∙ (sym (trigger_leaving a i) ∙ triggered-past d (history c a) k.past k.now k.stands p.triggered)))

    refunds : HasRefunds d c v → HasRefunds d b v
    refunds r a i n =
        sym (balances_are_told d v a (history b a) (chain_leaving a i) (no_transfer d v w b hs kept life a) (sym (leaves d v a i).1) (unclaimed a i n))
        ∙ (ap (λ h. balance d a h v) (sym (leaving_is a i)) ∙ r a i (trigger_leaving a i ∙ n))

    from_told : IsSafe d c v → IsSafe d b v
    from_told s = record { safe = λ f q. s.safe (holds.unforged.1 f) (holds.same_outcome ∙ q); refunds = refunds s.refunds }

    near_ended : HaveNearEnded d b v → HaveNearEnded d c v
    near_ended e a n = subst (λ z. times.horizon d.start d.delta d.bound < z) (sym (heights b a)) (e a n)

    pub safe : HaveNearEnded d b v → IsOnTime d b v → IsSafe d b v
    safe e t =
        from_told (life_is_safe d v w c (map (as_needed d v b) hs) kept acc legal wallet needed_life (near_ended e)
        (λ rule a i j. holds.late rule a ∙ t rule a i j))

    pub watchful_safe : IsWatchful d b v → IsSafe d b v
    watchful_safe k =
        from_told (watchful_life_is_safe d v w c (map (as_needed d v b) hs) kept acc legal wallet needed_life (holds.watchful.1 k))

    rested : (at by : ℕ) → CameToRest d v w hs at by → HasRested d v w (map (as_needed d v b) hs) at by
    rested at by r = record {
      asking = as_needed d v b r.hearing;
      asked = in_map (as_needed d v b) hs r.hearing r.heard;
      rests = sym (same_told d v w b hs kept life u tell (part_is (needs d v b)) (λ a e. e) r.hearing r.heard r.hearing.asking.kept) ∙ r.rests;
      past = λ a n. subst (λ z. at < z) (sym (heights r.hearing.behind a)) (r.past a n);
      soon = λ a. subst (λ z. z ≤ by) (sym (heights r.hearing.behind a)) (r.soon a);
    }

    pub attentive : IsToldAttentive d v w b hs → IsOnTime d b v × (HaveNearEnded d b v → IsSafe d b v)
    attentive t =
        let k =
        attentive_is_safe d v w c (map (as_needed d v b) hs) kept acc legal wallet needed_life
        (λ rule a ref i j e l. rested ref (ref + d.delta) (t rule a ref i j (sym (holds.refs rule a) ∙ e)
        (subst (λ n. ref + d.delta < n) (heights b a) l))) in (
          λ rule a i j. sym (holds.late rule a) ∙ k.0 rule a i j,
          λ e. from_told (k.1 (near_ended e)),
        )

pub is_needed_life : ToldLifeIsNeededLife
is_needed_life d v w b hs kept life = needed_life d v w b hs kept life

pub nothing_is_given : NothingIsGiven
nothing_is_given d v w b hs kept life = no_transfer d v w b hs kept life

pub nothing_is_called_there : NothingIsCalledThere
nothing_is_called_there d v w b hs kept a life en apart wrong =
    (not_called d v w b hs kept life a apart wrong, is_idle d v w b hs kept life a apart wrong en)

pub told_is_legal : ToldIsLegal
told_is_legal d v w b hs kept acc book limits wallet life = legal d v w b hs kept life acc book limits wallet

pub told_life_conducts : ToldLifeConducts
told_life_conducts d v w b hs kept acc book limits wallet life = conducted d v w b hs kept life acc book limits wallet

pub told_life_is_safe : ToldLifeIsSafe
told_life_is_safe d v w b hs kept acc book limits wallet life = safe d v w b hs kept life acc book limits wallet

pub told_attentive_is_safe : ToldAttentiveIsSafe
told_attentive_is_safe d v w b hs kept acc book limits wallet life = attentive d v w b hs kept life acc book limits wallet

pub told_watchful_is_safe : ToldWatchfulIsSafe
told_watchful_is_safe d v w b hs kept acc book limits wallet life = watchful_safe d v w b hs kept life acc book limits wallet
