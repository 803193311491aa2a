-- A party that has published nothing loses nothing, a publish that comes too late opens nothing,
-- and a party may stop publishing at any time.
use Rattle.std.proofs.Common.{count_by, ◌≡◌, ℕ, ◌<◌, ◌≤◌, ◌==◌, Bool, true, false, cond}
use Rattle.std.proofs.Common.{List, length, Option, Some, None, is_some, refl, sym, ap, ◌∙◌, inl, inr, arith}
use Rattle.std.proofs.Common.{eq-eqb, leb-true}
use Rattle.std.proofs.lemmas.Bool.{false≢true}
use Rattle.swap_base.specs.Lists.{IsElement}
use Rattle.swap_base.proofs.Lists.{list_all-in, in_range, in_filter, and_parts, some_passes, below_or, moment_from_in}
use Rattle.swap_digraph.specs.declared.deal.Deal.{Deal}
use Rattle.swap_digraph.specs.Graph.{ends, arcs, leaving, entering}
use Rattle.swap_digraph.specs.Deal.{amount, party, counterparty, locks}
use Rattle.ledger_core.specs.declared.entry.Call.{Call}
use Rattle.ledger_core.specs.declared.entry.Call.TheVariants.{Publish, Unlock, Claim, Refund, Transfer}
use Rattle.ledger_core.specs.declared.facts.Settlement.{Settlement}
use Rattle.ledger_core.specs.declared.facts.Settlement.TheVariants.{Claimed, Refunded}
use Rattle.ledger_core.specs.History.{accounts, balance, held, the_terms, publication_terms, Publication, published, Opening, opened}
use Rattle.ledger_core.specs.History.{settled, is_open, IsLegal}
use Rattle.ledger_core.specs.Book.{Histories, history, IsLegalBook}
use Rattle.swap_rules.specs.declared.outcome.Outcome.TheVariants.{NoDeal}
use Rattle.swap_rules.specs.Accepted.{IsAccepted}
use Rattle.swap_rules.specs.Party.{is_correct, publication_height, is_good, is_ready, is_triggered, pick_call}
use Rattle.swap_rules.specs.Conduct.{keeps, IsConducted}
use Rattle.swap_rules.specs.Due.{is_refunding}
use Rattle.swap_rules.specs.Outcome.{is_claim, is_got, got, lost, outcome}
use Rattle.swap_rules.specs.Walking.{HasPublishedNothing, GivesNothing, IsSilent, LosesNothing}
use Rattle.swap_rules.specs.Walking.{UnpublishedLosesNothing, SilentLosesNothing, UnrevealedLosesNothing, LatePublishIsIdle}
use Rattle.swap_rules.proofs.Accepted.{times_law, time_law}
use Rattle.swap_rules.proofs.Times.{TimeLaw, OfTimelocks, OfHashkeys}
use Rattle.swap_rules.proofs.SafeTimelocks.{timelocks_unrevealed}
use Rattle.swap_rules.proofs.SafeHashkeys.{hashkeys_unrevealed}
use Rattle.swap_rules.proofs.Calls.{kept}
use Rattle.swap_rules.proofs.Leaving.{underwater_lost}
use Rattle.swap_rules.proofs.Refunds.{NoOwnTransfer, counterparty_empty, has_refunds}
use Rattle.swap_rules.proofs.Words.{and_five, pick_call-act, enters, leaves}
use Rattle.ledger_core.proofs.History.{published_done, opened_done, claimed_done, of_publish, of_unlock, of_claim, published-past}
use Rattle.ledger_core.proofs.History.{is_some-of, not-true}
use Rattle.ledger_core.proofs.Units.{units, settled-published}
use Rattle.time_bounds.specs.Times as times

none_some : {A : Type 0} (x : A) → None ≡ Some x → ⊥
none_some x e = cc e

some_none : {A : Type 0} (x : A) → Some x ≡ None → ⊥
some_none x e = cc e

refunding_is : (c : Call) → is_refunding (Some c) ≡ true → c ≡ Refund
refunding_is Refund e = refl
refunding_is (Publish t) e = absurd (cc e)
refunding_is (Unlock key) e = absurd (cc e)
refunding_is Claim e = absurd (cc e)
refunding_is (Transfer to units) e = absurd (cc e)

count_none : {A : Type 0} (p : A → Bool) (xs : List A) → ((x : A) → IsElement x xs → p x ≡ true → ⊥) → count_by p xs ≡ 0
count_none p xs n = elim (below_or 0 (count_by p xs)) [
  | inl l ↦ (let y = some_passes p xs l in absurd (n y.0 y.1 y.2))
  | inr l ↦ omega arith
]

-- Before a publish.

module _ (d : Deal) (b : Histories) (v : ℕ) (k : IsAccepted d) (legal : IsLegalBook d b) where
  legal_of : (a : ℕ) → a < length d.graph.arcs → IsLegal d a (history b a)
  legal_of a l = legal.legal a (rw legal.one_each l)

  module _ (none : HasPublishedNothing d b v) where
    -- no lock is opened where nothing was published
    unopened : (a i : ℕ) → IsElement a (leaving d.graph v) → is_open (history b a) i ≡ true → ⊥
    unopened a i w t =
        let l = legal_of a (leaves d v a w).0 in
        let o = is_some-of (opened (history b a) i) t in
        let u = opened_done d a (history b a) i o.0 l o.1 in
        let of_u = of_unlock d a u.0.past u.0.act.by o.0.key u.0.clear in
        none_some of_u.contract (sym (none a w) ∙ published-past (history b a) u.0.past u.0.now of_u.contract u.0.stands of_u.published)

    untriggered : (a : ℕ) → IsElement a (leaving d.graph v) → is_triggered d b a ≡ true → ⊥
    untriggered a w t = unopened a 0 w (list_all-in (is_open (history b a)) (locks d) 0 t (in_range 0 (length d.leaders) k.leaders.0))

    nothing_lost : lost d b v ≡ 0
    nothing_lost = count_none (is_triggered d b) (leaving d.graph v) untriggered

    keeps_all : GivesNothing d b v → (a : ℕ) → IsElement a (leaving d.graph v) → balance d a (history b a) v ≡ amount d a
    keeps_all gives a w =
        let out = leaves d v a w in
        let l = legal_of a out.0 in
        let own : NoOwnTransfer d a (history b a) =
        λ e to units i c. let m = moment_from_in (history b a) e i in gives a m.0 e to units w m.1 (ap (λ x. pick_call x e) (sym out.1) ∙ c) in
        let s = settled-published d a (history b a) l (none a w) in
        let z = counterparty_empty d a (history b a) l own (ap is_claim s) in
        let u = units d a (history b a) l in
        let total = u.total in
        let none_held : held (history b a) ≡ 0 =
        ap (λ x. cond (is_some x) 0 (the_terms (history b a)).amount) s ∙ ap (λ q. (publication_terms q).amount) (none a w) in
        ap (λ x. cond x (accounts d a (history b a)).party (accounts d a (history b a)).counterparty) (eq-eqb v (party d a) (sym out.1)) ∙ omega arith

    loses_nothing : GivesNothing d b v → LosesNothing d b v
    loses_nothing gives = record {
      none = nothing_lost;
      safe = λ e. let y = underwater_lost d b v e in untriggered y.0 y.1 y.2;
      keeps = keeps_all gives;
    }

  module _ (silent : IsSilent b v) where
    silent_publishes : HasPublishedNothing d b v
    silent_publishes a w = go (published (history b a)) refl
      where
        go : (o : Option Publication) → published (history b a) ≡ o → published (history b a) ≡ None
        go None e = e
        go (Some p) e =
            let out = leaves d v a w in
            let done = published_done d a (history b a) p (legal_of a out.0) e in
            let by : done.act.by ≡ v = (of_publish d a done.past done.act.by p.terms done.clear).party ∙ out.1 in
            absurd (none_some (Publish p.terms) (sym (silent a done.past done.now done.stands)
            ∙ pick_call-act d a done.past done.now (Publish p.terms) v done.act by))

    silent_claims : (a : ℕ) → IsElement a (entering d.graph v) → is_got d b a ≡ true → ⊥
    silent_claims a w g = go (settled (history b a)) refl (and_parts (is_correct d b a) _ g).1
      where
        go : (s : Option Settlement) → settled (history b a) ≡ s → is_claim (settled (history b a)) ≡ true → ⊥
        go None e c = false≢true (sym (ap is_claim e) ∙ c)
        go (Some Refunded) e c = false≢true (sym (ap is_claim e) ∙ c)
        go (Some Claimed) e c =
            let in_arc = enters d v a w in
            let done = (claimed_done d a (history b a) (legal_of a in_arc.0) e).1 in
            let by : done.act.by ≡ v = (of_claim d a done.past done.act.by done.clear).counterparty ∙ in_arc.1 in
            none_some Claim (sym (silent a done.past done.now done.stands) ∙ pick_call-act d a done.past done.now Claim v done.act by)

    silent_outcome : outcome d b v ≡ NoDeal
    unfolding outcome
    silent_outcome =
        let l : (lost d b v == 0) ≡ true = eq-eqb (lost d b v) 0 (nothing_lost silent_publishes) in
        let g : (got d b v == 0) ≡ true = eq-eqb (got d b v) 0 (count_none (is_got d b) (entering d.graph v) silent_claims) in
        rw (l, g) refl

pub unpublished_loses_nothing : UnpublishedLosesNothing
unpublished_loses_nothing d b v k legal none gives = loses_nothing d b v k legal none gives

pub silent_loses_nothing : SilentLosesNothing
silent_loses_nothing d b v k legal silent = (
  loses_nothing d b v k legal (silent_publishes d b v k legal silent)
      (λ a past e to units w m c. none_some (Transfer to units) (sym (silent a past e m) ∙ c)),
  silent_outcome d b v k legal silent,
)

-- Before a leader reveals its secret.

pub unrevealed_loses_nothing : UnrevealedLosesNothing
unrevealed_loses_nothing d b v k legal conducted unforged n = (
  count_none (is_triggered d b) (leaving d.graph v) untouched,
  λ e. let y = underwater_lost d b v e in untouched y.0 y.1 y.2,
  λ asks. has_refunds d b v legal conducted (times_law d k) asks,
)
  where
    untouched : (a : ℕ) → IsElement a (leaving d.graph v) → is_triggered d b a ≡ true → ⊥
    untouched = go (time_law d k)
      where
        go : TimeLaw d → (a : ℕ) → IsElement a (leaving d.graph v) → is_triggered d b a ≡ true → ⊥
        go (OfTimelocks law) = timelocks_unrevealed d b v law legal conducted unforged n
        go (OfHashkeys law) = hashkeys_unrevealed d b v law legal conducted unforged n

-- A late publish.

pub late_publish_is_idle : LatePublishIsIdle
unfolding is_ready keeps
late_publish_is_idle d b a p legal l e late = (unready, λ conducted i. unlocked_none i (opened (history b a) i) refl conducted)
  where
    u : ℕ
    u = counterparty d a

    unready : is_ready d b u ≡ false
    unready = not-true (is_ready d b u) (λ ready.
        let w : IsElement a (entering d.graph u) = in_filter (λ x. (ends d.graph x).to == u) a (arcs d.graph) (in_range a (length d.graph.arcs) l) (eq-eqb u u refl) in
        let g = and_parts (is_correct d b a) _ (list_all-in (is_good d b) (entering d.graph u) a ready w) in
        let low : publication_height (published (history b a)) ≤ times.opening_deadline d.start d.delta d.bound = leb-true _ _ g.1 in
        let same : publication_height (published (history b a)) ≡ p.height = ap publication_height e in
        absurd (omega arith))

    unlocked_none : (i : ℕ) (o : Option Opening) → opened (history b a) i ≡ o → IsConducted d b u → opened (history b a) i ≡ None
    unlocked_none i None q conducted = q
    unlocked_none i (Some o) q conducted =
        let done = opened_done d a (history b a) i o (legal.legal a (rw legal.one_each l)) q in
        let by : done.0.act.by ≡ u = (of_unlock d a done.0.past done.0.act.by o.key done.0.clear).counterparty in
        let called = pick_call-act d a done.0.past done.0.now (Unlock o.key) u done.0.act by in
        let r =
        and_five (is_some (published done.0.past)) (is_ready d b u) _ _ _ (kept d b u conducted a done.0.past done.0.now (Unlock o.key) done.0.stands called)
        in
        absurd (false≢true (sym unready ∙ r.1))
