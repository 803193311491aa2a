-- What an unlock or a claim leaves, whatever its reply.
use Rattle.std.proofs.Common.{◌≡◌, ℕ, ◌≤◌, nat_lt, Bool, true, false, not, ◌&&◌, List, length, Option, Some, None, is_some, is_none}
use Rattle.std.proofs.Common.{refl, sym, ap, ◌∙◌, subst, eq-eqb, le-ltb}
use Rattle.swap_base.specs.Lists.{IsElement, IsMoment}
use Rattle.swap_base.proofs.Lists.{list_all-in, in_range, and_parts}
use Rattle.swap_digraph.specs.declared.deal.Deal.{Deal}
use Rattle.swap_digraph.specs.Deal.{counterparty, locks}
use Rattle.hashkey_path.specs.declared.hashkey.Hashkey.{Hashkey}
use Rattle.hashkey_path.specs.Hashkey.{is_wrong_secret, is_wrong_path, is_wrong_signature, is_valid}
use Rattle.escrow_core.specs.Terms.{terms_hashlock, last_unlock}
use Rattle.ledger_core.specs.declared.entry.Call.TheVariants.{Unlock, Claim}
use Rattle.ledger_core.specs.declared.entry.Entry.{Entry}
use Rattle.ledger_core.specs.declared.facts.Settlement.{Settlement}
use Rattle.ledger_core.specs.declared.facts.Settlement.TheVariants.{Claimed, Refunded}
use Rattle.ledger_core.specs.History.{height, accepted, Publication, published, is_open, settled, settling, triggered, publication_terms, the_terms, rows, IsLegal}
use Rattle.ledger_core.proofs.History.{Act, from_clear, not-full, not-true-of, accepted-now, claimed_done, of_claim, legal-past, lock-below, opened-past}
use Rattle.ledger_core.proofs.History.{opened-now, refunded-untriggered, triggered-past, settled-past, settled-now}

-- An unlock in time with a valid hashkey leaves its lock open, whatever the reply.
pub unlock_opens : (d : Deal) (a : ℕ) (h past : List Entry) (e : Entry) (key : Hashkey) (p : Publication) → IsLegal d a h → (m : IsMoment h past e)
    → (act : Act d a past e (Unlock key))
    → act.by ≡ counterparty d a → published past ≡ Some p → is_valid d a (terms_hashlock p.terms key.lock) key ≡ true
    → height past ≤ last_unlock d.mode p.terms key → (settled past ≡ Some Refunded → ⊥) → is_open h key.lock ≡ true
unfolding rows
unlock_opens d a h past e key p l m act by pub_past valid in_time unrefunded = settled_case (settled past) refl
  where
    same : the_terms past ≡ p.terms
    same = ap publication_terms pub_past

    v1 : ((not (is_wrong_secret (terms_hashlock p.terms key.lock) key) && not (is_wrong_path d a d.mode key)) ≡ true)
        × (not (is_wrong_signature d d.mode key) ≡ true)
    v1 =
        and_parts (not (is_wrong_secret (terms_hashlock p.terms key.lock) key) && not (is_wrong_path d a d.mode key))
        (not (is_wrong_signature d d.mode key)) valid

    v2 : (not (is_wrong_secret (terms_hashlock p.terms key.lock) key) ≡ true) × (not (is_wrong_path d a d.mode key) ≡ true)
    v2 = and_parts (not (is_wrong_secret (terms_hashlock p.terms key.lock) key)) (not (is_wrong_path d a d.mode key)) v1.0

    on_time : nat_lt (last_unlock d.mode (the_terms past) key) (height past) ≡ false
    on_time = le-ltb (last_unlock d.mode (the_terms past) key) (height past) (subst (λ t. height past ≤ last_unlock d.mode t key) (sym same) in_time)

    closed_case : settled past ≡ None → (b : Bool) → is_open past key.lock ≡ b → is_open h key.lock ≡ true
    closed_case s true o = opened-past h past e key.lock m o
    closed_case s false o = opened-now h past e key m (accepted-now e (Unlock key) act.what (act.reply ∙ from_clear (rows d a past act.by (Unlock key)) (
      not-full d a past e (Unlock key) act,
      (
        ap is_none pub_past,
        (
          ap is_some s,
          (
            ap not (eq-eqb act.by (counterparty d a) by),
            (
              o,
              (
                ap (λ t. is_wrong_secret (terms_hashlock t key.lock) key) same
                    ∙ not-true-of (is_wrong_secret (terms_hashlock p.terms key.lock) key) v2.0,
                (not-true-of (is_wrong_path d a d.mode key) v2.1, (not-true-of (is_wrong_signature d d.mode key) v1.1, (on_time, tt))),
              ),
            ),
          ),
        ),
      ),
    )))

    settled_case : (s : Option Settlement) → settled past ≡ s → is_open h key.lock ≡ true
    settled_case None s = closed_case s (is_open past key.lock) refl
    settled_case (Some Claimed) s =
        let c = (claimed_done d a past (legal-past d a h past e l m) s).1 in
        let lock_in : IsElement key.lock (locks d) = in_range key.lock (length d.leaders) (lock-below d a key act.fits) in
        let o : is_open c.past key.lock ≡ true = list_all-in (is_open c.past) (locks d) key.lock (of_claim d a c.past c.act.by c.clear).triggered lock_in in
        opened-past h past e key.lock m (opened-past past c.past c.now key.lock c.stands o)
    settled_case (Some Refunded) s = absurd (unrefunded s)

-- A claim behind open locks leaves the arc claimed, whatever the reply.
pub claim_claims : (d : Deal) (a : ℕ) (h past : List Entry) (e : Entry) (p : Publication) → IsLegal d a h → (m : IsMoment h past e)
    → (act : Act d a past e Claim)
    → act.by ≡ counterparty d a → published past ≡ Some p → triggered d past ≡ true → settled h ≡ Some Claimed
unfolding rows
claim_claims d a h past e p l m act by pub_past all_open = settled_case (settled past) refl
  where
    whole_case : (s : Option Settlement) → settled h ≡ s → is_some s ≡ true → settled h ≡ Some Claimed
    whole_case None s k = absurd (cc k)
    whole_case (Some Claimed) s k = s
    whole_case (Some Refunded) s k = absurd (refunded-untriggered d a h l s (triggered-past d h past e m all_open))

    settled_case : (s : Option Settlement) → settled past ≡ s → settled h ≡ Some Claimed
    settled_case (Some Claimed) s = settled-past h past e Claimed m s
    settled_case (Some Refunded) s = absurd (refunded-untriggered d a past (legal-past d a h past e l m) s all_open)
    settled_case None s =
        let took : accepted e ≡ Some Claim = accepted-now e Claim act.what (act.reply ∙ from_clear (rows d a past act.by Claim)
        (not-full d a past e Claim act, (ap is_none pub_past, (ap is_some s, (ap not (eq-eqb act.by (counterparty d a) by), (ap not all_open, tt)))))) in
        whole_case (settled h) refl (settled-now h past e Claimed m (ap settling took))
