-- What its conduct and its being on time say of a party's calls.
use Rattle.std.proofs.Common.{◌≡◌, ℕ, ◌+◌, ◌<◌, ◌≤◌, ◌==◌, nat_lt, nat_le, Bool, true, false, not, ◌&&◌, ◌||◌, List, length, Option, Some, None}
use Rattle.std.proofs.Common.{is_some, refl, sym, ap, ◌∙◌, eqb-true, lt-ltb, leb-true}
use Rattle.std.specs.List.{flat_map}
use Rattle.std.proofs.lemmas.Option.{same_Some}
use Rattle.swap_base.specs.Lists.{IsElement, moments, IsMoment}
use Rattle.swap_base.proofs.Lists.{at_moment, all_from_list_all, any_at, and_parts, moment_from_in, from_whole}
use Rattle.swap_digraph.specs.declared.deal.Deal.{Deal}
use Rattle.swap_digraph.specs.Graph.{leaving}
use Rattle.hashkey_path.specs.declared.hashkey.Hashkey.{Hashkey}
use Rattle.escrow_core.specs.declared.terms.Terms.{Terms}
use Rattle.escrow_core.specs.Terms.{stated_terms, same_terms}
use Rattle.ledger_core.specs.declared.entry.Call.{Call}
use Rattle.ledger_core.specs.declared.entry.Call.TheVariants.{Publish, Unlock, Claim, Refund, Transfer}
use Rattle.ledger_core.specs.declared.entry.Entry.{Entry}
use Rattle.ledger_core.specs.History.{height, Publication, published, IsLegal}
use Rattle.ledger_core.specs.Book.{Histories, history, IsLegalBook}
use Rattle.swap_rules.specs.declared.finding.Rule.{Rule}
use Rattle.swap_rules.specs.declared.finding.Rule.TheVariants.{Publish as ToPublish, Unlock as ToUnlock, Claim as ToClaim, Refund as ToRefund}
use Rattle.swap_rules.specs.Party.{is_arc_correct, is_correct, is_ready, leads_one, pick_call, first_key}
use Rattle.swap_rules.specs.Conduct.{is_first_key, keeps, keeps_entry, IsConducted}
use Rattle.swap_rules.specs.Due.{is_claiming}
use Rattle.swap_rules.specs.Late.{reference_height, counts, is_done, is_past_due, is_late}
use Rattle.swap_rules.proofs.Words.{and_three, and_five, same_terms-true, leaves, pick_call-act}
use Rattle.ledger_core.proofs.History.{published_done, of_publish, published-past}

module _ (d : Deal) (b : Histories) (v : ℕ) (conducted : IsConducted d b v) where
  -- each call of v keeps the rules
  pub kept : (a : ℕ) (past : List Entry) (e : Entry) (c : Call) → IsMoment (history b a) past e → pick_call v e ≡ Some c
      → keeps d b v a past e.height (Some c) ≡ true
  kept a past e c m k =
      ap (keeps d b v a past e.height) (sym k)
      ∙ at_moment (λ m. keeps_entry d b v a m ≡ true) (history b a) past e (all_from_list_all (keeps_entry d b v a) (moments (history b a)) (conducted a)) m

  module _ (legal : IsLegalBook d b) where
    pub legal_at : (a : ℕ) → a < length d.graph.arcs → IsLegal d a (history b a)
    legal_at a l = legal.legal a (rw legal.one_each l)

    pub record OwnPublish (a : ℕ) (t : Terms) : Type 0 where
      pub correct : t ≡ stated_terms d a
      pub may : (leads_one d v || is_ready d b v) ≡ true

    -- what v published on an arc that leaves it is correct, and v led or was ready
    pub own_publish : (a : ℕ) (p : Publication) → IsElement a (leaving d.graph v) → published (history b a) ≡ Some p → OwnPublish a p.terms
    unfolding keeps
    own_publish a p i e =
        let l = leaves d v a i in
        let done = published_done d a (history b a) p (legal_at a l.0) e in
        let by : done.act.by ≡ v = (of_publish d a done.past done.act.by p.terms done.clear).party ∙ l.1 in
        let k = kept a done.past done.now (Publish p.terms) done.stands (pick_call-act d a done.past done.now (Publish p.terms) v done.act by) in
        let parts = and_three (same_terms p.terms (stated_terms d a)) _ (leads_one d v || is_ready d b v) k in
        record { correct = same_terms-true p.terms (stated_terms d a) parts.0; may = parts.2 }

    pub or-left_false : (x y : Bool) → x ≡ false → (x || y) ≡ true → y ≡ true
    or-left_false true y h k = absurd (cc h)
    or-left_false false y h k = k

    -- an unlock call of v anywhere shows that v is ready
    pub unlock_ready : (e : Entry) (key : Hashkey) → IsElement e (flat_map (λ h. h) b) → pick_call v e ≡ Some (Unlock key) → is_ready d b v ≡ true
    unfolding keeps
    unlock_ready e key i k =
        let w = from_whole b e i in
        let m = moment_from_in (history b w.0) e w.2 in
        let r = kept w.0 m.0 e (Unlock key) m.1 k in
        (and_five (is_some (published m.0)) (is_ready d b v) _ _ _ r).1

    pub record DoneInTime (a : ℕ) (rule : Rule) (due : ℕ) : Type 0 where
      pub past : List Entry
      pub now : Entry
      pub call : Call
      pub stands : IsMoment (history b a) past now
      pub called : pick_call v now ≡ Some call
      pub counted : counts d b v rule a now.height (Some call) ≡ true
      pub in_time : now.height ≤ due

    pub some_call : (rule : Rule) (a at : ℕ) (o : Option Call) → counts d b v rule a at o ≡ true → (c : Call) × (o ≡ Some c)
    unfolding counts
    some_call ToPublish a at None k = absurd (cc k)
    some_call (ToUnlock i) a at None k = absurd (cc k)
    some_call ToClaim a at None k = absurd (cc k)
    some_call ToRefund a at None k = absurd (cc k)
    some_call rule a at (Some c) k = (c, refl)

    pub late_parts : (x y : Bool) → (x && not y) ≡ false → x ≡ true → y ≡ true
    late_parts x true e h = refl
    late_parts true false e h = absurd (cc e)
    late_parts false false e h = absurd (cc h)

    -- an enabled action whose due height the ledger has passed, and which isn't late, was done in
    -- time
    pub done_in_time : (rule : Rule) (a : ℕ) → is_late d b v rule a ≡ false → (r : ℕ) → reference_height d b v rule a ≡ Some r
        → r + d.delta < height (history b a) → DoneInTime a rule (r + d.delta)
    done_in_time rule a on_time r enabled passed =
        let e : (nat_lt (r + d.delta) (height (history b a)) && not (is_done d b v rule a (r + d.delta))) ≡ false =
        ap (is_past_due d b v rule a) (sym enabled) ∙ on_time in
        let k : is_done d b v rule a (r + d.delta) ≡ true = late_parts (nat_lt (r + d.delta) (height (history b a))) _ e (lt-ltb _ _ passed) in
        let f = any_at (λ e. counts d b v rule a e.height (pick_call v e) && nat_le e.height (r + d.delta)) (history b a) k in
        let parts = and_parts (counts d b v rule a f.now.height (pick_call v f.now)) (nat_le f.now.height (r + d.delta)) f.passes in
        let c = some_call rule a f.now.height (pick_call v f.now) parts.0 in
        record {
          past = f.past;
          now = f.now;
          call = c.0;
          stands = f.stands;
          called = c.1;
          counted = ap (counts d b v rule a f.now.height) (sym c.1) ∙ parts.0;
          in_time = leb-true f.now.height (r + d.delta) parts.1;
        }

-- What an enabled action is done by.

pub record CountedUnlock (b : Histories) (v i : ℕ) (c : Call) : Type 0 where
  pub key : Hashkey
  pub call : c ≡ Unlock key
  pub lock : key.lock ≡ i
  pub first : is_first_key (first_key b v i) key ≡ true

pub counted_unlock : (d : Deal) (b : Histories) (v i a at : ℕ) (c : Call) → counts d b v (ToUnlock i) a at (Some c) ≡ true → CountedUnlock b v i c
unfolding counts
counted_unlock d b v i a at (Unlock key) k =
    let parts = and_parts (key.lock == i) (is_first_key (first_key b v i) key) k in
    record { key = key; call = refl; lock = eqb-true key.lock i parts.0; first = parts.1 }
counted_unlock d b v i a at (Publish t) k = absurd (cc k)
counted_unlock d b v i a at Claim k = absurd (cc k)
counted_unlock d b v i a at Refund k = absurd (cc k)
counted_unlock d b v i a at (Transfer to units) k = absurd (cc k)

pub counted_claim : (d : Deal) (b : Histories) (v a at : ℕ) (c : Call) → counts d b v ToClaim a at (Some c) ≡ true → c ≡ Claim
unfolding counts
counted_claim d b v a at Claim k = refl
counted_claim d b v a at (Publish t) k = absurd (cc k)
counted_claim d b v a at (Unlock key) k = absurd (cc k)
counted_claim d b v a at Refund k = absurd (cc k)
counted_claim d b v a at (Transfer to units) k = absurd (cc k)

pub claiming_is : (o : Option Call) → is_claiming o ≡ true → o ≡ Some Claim
claiming_is (Some Claim) k = refl
claiming_is None k = absurd (cc k)
claiming_is (Some (Publish t)) k = absurd (cc k)
claiming_is (Some (Unlock key)) k = absurd (cc k)
claiming_is (Some Refund) k = absurd (cc k)
claiming_is (Some (Transfer to units)) k = absurd (cc k)

-- What a correct arc published.

pub record Correct (d : Deal) (b : Histories) (a : ℕ) : Type 0 where
  pub contract : Publication
  pub published : published (history b a) ≡ Some contract
  pub terms : contract.terms ≡ stated_terms d a

correct_of : (d : Deal) (b : Histories) (a : ℕ) (o : Option Publication) → published (history b a) ≡ o → is_arc_correct d a o ≡ true → Correct d b a
correct_of d b a None e k = absurd (cc k)
correct_of d b a (Some p) e k = record { contract = p; published = e; terms = same_terms-true p.terms (stated_terms d a) k }

pub correct : (d : Deal) (b : Histories) (a : ℕ) → is_correct d b a ≡ true → Correct d b a
correct d b a k = correct_of d b a (published (history b a)) refl k

-- on a correct arc a prefix that has a publish has the correct terms
pub correct_past : (d : Deal) (b : Histories) (a : ℕ) (past : List Entry) (e : Entry) (p : Publication) → Correct d b a → IsMoment (history b a) past e
    → published past ≡ Some p → p.terms ≡ stated_terms d a
correct_past d b a past e p c m k =
    let one : p ≡ c.contract = same_Some p c.contract (sym (published-past (history b a) past e p m k) ∙ c.published) in
    ap (λ q. q.terms) one ∙ c.terms
