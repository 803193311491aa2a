-- A party's own knowledge as its book: what holds of its calls there holds in every book that has
-- no further call of it.
use Rattle.std.proofs.Common.{append_assoc, ◌≡◌, ◌≢◌, ◌⊎◌, ℕ, ◌<◌, List, [], ◌∷◌, ◌++◌, length, Option, Some, sym, ap, ◌∙◌, subst, inl, inr, set}
use Rattle.std.proofs.lemmas.Option.{same_Some}
use Rattle.std.proofs.lemmas.List.{length-set}
use Rattle.swap_base.specs.Lists.{IsElement, IsMoment}
use Rattle.swap_base.proofs.Lists.{in_from_moment}
use Rattle.swap_digraph.specs.declared.deal.Deal.{Deal}
use Rattle.hashkey_path.specs.declared.hashkey.Hashkey.{Hashkey}
use Rattle.ledger_core.specs.declared.entry.Call.{Call}
use Rattle.ledger_core.specs.declared.entry.Sender.TheVariants.{Party}
use Rattle.ledger_core.specs.declared.entry.What.TheVariants.{Call as Made}
use Rattle.ledger_core.specs.declared.entry.Entry.{Entry}
use Rattle.ledger_core.specs.History.{IsLegal}
use Rattle.ledger_core.specs.Book.{Histories, history}
use Rattle.swap_rules.specs.Party.{pick_call}
use Rattle.ledger_core.specs.Ledger.{after_call}
use Rattle.swap_rules.specs.Machine.{KeepsOwn, KeepsRules, Begins, Knows, noted}
use Rattle.swap_rules.specs.Laws.{KnowledgeConducts, LearningIsSound, DueIsSound}
use Rattle.swap_rules.proofs.Prefixes.{split, none_called, same_or_not}
use Rattle.swap_rules.proofs.Growth.{Grows}
use Rattle.swap_rules.proofs.Due.{is_due}
use Rattle.swap_rules.proofs.Conducting.{own_more, key_more, Next, next_call, next_legal, rules_next, history_same, history_other, knows_all, rules_conduct}

cancel : {A : Type 0} (k x y : List A) → k ++ x ≡ k ++ y → x ≡ y
cancel [] x y e = e
cancel (z ∷ k) x y e = cancel k x y (cc)

-- a call of v in the whole stands in what v knows
pub own_known : (v : ℕ) (k h past : List Entry) (e : Entry) (c : Call) → Knows v k h → IsMoment h past e → pick_call v e ≡ Some c → IsMoment k past e
own_known v k h past e c kn m q = go (split k kn.rest past e m.0 (sym kn.whole ∙ m.1))
  where
    go : IsMoment k past e ⊎ Begins k past → IsMoment k past e
    go (inl n) = n
    go (inr b) =
        let rest : kn.rest ≡ b.0 ++ e ∷ m.0 =
        cancel k kn.rest (b.0 ++ e ∷ m.0) (sym kn.whole ∙ (m.1 ∙ (ap (λ l. l ++ e ∷ m.0) b.1 ∙ append_assoc k b.0 (e ∷ m.0)))) in
        let none = none_called v e (kn.others e (subst (IsElement e) (sym rest) (in_from_moment b.0 e m.0))) in
        absurd (cc (sym none ∙ q))

-- The transfer: from v's knowledge to every book that holds it and no further call of v.
pub rules_transfer : (d : Deal) (known b : Histories) (signed : ℕ → Option Hashkey) (v : ℕ) → ((a : ℕ) → Knows v (history known a) (history b a))
    → KeepsRules d known signed v → KeepsRules d b signed v
rules_transfer d known b signed v kn r = record {
  own =
      λ a past e c m q. own_more d known b signed signed v a past c grows (λ i key z.
      z) (r.own a past e c (own_known v (history known a) (history b a) past e c (kn a) m q) q);
  keys = λ i key q. key_more d known b v i key grows (r.keys i key q);
}
  where
    grows : Grows known b
    grows a = let k = kn a in (k.rest, k.whole)

-- conduct in the book, from the knowledge alone
pub knowledge_conducts : KnowledgeConducts
knowledge_conducts d known b signed v legal kn r = rules_conduct d b signed v legal (rules_transfer d known b signed v kn r)

-- v learns entries of others
pub learn_sound : LearningIsSound
learn_sound d known signed v a more below others legal s = record {
  legal = record {
    one_each = length-set known a (history known a ++ more) ∙ s.legal.one_each;
    legal = λ c l. at c (same_or_not c a) (subst (λ z. c < z) (length-set known a (history known a ++ more)) l);
  };
  rules = rules_transfer d known (set known a (history known a ++ more)) signed v (λ c. knows c (same_or_not c a)) s.rules;
}
  where
    at : (c : ℕ) → (c ≡ a) ⊎ (c ≢ a) → c < length known → IsLegal d c (history (set known a (history known a ++ more)) c)
    at c (inl e) l =
        subst (λ z. IsLegal d z (history (set known a (history known a ++ more)) z)) (sym e)
        (subst (IsLegal d a) (sym (history_same known a (history known a ++ more) below)) legal)
    at c (inr n) l = subst (IsLegal d c) (sym (history_other known a c (history known a ++ more) n)) (s.legal.legal c l)

    knows : (c : ℕ) → (c ≡ a) ⊎ (c ≢ a) → Knows v (history known c) (history (set known a (history known a ++ more)) c)
    knows c (inl e) =
        subst (λ z. Knows v (history known z) (history (set known a (history known a ++ more)) z)) (sym e) (record {
          rest = more;
          whole =
              history_same known a (history known a ++ more) below;
          others = others;
        })
    knows c (inr n) = subst (Knows v (history known c)) (sym (history_other known a c (history known a ++ more) n)) (knows_all v (history known c))

-- v makes a call that was due over what it knew; before its entry it learns the entries of others
-- that came between
pub call_sound : DueIsSound
call_sound d v w known signed x fresh wallet fits i below others legal s =
    let s1 = learn_sound d known signed v x.arc fresh below others legal s in
    let b1 : Histories = set known x.arc (history known x.arc ++ fresh) in
    let here : history (set known x.arc (history known x.arc ++ fresh)) x.arc ≡ history known x.arc ++ fresh =
    history_same known x.arc (history known x.arc ++ fresh) below in
    let is =
    is_due d v w signed (set known x.arc (history known x.arc ++ fresh)) known s1.legal s1.rules (λ c.
    knows c (same_or_not c x.arc)) wallet fits x i in
    let below1 : x.arc < length (set known x.arc (history known x.arc ++ fresh)) =
    subst (λ z. x.arc < z) (sym (length-set known x.arc (history known x.arc ++ fresh))) below in
    let n =
    subst (λ h. Next d x.arc h (after_call d x.arc v x.call (history known x.arc ++ fresh)) (Party v) (Made x.call)) (sym here)
    (next_call d x.arc (history known x.arc ++ fresh) v x.call is.of_the_two is.fits) in
    record {
      legal =
          next_legal d (set known x.arc (history known x.arc ++ fresh)) x.arc (after_call d x.arc v x.call (history known x.arc ++ fresh)) (Party v)
          (Made x.call) below1 n s1.legal;
      rules =
          rules_next d (set known x.arc (history known x.arc ++ fresh)) x.arc (after_call d x.arc v x.call (history known x.arc ++ fresh)) (Party v)
          (Made x.call) signed (noted signed x.call) v below1 n s1.rules is.keeps_signed is.keys
          (λ c q z. subst (λ y. KeepsOwn d (set known x.arc (history known x.arc ++ fresh)) (noted signed x.call) v x.arc
          (history (set known x.arc (history known x.arc ++ fresh)) x.arc) y) (same_Some x.call c z) is.rule);
    }
  where
    knows : (c : ℕ) → (c ≡ x.arc) ⊎ (c ≢ x.arc) → Knows v (history known c) (history (set known x.arc (history known x.arc ++ fresh)) c)
    knows c (inl e) =
        subst (λ z. Knows v (history known z) (history (set known x.arc (history known x.arc ++ fresh)) z)) (sym e) (record {
          rest = fresh;
          whole =
              history_same known x.arc (history known x.arc ++ fresh) below;
          others = others;
        })
    knows c (inr n) = subst (Knows v (history known c)) (sym (history_other known x.arc c (history known x.arc ++ fresh) n)) (knows_all v (history known c))
