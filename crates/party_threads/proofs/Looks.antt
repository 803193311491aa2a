-- What a call through a pass leaves of what its party knows.
use Rattle.std.proofs.Common.{◌≡◌, ℕ, ◌++◌, List, [], ◌∷◌, append-nil, append_assoc, refl, sym, ap, ◌∙◌, subst, if◌then◌else◌}
use mathlib.Core.List.{IsPrefix}
use Rattle.atomic_table.specs.Seated.{TableId}
use Rattle.swap_base.proofs.Lists.{all_moments_front}
use Rattle.swap_digraph.specs.declared.deal.Deal.{Deal}
use Rattle.escrow_core.specs.declared.reply.Reply.{Reply}
use Rattle.escrow_core.specs.declared.reply.Reply.TheVariants.{SenderFull}
use Rattle.ledger_core.specs.declared.entry.Call.{Call}
use Rattle.ledger_core.specs.declared.entry.Entry.{Entry}
use Rattle.ledger_core.specs.History.{height, history_reply, IsLegal, IsLegalMoment}
use Rattle.ledger_core.specs.Ledger.{after_call, call_entry, is_sender_full}
use Rattle.ledger_core.specs.Book.{history}
use Rattle.ledger_shared.specs.Value.{PassState, party_made, with_seen, added_by_call, HasCalled}
use Rattle.party_threads.specs.Tracks.{Watcher, watcher_knowing, knowing_more, IsWatcherPass, HasMade}

-- what the pass has then seen is what its party is to know
pub legal_of : (w : Watcher) (lock : TableId) (a : ℕ) (p q : PassState) (fresh : List Entry) → IsWatcherPass w lock a p → q ≡ with_seen p fresh
    → IsLegal p.deal p.arc q.seen → IsLegal w.deal a (history w.known a ++ fresh)
legal_of w lock a p q fresh k is legal =
    subst (λ h. IsLegal w.deal a (h ++ fresh)) k.seen
    (subst (λ x. IsLegal w.deal x (p.seen ++ fresh)) k.arc
    (subst (λ d. IsLegal d p.arc (p.seen ++ fresh)) k.deal (subst (λ h. IsLegal p.deal p.arc h) (ap (λ (s : PassState). s.seen) is) legal)))

pub foreign_of : (w : Watcher) (lock : TableId) (a : ℕ) (p : PassState) (fresh : List Entry) → IsWatcherPass w lock a p → party_made p.party fresh ≡ []
    → party_made w.me fresh ≡ []
foreign_of w lock a p fresh k none = subst (λ v. party_made v fresh ≡ []) k.party none

pub whole_of : (p q : PassState) (fresh : List Entry) → q ≡ with_seen p fresh → IsPrefix p.shared q.seen → IsPrefix q.shared q.seen
whole_of p q fresh is whole = subst (λ s. IsPrefix s q.seen) (sym (ap (λ (s : PassState). s.shared) is)) whole

added_with : (h : List Entry) (v t : ℕ) (c : Call) (r : Reply)
    → h ++ added_by_call r (call_entry v t c r) ≡ (if is_sender_full r then h else h ++ call_entry v t c r ∷ [])
added_with h v t c SenderFull = append-nil h
added_with h v t c _ = refl

added_is : (d : Deal) (a v : ℕ) (c : Call) (h : List Entry)
    → h ++ added_by_call (history_reply d a h v c) (call_entry v (height h) c (history_reply d a h v c)) ≡ after_call d a v c h
unfolding after_call
added_is d a v c h = added_with h v (height h) c (history_reply d a h v c)

-- what a call adds to what was seen, with the reply that the ledger gives there
called_is : (p : PassState) (c : Call) (r : Reply) (fresh : List Entry) (k : HasCalled p c r fresh)
    → p.seen ++ fresh ≡ after_call p.deal p.arc p.party c (p.seen ++ k.others)
called_is p c r fresh k =
    let h = p.seen ++ k.others in
    ap (λ x. p.seen ++ x) k.entries
    ∙ (sym (append_assoc p.seen k.others (added_by_call r (call_entry p.party (height h) c r)))
    ∙ (ap (λ x. h ++ added_by_call x (call_entry p.party (height h) c x)) k.reply ∙ added_is p.deal p.arc p.party c h))

-- what was legal with more was legal before
legal_before : (d : Deal) (a : ℕ) (h others fresh more : List Entry) → IsLegal d a (h ++ fresh) → fresh ≡ others ++ more → IsLegal d a (h ++ others)
legal_before d a h others fresh more legal is =
    all_moments_front (IsLegalMoment d a) (h ++ others) more
    (subst (IsLegal d a) (ap (λ x. h ++ x) is ∙ sym (append_assoc h others more)) legal)

-- a call that was made, in words of the party
made_is : (w : Watcher) (lock : TableId) (a : ℕ) (p : PassState) (c : Call) (h others : List Entry) → IsWatcherPass w lock a p
    → h ≡ after_call p.deal p.arc p.party c (p.seen ++ others) → h ≡ after_call w.deal a w.me c (history w.known a ++ others)
made_is w lock a p c h others k e =
    subst (λ x. h ≡ after_call w.deal a w.me c (x ++ others)) k.seen
    (subst (λ v. h ≡ after_call w.deal a v c (p.seen ++ others)) k.party
    (subst (λ x. h ≡ after_call w.deal x p.party c (p.seen ++ others)) k.arc (subst (λ d. h ≡ after_call d p.arc p.party c (p.seen ++ others)) k.deal e)))

pub has_made : (w : Watcher) (lock : TableId) (a : ℕ) (c : Call) (p : PassState) (x : Watcher) (q : PassState) (r : Reply) (fresh : List Entry)
    → IsWatcherPass w lock a p → HasCalled p c r fresh → q ≡ with_seen p fresh → IsLegal p.deal p.arc q.seen → IsPrefix p.shared q.seen
    → x ≡ knowing_more w a fresh → HasMade w a c p x q
has_made w lock a c p x q r fresh k called is legal whole knows =
    let seen : q.seen ≡ p.seen ++ fresh = ap (λ (s : PassState). s.seen) is in
    let made : p.seen ++ fresh ≡ after_call w.deal a w.me c (history w.known a ++ called.others) =
    made_is w lock a p c (p.seen ++ fresh) called.others k (called_is p c r fresh called) in
    let grown : history w.known a ++ fresh ≡ after_call w.deal a w.me c (history w.known a ++ called.others) =
    ap (λ h. h ++ fresh) (sym k.seen) ∙ made in
    record {
      learnt = record {
        others = called.others;
        foreign = foreign_of w lock a p called.others k called.foreign;
        legal = legal_before w.deal a (history w.known a) called.others fresh _ (legal_of w lock a p q fresh k is legal) called.entries;
        knows = knows ∙ ap (watcher_knowing w a) grown;
      };
      seen = seen ∙ made;
      pass = (fresh, is);
      whole = whole_of p q fresh is whole;
    }
