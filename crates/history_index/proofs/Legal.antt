-- Every legal history is one that an index takes.
use Rattle.std.proofs.Common.{◌≡◌, ℕ, ◌+◌, ◌<◌, Bool, true, false, cond, List, [], ◌∷◌, ◌++◌, length, get_or, take, drop, refl, sym, ap, ◌∙◌, subst}
use Rattle.std.proofs.Common.{arith, lt-ltb, take-append-drop}
use Rattle.std.proofs.lemmas.List.{take_more}
use Rattle.std.proofs.lemmas.List.Sums.{sum_by-cons}
use Rattle.swap_base.proofs.Lists.{list_all-from, moment_from_in, at_moment, all_moments_front}
use Rattle.swap_digraph.specs.declared.deal.Deal.{Deal}
use Rattle.swap_digraph.specs.Deal.{party, counterparty, IsWellSized}
use Rattle.ledger_core.specs.declared.entry.Call.TheVariants.{Unlock}
use Rattle.ledger_core.specs.declared.entry.Sender.{Sender}
use Rattle.ledger_core.specs.declared.entry.Sender.TheVariants.{Party, Clock}
use Rattle.ledger_core.specs.declared.entry.What.{What}
use Rattle.ledger_core.specs.declared.entry.What.TheVariants.{Call as Made, Tick}
use Rattle.ledger_core.specs.declared.entry.Entry.{Entry}
use Rattle.ledger_core.specs.History.{is_sender, IsLegal, IsLegalEntry, IsLegalMoment}
use Rattle.ledger_core.proofs.Bounds.{total_calls, bounds, countable}
use Rattle.ledger_core.proofs.History.{lock-below}
use Rattle.history_index.specs.Numbers.{sender_numbers, has_right_sender, names_lock, IsIndexable}

one_more : (b : Bool) (n : ℕ) (xs : List ℕ) (m : ℕ) → length xs ≡ m → length (cond b (n ∷ xs) xs) ≡ cond b 1 0 + m
one_more true n xs m e = omega arith
one_more false n xs m e = omega arith

length-numbers : (n p : ℕ) (h : List Entry) → length (sender_numbers n p h) ≡ total_calls p h
length-numbers n p [] = refl
length-numbers n p (e ∷ h) =
    one_more (is_sender p e.sender) n (sender_numbers (n + 1) p h) (total_calls p h) (length-numbers (n + 1) p h)
    ∙ sym (sum_by-cons (λ x. cond (is_sender p x.sender) 1 0) e h)

module _ (d : Deal) (a : ℕ) where
  among : (past : List Entry) (s : Sender) (w : What) (at : ℕ) (r : _) → IsLegalEntry d a past s w at r → has_right_sender (party d a) (counterparty d a) s w ≡ true
  among past (Party p) (Made c) at r l = l.of_the_two
  among past (Party p) (Tick k) at r l = absurd l
  among past Clock (Tick k) at r l = refl
  among past Clock (Made c) at r l = absurd l

  lock : (past : List Entry) (s : Sender) (w : What) (at : ℕ) (r : _) → IsWellSized d → IsLegalEntry d a past s w at r → names_lock w ≡ true
  lock past (Party p) (Made (Unlock key)) at r s l =
      let below = lock-below d a key l.fits in
      let few = s.leaders.1 in
      lt-ltb key.lock 8 (omega arith)
  lock past Clock (Made (Unlock key)) at r s l = absurd l
  lock past _ _ at r s l = refl

  pub indexable : (h : List Entry) → IsWellSized d → IsLegal d a h → IsIndexable (party d a) (counterparty d a) h
  indexable h s l =
      let b = bounds d a h l in
      record {
        countable = countable d a h l;
        senders = list_all-from (λ e. has_right_sender (party d a) (counterparty d a) e.sender e.what) h (λ e i.
            let m = moment_from_in h e i in
            among m.0 e.sender e.what e.height e.reply (at_moment (IsLegalMoment d a) h m.0 e l m.1));
        locks = list_all-from (λ e. names_lock e.what) h (λ e i.
            let m = moment_from_in h e i in
            lock m.0 e.sender e.what e.height e.reply s (at_moment (IsLegalMoment d a) h m.0 e l m.1));
        from_few = let k = length-numbers 0 (party d a) h in let f = b.by_party in omega arith;
        to_few = let k = length-numbers 0 (counterparty d a) h in let f = b.by_counterparty in omega arith;
      }

  -- each prefix of a legal history is one that an index takes
  pub front_indexable : (xs ys : List Entry) → IsWellSized d → IsLegal d a (xs ++ ys) → IsIndexable (party d a) (counterparty d a) xs
  front_indexable xs ys s l = indexable xs s (all_moments_front (IsLegalMoment d a) xs ys l)

  -- the entries of one up to place i
  pub next_indexable : (h : List Entry) (i : ℕ) (x : Entry) → IsWellSized d → IsLegal d a h → i < length h → x ≡ get_or h i x
      → IsIndexable (party d a) (counterparty d a) (take i h ++ x ∷ [])
  next_indexable h i x s l lt e =
      let front : take i h ++ x ∷ [] ≡ take (i + 1) h = ap (λ z. take i h ++ z ∷ []) e ∙ sym (take_more h i x lt) in
      subst (IsIndexable (party d a) (counterparty d a)) (sym front)
      (front_indexable (take (i + 1) h) (drop (i + 1) h) s (subst (IsLegal d a) (sym (take-append-drop (i + 1) h)) l))
