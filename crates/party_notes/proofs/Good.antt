-- Every hashkey that notes come to opens its lock on each arc that enters the party.
use Rattle.std.proofs.Common.{◌≡◌, ◌≢◌, ◌⊎◌, ℕ, zero, suc, ◌==◌, nat_lt, Bool, true, false, cond, not, ◌&&◌, ◌||◌, List, [], ◌∷◌, ◌++◌, filter, length, max, get_or, replicate, set}
use Rattle.std.proofs.Common.{Option, Some, None, is_none, Result, Ok, Err, refl, sym, ap, ◌∙◌, subst, inl, inr, ltb-true, ltb-false}
use Rattle.std.proofs.lemmas.Bool.{false≢true}
use Rattle.std.proofs.lemmas.List.{get_or-set_same, get_or-set_other, set_past}
use Rattle.std.proofs.lemmas.Option.{same_Some}
use Rattle.swap_base.specs.Lists.{IsElement}
use Rattle.swap_base.specs.Fault.{◌>>=◌}
use Rattle.swap_base.proofs.Lists.{and_parts}
use Rattle.swap_digraph.specs.declared.deal.Mode.{Mode}
use Rattle.swap_digraph.specs.declared.deal.Mode.TheVariants.{Timelocks, Hashkeys}
use Rattle.swap_digraph.specs.declared.deal.Deal.{Deal}
use Rattle.swap_digraph.specs.Graph.{is_path, first_is, last_is, entering, leaving, is_listed}
use Rattle.swap_digraph.specs.Deal.{counterparty, lock_leader, lock_hashlock}
use Rattle.hashkey_path.specs.declared.hashkey.Hashkey.{Hashkey}
use Rattle.hashkey_path.specs.declared.hashkey.HashkeyAnswer.{HashkeyAnswer}
use Rattle.hashkey_path.specs.declared.hashkey.HashkeyAnswer.TheVariants.{Valid, WrongSecret, WrongPath, WrongSignature}
use Rattle.hashkey_path.specs.Hashkey.{is_wrong_secret, is_wrong_path, is_wrong_signature, is_valid, hashkey_answer}
use Rattle.hashkey_path.proofs.Answered.{says_valid, valid_answer}
use Rattle.command_input.specs.declared.reason.Reason.TheVariants.{BadLine}
use Rattle.command_input.specs.declared.refusal.Refusal.{Refusal}
use Rattle.party_wallet.specs.Value.{signed_hashkey}
use Rattle.swap_rules.specs.Conduct.{is_first_key}
use Rattle.swap_rules.specs.Machine.{IsGoodKey}
use Rattle.swap_rules.proofs.Prefixes.{same_or_not}
use Rattle.swap_rules.proofs.Words.{enters, same_key-true}
use Rattle.party_rows.specs.Lines.{nameless, following_line_number}
use Rattle.party_notes.specs.declared.note.Note.{Note}
use Rattle.party_notes.specs.declared.note.Note.TheVariants.{Keep, Torn, Sent, Never, Seen}
use Rattle.party_notes.specs.Kept.{KeptState, is_valid_answer, opens_first, may_be_kept, no_notes_kept, with_key, with_note, with_notes, with_stop}
use Rattle.party_notes.specs.NoteStates.{AreGoodKeptKeys}

-- Validity on one arc that enters a party is validity on each.

same_path : (d : Deal) (a c : ℕ) (key : Hashkey) (m : Mode) → counterparty d a ≡ counterparty d c → is_wrong_path d a m key ≡ is_wrong_path d c m key
same_path d a c key Timelocks e = refl
same_path d a c key Hashkeys e =
    ap (λ p. not (is_path d.graph key.path && first_is p key.path && last_is (lock_leader d key.lock) key.path
    && (length key.path == length key.sigs))) e

same_valid : (d : Deal) (a c : ℕ) (hashlock : List ℕ) (key : Hashkey) → counterparty d a ≡ counterparty d c → is_valid d a hashlock key ≡ is_valid d c hashlock key
same_valid d a c hashlock key e =
    ap (λ b. not (is_wrong_secret hashlock key) && not b && not (is_wrong_signature d d.mode key)) (same_path d a c key d.mode e)

says : (o : HashkeyAnswer) → is_valid_answer o ≡ true → says_valid o ≡ true
says Valid e = refl
says WrongSecret e = absurd (false≢true e)
says WrongPath e = absurd (false≢true e)
says (WrongSignature j) e = absurd (false≢true e)

kept_by : {d : Deal} {v : ℕ} {k next : KeptState} → ◌≡◌ {A = Result KeptState Refusal} (Ok k) (Ok next) → AreGoodKeptKeys d v k.keys → AreGoodKeptKeys d v next.keys
kept_by {d} {v} {k} {next} e good = let same : k ≡ next = cc e in subst (λ z. AreGoodKeptKeys d v z.keys) same good

module _ (d : Deal) (v : ℕ) where
  opens_each : (arcs : List ℕ) (key : Hashkey) → ((a : ℕ) → IsElement a arcs → counterparty d a ≡ v) → opens_first d arcs key ≡ true → (c : ℕ) → IsElement c arcs
      → is_valid d c (lock_hashlock d key.lock) key ≡ true
  opens_each [] key of_v e c i = absurd i
  opens_each (a ∷ arcs) key of_v e c i =
      same_valid d c a (lock_hashlock d key.lock) key (of_v c i ∙ sym (of_v a (inl refl)))
      ∙ (valid_answer d a (lock_hashlock d key.lock) key ∙ says (hashkey_answer d a (lock_hashlock d key.lock) key) e)

  is_good : (key : Hashkey) → opens_first d (entering d.graph v) key ≡ true → IsGoodKey d v key.lock key
  is_good key e = record {
    lock = refl;
    valid = opens_each (entering d.graph v) key (λ a i. (enters d v a i).1) e;
  }

  -- what may be kept is good, where what was kept before is
  good_first : (before : Option Hashkey) (key : Hashkey) → ((z : Hashkey) → before ≡ Some z → IsGoodKey d v key.lock z) → (b : Bool) → is_first_key before key ≡ b
      → (b || (is_none before && opens_first d (entering d.graph v) key)) ≡ true → IsGoodKey d v key.lock key
  good_first None key good true q e = absurd (false≢true q)
  good_first (Some z) key good true q e = subst (λ y. IsGoodKey d v key.lock y) (same_key-true z key q) (good z refl)
  good_first before key good false q e = is_good key (and_parts (is_none before) (opens_first d (entering d.graph v) key) e).1

  keepable : (keys : List (Option Hashkey)) (key : Hashkey) → AreGoodKeptKeys d v keys → may_be_kept d v (signed_hashkey keys key.lock) key ≡ true
      → IsGoodKey d v key.lock key
  keepable keys key good e =
      good_first (signed_hashkey keys key.lock) key (λ z q. good key.lock z q) (is_first_key (signed_hashkey keys key.lock) key) refl e

  -- with one more hashkey
  set_good : (keys : List (Option Hashkey)) (key : Hashkey) → AreGoodKeptKeys d v keys → IsGoodKey d v key.lock key → AreGoodKeptKeys d v (set keys key.lock (Some key))
  set_good keys key good new i z e = go (same_or_not i key.lock) (nat_lt key.lock (length keys)) refl
    where
      go : (i ≡ key.lock) ⊎ (i ≢ key.lock) → (b : Bool) → nat_lt key.lock (length keys) ≡ b → IsGoodKey d v i z
      go (inr n) b q = good i z (sym (get_or-set_other keys key.lock i (Some key) None n) ∙ e)
      go (inl same) true q =
          let here : Some key ≡ Some z =
          sym (get_or-set_same keys key.lock (Some key) None (ltb-true key.lock (length keys) q)) ∙ (ap (signed_hashkey (set keys key.lock (Some key))) (sym same) ∙ e) in
          subst (λ j. IsGoodKey d v j z) (sym same) (subst (λ y. IsGoodKey d v key.lock y) (same_Some key z here) new)
      go (inl same) false q =
          good i z (ap (λ ks. signed_hashkey ks i) (sym (set_past keys key.lock (Some key) (ltb-false key.lock (length keys) q))) ∙ e)

  key_good : (k : KeptState) (key : Hashkey) (b : Bool) → AreGoodKeptKeys d v k.keys → may_be_kept d v (signed_hashkey k.keys key.lock) key ≡ b
      → AreGoodKeptKeys d v (KeptState.keys (cond b (record k { keys = set k.keys key.lock (Some key) }) (with_stop k key.lock)))
  key_good k key true good q = set_good k.keys key good (keepable k.keys key good q)
  key_good k key false good q = good

  after_keep : (n : ℕ) (k next : KeptState) (key : Hashkey) (b : Bool) → AreGoodKeptKeys d v k.keys
      → cond b (Ok (with_key d v k key)) (Err (nameless (BadLine n))) ≡ Ok next → AreGoodKeptKeys d v next.keys
  after_keep n k next key true good e = kept_by e (key_good k key (may_be_kept d v (signed_hashkey k.keys key.lock) key) good refl)
  after_keep n k next key false good e = absurd (cc e)

  after_torn : (n i : ℕ) (k next : KeptState) (b : Bool) → AreGoodKeptKeys d v k.keys → cond b (Ok (with_stop k i)) (Err (nameless (BadLine n))) ≡ Ok next
      → AreGoodKeptKeys d v next.keys
  after_torn n i k next true good e = kept_by e good
  after_torn n i k next false good e = absurd (cc e)

  after_sent : (n : ℕ) (k next : KeptState) (a : ℕ) (b : Bool) → AreGoodKeptKeys d v k.keys
      → cond b (Ok (record k { sent = k.sent ++ a ∷ [] })) (Err (nameless (BadLine n))) ≡ Ok next → AreGoodKeptKeys d v next.keys
  after_sent n k next a true good e = kept_by e good
  after_sent n k next a false good e = absurd (cc e)

  after_never : (n : ℕ) (k next : KeptState) (a : ℕ) (b : Bool) → AreGoodKeptKeys d v k.keys
      → cond b (Ok (record k { sent = filter (λ c. not (c == a)) k.sent })) (Err (nameless (BadLine n))) ≡ Ok next → AreGoodKeptKeys d v next.keys
  after_never n k next a true good e = kept_by e good
  after_never n k next a false good e = absurd (cc e)

  after_seen : (n : ℕ) (k next : KeptState) (seen : List ℕ) (b : Bool) → AreGoodKeptKeys d v k.keys
      → cond b (Ok (record k { seen = seen })) (Err (nameless (BadLine n))) ≡ Ok next → AreGoodKeptKeys d v next.keys
  after_seen n k next seen true good e = kept_by e good
  after_seen n k next seen false good e = absurd (cc e)

  with_good : (n : ℕ) (k next : KeptState) (x : Note) → AreGoodKeptKeys d v k.keys → with_note d v n k x ≡ Ok next → AreGoodKeptKeys d v next.keys
  with_good n k next (Keep key) good e = after_keep n k next key (nat_lt key.lock (length d.leaders)) good e
  with_good n k next (Torn i) good e = after_torn n i k next (nat_lt i (length d.leaders)) good e
  with_good n k next (Sent a) good e = after_sent n k next a (is_listed a (leaving d.graph v)) good e
  with_good n k next (Never a) good e = after_never n k next a (is_listed a (leaving d.graph v)) good e
  with_good n k next (Seen a height) good e =
      after_seen n k next (set k.seen a (max (get_or k.seen a 0) height)) (nat_lt a (length d.graph.arcs)) good e

  after_note : (n : ℕ) (k final : KeptState) (x : Note) (xs : List Note) (r : Result KeptState Refusal) → AreGoodKeptKeys d v k.keys → with_note d v n k x ≡ r
      → (r >>= λ next. with_notes d v (following_line_number n) next xs) ≡ Ok final
      → ((next : KeptState) → AreGoodKeptKeys d v next.keys → with_notes d v (following_line_number n) next xs ≡ Ok final → AreGoodKeptKeys d v final.keys) → AreGoodKeptKeys d v final.keys
  after_note n k final x xs (Ok next) good q e further = further next (with_good n k next x good q) e
  after_note n k final x xs (Err r) good q e further = absurd (cc e)

  all_good : (n : ℕ) (k final : KeptState) (xs : List Note) → AreGoodKeptKeys d v k.keys → with_notes d v n k xs ≡ Ok final → AreGoodKeptKeys d v final.keys
  all_good n k final [] good e = kept_by e good
  all_good n k final (x ∷ xs) good e =
      after_note n k final x xs (with_note d v n k x) good refl e (λ next better. all_good (following_line_number n) next final xs better)

none_there : (n i : ℕ) (key : Hashkey) → signed_hashkey (replicate n None) i ≡ Some key → ⊥
none_there zero i key e = cc e
none_there (suc n) zero key e = cc e
none_there (suc n) (suc i) key e = none_there n i key e

pub nothing_good : (d : Deal) (v : ℕ) (k : KeptState) → k ≡ no_notes_kept d → AreGoodKeptKeys d v k.keys
nothing_good d v k e i key q =
    absurd (none_there (length d.leaders) i key (ap (λ (z : KeptState). signed_hashkey z.keys i) (sym e) ∙ q))

pub notes_good : (d : Deal) (v n : ℕ) (k final : KeptState) (notes : List Note) → AreGoodKeptKeys d v k.keys → with_notes d v n k notes ≡ Ok final
    → AreGoodKeptKeys d v final.keys
notes_good d v n k final notes good e = all_good d v n k final notes good e
