-- The line of an entry says it.
use Rattle.std.proofs.Common.{◌≡◌, ◌⊎◌, ◌&&◌, ◌||◌, ◌==◌, ◌+◌, ◌<◌, ◌++◌, ℕ, Bool, true, false, not, cond, List, [], ◌∷◌, length, map, decimal, None, Some}
use Rattle.std.proofs.Common.{Option, Result, Ok, refl, sym, ap, ◌∙◌, subst, arith, eq-eqb, length-append}
use Rattle.std.specs.Prelude.{codes}
use Rattle.std.proofs.lemmas.Bool.{false≢true}
use Rattle.std.proofs.lemmas.List.{length-map}
use Rattle.swap_base.proofs.Lists.{and_parts, or_neither, same_list-true}
use Rattle.hex.specs.Hex.{encode_lower}
use Rattle.swap_digraph.specs.declared.deal.Deal.{Deal}
use Rattle.swap_digraph.specs.Deal.{party, IsWellSized}
use Rattle.hashkey_path.proofs.Validity.{bytes_eq-true}
use Rattle.escrow_core.specs.declared.terms.Terms.{Terms}
use Rattle.escrow_core.specs.declared.reply.Reply.{Reply}
use Rattle.escrow_core.specs.declared.reply.Reply.TheVariants.{Accepted}
use Rattle.escrow_core.specs.Terms.{same_terms, stated_terms}
use Rattle.ledger_core.specs.declared.entry.Call.{Call}
use Rattle.ledger_core.specs.declared.entry.Call.TheVariants.{Publish, Unlock, Claim, Refund, Transfer}
use Rattle.ledger_core.specs.declared.entry.Sender.{Sender}
use Rattle.ledger_core.specs.declared.entry.Sender.TheVariants.{Party, Clock}
use Rattle.ledger_core.specs.declared.entry.What.{What}
use Rattle.ledger_core.specs.declared.entry.What.TheVariants.{Call as Made, Tick}
use Rattle.ledger_core.specs.declared.entry.Entry.{Entry}
use Rattle.ledger_core.specs.History.{accepted_call, is_sender, made_call}
use Rattle.swap_rules.specs.Party.{pick_call}
use Rattle.swap_rules.specs.Rest.{is_ticking}
use Rattle.swap_rules.specs.Counted.{all_counted, counted}
use Rattle.swap_rules.proofs.Counted.{counted_is}
use Rattle.ledger_core.specs.Book.{history}
use Rattle.told_ledgers.specs.declared.told_ledger.ToldLedger.{ToldLedger}
use Rattle.told_ledgers.specs.Telling.{told_book}
use Rattle.wallet_promise.specs.WithoutNoise.{is_of_contract, is_told, AreUseless, SayEnough, SaysTheSame}
use Rattle.typed_books.specs.Typed.{IsTypedCall, IsTypedReply, IsTypedSender, IsTypedWhat}
use Rattle.transcript_book.specs.declared.said.Said.{Said}
use Rattle.transcript_book.specs.declared.said.Misspelling.{Misspelling}
use Rattle.transcript_book.specs.Between.{separated_parts, spaced}
use Rattle.transcript_book.specs.Lines.{entry_line}
use Rattle.transcript_book.specs.Reading.{is_word, line_said}
use Rattle.transcript_book.specs.Words.{call_words, entry_words}
use Rattle.transcript_book.proofs.Spelling.{call_line_back}
use Rattle.told_ledgers.specs.declared.kind.Kind.TheVariants.{Noise, Publish as PublishLine, Accepted as AcceptedLine}
use Rattle.told_ledgers.specs.Words.{ends_accepted, line_kind, nth_word}
use Rattle.told_ledgers.specs.Ledger.{is_correct_publish}
use Rattle.program_laws.specs.Enough.{all_funded, IsForeignLine, IsKindOfCall, call_kind, is_accepting, is_publish_call, is_transfer_call}
use Rattle.program_laws.specs.Written.{IsPossibleEntry, LinesAreHeard, WrittenIsSaid}
use Rattle.program_laws.proofs.ByWords.{call_parts, ends_words, other_kind}
use Rattle.program_laws.proofs.Enough.{all_paid, lines_say_enough, small_party}
use Rattle.program_laws.proofs.Funded.{funded_is}

-- ---- noise

accepted_here : (r : Reply) → is_accepting r ≡ true → r ≡ Accepted
accepted_here Accepted e = refl
accepted_here _ e = absurd (cc e)

idle_noise : (c : Call) (r : Reply) (x : Bool) → is_accepting r ≡ x → is_of_contract (accepted_call (Made c) r) ≡ false
    → cond (not x || is_transfer_call c) Noise (cond (is_publish_call c) PublishLine AcceptedLine) ≡ Noise
idle_noise c r false q k = refl
idle_noise (Transfer to units) r true q k = refl
idle_noise (Publish t) r true q k = absurd (cc (sym (ap (λ x. is_of_contract (accepted_call (Made (Publish t)) x)) (accepted_here r q)) ∙ k))
idle_noise (Unlock key) r true q k = absurd (cc (sym (ap (λ x. is_of_contract (accepted_call (Made (Unlock key)) x)) (accepted_here r q)) ∙ k))
idle_noise Claim r true q k = absurd (cc (sym (ap (λ x. is_of_contract (accepted_call (Made Claim) x)) (accepted_here r q)) ∙ k))
idle_noise Refund r true q k = absurd (cc (sym (ap (λ x. is_of_contract (accepted_call (Made Refund) x)) (accepted_here r q)) ∙ k))

module _ (v : ℕ) (small : v < 256) where
  -- the kind of somebody else's call
  kind_here : (e : Entry) (p : ℕ) (c : Call) → e.sender ≡ Party p → e.what ≡ Made c → p < 256 → IsTypedCall c → IsTypedReply e.reply → (p == v) ≡ false
      → line_kind v (separated_parts 32 (entry_line e)) ≡ call_kind c e.reply
  kind_here e p c es ew lp kc kr other =
      ap (λ (s : Sender). line_kind v (separated_parts 32 (spaced (entry_words s e.what e.reply)))) es
      ∙ ap (λ (w : What). line_kind v (separated_parts 32 (spaced (entry_words (Party p) w e.reply)))) ew
      ∙ ap (line_kind v) (call_parts p c e.reply lp kc kr) ∙ other_kind v p c e.reply lp small (λ q. false≢true (sym other ∙ eq-eqb p v q))

  noise_by : (e : Entry) (s : Sender) (w : What) → e.sender ≡ s → e.what ≡ w → IsPossibleEntry s w → IsTypedSender s → IsTypedWhat w → IsTypedReply e.reply
      → is_told v e ≡ false → line_kind v (separated_parts 32 (entry_line e)) ≡ Noise
  noise_by e (Party p) (Made c) es ew m ts tw tr t =
      let parts = or_neither (is_ticking e.what || is_sender v e.sender) (is_of_contract (accepted_call e.what e.reply)) t in
      let both = or_neither (is_ticking e.what) (is_sender v e.sender) parts.0 in
      let other : (p == v) ≡ false = sym (ap (is_sender v) es) ∙ both.1 in
      let idle : is_of_contract (accepted_call (Made c) e.reply) ≡ false =
      sym (ap (λ (w : What). is_of_contract (accepted_call w e.reply)) ew) ∙ parts.1 in
      kind_here e p c es ew ts tw tr other ∙ idle_noise c e.reply (is_accepting e.reply) refl idle
  noise_by e Clock (Tick k) es ew m ts tw tr t =
      absurd (false≢true (sym t ∙ ap (λ (w : What). is_ticking w || is_sender v e.sender || is_of_contract (accepted_call e.what e.reply)) ew))
  noise_by e (Party p) (Tick k) es ew m ts tw tr t = absurd m
  noise_by e Clock (Made c) es ew m ts tw tr t = absurd m

-- ---- the line of no publish of the correct terms

abbrev said_of : Sender → What → Reply → Said
said_of s w r = record { sender = s; what = w; reply = r }

publish_word : (p q : ℕ) (c : Call) (r s : Reply) (t : Terms) → entry_words (Party p) (Made c) r ≡ entry_words (Party q) (Made (Publish t)) s
    → (u : Terms) × (c ≡ Publish u)
publish_word p q (Publish u) r s t e = (u, refl)
publish_word p q (Unlock key) r s t e = absurd (false≢true (ap (λ (ws : List (List ℕ)). is_word (nth_word 2 ws) (codes "publish")) e))
publish_word p q Claim r s t e = absurd (false≢true (ap (λ (ws : List (List ℕ)). is_word (nth_word 2 ws) (codes "publish")) e))
publish_word p q Refund r s t e = absurd (false≢true (ap (λ (ws : List (List ℕ)). is_word (nth_word 2 ws) (codes "publish")) e))
publish_word p q (Transfer to units) r s t e = absurd (false≢true (ap (λ (ws : List (List ℕ)). is_word (nth_word 2 ws) (codes "publish")) e))

-- both are accepted, and state as many locks
same_reply_too : (p q : ℕ) (c b : Call) (r s : Reply) → entry_words (Party p) (Made c) r ≡ entry_words (Party q) (Made b) s → is_accepting r ≡ is_accepting s
same_reply_too p q c b r s e =
    sym (ends_words (codes "c" ∷ decimal p ∷ call_words c) r) ∙ ap ends_accepted e ∙ ends_words (codes "c" ∷ decimal q ∷ call_words b) s

words_long : (p : ℕ) (t : Terms) → length (entry_words (Party p) (Made (Publish t)) Accepted) ≡ 10 + length t.locks
words_long p t =
    let long : length (map encode_lower t.locks ++ codes "=" ∷ codes "accepted" ∷ []) ≡ length (map encode_lower t.locks) + 2 =
    length-append (map encode_lower t.locks) (codes "=" ∷ codes "accepted" ∷ []) in
    let locks : length (map encode_lower t.locks) ≡ length t.locks = length-map t.locks encode_lower in
    omega arith

same_locks : (p q : ℕ) (u t : Terms) → entry_words (Party p) (Made (Publish u)) Accepted ≡ entry_words (Party q) (Made (Publish t)) Accepted
    → length u.locks ≡ length t.locks
same_locks p q u t e =
    let one = words_long p u in
    let other = words_long q t in
    let same = ap (length {A = List ℕ}) e in
    omega arith

-- a line says one thing
ok_is : (x y : Said) → ◌≡◌ {A = Result Said Misspelling} (Ok x) (Ok y) → x ≡ y
ok_is x y e = cc

said_once : (locks p q : ℕ) (u t : Terms) → p < 256 → q < 256 → IsTypedCall (Publish u) → IsTypedCall (Publish t) → length u.locks ≡ locks
    → length t.locks ≡ locks → spaced (entry_words (Party p) (Made (Publish u)) Accepted) ≡ spaced (entry_words (Party q) (Made (Publish t)) Accepted)
    → said_of (Party p) (Made (Publish u)) Accepted ≡ said_of (Party q) (Made (Publish t)) Accepted
said_once locks p q u t lp lq ku kt nu nt e =
    ok_is (said_of (Party p) (Made (Publish u)) Accepted) (said_of (Party q) (Made (Publish t)) Accepted)
    (sym (call_line_back locks p (Publish u) Accepted nu (record {
      sender = lp;
      what = ku;
      reply = tt;
      sender_not_full = λ z. absurd (cc z);
      clock_not_full = λ z. absurd (cc z);
    })) ∙ ap (line_said locks) e ∙ call_line_back locks q (Publish t) Accepted nt (record {
      sender = lq;
      what = kt;
      reply = tt;
      sender_not_full = λ z. absurd (cc z);
      clock_not_full = λ z. absurd (cc z);
    }))

and_no : (x : Bool) → (x && false) ≡ false
and_no true = refl
and_no false = refl

module _ (d : Deal) (a : ℕ) (sized : IsWellSized d) where
  many_locks : (t : Terms) → same_terms t (stated_terms d a) ≡ true → length t.locks ≡ length d.leaders
  many_locks t e =
      let u = stated_terms d a in
      let five = (and_parts _ (t.amount == u.amount) e).0 in
      let four = (and_parts _ (t.timelock == u.timelock) five).0 in
      let three = (and_parts _ (t.bound == u.bound) four).0 in
      let two = (and_parts _ (t.delta == u.delta) three).0 in
      let one = (and_parts _ (t.start == u.start) two).0 in
      ap (length {A = List ℕ}) (same_list-true _ bytes_eq-true t.locks d.hashlocks one) ∙ sized.hashlocks

  -- the line of an accepted call is that of a correct publish only where it is one
  wrong_by : (e x : Entry) (p : ℕ) (c : Call) (s : Sender) (w : What) → e.sender ≡ Party p → e.what ≡ Made c → e.reply ≡ Accepted → p < 256 → IsTypedCall c
      → x.sender ≡ s → x.what ≡ w → IsTypedSender s → IsTypedWhat w → IsTypedReply x.reply → entry_line e ≡ entry_line x
      → is_correct_publish d a (Party p) (Made c) ≡ false → (t : Bool) → is_correct_publish d a s w ≡ t → is_correct_publish d a s w ≡ false
  wrong_by e x p c s w es ew er lp kc xs xw ts tw tr same nay false q = q
  wrong_by e x p c (Party y) (Made (Publish t)) es ew er lp kc xs xw ts tw tr same nay true q =
      let both = and_parts (y == party d a) (same_terms t (stated_terms d a)) q in
      let mine : entry_line e ≡ spaced (entry_words (Party p) (Made c) Accepted) =
      ap (λ (z : Sender). spaced (entry_words z e.what e.reply)) es ∙ ap (λ (z : What). spaced (entry_words (Party p) z e.reply)) ew
      ∙ ap (λ (z : Reply). spaced (entry_words (Party p) (Made c) z)) er in
      let theirs : entry_line x ≡ spaced (entry_words (Party y) (Made (Publish t)) x.reply) =
      ap (λ (z : Sender). spaced (entry_words z x.what x.reply)) xs ∙ ap (λ (z : What). spaced (entry_words (Party y) z x.reply)) xw in
      let lines = sym mine ∙ same ∙ theirs in
      let words = sym (call_parts p c Accepted lp kc tt) ∙ ap (separated_parts 32) lines ∙ call_parts y (Publish t) x.reply ts tw tr in
      let taken : x.reply ≡ Accepted = accepted_here x.reply (sym (same_reply_too p y c (Publish t) Accepted x.reply words)) in
      let publish = publish_word p y c Accepted x.reply t words in
      let lines_too : spaced (entry_words (Party p) (Made (Publish publish.0)) Accepted) ≡ spaced (entry_words (Party y) (Made (Publish t)) Accepted) =
      sym (ap (λ (z : Call). spaced (entry_words (Party p) (Made z) Accepted)) publish.1) ∙ lines
      ∙ ap (λ (z : Reply). spaced (entry_words (Party y) (Made (Publish t)) z)) taken in
      let words_too : entry_words (Party p) (Made (Publish publish.0)) Accepted ≡ entry_words (Party y) (Made (Publish t)) Accepted =
      sym (ap (λ (z : Call). entry_words (Party p) (Made z) Accepted) publish.1) ∙ words
      ∙ ap (λ (z : Reply). entry_words (Party y) (Made (Publish t)) z) taken in
      let locks = many_locks t both.1 in
      let said = said_once (length d.leaders) p y publish.0 t lp ts (subst IsTypedCall publish.1 kc) tw (same_locks p y publish.0 t words_too ∙ locks) locks
      lines_too in
      absurd (false≢true (sym nay ∙ ap (λ (z : Call). is_correct_publish d a (Party p) (Made z)) publish.1
      ∙ ap (λ (z : Said). is_correct_publish d a z.sender z.what) said ∙ q))
  wrong_by e x p c (Party y) (Made (Unlock key)) es ew er lp kc xs xw ts tw tr same nay true q = absurd (false≢true (sym (and_no (y == party d a)) ∙ q))
  wrong_by e x p c (Party y) (Made Claim) es ew er lp kc xs xw ts tw tr same nay true q = absurd (false≢true (sym (and_no (y == party d a)) ∙ q))
  wrong_by e x p c (Party y) (Made Refund) es ew er lp kc xs xw ts tw tr same nay true q = absurd (false≢true (sym (and_no (y == party d a)) ∙ q))
  wrong_by e x p c (Party y) (Made (Transfer to units)) es ew er lp kc xs xw ts tw tr same nay true q =
      absurd (false≢true (sym (and_no (y == party d a)) ∙ q))
  wrong_by e x p c (Party y) (Tick k) es ew er lp kc xs xw ts tw tr same nay true q = absurd (false≢true q)
  wrong_by e x p c Clock (Made z) es ew er lp kc xs xw ts tw tr same nay true q = absurd (false≢true q)
  wrong_by e x p c Clock (Tick k) es ew er lp kc xs xw ts tw tr same nay true q = absurd (false≢true q)

  foreign_by : (v : ℕ) → v < 256 → (e : Entry) (p : ℕ) (c : Call) → e.sender ≡ Party p → e.what ≡ Made c → p < 256 → IsTypedCall c
      → IsTypedReply e.reply → (p == v) ≡ false → IsForeignLine d v a e (entry_line e)
  foreign_by v small e p c es ew lp kc kr other = record {
    kind = subst (λ (w : What). IsKindOfCall v w e.reply (entry_line e)) (sym ew) (kind_here v small e p c es ew lp kc kr other);
    wrong = λ t n x k same. wrong_by e x p c x.sender x.what es ew (accepted_here e.reply t) lp kc refl refl k.sender k.what k.reply same
        (sym (ap (λ (s : Sender). is_correct_publish d a s e.what) es ∙ ap (is_correct_publish d a (Party p)) ew) ∙ n)
        (is_correct_publish d a x.sender x.what) refl;
  }

  useless_by : (v : ℕ) → v < 256 → (e : Entry) (s : Sender) (w : What) → e.sender ≡ s → e.what ≡ w → IsPossibleEntry s w → IsTypedSender s → IsTypedWhat w
      → IsTypedReply e.reply → pick_call v e ≡ None → is_ticking e.what ≡ false → IsForeignLine d v a e (entry_line e)
  useless_by v small e (Party p) (Made c) es ew m ts tw tr none t =
      foreign_by v small e p c es ew ts tw tr (other (p == v) refl
      (sym (ap (λ (s : Sender). cond (is_sender v s) (made_call e.what) None) es ∙ ap (λ (w : What). cond (p == v) (made_call w) None) ew) ∙ none))
    where
      other : (b : Bool) → (p == v) ≡ b → cond (p == v) (Some c) None ≡ None → (p == v) ≡ false
      other false q k = q
      other true q k = absurd (cc (sym (ap (λ z. cond {A = Option Call} z (Some c) None) q) ∙ k))
  useless_by v small e Clock (Tick k) es ew m ts tw tr none t = absurd (false≢true (sym t ∙ ap (λ (w : What). is_ticking w) ew))
  useless_by v small e (Party p) (Tick k) es ew m ts tw tr none t = absurd m
  useless_by v small e Clock (Made c) es ew m ts tw tr none t = absurd m

pub written_is_said : WrittenIsSaid
written_is_said d v a e sized lt w =
    let small = small_party d v sized lt in
    let t = w.typed in (
      (λ told. refl, noise_by v small e e.sender e.what refl refl w.made t.sender t.what t.reply),
      λ none. (λ tick. refl, useless_by d a sized v small e e.sender e.what refl refl w.made t.sender t.what t.reply none),
    )

pub lines_are_heard : LinesAreHeard
lines_are_heard d v first b k lines kept sized lt told paid begins handed =
    let x = lines_say_enough d v first k lines sized lt told in (x.0, x.1, record { says = all_said x.0 x.2.enough; begins = begins; handed = handed })
  where
    same : (a : ℕ) → history (all_counted v (all_funded v k)) a ≡ history (all_counted v k) a
    same a =
        counted_is v (all_funded v k) a ∙ ap (counted v) (funded_is v k a ∙ all_paid v (history k a) (paid a)) ∙ sym (counted_is v k a)

    all_said : (ts : List ToldLedger) → SayEnough d v (all_counted v (told_book ts)) (all_counted v (all_funded v k))
        → SayEnough d v (all_counted v (told_book ts)) (all_counted v k)
    all_said ts enough a =
        subst (λ h. SaysTheSame v (history (all_counted v (told_book ts)) a) h ⊎ AreUseless d v a (history (all_counted v (told_book ts)) a) h) (same a)
        (enough a)
