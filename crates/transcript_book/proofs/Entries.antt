-- The line of an entry has no other spelling.
use Rattle.std.proofs.Common.{◌≡◌, ℕ, ◌^◌, ◌<◌, List, [], ◌∷◌, ◌++◌, decimal, Ok, refl, sym, ap, ◌∙◌, subst}
use Rattle.std.specs.Prelude.{codes}
use Rattle.escrow_core.specs.declared.reply.Reply.TheVariants.{Accepted}
use Rattle.ledger_core.specs.declared.entry.Sender.TheVariants.{Party, Clock}
use Rattle.ledger_core.specs.declared.entry.What.TheVariants.{Call as Made, Tick}
use Rattle.hashkey_path.proofs.Validity.{bytes_eq-true}
use Rattle.transcript_book.specs.declared.said.Said.{Said}
use Rattle.transcript_book.specs.Between.{between, spaced, separated_parts}
use Rattle.transcript_book.specs.Words.{entry_words, call_words}
use Rattle.transcript_book.specs.Reading.{bounded_number, parse_first_field, parse_call, make_reply, equals, nothing_more, call_said, tick_said, words_said}
use Rattle.transcript_book.specs.Reading.{line_said}
use Rattle.transcript_book.specs.Spelling.{IsSpelling, OneSpelling}
use Rattle.transcript_book.proofs.Exact.{IsExact, went, ok_is, if_ok, below_is, parts_whole}
use Rattle.transcript_book.proofs.Fields.{field_is, byte_is, if_word, call_is, reply_is}

-- the words are those of what is said, after a first one
record IsSaidBy (locks : ℕ) (ws : List (List ℕ)) (s : Said) : Type 0 where
  words : ws ≡ entry_words s.sender s.what s.reply
  said : IsSpelling locks (spaced (entry_words s.sender s.what s.reply)) s

equals_is : IsExact equals (λ u. codes "=") (λ u. Unit {0})
equals_is w u e = let p = if_ok _ (Ok tt) u e in (bytes_eq-true w (codes "=") p.0, tt)

call_said_is : (locks : ℕ) (ws : List (List ℕ)) (s : Said) → call_said locks ws ≡ Ok s → IsSaidBy locks (codes "c" ∷ ws) s
unfolding call_said
call_said_is locks ws s e =
    let a = went (parse_first_field (bounded_number 256) ws) _ s e in
    let b = went (parse_call locks a.0.1) _ s a.2 in
    let d = went (parse_first_field equals b.0.1) _ s b.2 in
    let f = went (make_reply d.0.1) _ s d.2 in
    let t : Said = record { sender = Party a.0.0; what = Made b.0.0; reply = f.0 } in
    let same : t ≡ s = ok_is t s f.2 in
    let ka = byte_is ws a.0.0 a.0.1 a.1 in
    let kb = call_is locks a.0.1 b.0.0 b.0.1 b.1 in
    let kd = field_is equals (λ u. codes "=") (λ u. Unit {0}) equals_is b.0.1 d.0.0 d.0.1 d.1 in
    let kf = reply_is d.0.1 f.0 f.1 in
    subst (IsSaidBy locks (codes "c" ∷ ws)) same (record {
      words = ap (λ (l : List (List ℕ)). codes "c" ∷ l) (ka.0 ∙ ap (λ (l : List (List ℕ)). decimal a.0.0 ∷ l) (kb.words
          ∙ ap (λ (l : List (List ℕ)). call_words b.0.0 ++ l) (kd.0 ∙ ap (λ (l : List (List ℕ)). codes "=" ∷ l) kf.words)));
      said = record {
        line_is = refl;
        paired = kb.few;
        sender = ka.1;
        what = kb.typed;
        reply = kf.typed;
        stated = tt;
        sender_not_full = kf.sender_not_full;
        clock_not_full = kf.clock_not_full;
      };
    })

pub none_more : (ws : List (List ℕ)) (u : Unit {0}) → nothing_more ws ≡ Ok u → ws ≡ []
none_more [] u e = refl
none_more (w ∷ ws) u e = absurd (cc e)

tick_said_is : (locks : ℕ) (ws : List (List ℕ)) (s : Said) → tick_said ws ≡ Ok s → IsSaidBy locks (codes "t" ∷ ws) s
unfolding tick_said
tick_said_is locks ws s e =
    let a = went (parse_first_field (bounded_number (2 ^ 32)) ws) _ s e in
    let b = went (nothing_more a.0.1) _ s a.2 in
    let t : Said = record { sender = Clock; what = Tick a.0.0; reply = Accepted } in
    let same : t ≡ s = ok_is t s b.2 in
    let ka = field_is (bounded_number (2 ^ 32)) decimal (λ n. n < 2 ^ 32) (below_is (2 ^ 32)) ws a.0.0 a.0.1 a.1 in
    subst (IsSaidBy locks (codes "t" ∷ ws)) same (record {
      words = ap (λ (l : List (List ℕ)). codes "t" ∷ l) (ka.0 ∙ ap (λ (l : List (List ℕ)). decimal a.0.0 ∷ l) (none_more a.0.1 b.0 b.1));
      said = record {
        line_is = refl;
        paired = tt;
        sender = tt;
        what = ka.1;
        reply = tt;
        stated = refl;
        sender_not_full = λ q. absurd (cc q);
        clock_not_full = λ q. absurd (cc q);
      };
    })

led_by : (locks : ℕ) (w word : List ℕ) (ws : List (List ℕ)) (s : Said) → w ≡ word → IsSaidBy locks (word ∷ ws) s → IsSaidBy locks (w ∷ ws) s
led_by locks w word ws s is k = subst (λ (v : List ℕ). IsSaidBy locks (v ∷ ws) s) (sym is) k

words_said_is : (locks : ℕ) (ws : List (List ℕ)) (s : Said) → words_said locks ws ≡ Ok s → IsSaidBy locks ws s
unfolding words_said
words_said_is locks [] s e = absurd (cc e)
words_said_is locks (w ∷ ws) s e =
    let P = IsSaidBy locks (w ∷ ws) s in
    if_word P w (codes "t") _ _ s e (λ is k. led_by locks w (codes "t") ws s is (tick_said_is locks ws s k)) (λ e1.
    if_word P w (codes "c") _ _ s e1 (λ is k. led_by locks w (codes "c") ws s is (call_said_is locks ws s k)) (λ e2. absurd (cc e2)))

pub one_spelling : OneSpelling
unfolding line_said
one_spelling locks line s e =
    let k = words_said_is locks (separated_parts 32 line) s e in
    subst (λ (l : List ℕ). IsSpelling locks l s) (sym (ap (between 32) k.words) ∙ parts_whole 32 line) k.said
