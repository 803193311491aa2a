-- Which lines an answer has.
use Rattle.std.proofs.Common.{◌≡◌, ◌≢◌, ◌⊎◌, ℕ, ◌==◌, Bool, true, false, cond, List, [], ◌∷◌, ◌++◌, map, Option, Some, None, refl, sym, ap, ◌∙◌, subst, inl}
use Rattle.std.proofs.Common.{inr, eqb-true, codes}
use Rattle.std.specs.List.{flat_map}
use Rattle.std.proofs.lemmas.Bool.{false≢true}
use Rattle.swap_base.specs.Lists.{IsElement}
use Rattle.swap_base.proofs.Lists.{in_map}
use Rattle.swap_digraph.specs.declared.deal.Deal.{Deal}
use Rattle.hashkey_path.specs.declared.hashkey.Hashkey.{Hashkey}
use Rattle.ledger_core.specs.declared.entry.Call.{Call}
use Rattle.ledger_core.specs.declared.entry.Call.TheVariants.{Publish, Unlock, Claim, Refund, Transfer}
use Rattle.ledger_core.specs.Book.{Histories}
use Rattle.swap_rules.proofs.Words.{append_empty}
use Rattle.wallet_promise.specs.Life.{is_kept}
use Rattle.wallet_promise.specs.Answers.{is_asked}
use Rattle.party_answer.specs.declared.line.Part.TheVariants.{Keeps, Calls}
use Rattle.party_answer.specs.declared.timed.Timed.{Timed}
use Rattle.party_answer.specs.Lines.{Line, Present, KeepFirst, keep_line, kept_line, own_line, each_once, call_lines}
use Rattle.party_answer.specs.Text.{presented_call_text, keep_text, landing_text, line_text, lines_text, end_text, rest_text, wait_text}
use Rattle.answer_rules.specs.Finished.{are_finished}
use Rattle.swap_rules.specs.Rest.{rest_deadline}

pub from_map : {A B : Type 0} (f : A → B) (xs : List A) (y : B) → IsElement y (map f xs) → (x : A) × IsElement x xs × (f x ≡ y)
from_map f [] y i = absurd i
from_map f (x ∷ xs) y (inl e) = (x, inl refl, sym e)
from_map f (x ∷ xs) y (inr i) = let r = from_map f xs y i in (r.0, inr r.1, r.2)

-- ---- of one call

module _ (kept : ℕ → Option Hashkey) (t : Timed) where
  -- what the line of a call says of it
  pub data Parts : Line → Type 0 where
    ToPresent : is_kept kept t.call ≡ true → Parts (Present t)
    ToKeep : (key : Hashkey) → is_kept kept t.call ≡ false → t.call ≡ Unlock key → Parts (KeepFirst t key)

  by_call : (c : Call) → t.call ≡ c → is_kept kept c ≡ false → Parts (keep_line t c)
  by_call (Unlock key) e k = ToKeep key (ap (is_kept kept) e ∙ k) e
  by_call (Publish p) e k = absurd (false≢true (sym k))
  by_call Claim e k = absurd (false≢true (sym k))
  by_call Refund e k = absurd (false≢true (sym k))
  by_call (Transfer to units) e k = absurd (false≢true (sym k))

  by_kept : (b : Bool) → is_kept kept t.call ≡ b → Parts (kept_line b t)
  by_kept true k = ToPresent k
  by_kept false k = by_call t.call refl k

  pub parts : Parts (own_line kept t)
  parts = by_kept (is_kept kept t.call) refl

  pub presents : is_kept kept t.call ≡ true → own_line kept t ≡ Present t
  presents k = ap (λ (b : Bool). kept_line b t) k

  pub keeps : (key : Hashkey) → is_kept kept t.call ≡ false → t.call ≡ Unlock key → own_line kept t ≡ KeepFirst t key
  keeps key k c = ap (λ (b : Bool). kept_line b t) k ∙ ap (keep_line t) c

-- ---- of all

in_cond : (b : Bool) (y z : Line) (xs ys zs : List Line) → (IsElement y xs → IsElement y zs) → (IsElement y ys → IsElement y zs) → IsElement y (cond b xs (z ∷ ys)) → IsElement y (z ∷ zs)
in_cond true y z xs ys zs f g i = inr (f i)
in_cond false y z xs ys zs f g (inl e) = inl e
in_cond false y z xs ys zs f g (inr i) = inr (g i)

from_once : (asked : Option ℕ) (xs : List Line) (y : Line) → IsElement y (each_once asked xs) → IsElement y xs
from_once asked [] y i = i
from_once asked (Present t ∷ xs) y (inl e) = inl e
from_once asked (Present t ∷ xs) y (inr i) = inr (from_once asked xs y i)
from_once asked (KeepFirst t key ∷ xs) y i =
    in_cond (is_asked asked key.lock) y (KeepFirst t key) (each_once asked xs) (each_once (Some key.lock) xs) xs (from_once asked xs y)
    (from_once (Some key.lock) xs y) i

pub from_lines : (kept : ℕ → Option Hashkey) (ts : List Timed) (y : Line) → IsElement y (call_lines kept None ts)
    → (t : Timed) × IsElement t ts × (own_line kept t ≡ y)
from_lines kept ts y i = from_map (own_line kept) ts y (from_once None (map (own_line kept) ts) y i)

to_cond : (b : Bool) (y z : Line) (xs ys : List Line) → IsElement y xs → IsElement y ys → IsElement y (cond b xs (z ∷ ys))
to_cond true y z xs ys i j = i
to_cond false y z xs ys i j = inr j

present_once : (asked : Option ℕ) (xs : List Line) (t : Timed) → IsElement (Present t) xs → IsElement (Present t) (each_once asked xs)
present_once asked [] t i = i
present_once asked (Present u ∷ xs) t (inl e) = inl e
present_once asked (Present u ∷ xs) t (inr i) = inr (present_once asked xs t i)
present_once asked (KeepFirst u key ∷ xs) t (inl e) = absurd (cc e)
present_once asked (KeepFirst u key ∷ xs) t (inr i) =
    to_cond (is_asked asked key.lock) (Present t) (KeepFirst u key) (each_once asked xs) (each_once (Some key.lock) xs) (present_once asked xs t i)
    (present_once (Some key.lock) xs t i)

pub to_present : (kept : ℕ → Option Hashkey) (ts : List Timed) (t : Timed) → IsElement t ts → is_kept kept t.call ≡ true
    → IsElement (Present t) (call_lines kept None ts)
to_present kept ts t i k =
    present_once None (map (own_line kept) ts) t
    (subst (λ (y : Line). IsElement y (map (own_line kept) ts)) (presents kept t k) (in_map (own_line kept) ts t i))

-- a hashkey is asked for that is for the lock
abbrev pub AsksFor : ℕ → List Line → Type 0
AsksFor i xs = (t : Timed) × (key : Hashkey) × IsElement (KeepFirst t key) xs × (key.lock ≡ i)

after : (i : ℕ) (x : Line) (xs : List Line) → AsksFor i xs → AsksFor i (x ∷ xs)
after i x xs a = (a.0, a.1, inr a.2, a.3)

here_or_later : (head key : Hashkey) (ys : List Line) (b : Bool) → (head.lock == key.lock) ≡ b → ((head.lock == key.lock) ≡ false → AsksFor key.lock ys)
    → (head.lock ≡ key.lock) ⊎ AsksFor key.lock ys
here_or_later head key ys true t f = inl (eqb-true head.lock key.lock t)
here_or_later head key ys false t f = inr (f t)

further : (u : Timed) (head key : Hashkey) (b : Bool) (xs ys : List Line) → AsksFor key.lock xs → (head.lock ≡ key.lock) ⊎ AsksFor key.lock ys
    → AsksFor key.lock (cond b xs (KeepFirst u head ∷ ys))
further u head key true xs ys a o = a
further u head key false xs ys a (inl same) = (u, head, inl refl, same)
further u head key false xs ys a (inr b) = after key.lock (KeepFirst u head) ys b

keep_same : (t u : Timed) (k l : Hashkey) → KeepFirst t k ≡ KeepFirst u l → k ≡ l
keep_same t u k l e = cc e

asked_here : (u : Timed) (head key : Hashkey) (asked : Option ℕ) (xs ys : List Line) (b : Bool) → is_asked asked key.lock ≡ false → head.lock ≡ key.lock
    → is_asked asked head.lock ≡ b → AsksFor key.lock (cond b xs (KeepFirst u head ∷ ys))
asked_here u head key asked xs ys true none same t = absurd (false≢true (sym none ∙ (ap (is_asked asked) (sym same) ∙ t)))
asked_here u head key asked xs ys false none same t = (u, head, inl refl, same)

asks_once : (asked : Option ℕ) (xs : List Line) (t : Timed) (key : Hashkey) → is_asked asked key.lock ≡ false → IsElement (KeepFirst t key) xs
    → AsksFor key.lock (each_once asked xs)
asks_once asked [] t key none i = absurd i
asks_once asked (Present u ∷ xs) t key none (inl e) = absurd (cc e)
asks_once asked (Present u ∷ xs) t key none (inr i) = after key.lock (Present u) (each_once asked xs) (asks_once asked xs t key none i)
asks_once asked (KeepFirst u head ∷ xs) t key none (inl e) =
    asked_here u head key asked (each_once asked xs) (each_once (Some head.lock) xs) (is_asked asked head.lock) none
    (ap (λ (k : Hashkey). k.lock) (sym (keep_same t u key head e))) refl
asks_once asked (KeepFirst u head ∷ xs) t key none (inr i) =
    further u head key (is_asked asked head.lock) (each_once asked xs) (each_once (Some head.lock) xs) (asks_once asked xs t key none i)
    (here_or_later head key (each_once (Some head.lock) xs) (head.lock == key.lock) refl (λ f. asks_once (Some head.lock) xs t key f i))

pub to_keep : (kept : ℕ → Option Hashkey) (ts : List Timed) (t : Timed) (key : Hashkey) → IsElement t ts → is_kept kept t.call ≡ false
    → t.call ≡ Unlock key → AsksFor key.lock (call_lines kept None ts)
to_keep kept ts t key i k c =
    asks_once None (map (own_line kept) ts) t key refl
    (subst (λ (y : Line). IsElement y (map (own_line kept) ts)) (keeps kept t key k c) (in_map (own_line kept) ts t i))

-- ---- the text is never empty

some_call : (v : ℕ) (t : Timed) → presented_call_text v t ≢ []
unfolding presented_call_text
some_call v t e = cc e

some_key : (t : Timed) (key : Hashkey) → keep_text t key ≢ []
unfolding keep_text
some_key t key e = cc e

some_landing : (t : Timed) → landing_text t ≢ []
unfolding landing_text
some_landing t e = cc e

some_wait : (o : Option ℕ) → wait_text o ≢ []
some_wait None e = cc e
some_wait (Some n) e = cc e

some_rest : (s b : Bool) (o : Option ℕ) → cond s (wait_text None) (cond b (codes "done\n") (wait_text o)) ≢ []
some_rest true b o e = cc e
some_rest false true o e = cc e
some_rest false false o e = some_wait o e

-- the lines of one call at least
some_line : (v : ℕ) (y : Line) (ys : List Line) → lines_text v (y ∷ ys) ≢ []
some_line v (Present t) ys e =
    let calls = (append_empty (flat_map (line_text Keeps v) (Present t ∷ ys)) (flat_map (line_text Calls v) (Present t ∷ ys)) e).1 in
    some_call v t (append_empty (presented_call_text v t) (flat_map (line_text Calls v) ys) calls).0
some_line v (KeepFirst t key) ys e =
    let keeps = (append_empty (flat_map (line_text Keeps v) (KeepFirst t key ∷ ys)) (flat_map (line_text Calls v) (KeepFirst t key ∷ ys)) e).0 in
    some_key t key (append_empty (keep_text t key) (flat_map (line_text Keeps v) ys) keeps).0

one_line : (kept : ℕ → Option Hashkey) (v : ℕ) (t : Timed) (ts : List Timed) (y : Line) → own_line kept t ≡ y → lines_text v (call_lines kept None (t ∷ ts)) ≢ []
one_line kept v t ts (Present u) own e =
    some_line v (Present u) (each_once None (map (own_line kept) ts))
    (ap (λ (y : Line). lines_text v (each_once None (y ∷ map (own_line kept) ts))) (sym own) ∙ e)
one_line kept v t ts (KeepFirst u key) own e =
    some_line v (KeepFirst u key) (each_once (Some key.lock) (map (own_line kept) ts))
    (ap (λ (y : Line). lines_text v (each_once None (y ∷ map (own_line kept) ts))) (sym own) ∙ e)

pub never_empty : (s : Bool) (d : Deal) (k : Histories) (v : ℕ) (kept : ℕ → Option Hashkey) (ts us : List Timed)
    → lines_text v (call_lines kept None ts) ++ flat_map landing_text us ++ end_text s d k v ts us ≢ []
unfolding rest_text
never_empty s d k v kept [] [] e = some_rest s (are_finished d k v) (rest_deadline d v k) e
never_empty s d k v kept [] (u ∷ us) e =
    let landing = (append_empty (lines_text v []) _ (append_empty _ (end_text s d k v [] (u ∷ us)) e).0).1 in
    some_landing u (append_empty (landing_text u) (flat_map landing_text us) landing).0
never_empty s d k v kept (t ∷ ts) us e =
    one_line kept v t ts (own_line kept t) refl (append_empty (lines_text v (call_lines kept None (t ∷ ts))) _ (append_empty _ (end_text s d k v (t ∷ ts) us) e).0).0
