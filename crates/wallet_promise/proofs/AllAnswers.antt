-- What all answers to an asking are.
use Rattle.std.proofs.Common.{◌≡◌, ◌⊎◌, ℕ, ◌==◌, ◌&&◌, not, Bool, true, false, cond, List, [], ◌∷◌, map, Option, Some, None, refl, sym, ap}
use Rattle.std.proofs.Common.{◌∙◌, subst, inl, inr, eqb-true}
use Rattle.std.proofs.lemmas.Bool.{false≢true, not-true}
use Rattle.swap_base.specs.Lists.{IsElement}
use Rattle.swap_base.proofs.Lists.{in_filter, from_filter, in_map}
use Rattle.swap_digraph.specs.declared.deal.Deal.{Deal}
use Rattle.hashkey_path.specs.declared.hashkey.Hashkey.{Hashkey}
use Rattle.ledger_core.specs.declared.entry.Call.{Call}
use Rattle.ledger_core.specs.declared.entry.Call.TheVariants.{Publish, Unlock, Claim, Refund, Transfer}
use Rattle.swap_rules.specs.Conduct.{is_publish}
use Rattle.swap_rules.specs.Due.{Wallet, Action, first}
use Rattle.swap_rules.specs.Counted.{all_counted}
use Rattle.swap_rules.specs.Useful.{useful, IsHarmful}
use Rattle.swap_rules.proofs.Cases.{first_in}
use Rattle.swap_rules.proofs.Useful.{useful_is_due, only_harm_is_left_out}
use Rattle.wallet_promise.specs.Life.{Asking, Answer, Rest, Make, Keep, is_kept, kept_note, make_if, action_answer}
use Rattle.wallet_promise.specs.Answers.{was_sent, is_asked, once, unsent, action_answers}
use Rattle.wallet_promise.specs.Answers.{answers, MayGo, MayKeep, AnswersMayGo, AnswersMayBeKept}
use Rattle.wallet_promise.specs.Answers.{AllMayGo, AllMayBeKept, NoneIsSentTwice, NothingIsLeftOut, EachKeyIsAsked, AllIsUseful, RestIsNothing}
use Rattle.wallet_promise.proofs.Keys.{made_of, kept_state, keep_first}

-- Lists.

from_map : {A B : Type 0} (f : A → B) (xs : List A) (y : B) → IsElement y (map f xs) → (x : A) × IsElement x xs × (f x ≡ y)
from_map f [] y i = absurd i
from_map f (x ∷ xs) y (inl e) = (x, inl refl, sym e)
from_map f (x ∷ xs) y (inr i) = let r = from_map f xs y i in (r.0, inr r.1, r.2)

-- what is asked for once was asked for
in_cond : (b : Bool) (y z : Answer) (xs ys zs : List Answer) → (IsElement y xs → IsElement y zs) → (IsElement y ys → IsElement y zs) → IsElement y (cond b xs (z ∷ ys))
    → IsElement y (z ∷ zs)
in_cond true y z xs ys zs f g i = inr (f i)
in_cond false y z xs ys zs f g (inl e) = inl e
in_cond false y z xs ys zs f g (inr i) = inr (g i)

from_once : (asked : Option ℕ) (xs : List Answer) (y : Answer) → IsElement y (once asked xs) → IsElement y xs
from_once asked [] y i = i
from_once asked (Rest ∷ xs) y i = inr (from_once asked xs y i)
from_once asked (Make x ∷ xs) y (inl e) = inl e
from_once asked (Make x ∷ xs) y (inr i) = inr (from_once asked xs y i)
from_once asked (Keep key ∷ xs) y i =
    in_cond (is_asked asked key.lock) y (Keep key) (once asked xs) (once (Some key.lock) xs) xs (from_once asked xs y) (from_once (Some key.lock) xs y) i

-- every call stays
to_cond : (b : Bool) (y z : Answer) (xs ys : List Answer) → IsElement y xs → IsElement y ys → IsElement y (cond b xs (z ∷ ys))
to_cond true y z xs ys i j = i
to_cond false y z xs ys i j = inr j

make_once : (asked : Option ℕ) (xs : List Answer) (x : Action) → IsElement (Make x) xs → IsElement (Make x) (once asked xs)
make_once asked [] x i = i
make_once asked (Rest ∷ xs) x (inl e) = absurd (cc e)
make_once asked (Rest ∷ xs) x (inr i) = make_once asked xs x i
make_once asked (Make y ∷ xs) x (inl e) = inl e
make_once asked (Make y ∷ xs) x (inr i) = inr (make_once asked xs x i)
make_once asked (Keep key ∷ xs) x (inl e) = absurd (cc e)
make_once asked (Keep key ∷ xs) x (inr i) =
    to_cond (is_asked asked key.lock) (Make x) (Keep key) (once asked xs) (once (Some key.lock) xs) (make_once asked xs x i)
    (make_once (Some key.lock) xs x i)

-- A hashkey is asked for that is for the lock.
abbrev AsksFor : ℕ → List Answer → Type 0
AsksFor i xs = (k : Hashkey) × IsElement (Keep k) xs × (k.lock ≡ i)

after : (i : ℕ) (x : Answer) (xs : List Answer) → AsksFor i xs → AsksFor i (x ∷ xs)
after i x xs a = (a.0, inr a.1, a.2)

keep_same : (k l : Hashkey) → ◌≡◌ {A = Answer} (Keep k) (Keep l) → k ≡ l
keep_same k l e = cc e

here_or_later : (head key : Hashkey) (ys : List Answer) (b : Bool) → (head.lock == key.lock) ≡ b
    → ((head.lock == key.lock) ≡ false → AsksFor key.lock ys) → (head.lock ≡ key.lock) ⊎ AsksFor key.lock ys
here_or_later head key ys true t f = inl (eqb-true head.lock key.lock t)
here_or_later head key ys false t f = inr (f t)

further : (head key : Hashkey) (b : Bool) (xs ys : List Answer) → AsksFor key.lock xs → (head.lock ≡ key.lock) ⊎ AsksFor key.lock ys
    → AsksFor key.lock (cond b xs (Keep head ∷ ys))
further head key true xs ys a o = a
further head key false xs ys a (inl same) = (head, inl refl, same)
further head key false xs ys a (inr b) = after key.lock (Keep head) ys b

asks_once : (asked : Option ℕ) (xs : List Answer) (key : Hashkey) → is_asked asked key.lock ≡ false → IsElement (Keep key) xs → AsksFor key.lock (once asked xs)
asks_once asked [] key none i = absurd i
asks_once asked (Rest ∷ xs) key none (inl e) = absurd (cc e)
asks_once asked (Rest ∷ xs) key none (inr i) = asks_once asked xs key none i
asks_once asked (Make x ∷ xs) key none (inl e) = absurd (cc e)
asks_once asked (Make x ∷ xs) key none (inr i) = after key.lock (Make x) (once asked xs) (asks_once asked xs key none i)
asks_once asked (Keep head ∷ xs) key none (inl e) = first_of (is_asked asked head.lock) refl
  where
    same : head.lock ≡ key.lock
    same = ap (λ (k : Hashkey). k.lock) (sym (keep_same key head e))

    first_of : (b : Bool) → is_asked asked head.lock ≡ b → AsksFor key.lock (cond b (once asked xs) (Keep head ∷ once (Some head.lock) xs))
    first_of true t = absurd (false≢true (sym none ∙ (ap (is_asked asked) (sym same) ∙ t)))
    first_of false t = (head, inl refl, same)
asks_once asked (Keep head ∷ xs) key none (inr i) =
    further head key (is_asked asked head.lock) (once asked xs) (once (Some head.lock) xs) (asks_once asked xs key none i)
    (here_or_later head key (once (Some head.lock) xs) (head.lock == key.lock) refl (λ f. asks_once (Some head.lock) xs key f i))

-- The laws.

-- what is answered for each call by itself
abbrev each : (ℕ → Option Hashkey) → (ℕ → Bool) → List Action → List Answer
each kept sent xs = map (λ x. action_answer kept (Some x)) (unsent sent xs)

from_answers : (d : Deal) (v : ℕ) (at : ℕ → ℕ) (w : Wallet) (q : Asking) (sent : ℕ → Bool) (y : Answer) → IsElement y (answers d v at w q sent)
    → (x : Action) × IsElement x (useful d v at w q.kept (all_counted v q.known)) × (was_sent sent x ≡ false) × (action_answer q.kept (Some x) ≡ y)
from_answers d v at w q sent y i =
    let xs = useful d v at w q.kept (all_counted v q.known) in
    let m = from_map (λ x. action_answer q.kept (Some x)) (unsent sent xs) y (from_once None (each q.kept sent xs) y i) in
    let f = from_filter (λ x. not (was_sent sent x)) m.0 xs m.1 in
    (m.0, f.0, not-true (was_sent sent m.0) f.1, m.2)

some_same : (x y : Action) → Some x ≡ Some y → x ≡ y
some_same x y e = cc e

pub all_may_go : AllMayGo
all_may_go d v at w q sent x i =
    let f = from_answers d v at w q sent (Make x) i in
    let m = made_of q.kept (Some f.0) x f.3 in
    record { is_due = useful_is_due d v at w q.kept (all_counted v q.known) x (subst (λ y. IsElement y (useful d v at w q.kept (all_counted v q.known))) (some_same f.0 x m.0) f.1); was_kept = m.1 }

pub all_is_useful : AllIsUseful
all_is_useful d v at w q sent x i =
    let f = from_answers d v at w q sent (Make x) i in
    subst (λ y. IsElement y (useful d v at w q.kept (all_counted v q.known))) (some_same f.0 x (made_of q.kept (Some f.0) x f.3).0) f.1

pub all_may_be_kept : AllMayBeKept
all_may_be_kept d v at w q sent key i =
    let f = from_answers d v at w q sent (Keep key) i in
    record { unlock = f.0; is_due = useful_is_due d v at w q.kept (all_counted v q.known) f.0 f.1; asks = f.3 }

pub none_is_sent_twice : NoneIsSentTwice
none_is_sent_twice d v at w q sent x i =
    let f = from_answers d v at w q sent (Make x) i in
    subst (λ y. was_sent sent y ≡ false) (some_same f.0 x (made_of q.kept (Some f.0) x f.3).0) f.2

to_each : (kept : ℕ → Option Hashkey) (sent : ℕ → Bool) (xs : List Action) (x : Action) (y : Answer) → IsElement x xs → was_sent sent x ≡ false
    → action_answer kept (Some x) ≡ y → IsElement y (each kept sent xs)
to_each kept sent xs x y i s e =
    let f = in_filter (λ z. not (was_sent sent z)) x xs i (ap not s) in
    subst (λ z. IsElement z (each kept sent xs)) e (in_map (λ z. action_answer kept (Some z)) (unsent sent xs) x f)

pub nothing_is_left_out : NothingIsLeftOut
nothing_is_left_out d v at w q sent x may s = go (only_harm_is_left_out d v at w q.kept (all_counted v q.known) x may.is_due)
  where
    go : IsElement x (useful d v at w q.kept (all_counted v q.known)) ⊎ IsHarmful d v at w q.kept (all_counted v q.known) x
        → IsElement (Make x) (answers d v at w q sent) ⊎ IsHarmful d v at w q.kept (all_counted v q.known) x
    go (inl i) =
        let xs = useful d v at w q.kept (all_counted v q.known) in
        inl (make_once None (each q.kept sent xs) x (to_each q.kept sent xs x (Make x) i s (ap (λ b. make_if b x) (MayGo.was_kept may))))
    go (inr harm) = inr harm

pub each_key_is_asked : EachKeyIsAsked
each_key_is_asked d v at w q sent key may = go (only_harm_is_left_out d v at w q.kept (all_counted v q.known) may.unlock may.is_due)
  where
    go : IsElement (MayKeep.unlock may) (useful d v at w q.kept (all_counted v q.known)) ⊎ IsHarmful d v at w q.kept (all_counted v q.known) (MayKeep.unlock may)
        → AsksFor key.lock (answers d v at w q sent) ⊎ IsHarmful d v at w q.kept (all_counted v q.known) (MayKeep.unlock may)
    go (inl i) =
        let xs = useful d v at w q.kept (all_counted v q.known) in
        let unlock = (kept_state q.kept (MayKeep.unlock may) key (MayKeep.asks may)).0 in
        let s : was_sent sent (MayKeep.unlock may) ≡ false =
        ap (λ (c : Call). is_publish (Some c) && sent (Action.arc (MayKeep.unlock may))) unlock in
        inl (asks_once None (each q.kept sent xs) key refl (to_each q.kept sent xs (MayKeep.unlock may) (Keep key) i s (MayKeep.asks may)))
    go (inr harm) = inr harm

never_rest : (kept : ℕ → Option Hashkey) (c : Call) (x : Action) (b : Bool) → x.call ≡ c → is_kept kept c ≡ b → make_if b x ≡ Rest → ⊥
never_rest kept c x true call e r = cc r
never_rest kept (Unlock key) x false call e r = absurd (cc (sym (ap kept_note call) ∙ r))
never_rest kept (Publish t) x false call e r = false≢true (sym e)
never_rest kept Claim x false call e r = false≢true (sym e)
never_rest kept Refund x false call e r = false≢true (sym e)
never_rest kept (Transfer to units) x false call e r = false≢true (sym e)

only_nothing : (kept : ℕ → Option Hashkey) (xs : List Action) → action_answer kept (first xs) ≡ Rest → xs ≡ []
only_nothing kept [] e = refl
only_nothing kept (x ∷ xs) e = absurd (never_rest kept x.call x (is_kept kept x.call) refl refl e)

pub rest_is_nothing : RestIsNothing
rest_is_nothing d v at w q sent = (
  only_nothing q.kept (useful d v at w q.kept (all_counted v q.known)),
  λ e. (ap (λ xs. action_answer q.kept (first xs)) e, ap (action_answers q.kept sent) e),
)

pub answers_may_go : AnswersMayGo
answers_may_go d v at w q x e =
    let xs = useful d v at w q.kept (all_counted v q.known) in
    let m = made_of q.kept (first xs) x e in
    record { is_due = useful_is_due d v at w q.kept (all_counted v q.known) x (first_in xs x m.0); was_kept = m.1 }

pub answers_may_be_kept : AnswersMayBeKept
answers_may_be_kept d v at w q key e =
    let xs = useful d v at w q.kept (all_counted v q.known) in
    let m = keep_first q.kept (first xs) key e in
    record { unlock = m.0; is_due = useful_is_due d v at w q.kept (all_counted v q.known) m.0 (first_in xs m.0 m.1); asks = m.2 }
