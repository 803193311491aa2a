-- The calls that moves stand for and that are due hold digests, where what is known does.
use Rattle.std.proofs.Common.{◌==◌, ℕ, zero, suc, Bool, true, false, cond, List, [], ◌∷◌, ◌++◌, get_or, Option, Some, None, option_map}
use Rattle.std.specs.Prelude.{All}
use Rattle.std.specs.List.{flat_map}
use Rattle.std.proofs.lemmas.List.Elements.{All-append, All-cons, All-head, All-nil, All-tail}
use Rattle.swap_base.specs.Lists.{first_given_answer, or_else}
use Rattle.swap_digraph.specs.Graph.{entering, is_listed, leaving}
use Rattle.swap_digraph.specs.declared.deal.Deal.{Deal}
use Rattle.swap_digraph.specs.Deal.{leads, locks}
use Rattle.hashkey_path.specs.declared.hashkey.Hashkey.{Hashkey}
use Rattle.escrow_core.specs.Terms.{stated_terms}
use Rattle.escrow_core.specs.declared.reply.Reply.{Reply}
use Rattle.escrow_core.specs.declared.reply.Reply.TheVariants.{Accepted}
use Rattle.ledger_core.specs.declared.entry.Call.{Call}
use Rattle.ledger_core.specs.declared.entry.Call.TheVariants as calls
use Rattle.ledger_core.specs.declared.entry.What.{What}
use Rattle.ledger_core.specs.declared.entry.What.TheVariants.{Call as Made, Tick}
use Rattle.ledger_core.specs.declared.entry.Entry.{Entry}
use Rattle.ledger_core.specs.History.{accepted, accepted_call, opened, opening, Opening}
use Rattle.ledger_core.specs.Book.{Histories, history}
use Rattle.swap_rules.specs.Party.{key_without_party}
use Rattle.swap_rules.specs.Due.{Action, Wallet, due, due_claims, due_key, due_publishes, due_refunds, due_arc_unlock, due_unlocks, extended, first}
use Rattle.swap_rules.specs.Due.{is_due_claim, is_due_publish, is_due_refund, may_unlock, presented, seen_key, when_due}
use Rattle.swap_job.specs.declared.moves.Move.{Move}
use Rattle.swap_job.specs.declared.moves.Move.TheVariants.{Publish, Craft, Replay, Raw, Claim, Refund, Transfer, Wait}
use Rattle.swap_job.specs.Crafted.{Seeds, crafted, crafted_within_limit}
use Rattle.swap_job.specs.Resolved.{move_arc, call_of_move, build_call, key_opened, opening_named, resolved}
use Rattle.typed_books.specs.Typed.{IsDigest}
use Rattle.program_laws.specs.Digests.{HasDigests, StatesDigests}
use Rattle.program_laws.proofs.Hashes.{May, KeyHas, WalletHas, crafted_has, onto_crafted_has}

abbrev pub EntryHas : Entry → Type 0
EntryHas e = StatesDigests e.what

abbrev pub Has : List Entry → Type 0
Has h = All EntryHas h

abbrev pub BookHas : Histories → Type 0
BookHas b = All Has b

-- the digests that a move states
abbrev pub MoveHas : Move → Type 0
MoveHas (Publish a start delta bound timelock amount locks) = May (All IsDigest) locks
MoveHas (Raw a key) = KeyHas key
MoveHas _ = Unit {0}

abbrev pub AnswerHas : ℕ × Call → Type 0
AnswerHas x = HasDigests x.1

abbrev pub ActionHas : Action → Type 0
ActionHas x = HasDigests x.call

-- ---- lists and options

pub at_or : {A : Type 0} (P : A → Type 0) (xs : List A) (i : ℕ) (d : A) → P d → All P xs → P (get_or xs i d)
at_or P [] i d p k = p
at_or P (x ∷ xs) zero d p k = All-head P x xs k
at_or P (x ∷ xs) (suc i) d p k = at_or P xs i d p (All-tail P x xs k)

or_has : {A : Type 0} (P : A → Type 0) (o r : Option A) → May P o → May P r → May P (or_else o r)
or_has P None r k l = l
or_has P (Some x) r k l = k

first_has : {A B : Type 0} (P : B → Type 0) (Q : A → Type 0) (f : A → Option B) (xs : List A) → ((x : A) → Q x → May P (f x)) → All Q xs → May P (first_given_answer f xs)
first_has P Q f [] h k = tt
first_has P Q f (x ∷ xs) h k = or_has P (f x) (first_given_answer f xs) (h x (All-head Q x xs k)) (first_has P Q f xs h (All-tail Q x xs k))

any_has : {A B : Type 0} (P : B → Type 0) (f : A → Option B) (xs : List A) → ((x : A) → May P (f x)) → May P (first_given_answer f xs)
any_has P f [] h = tt
any_has P f (x ∷ xs) h = or_has P (f x) (first_given_answer f xs) (h x) (any_has P f xs h)

map_has : {A B : Type 0} (P : B → Type 0) (g : A → B) (o : Option A) → May (λ x. P (g x)) o → May P (option_map g o)
map_has P g None k = tt
map_has P g (Some x) k = k

flat_has : {A B : Type 0} (P : B → Type 0) (f : A → List B) (xs : List A) → ((x : A) → All P (f x)) → All P (flat_map f xs)
flat_has P f [] h = All-nil P
flat_has P f (x ∷ xs) h = All-append P (f x) (flat_map f xs) (h x) (flat_has P f xs h)

-- ---- hashkeys that opened locks

abbrev OpeningHas : Opening → Type 0
OpeningHas o = KeyHas o.key

opening_has : (i t : ℕ) (w : What) (r : Reply) → StatesDigests w → May OpeningHas (opening i t (accepted_call w r))
opening_has i t (Made (calls.Unlock key)) Accepted h = by (key.lock == i)
  where
    by : (b : Bool) → May OpeningHas (cond b (Some (record { height = t; key = key })) None)
    by true = h
    by false = tt
opening_has i t (Made (calls.Publish terms)) Accepted h = tt
opening_has i t (Made calls.Claim) Accepted h = tt
opening_has i t (Made calls.Refund) Accepted h = tt
opening_has i t (Made (calls.Transfer to units)) Accepted h = tt
opening_has i t (Made c) _ h = tt
opening_has i t (Tick k) r h = tt

opened_has : (h : List Entry) (i : ℕ) → Has h → May OpeningHas (opened h i)
opened_has h i k = first_has OpeningHas EntryHas (λ e. opening i e.height (accepted e)) h (λ e s. opening_has i e.height e.what e.reply s) k

pub history_has : (b : Histories) (a : ℕ) → BookHas b → Has (history b a)
history_has b a k = at_or Has b a [] (All-nil EntryHas) k

key_opened_has : (b : Histories) (o : Option (ℕ × ℕ)) → BookHas b → May KeyHas (key_opened b o)
key_opened_has b None k = tt
key_opened_has b (Some x) k = map_has KeyHas (λ (o : Opening). o.key) (opened (history b x.0) x.1) (opened_has (history b x.0) x.1 (history_has b x.0 k))

without_has : (v : ℕ) (o : Option Opening) → May OpeningHas o → May KeyHas (key_without_party v o)
without_has v None k = tt
without_has v (Some o) k = by (is_listed v o.key.path)
  where
    by : (t : Bool) → May KeyHas (cond t None (Some o.key))
    by true = tt
    by false = k

seen_has : (d : Deal) (b : Histories) (v i : ℕ) → BookHas b → May KeyHas (seen_key d v b i)
unfolding seen_key
seen_has d b v i k =
    any_has KeyHas (λ a. key_without_party v (opened (history b a) i)) (leaving d.graph v)
    (λ a. without_has v (opened (history b a) i) (opened_has (history b a) i (history_has b a k)))

-- ---- the calls of moves

unlock_has : (o : Option Hashkey) → May KeyHas o → May HasDigests (option_map calls.Unlock o)
unlock_has None k = tt
unlock_has (Some key) k = k

call_has : (d : Deal) (seeds : Seeds) (key : Option Hashkey) (mv : Move) → All IsDigest d.hashlocks → May KeyHas key → MoveHas mv
    → May HasDigests (build_call d seeds key mv)
call_has d seeds key (Craft a lock via None) locks k m = unlock_has (crafted d seeds lock None via) (crafted_has d seeds lock None via tt)
call_has d seeds key (Craft a lock via (Some onto)) locks k m = unlock_has (crafted_within_limit d seeds lock key via) (onto_crafted_has d seeds lock key via k)
call_has d seeds key (Replay a lock onto) locks k m = unlock_has key k
call_has d seeds key (Publish a start delta bound timelock amount None) locks k m = locks
call_has d seeds key (Publish a start delta bound timelock amount (Some given)) locks k m = m
call_has d seeds key (Raw a own) locks k m = m
call_has d seeds key (Claim a) locks k m = tt
call_has d seeds key (Refund a) locks k m = tt
call_has d seeds key (Transfer a to units) locks k m = tt
call_has d seeds key (Wait a height) locks k m = tt

pub resolved_has : (d : Deal) (seeds : Seeds) (b : Histories) (mv : Move) → All IsDigest d.hashlocks → BookHas b → MoveHas mv
    → May AnswerHas (resolved d seeds b mv)
resolved_has d seeds b mv locks k m =
    map_has AnswerHas (λ (c : Call). (move_arc mv, c)) (call_of_move d seeds b mv)
    (call_has d seeds (key_opened b (opening_named mv)) mv locks (key_opened_has b (opening_named mv) k) m)

-- ---- the calls that are due

when_has : (test : Bool) (a : ℕ) (c : Call) → HasDigests c → All ActionHas (when_due test a c)
when_has true a c h = All-cons ActionHas (record { arc = a; call = c }) [] h (All-nil ActionHas)
when_has false a c h = All-nil ActionHas

presented_has : (a : ℕ) (o : Option Hashkey) → May KeyHas o → All ActionHas (presented a o)
presented_has a None k = All-nil ActionHas
presented_has a (Some key) k = All-cons ActionHas (record { arc = a; call = calls.Unlock key }) [] k (All-nil ActionHas)

extended_has : (w : Wallet) (o : Option Hashkey) → WalletHas w → May KeyHas o → May KeyHas (extended w o)
extended_has w None h k = tt
extended_has w (Some inner) h k = h.onto inner k

module _ (d : Deal) (v : ℕ) (w : Wallet) (signed : ℕ → Option Hashkey) (b : Histories) (hashlocks : All IsDigest d.hashlocks) (own : WalletHas w)
    (before : (i : ℕ) → May KeyHas (signed i)) (known : BookHas b) where
  key_has : (i : ℕ) → May KeyHas (due_key d v w (signed i) b i)
  unfolding due_key
  key_has i = or_has KeyHas (signed i) _ (before i) (by (leads d v i))
    where
      by : (t : Bool) → May KeyHas (cond t (Some (w.first i)) (extended w (seen_key d v b i)))
      by true = own.first i
      by false = extended_has w (seen_key d v b i) own (seen_has d b v i known)

  unlock_on_has : (i a : ℕ) → All ActionHas (due_arc_unlock d v w (signed i) b i a)
  unfolding due_arc_unlock
  unlock_on_has i a = by (may_unlock d v b i a)
    where
      by : (t : Bool) → All ActionHas (cond t (presented a (due_key d v w (signed i) b i)) [])
      by true = presented_has a (due_key d v w (signed i) b i) (key_has i)
      by false = All-nil ActionHas

  due_has : All ActionHas (due d v w signed b)
  unfolding due
  due_has =
      All-append ActionHas (due_publishes d v b ++ due_unlocks d v w signed b ++ due_claims d v b) (due_refunds d v b)
      (All-append ActionHas (due_publishes d v b ++ due_unlocks d v w signed b) (due_claims d v b)
      (All-append ActionHas (due_publishes d v b) (due_unlocks d v w signed b)
      (flat_has ActionHas (λ a. when_due (is_due_publish d v b a) a (calls.Publish (stated_terms d a))) (leaving d.graph v)
      (λ a. when_has (is_due_publish d v b a) a (calls.Publish (stated_terms d a)) hashlocks))
      (flat_has ActionHas (λ i. flat_map (due_arc_unlock d v w (signed i) b i) (entering d.graph v)) (locks d)
      (λ i. flat_has ActionHas (due_arc_unlock d v w (signed i) b i) (entering d.graph v) (unlock_on_has i))))
      (flat_has ActionHas (λ a. when_due (is_due_claim d v b a) a calls.Claim) (entering d.graph v)
      (λ a. when_has (is_due_claim d v b a) a calls.Claim tt)))
      (flat_has ActionHas (λ a. when_due (is_due_refund d v b a) a calls.Refund) (leaving d.graph v)
      (λ a. when_has (is_due_refund d v b a) a calls.Refund tt))

  first_due_has : (xs : List Action) → All ActionHas xs → May ActionHas (first xs)
  first_due_has [] k = tt
  first_due_has (x ∷ xs) k = All-head ActionHas x xs k

  pub next_has : May ActionHas (first (due d v w signed b))
  next_has = first_due_has (due d v w signed b) due_has
