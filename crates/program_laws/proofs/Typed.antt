-- Every entry of a legal book whose calls hold digests is one of the program's own types.
use Rattle.std.proofs.Common.{◌≡◌, ◌==◌, ◌&&◌, ◌||◌, ◌+◌, ◌*◌, ◌^◌, ◌≤◌, ◌<◌, ℕ, suc, nat_le, nat_lt, Bool, true, false, cond, IsTrue, List}
use Rattle.std.proofs.Common.{[], ◌∷◌, ◌++◌, inl, inr, length, map, Option, Some, None, refl, sym, subst, arith, eqb-true, ltb-true, mul-le-mul_right}
use Rattle.std.specs.Prelude.{All}
use Rattle.std.specs.List.{list_all, AllByRecursion}
use Rattle.std.proofs.lemmas.Bool.{leb-true}
use Rattle.std.proofs.lemmas.List.Elements.{All-nil, All-cons}
use Rattle.swap_base.specs.Lists.{IsElement, moments_after_past}
use Rattle.swap_base.proofs.Lists.{all_moments_push, and_parts, from_range}
use Rattle.swap_digraph.specs.Graph.{listed_arcs}
use Rattle.swap_digraph.specs.declared.deal.Deal.{Deal}
use Rattle.swap_digraph.specs.declared.deal.Mode.{Mode}
use Rattle.swap_digraph.specs.declared.deal.Mode.TheVariants.{Timelocks, Hashkeys}
use Rattle.swap_digraph.specs.declared.deal.Version.{Version}
use Rattle.swap_digraph.specs.declared.deal.Version.TheVariants.{One, Two}
use Rattle.swap_digraph.specs.Deal.{counterparty, locks, most_parties, party, path_limit, version_path_limit, touches, IsWellSized}
use Rattle.hashkey_path.specs.declared.hashkey.Hashkey.{Hashkey}
use Rattle.escrow_core.specs.declared.terms.Terms.{Terms}
use Rattle.escrow_core.specs.declared.reply.Reply.{Reply}
use Rattle.escrow_core.specs.declared.reply.Reply.TheVariants.{ClockFull}
use Rattle.escrow_core.specs.Table.{closed_lock, first_row}
use Rattle.escrow_core.specs.Terms.{closed_locks, lock_expiry, is_own, last_unlock, least, refund_expiry}
use Rattle.ledger_core.specs.declared.entry.Call.{Call}
use Rattle.ledger_core.specs.declared.entry.Call.TheVariants.{Publish, Unlock, Claim, Refund, Transfer}
use Rattle.ledger_core.specs.declared.entry.Sender.{Sender}
use Rattle.ledger_core.specs.declared.entry.Sender.TheVariants.{Party, Clock}
use Rattle.ledger_core.specs.declared.entry.What.{What}
use Rattle.ledger_core.specs.declared.entry.What.TheVariants.{Call as Made, Tick}
use Rattle.ledger_core.specs.declared.entry.Entry.{Entry}
use Rattle.ledger_core.specs.History.{accounts, balance, fit, is_clock_full, is_open, published, rows, the_terms, publication_terms, Publication, IsLegal}
use Rattle.ledger_core.specs.History.{IsLegalEntry}
use Rattle.ledger_core.specs.History.{IsLegalMoment}
use Rattle.ledger_core.specs.Book.{history}
use Rattle.ledger_core.proofs.Contracts.{fitting}
use Rattle.ledger_core.proofs.History.{lock-below, published_done}
use Rattle.ledger_core.proofs.Scans.{bounded}
use Rattle.typed_books.specs.Typed.{IsDigest, IsTerms, IsTypedCall, IsTypedReply, IsTypedSender, IsTypedWhat}
use Rattle.transcript_book.specs.Stated.{IsTyped}
use Rattle.program_laws.specs.Digests.{HasDigests, LegalIsTyped, StatesDigests}

-- ---- limits of a version

few_parties : (v : Version) → most_parties v ≤ 32
few_parties One = omega arith
few_parties Two = omega arith

short_paths : (v : Version) → version_path_limit v ≤ 32
short_paths One = omega arith
short_paths Two = omega arith

-- ---- calls that fit

-- Terms that a publish may state.
record AreLow (t : Terms) : Type 0 where
  start : t.start ≤ 1000000
  delta : t.delta ≤ 1000000
  bound : t.bound ≤ 1000000
  timelock : t.timelock ≤ 1000000
  amount : t.amount ≤ 1000000000000

low_terms : (d : Deal) (a : ℕ) (t : Terms) → IsTrue (fit d a (Publish t)) → AreLow t
low_terms d a t f =
    let k = fitting d a t f in
    record { start = k.start; delta = k.delta; bound = k.bound; timelock = k.timelock; amount = k.amount }

typed_terms : (t : Terms) → AreLow t → All IsDigest t.locks → IsTerms t
typed_terms t k digests =
    let start : t.start ≤ 1000000 = k.start in
    let delta : t.delta ≤ 1000000 = k.delta in
    let bound : t.bound ≤ 1000000 = k.bound in
    let timelock : t.timelock ≤ 1000000 = k.timelock in
    let amount : t.amount ≤ 1000000000000 = k.amount in
    record {
      start = omega (arith, start);
      delta = omega (arith, delta);
      bound = omega (arith, bound);
      timelock = omega (arith, timelock);
      amount = omega (arith, amount);
      locks = digests;
    }

path_low : (n : ℕ) (xs : List ℕ) → n ≤ 256 → list_all (λ v. nat_lt v n) xs ≡ true → All (λ p. p < 256) xs
path_low n [] le h = All-nil (λ p. p < 256)
path_low n (x ∷ xs) le h =
    let p = and_parts (nat_lt x n) (list_all (λ v. nat_lt v n) xs) h in
    let low : x < n = ltb-true x n p.0 in
    All-cons (λ p. p < 256) x xs (omega (arith, low, le)) (path_low n xs le p.1)

-- the parts of a test of an unlock
fit_path : (d : Deal) (a : ℕ) (key : Hashkey) → IsTrue (fit d a (Unlock key))
    → (length key.path ≤ path_limit d) × (list_all (λ v. nat_lt v d.graph.n) key.path ≡ true)
fit_path d a key f =
    let k =
    and_parts (nat_lt key.lock (length d.leaders) && nat_le (length key.path) (path_limit d) && nat_le (length key.sigs) (path_limit d))
    (list_all (λ v. nat_lt v d.graph.n) key.path) f in
    let k2 = and_parts (nat_lt key.lock (length d.leaders) && nat_le (length key.path) (path_limit d)) (nat_le (length key.sigs) (path_limit d)) k.0 in
    let k3 = and_parts (nat_lt key.lock (length d.leaders)) (nat_le (length key.path) (path_limit d)) k2.0 in
    (leb-true (length key.path) (path_limit d) k3.1, k.1)

one_of_two : (p q r n : ℕ) → ((p == q) || (p == r)) ≡ true → q < n → r < n → p < n
one_of_two p q r n e lq lr = by (p == q) (p == r) refl refl e
  where
    by : (s t : Bool) → (p == q) ≡ s → (p == r) ≡ t → (s || t) ≡ true → p < n
    by true t es et k = let same : p ≡ q = eqb-true p q es in omega (arith, same, lq)
    by false true es et k = let same : p ≡ r = eqb-true p r et in omega (arith, same, lr)
    by false false es et k = absurd (cc k)

-- ---- numbers of replies

abbrev AreTypedRows : List (Bool × Reply) → Type 0
AreTypedRows [] = Unit {0}
AreTypedRows (r ∷ rs) = IsTypedReply r.1 × AreTypedRows rs

first_typed : (rs : List (Bool × Reply)) → AreTypedRows rs → IsTypedReply (first_row rs)
first_typed [] k = tt
first_typed (r ∷ rs) k = by r.0 (first_typed rs k.1)
  where
    by : (t : Bool) → IsTypedReply (first_row rs) → IsTypedReply (cond t r.1 (first_row rs))
    by true h = k.0
    by false h = h

product : (x y : ℕ) → x ≤ 2000033 → y ≤ 1000000 → x * y ≤ 2000033000000
product x y lx ly = let m : x * y ≤ 2000033 * y = mul-le-mul_right y lx in omega (arith, m, ly)

sum_low : (s q : ℕ) → s ≤ 1000000 → q ≤ 2000033000000 → s + q ≤ 2000034000000
sum_low s q ls lq = omega arith

late_low : (m : Mode) (t : Terms) (key : Hashkey) → AreLow t → length key.path ≤ 32 → last_unlock m t key ≤ 2000034000000
late_low Timelocks t key k le = let timelock : t.timelock ≤ 1000000 = k.timelock in omega (arith, timelock)
late_low Hashkeys t key k le =
    let bound : t.bound ≤ 1000000 = k.bound in
    sum_low t.start ((t.bound + 1 + listed_arcs key.path) * t.delta) k.start
    (product (t.bound + 1 + listed_arcs key.path) t.delta (omega (arith, bound, le)) k.delta)

expiry_low : (m : Mode) (d : Deal) (a : ℕ) (t : Terms) (i : ℕ) → AreLow t → lock_expiry m d a t i ≤ 2000034000000
expiry_low Timelocks d a t i k = let timelock : t.timelock ≤ 1000000 = k.timelock in omega (arith, timelock)
expiry_low Hashkeys d a t i k = by (is_own d.version d a i)
  where
    by : (own : Bool) → cond own (t.start + (t.bound + 1) * t.delta) (t.start + (2 * t.bound + 1) * t.delta) ≤ 2000034000000
    by true =
        let bound : t.bound ≤ 1000000 = k.bound in
        sum_low t.start ((t.bound + 1) * t.delta) k.start (product (t.bound + 1) t.delta (omega (arith, bound)) k.delta)
    by false =
        let bound : t.bound ≤ 1000000 = k.bound in
        sum_low t.start ((2 * t.bound + 1) * t.delta) k.start (product (2 * t.bound + 1) t.delta (omega (arith, bound)) k.delta)

low_number : (n : ℕ) → n ≤ 2000034000000 → n < 2 ^ 64
low_number n le = omega arith

next_low : (n : ℕ) → n ≤ 2000034000000 → n + 1 < 2 ^ 64
next_low n le = omega arith

least_low : (f : ℕ → ℕ) (n : ℕ) (xs : List ℕ) → ((i : ℕ) → f i ≤ n) → least (map f xs) ≤ n
least_low f n [] h = omega arith
least_low f n (x ∷ []) h = h x
least_low f n (x ∷ y ∷ xs) h = let one : f x ≤ n = h x in omega (arith, one)

closed_low : (is_open : ℕ → Bool) (xs : List ℕ) → ((x : ℕ) → IsElement x xs → x < 256) → closed_lock is_open xs < 256
closed_low is_open [] h = omega arith
closed_low is_open (x ∷ xs) h = by (is_open x) (closed_low is_open xs (λ y i. h y (inr i)))
  where
    by : (t : Bool) → closed_lock is_open xs < 256 → cond t (closed_lock is_open xs) x < 256
    by true rest = rest
    by false rest = h x (inl refl)

module _ (d : Deal) (sized : IsWellSized d) (a : ℕ) (lt : a < length d.graph.arcs) where
  two_below : (p : ℕ) → IsTrue (touches d p a) → p < 256
  two_below p t =
      let few : d.graph.n ≤ most_parties d.version = sized.parties.1 in
      let most = few_parties d.version in
      let below : p < d.graph.n = one_of_two p (party d a) (counterparty d a) d.graph.n t (sized.ends.from a lt) (sized.ends.to a lt) in
      omega (arith, few, most, below)

  low_balance : (past : List Entry) (p : ℕ) → IsLegal d a past → balance d a past p < 2 ^ 64
  low_balance past p l = by (p == party d a)
    where
      by : (t : Bool) → cond t (accounts d a past).party (accounts d a past).counterparty < 2 ^ 64
      by true = omega (arith, bounded d a past (accounts d a past) l sized lt refl)
      by false = omega (arith, bounded d a past (accounts d a past) l sized lt refl)

  the_low : (past : List Entry) → IsLegal d a past → AreLow (the_terms past)
  the_low past l = by (published past) refl
    where
      by : (o : Option Publication) → published past ≡ o → AreLow (publication_terms o)
      by None e = record { start = omega arith; delta = omega arith; bound = omega arith; timelock = omega arith; amount = omega arith }
      by (Some p) e = low_terms d a p.terms (published_done d a past p l e).act.fits

  short_path : (key : Hashkey) → IsTrue (fit d a (Unlock key)) → length key.path ≤ 32
  short_path key f = omega (arith, (fit_path d a key f).0, short_paths d.version)

  few_locks : (i : ℕ) → IsElement i (locks d) → i < 256
  few_locks i is = let few : length d.leaders ≤ 8 = sized.leaders.1 in omega (arith, few, from_range i (length d.leaders) is)

  typed_rows : (past : List Entry) (p : ℕ) (c : Call) → IsLegal d a past → IsTrue (fit d a c) → AreTypedRows (rows d a past p c)
  unfolding rows
  typed_rows past p (Publish t) l f = (tt, (tt, (tt, (low_balance past p l, tt))))
  typed_rows past p (Unlock key) l f =
      let low : last_unlock d.mode (the_terms past) key ≤ 2000034000000 = late_low d.mode (the_terms past) key (the_low past l) (short_path key f) in
      (tt, (tt, (tt, (tt, (tt, (tt, (tt, (tt, (low_number _ low, tt)))))))))
  typed_rows past p Claim l f = (tt, (tt, (tt, (tt, (closed_low (is_open past) (locks d) few_locks, tt)))))
  typed_rows past p Refund l f =
      let low : refund_expiry d a (the_terms past) (is_open past) ≤ 2000034000000 =
      least_low (lock_expiry d.mode d a (the_terms past)) 2000034000000 (closed_locks d (is_open past))
      (λ i. expiry_low d.mode d a (the_terms past) i (the_low past l)) in
      (tt, (tt, (tt, (tt, (tt, (next_low _ low, tt))))))
  typed_rows past p (Transfer to units) l f = (tt, (low_balance past p l, tt))

  typed_call : (c : Call) → IsTrue (fit d a c) → HasDigests c → IsTypedCall c
  typed_call (Publish t) f h = typed_terms t (low_terms d a t f) h
  typed_call (Unlock key) f h =
      let few : length d.leaders ≤ 8 = sized.leaders.1 in
      let lock : key.lock < length d.leaders = lock-below d a key f in
      let parties : d.graph.n ≤ most_parties d.version = sized.parties.1 in
      record {
        lock = omega (arith, few, lock);
        secret = h.0;
        path = path_low d.graph.n key.path (omega (arith, parties, few_parties d.version)) (fit_path d a key f).1;
        sigs = h.1;
      }
  typed_call Claim f h = tt
  typed_call Refund f h = tt
  typed_call (Transfer to units) f h =
      let k = and_parts (touches d to a) (nat_le units 1000000000000) f in
      let low : units ≤ 1000000000000 = leb-true units 1000000000000 k.1 in
      (two_below to k.0, omega (arith, low))

  -- The parts of an entry of the program's own types.
  record AreTyped (s : Sender) (w : What) (r : Reply) : Type 0 where
    sender : IsTypedSender s
    what : IsTypedWhat w
    reply : IsTypedReply r

  typed_parts : (past : List Entry) (s : Sender) (w : What) (at : ℕ) (reply : Reply) → IsLegal d a past → IsLegalEntry d a past s w at reply
      → StatesDigests w → AreTyped s w reply
  typed_parts past (Party p) (Made c) at reply before l h = record {
    sender = two_below p l.of_the_two;
    what = typed_call c l.fits h;
    reply = subst IsTypedReply (sym l.reply) (first_typed (rows d a past p c) (typed_rows past p c before l.fits));
  }
  typed_parts past Clock (Tick k) at reply before l h =
      let below : k ≤ 1000000 = l.below in
      record {
        sender = tt;
        what = omega (arith, below);
        reply = subst IsTypedReply (sym l.reply) (first_typed ((is_clock_full past k, ClockFull) ∷ []) (tt, tt));
      }
  typed_parts past (Party p) (Tick k) at reply before l h = absurd l
  typed_parts past Clock (Made c) at reply before l h = absurd l

  typed_all : (past h : List Entry) → IsLegal d a past → AllByRecursion (IsLegalMoment d a) (moments_after_past past h) → All (λ e. StatesDigests e.what) h
      → All IsTyped h
  typed_all past [] before l k = All-nil IsTyped
  typed_all past (e ∷ h) before l k =
      let t = typed_parts past e.sender e.what e.height e.reply before l.0 (k 0 e (omega arith)) in
      All-cons IsTyped e h (record { sender = t.sender; what = t.what; reply = t.reply })
      (typed_all (past ++ e ∷ []) h (all_moments_push (IsLegalMoment d a) past e before l.0) l.1 (λ j y less. k (suc j) y (omega arith)))

pub legal_is_typed : LegalIsTyped
legal_is_typed d b sized l digests a lt =
    let one : length b ≡ length d.graph.arcs = l.one_each in
    typed_all d sized a (omega (arith, one, lt)) [] (history b a) tt (l.legal a lt) (digests a lt)
