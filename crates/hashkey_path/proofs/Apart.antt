-- Deals of the same bytes are the same but for their ids.
use Rattle.std.proofs.Common.{◌≡◌, ◌⊎◌, ℕ, zero, suc, ◌+◌, ◌<◌, ◌≤◌, ◌^◌, List, [], ◌∷◌, ◌++◌, length}
use Rattle.std.proofs.Common.{get_or, refl, sym, ap, subst, ◌∙◌, inl, inr, arith, append_assoc, append-nil}
use Rattle.std.proofs.lemmas.List.{ext_get_or, get_or_default}
use Rattle.std.proofs.lemmas.Nat.{from_be_bytes-to_be_bytes_4, from_be_bytes-to_be_bytes_8}
use Rattle.std.specs.Int.{w32, w64, to_be_bytes, from_be_bytes}
use Rattle.std.specs.List.{flat_map, range_with_len}
use Rattle.std.specs.Prelude.{All}
use Rattle.swap_base.specs.Text.{joined}
use Rattle.swap_digraph.specs.declared.deal.Deal.{Deal}
use Rattle.swap_digraph.specs.declared.deal.Mode.{Mode}
use Rattle.swap_digraph.specs.declared.deal.Mode.TheVariants.{Timelocks, Hashkeys}
use Rattle.swap_digraph.specs.declared.deal.Version.{Version}
use Rattle.swap_digraph.specs.declared.deal.Version.TheVariants.{One, Two}
use Rattle.swap_digraph.specs.Graph.{arcs, ends}
use Rattle.swap_digraph.specs.Deal.{party, counterparty, amount, HasKeys, IsWellSized}
use Rattle.hashkey_path.specs.Digest.{version_byte, mode_byte, head_bytes, arc_bytes, leader_bytes, key_bytes, deal_bytes}
use Rattle.hashkey_path.specs.Law.{AreDigests, IsWrittenDeal, DealBytesTellApart}

-- Fronts of equal lengths.

head_is : {A : Type 0} (x y : A) (xs ys : List A) → x ∷ xs ≡ y ∷ ys → x ≡ y
head_is x y xs ys e = cc e

tail_is : {A : Type 0} (x y : A) (xs ys : List A) → x ∷ xs ≡ y ∷ ys → xs ≡ ys
tail_is x y xs ys e = cc e

parts : {A : Type 0} (xs ys us vs : List A) → length xs ≡ length ys → xs ++ us ≡ ys ++ vs → (xs ≡ ys) × (us ≡ vs)
parts [] [] us vs l e = (refl, e)
parts [] (y ∷ ys) us vs l e = absurd (omega arith)
parts (x ∷ xs) [] us vs l e = absurd (omega arith)
parts {A} (x ∷ xs) (y ∷ ys) us vs l e =
    let r = parts xs ys us vs (omega arith) (tail_is x y (xs ++ us) (ys ++ vs) e) in
    let h : x ≡ y = head_is x y (xs ++ us) (ys ++ vs) e in
    (ap (λ z. z ∷ xs) h ∙ ap (λ (zs : List A). y ∷ zs) r.0, r.1)

-- two fronts are equal where each stands before another one
fronts : {A : Type 0} (xs ys us vs ts ws : List A) → length xs ≡ length ys → (xs ++ us) ++ ts ≡ (ys ++ vs) ++ ws → (xs ≡ ys) × (us ++ ts ≡ vs ++ ws)
fronts xs ys us vs ts ws l e = parts xs ys (us ++ ts) (vs ++ ws) l (sym (append_assoc xs us ts) ∙ (e ∙ append_assoc ys vs ws))

-- Numbers.

four : (m n : ℕ) → m < 2 ^ 32 → n < 2 ^ 32 → to_be_bytes w32 m ≡ to_be_bytes w32 n → m ≡ n
four m n a b e = sym (from_be_bytes-to_be_bytes_4 m a) ∙ (ap (from_be_bytes w32) e ∙ from_be_bytes-to_be_bytes_4 n b)

eight : (m n : ℕ) → m < 2 ^ 64 → n < 2 ^ 64 → to_be_bytes w64 m ≡ to_be_bytes w64 n → m ≡ n
eight m n a b e = sym (from_be_bytes-to_be_bytes_8 m a) ∙ (ap (from_be_bytes w64) e ∙ from_be_bytes-to_be_bytes_8 n b)

same_version : (v w : Version) → version_byte v ≡ version_byte w → v ≡ w
same_version One One e = refl
same_version One Two e = absurd (omega arith)
same_version Two One e = absurd (omega arith)
same_version Two Two e = refl

same_mode : (m n : Mode) → mode_byte m ≡ mode_byte n → m ≡ n
same_mode Timelocks Timelocks e = refl
same_mode Timelocks Hashkeys e = absurd (omega arith)
same_mode Hashkeys Timelocks e = absurd (omega arith)
same_mode Hashkeys Hashkeys e = refl

-- Lists that are made of pieces.

here_or : (k a n : ℕ) → k ≤ a → a < k + suc n → (a ≡ k) ⊎ ((k + 1 ≤ a) × (a < k + 1 + n))
here_or k a n l m = grind arith

each : (f g : ℕ → List ℕ) (k n : ℕ) (us vs : List ℕ) → ((a : ℕ) → length (f a) ≡ length (g a))
    → flat_map f (range_with_len k n) ++ us ≡ flat_map g (range_with_len k n) ++ vs → ((a : ℕ) → k ≤ a → a < k + n → f a ≡ g a) × (us ≡ vs)
each f g k zero us vs l e = (λ a low high. absurd (omega (arith, low, high)), e)
each f g k (suc n) us vs l e =
    let p = fronts (f k) (g k) (flat_map f (range_with_len (k + 1) n)) (flat_map g (range_with_len (k + 1) n)) us vs (l k) e in
    let r = each f g (k + 1) n us vs l p.1 in
    (λ a low high. go a (here_or k a n low high) p.0 r.0, r.1)
  where
    go : (a : ℕ) → (a ≡ k) ⊎ ((k + 1 ≤ a) × (a < k + 1 + n)) → f k ≡ g k → ((b : ℕ) → k + 1 ≤ b → b < k + 1 + n → f b ≡ g b) → f a ≡ g a
    go a (inl q) h rest = ap f q ∙ (h ∙ ap g (sym q))
    go a (inr q) h rest = rest a q.0 q.1

head_digest : (x : List ℕ) (xs : List (List ℕ)) → AreDigests (x ∷ xs) → length x ≡ 32
head_digest x xs h = h 0 [] (omega arith)

all_tail : {A : Type 0} (P : A → Type 0) (x : A) (xs : List A) → All P (x ∷ xs) → All P xs
all_tail P x xs h k d lt = h (suc k) d (omega arith)

same_digests : (xs ys : List (List ℕ)) (us vs : List ℕ) → length xs ≡ length ys → AreDigests xs → AreDigests ys → joined xs ++ us ≡ joined ys ++ vs
    → (xs ≡ ys) × (us ≡ vs)
same_digests [] [] us vs l a b e = (refl, e)
same_digests [] (y ∷ ys) us vs l a b e = absurd (omega arith)
same_digests (x ∷ xs) [] us vs l a b e = absurd (omega arith)
same_digests (x ∷ xs) (y ∷ ys) us vs l a b e =
    let p = fronts x y (joined xs) (joined ys) us vs (head_digest x xs a ∙ sym (head_digest y ys b)) e in
    let r = same_digests xs ys us vs (omega arith) (all_tail (λ z. length z ≡ 32) x xs a) (all_tail (λ z. length z ≡ 32) y ys b) p.1 in
    (ap (λ z. z ∷ xs) p.0 ∙ ap (λ zs. y ∷ zs) r.0, r.1)

-- rows of n digests each
same_rows : (n : ℕ) (xs ys : List (List (List ℕ))) (us vs : List ℕ) → length xs ≡ length ys → All AreDigests xs → All AreDigests ys
    → All (λ row. length row ≡ n) xs → All (λ row. length row ≡ n) ys → flat_map joined xs ++ us ≡ flat_map joined ys ++ vs → (xs ≡ ys) × (us ≡ vs)
same_rows n [] [] us vs l a b s t e = (refl, e)
same_rows n [] (y ∷ ys) us vs l a b s t e = absurd (omega arith)
same_rows n (x ∷ xs) [] us vs l a b s t e = absurd (omega arith)
same_rows n (x ∷ xs) (y ∷ ys) us vs l a b s t e =
    let p =
    same_digests x y (flat_map joined xs ++ us) (flat_map joined ys ++ vs) (s 0 [] (omega arith) ∙ sym (t 0 [] (omega arith))) (a 0 [] (omega arith))
    (b 0 [] (omega arith)) (sym (append_assoc (joined x) (flat_map joined xs) us) ∙ (e ∙ append_assoc (joined y) (flat_map joined ys) vs)) in
    let r =
    same_rows n xs ys us vs (omega arith) (all_tail AreDigests x xs a) (all_tail AreDigests y ys b) (all_tail (λ row. length row ≡ n) x xs s)
    (all_tail (λ row. length row ≡ n) y ys t) p.1 in
    (ap (λ z. z ∷ xs) p.0 ∙ ap (λ zs. y ∷ zs) r.0, r.1)

same_keys : (m : Mode) (d e : Deal) → HasKeys m d → HasKeys m e → d.graph.n ≡ e.graph.n → length d.leaders ≡ length e.leaders → All AreDigests d.keys
    → All AreDigests e.keys → key_bytes m d.keys ≡ key_bytes m e.keys → d.keys ≡ e.keys
same_keys Timelocks d e h k n l a b q = h ∙ sym k
same_keys Hashkeys d e h k n l a b q =
    (same_rows (length e.leaders) d.keys e.keys [] [] (h.0 ∙ (n ∙ sym k.0)) a b (λ p x lt. rows_of d h p x lt ∙ l) (λ p x lt. rows_of e k p x lt)
    (append-nil (flat_map joined d.keys) ∙ (q ∙ sym (append-nil (flat_map joined e.keys))))).0
  where
    rows_of : (c : Deal) → HasKeys Hashkeys c → All (λ row. length row ≡ length c.leaders) c.keys
    rows_of c r p x lt =
        let size : length c.keys ≡ c.graph.n = r.0 in
        let below : p < c.graph.n = omega (arith, size, lt) in
        ap length (get_or_default c.keys p x [] lt) ∙ r.1 p below

-- The parts of a deal.

-- what the bytes of an arc tell
record IsSameArc (d e : Deal) (a : ℕ) : Type 0 where
  ends : ends d.graph a ≡ ends e.graph a
  amount : amount d a ≡ amount e a
  timelock : get_or d.timelocks a 0 ≡ get_or e.timelocks a 0

same_arc : (d e : Deal) (a : ℕ) → IsWellSized d → IsWellSized e → a < length d.graph.arcs → a < length e.graph.arcs → arc_bytes d a ≡ arc_bytes e a
    → IsSameArc d e a
same_arc d e a s t l m q =
    let from = head_is (party d a) (party e a) _ _ q in
    let q1 = tail_is (party d a) (party e a) _ _ q in
    let to = head_is (counterparty d a) (counterparty e a) _ _ q1 in
    let q2 = tail_is (counterparty d a) (counterparty e a) _ _ q1 in
    let p = parts (to_be_bytes w64 (amount d a)) (to_be_bytes w64 (amount e a)) _ _ refl q2 in
    let x1 = s.amount a l in
    let x2 = t.amount a m in
    let y1 = s.timelock a l in
    let y2 = t.timelock a m in
    record {
      ends = λ i. record { from = from i; to = to i };
      amount = eight (amount d a) (amount e a) (omega (arith, x1)) (omega (arith, x2)) p.0;
      timelock = four (get_or d.timelocks a 0) (get_or e.timelocks a 0) (omega (arith, y1)) (omega (arith, y2)) p.1;
    }

-- what the bytes of a deal tell
record AreSame (d e : Deal) : Type 0 where
  version : d.version ≡ e.version
  n : d.graph.n ≡ e.graph.n
  arcs : d.graph.arcs ≡ e.graph.arcs
  leaders : d.leaders ≡ e.leaders
  start : d.start ≡ e.start
  delta : d.delta ≡ e.delta
  bound : d.bound ≡ e.bound
  mode : d.mode ≡ e.mode
  amounts : d.amounts ≡ e.amounts
  hashlocks : d.hashlocks ≡ e.hashlocks
  keys : d.keys ≡ e.keys
  timelocks : d.timelocks ≡ e.timelocks

alike : (d e : Deal) → AreSame d e → (record d { id = e.id }) ≡ e
alike d e s =
    λ i. record {
      version = s.version i;
      graph = record { n = s.n i; arcs = s.arcs i };
      leaders = s.leaders i;
      start = s.start i;
      delta = s.delta i;
      bound = s.bound i;
      mode = s.mode i;
      amounts = s.amounts i;
      hashlocks = s.hashlocks i;
      keys = s.keys i;
      timelocks = s.timelocks i;
      id = e.id;
    }

-- what follows the arcs
abbrev after_arcs : Deal → List ℕ
after_arcs d =
    leader_bytes d ++ (to_be_bytes w32 d.start ++ (to_be_bytes w32 d.delta ++ (to_be_bytes w32 d.bound ++ (joined d.hashlocks ++ key_bytes d.mode d.keys))))

nested : (h f l s t b j k : List ℕ) → h ++ f ++ l ++ (s ++ t ++ b) ++ j ++ k ≡ h ++ (f ++ (l ++ (s ++ (t ++ (b ++ (j ++ k))))))
nested h f l s t b j k =
    append_assoc (h ++ f ++ l ++ (s ++ t ++ b)) j k
    ∙ (append_assoc (h ++ f ++ l) (s ++ t ++ b) (j ++ k)
    ∙ (append_assoc (h ++ f) l (s ++ t ++ b ++ (j ++ k))
    ∙ (append_assoc h f (l ++ (s ++ t ++ b ++ (j ++ k)))
    ∙ ap (λ x. h ++ (f ++ (l ++ x))) (append_assoc (s ++ t) b (j ++ k) ∙ append_assoc s t (b ++ (j ++ k))))))

written : (d : Deal) → deal_bytes d ≡ head_bytes d ++ (flat_map (arc_bytes d) (arcs d.graph) ++ after_arcs d)
unfolding deal_bytes
written d =
    nested (head_bytes d) (flat_map (arc_bytes d) (arcs d.graph)) (leader_bytes d) (to_be_bytes w32 d.start) (to_be_bytes w32 d.delta)
    (to_be_bytes w32 d.bound) (joined d.hashlocks) (key_bytes d.mode d.keys)

same_arcs : (d e : Deal) → length d.graph.arcs ≡ length e.graph.arcs
    → flat_map (arc_bytes d) (arcs d.graph) ++ after_arcs d ≡ flat_map (arc_bytes e) (arcs e.graph) ++ after_arcs e
    → ((a : ℕ) → 0 ≤ a → a < 0 + length e.graph.arcs → arc_bytes d a ≡ arc_bytes e a) × (after_arcs d ≡ after_arcs e)
same_arcs d e count q =
    each (arc_bytes d) (arc_bytes e) 0 (length e.graph.arcs) (after_arcs d) (after_arcs e) (λ a. refl)
    (subst (λ k. flat_map (arc_bytes d) (range_with_len 0 k) ++ after_arcs d ≡ flat_map (arc_bytes e) (arcs e.graph) ++ after_arcs e) count q)

same_parts : (d e : Deal) → IsWrittenDeal d → IsWrittenDeal e → deal_bytes d ≡ deal_bytes e → AreSame d e
same_parts d e s t same =
    let q : head_bytes d ++ (flat_map (arc_bytes d) (arcs d.graph) ++ after_arcs d) ≡ head_bytes e ++ (flat_map (arc_bytes e) (arcs e.graph) ++ after_arcs e) =
    sym (written d) ∙ (same ∙ written e) in
    let version = same_version d.version e.version (head_is _ _ _ _ q) in
    let q1 = tail_is _ _ _ _ q in
    let mode = same_mode d.mode e.mode (head_is _ _ _ _ q1) in
    let q2 = tail_is _ _ _ _ q1 in
    let n : d.graph.n ≡ e.graph.n = head_is _ _ _ _ q2 in
    let q3 = tail_is _ _ _ _ q2 in
    let count : length d.graph.arcs ≡ length e.graph.arcs = head_is _ _ _ _ q3 in
    let q4 = tail_is _ _ _ _ q3 in
    let a = same_arcs d e count q4 in
    let few : length d.leaders ≡ length e.leaders = head_is _ _ _ _ a.1 in
    let q5 = tail_is _ _ _ _ a.1 in
    let l = parts d.leaders e.leaders _ _ few q5 in
    let start = parts (to_be_bytes w32 d.start) (to_be_bytes w32 e.start) _ _ refl l.1 in
    let delta = parts (to_be_bytes w32 d.delta) (to_be_bytes w32 e.delta) _ _ refl start.1 in
    let bound = parts (to_be_bytes w32 d.bound) (to_be_bytes w32 e.bound) _ _ refl delta.1 in
    let locks : length d.hashlocks ≡ length e.hashlocks = s.sized.hashlocks ∙ (few ∙ sym t.sized.hashlocks) in
    let h = same_digests d.hashlocks e.hashlocks (key_bytes d.mode d.keys) (key_bytes e.mode e.keys) locks s.hashlocks t.hashlocks bound.1 in
    let arc : (b : ℕ) → b < length d.graph.arcs → IsSameArc d e b =
    λ b low. same_arc d e b s.sized t.sized low (omega (arith, low, count)) (a.0 b (omega arith) (omega (arith, low, count))) in
    let d1 = s.sized.start in
    let e1 = t.sized.start in
    let d2 = s.sized.delta in
    let e2 = t.sized.delta in
    let d3 = s.sized.bound in
    let e3 = t.sized.bound in
    let da = s.sized.amounts in
    let ea = t.sized.amounts in
    let dt = s.sized.timelocks in
    let et = t.sized.timelocks in
    record {
      version = version;
      n = n;
      arcs = ext_get_or (record { from = 0; to = 0 }) d.graph.arcs e.graph.arcs count (λ b low. (arc b low).ends);
      leaders = l.0;
      start = four d.start e.start (omega (arith, d1)) (omega (arith, e1)) start.0;
      delta = four d.delta e.delta (omega (arith, d2)) (omega (arith, e2)) delta.0;
      bound = four d.bound e.bound (omega (arith, d3)) (omega (arith, e3)) bound.0;
      mode = mode;
      amounts = ext_get_or 0 d.amounts e.amounts (omega (arith, da, ea, count)) (λ b low. (arc b (omega (arith, low, da))).amount);
      hashlocks = h.0;
      keys =
          same_keys e.mode d e (subst (λ m. HasKeys m d) mode s.sized.keys) t.sized.keys n few s.keys t.keys
          (ap (λ m. key_bytes m d.keys) (sym mode) ∙ h.1);
      timelocks = ext_get_or 0 d.timelocks e.timelocks (omega (arith, dt, et, count)) (λ b low. (arc b (omega (arith, low, dt))).timelock);
    }

pub deal_bytes_tell_apart : DealBytesTellApart
deal_bytes_tell_apart d e s t q = alike d e (same_parts d e s t q)
