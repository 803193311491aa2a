-- Writes whose bytes lie behind each other, and what they leave.
use Rattle.std.proofs.Common.{◌≡◌, ◌≢◌, ℕ, zero, suc, ◌+◌, ◌-◌, ◌≤◌, replicate, map, List, [], ◌∷◌, ◌++◌, length, take, drop, refl, sym, ◌∙◌, ap, subst, arith}
use Rattle.std.proofs.lemmas.List.{length-take-le, take-append-drop, take-take, take_all, drop_all, take-append-le, drop-append-le, length-drop}
use Rattle.wallet_journal.specs.Device.{Write, written, Torn}
use Rattle.wallet_journal.specs.Held.{Held, after_writes, MayBeLeft}
use Rattle.wallet_journal.specs.Memory.{span_writes, total, with_write, all_synced, filled, crash_writes, crashed}
use Rattle.wallet_journal.specs.declared.contents.Span.{Span}

-- one span more, with its bytes behind all others
pub writes_push : (bytes more : List ℕ) (spans : List Span) (s : Span) → total spans ≡ length bytes → s.len ≡ length more
    → span_writes (bytes ++ more) (spans ++ s ∷ []) ≡ span_writes bytes spans ++ record { at = s.at; bytes = more } ∷ []
writes_push bytes more [] s all len =
    let none : bytes ≡ [] = empty bytes (omega (arith, all)) in
    ap (λ (l : List ℕ). record { at = s.at; bytes = take s.len (l ++ more) } ∷ []) none
    ∙ ap (λ (l : List ℕ). record { at = s.at; bytes = l } ∷ []) (take_all s.len more (omega (arith, len)))
  where
    empty : (l : List ℕ) → length l ≡ 0 → l ≡ []
    empty [] e = refl
    empty (x ∷ xs) e = absurd (omega (arith, e))
writes_push bytes more (t ∷ spans) s all len =
    let fits : t.len ≤ length bytes = omega (arith, all) in
    (λ i. record { at = t.at; bytes = take-append-le t.len bytes more fits i } ∷ span_writes (drop-append-le t.len bytes more fits i) (spans ++ s ∷ []))
    ∙ ap (λ (ws : List Write). record { at = t.at; bytes = take t.len bytes } ∷ ws)
    (writes_push (drop t.len bytes) more spans s (omega (arith, all, length-drop t.len bytes)) len)

pub total_push : (spans : List Span) (s : Span) → total (spans ++ s ∷ []) ≡ total spans + s.len
total_push [] s = omega arith
total_push (t ∷ spans) s = omega (arith, total_push spans s)

pub length-writes : (bytes : List ℕ) (spans : List Span) → length (span_writes bytes spans) ≡ length spans
length-writes bytes [] = refl
length-writes bytes (s ∷ spans) = ap suc (length-writes (drop s.len bytes) spans)

-- the bytes after one write more
pub after_push : (bytes : List ℕ) (ws : List Write) (w : Write) → after_writes bytes (ws ++ w ∷ []) ≡ written (after_writes bytes ws) w.at w.bytes
after_push bytes [] w = refl
after_push bytes (v ∷ ws) w = after_push (written bytes v.at v.bytes) ws w

-- the bytes after two lists of writes
pub after_both : (bytes : List ℕ) (ws vs : List Write) → after_writes bytes (ws ++ vs) ≡ after_writes (after_writes bytes ws) vs
after_both bytes [] vs = refl
after_both bytes (w ∷ ws) vs = after_both (written bytes w.at w.bytes) ws vs

-- what a crash may leave after one write more
pub left_push : (bytes : List ℕ) (ws : List Write) (w : Write) (c : List ℕ) → MayBeLeft bytes (ws ++ w ∷ []) c
    → (d : List ℕ) × MayBeLeft bytes ws d × Torn w.at (length w.bytes) d c
left_push bytes [] w c left = (bytes, refl, subst (λ (e : List ℕ). Torn w.at (length w.bytes) bytes e) (sym left.2) left.1)
left_push bytes (v ∷ ws) w c left =
    let h = left_push left.0 ws w c left.2 in
    (h.0, (left.0, left.1, h.1), h.2)

-- what a disk's contents show, by their parts
abbrev pub shown : List ℕ → List Span → ℕ → ℕ → Held
shown bytes spans synced spare = record { synced = take synced (span_writes bytes spans); loose = drop synced (span_writes bytes spans); spare = spare }

pub put_shown : (bytes more : List ℕ) (spans : List Span) (s : Span) (synced spare : ℕ) (bytes' : List ℕ) (spans' : List Span) → bytes' ≡ bytes ++ more
    → spans' ≡ spans ++ s ∷ []
    → total spans ≡ length bytes → s.len ≡ length more → synced ≤ length spans
    → shown bytes' spans' synced spare ≡ with_write (shown bytes spans synced spare) s.at more spare
put_shown bytes more spans s synced spare bytes' spans' is is' all len le =
    let fits : synced ≤ length (span_writes bytes spans) = omega (arith, le, length-writes bytes spans) in
    let w : Write = record { at = s.at; bytes = more } in
    (λ i. shown (is i) (is' i) synced spare)
    ∙ (λ i. record {
      synced = take synced (writes_push bytes more spans s all len i);
      loose = drop synced (writes_push bytes more spans s all len i);
      spare = spare;
    })
    ∙ (λ i. record {
      synced = take-append-le synced (span_writes bytes spans) (w ∷ []) fits i;
      loose = drop-append-le synced (span_writes bytes spans) (w ∷ [])
          fits i;
      spare = spare;
    })

pub settle_shown : (bytes : List ℕ) (spans : List Span) (synced n spare : ℕ) → n ≡ length spans
    → shown bytes spans n spare ≡ all_synced (shown bytes spans synced spare)
settle_shown bytes spans synced n spare is =
    let w = span_writes bytes spans in
    let whole : length (span_writes bytes spans) ≤ n = omega (arith, is, length-writes bytes spans) in
    (λ i. record {
      synced = (take_all n (span_writes bytes spans) whole ∙ sym (take-append-drop synced (span_writes bytes spans))) i;
      loose = drop_all n
          (span_writes bytes spans) whole i;
      spare = spare;
    })

nothing : (k a : ℕ) → drop (suc a) (take {A = ℕ} k []) ≡ []
nothing zero a = refl
nothing (suc k) a = refl

none_of : (m : ℕ) → take {A = ℕ} m [] ≡ []
none_of zero = refl
none_of (suc m) = refl

drop_front : (a m : ℕ) (xs : List ℕ) → drop a (take (a + m) xs) ≡ take m (drop a xs)
drop_front zero m xs = ap (λ (k : ℕ). take k xs) (omega arith)
drop_front (suc a) m [] = nothing (suc a + m) a ∙ sym (none_of m)
drop_front (suc a) m (x ∷ xs) =
    let k : suc a + m ≡ suc (a + m) = omega arith in
    ap (λ (n : ℕ). drop (suc a) (take n (x ∷ xs))) k ∙ drop_front a m xs

pub total_front : (spans : List Span) (i : ℕ) → total (take i spans) ≤ total spans
total_front [] zero = omega arith
total_front [] (suc i) = omega arith
total_front (t ∷ spans) zero = omega arith
total_front (t ∷ spans) (suc i) = omega (arith, total_front spans i)

-- the first spans, with their bytes
pub writes_front : (bytes : List ℕ) (spans : List Span) (n : ℕ) → span_writes (take (total (take n spans)) bytes) (take n spans) ≡ take n (span_writes bytes spans)
writes_front bytes spans zero = refl
writes_front bytes [] (suc n) = refl
writes_front bytes (s ∷ spans) (suc n) =
    let le : s.len ≤ s.len + total (take n spans) = omega arith in
    (λ i. record { at = s.at; bytes = take-take s.len (s.len + total (take n spans)) bytes le i } ∷ span_writes (drop_front s.len (total (take n spans)) bytes
    i) (take n spans))
    ∙ ap (λ (ws : List Write). record { at = s.at; bytes = take s.len bytes } ∷ ws) (writes_front (drop s.len bytes) spans n)

drop_within : (n m : ℕ) (v : ℕ) → n ≤ m → drop {A = ℕ} n (replicate m v) ≡ replicate (m - n) v
drop_within zero m v le = ap (λ (k : ℕ). replicate k v) (omega arith)
drop_within (suc n) zero v le = absurd (omega (arith, le))
drop_within (suc n) (suc m) v le = drop_within n m v (omega (arith, le)) ∙ ap (λ (k : ℕ). replicate k v) (omega arith)

take_within : (n m : ℕ) (v : ℕ) → n ≤ m → take {A = ℕ} n (replicate m v) ≡ replicate n v
take_within zero m v le = refl
take_within (suc n) zero v le = absurd (omega (arith, le))
take_within (suc n) (suc m) v le = ap (λ (l : List ℕ). v ∷ l) (take_within n m v (omega (arith, le)))

-- where each byte is one value
pub writes_filled : (bytes : List ℕ) (spans : List Span) (v : ℕ) → total spans ≡ length bytes
    → span_writes (replicate (length bytes) v) spans ≡ map (filled v) (span_writes bytes spans)
writes_filled bytes [] v all = refl
writes_filled bytes (s ∷ spans) v all =
    let le : s.len ≤ length bytes = omega (arith, all) in
    let rest : length bytes - s.len ≡ length (drop s.len bytes) = omega (arith, length-drop s.len bytes) in
    let own : s.len ≡ length (take s.len bytes) = sym (length-take-le s.len bytes le) in
    (λ i. record {
      at = s.at;
      bytes = (take_within s.len (length bytes) v le ∙ ap (λ (k : ℕ). replicate k v) own) i;
    } ∷ span_writes ((drop_within s.len (length bytes) v le ∙ ap (λ (k : ℕ). replicate k v) rest) i) spans)
    ∙ ap (λ (ws : List Write). record { at = s.at; bytes = replicate (length (take s.len bytes)) v } ∷ ws)
    (writes_filled (drop s.len bytes) spans v (omega (arith, all, length-drop s.len bytes)))

-- where each byte behind the first spans is one value
pub writes_lost : (bytes : List ℕ) (spans : List Span) (n v : ℕ) → total spans ≡ length bytes → n ≤ length spans
    → span_writes (take (total (take n spans)) bytes ++ replicate (length bytes - total (take n spans)) v) spans ≡ take n (span_writes bytes spans) ++ map
    (filled v) (drop n (span_writes bytes spans))
writes_lost bytes spans zero v all le = ap (λ (k : ℕ). span_writes (replicate k v) spans) (omega arith) ∙ writes_filled bytes spans v all
writes_lost bytes [] (suc n) v all le = absurd (omega (arith, le))
writes_lost bytes (s ∷ spans) (suc n) v all le =
    let t = total (take n spans) in
    let first : s.len ≤ length bytes = omega (arith, all) in
    let within : total (take n spans) ≤ total spans = total_front spans n in
    let front_size : length (take (s.len + total (take n spans)) bytes) ≡ s.len + total (take n spans) =
    length-take-le (s.len + total (take n spans)) bytes (omega (arith, all, within)) in
    let long : s.len ≤ length (take (s.len + total (take n spans)) bytes) = omega (arith, front_size) in
    let left : length bytes - (s.len + total (take n spans)) ≡ length (drop s.len bytes) - total (take n spans) = omega (arith, length-drop s.len bytes) in
    let own : take s.len (take (s.len + total (take n spans)) bytes ++ replicate (length bytes - (s.len + total (take n spans))) v) ≡ take s.len bytes =
    take-append-le s.len (take (s.len + total (take n spans)) bytes) (replicate (length bytes - (s.len + total (take n spans))) v) long
    ∙ take-take s.len (s.len + total (take n spans)) bytes (omega arith) in
    let rest : drop s.len (take (s.len + total (take n spans)) bytes ++ replicate (length bytes - (s.len + total (take n spans))) v) ≡ take
    (total (take n spans)) (drop s.len bytes) ++ replicate (length (drop s.len bytes) - total (take n spans)) v =
    drop-append-le s.len (take (s.len + total (take n spans)) bytes) (replicate (length bytes - (s.len + total (take n spans))) v) long
    ∙ (λ i. drop_front s.len (total (take n spans)) bytes i ++ replicate (left i) v) in
    (λ i. record { at = s.at; bytes = own i } ∷ span_writes (rest i) spans)
    ∙ ap (λ (ws : List Write). record { at = s.at; bytes = take s.len bytes } ∷ ws)
    (writes_lost (drop s.len bytes) spans n v (omega (arith, all, length-drop s.len bytes)) (omega (arith, le)))

pub left_other : (n : ℕ) (synced loose : List Write) → n ≢ 0 → n ≢ 1 → crash_writes n synced loose ≡ synced ++ map (filled n) loose
left_other zero synced loose not_0 not_1 = absurd (not_0 refl)
left_other (suc zero) synced loose not_0 not_1 = absurd (not_1 refl)
left_other (suc (suc n)) synced loose not_0 not_1 = refl

pub crash_shown : (bytes : List ℕ) (spans : List Span) (synced spare : ℕ) (h : Held) (bytes' : List ℕ) (spans' : List Span) (n image : ℕ)
    → shown bytes spans synced spare ≡ h → n ≡ length spans'
    → span_writes bytes' spans' ≡ crash_writes image (take synced (span_writes bytes spans)) (drop synced (span_writes bytes spans))
    → shown bytes' spans' n 0 ≡ crashed image h
crash_shown bytes spans synced spare h bytes' spans' n image is all left =
    let whole : length (span_writes bytes' spans') ≤ n = omega (arith, all, length-writes bytes' spans') in
    (λ i. record { synced = (take_all n (span_writes bytes' spans') whole ∙ left) i; loose = drop_all n (span_writes bytes' spans') whole i; spare = 0 })
    ∙ ap (crashed image) is
