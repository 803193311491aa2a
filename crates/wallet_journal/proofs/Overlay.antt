-- Reading writes into a buffer.
use Rattle.std.proofs.Common.{◌≡◌, inl, inr, ℕ, zero, suc, ◌+◌, ◌-◌, ◌≤◌, ◌<◌, max, min, List, [], ◌∷◌, ◌++◌, length, take, drop, get_or, replicate}
use Rattle.std.proofs.Common.{refl, sym, ◌∙◌, ap, subst, arith}
use Rattle.std.specs.List.{AllByRecursion}
use Rattle.std.proofs.lemmas.Bool.{cases_lt}
use Rattle.std.proofs.lemmas.List.{get_or-take, get_or-drop, get_or_append_left, length-take-le, length-drop, ext_get_or, take_more, drop-drop}
use Rattle.std.proofs.lemmas.List.{take-append-drop, take_all}
use Rattle.wallet_journal.specs.Device.{Write, slice, written, Torn}
use Rattle.wallet_journal.specs.Layout.{byte}
use Rattle.wallet_journal.specs.Held.{disk_size, no_bytes, after_writes, visible_bytes, IsOnDisk}
use Rattle.wallet_journal.specs.Memory.{span_writes, total}
use Rattle.wallet_journal.specs.declared.contents.Span.{Span}
use Rattle.wallet_journal.proofs.Bytes.{byte_before, byte_after, drop_written, written_torn}
use Rattle.wallet_journal.proofs.Writes.{after_push, after_both, length-writes, shown}
use Rattle.wallet_journal.proofs.Holds.{both_on, writes_size, none_size, size_is}

byte_in : (c : List ℕ) (at n j : ℕ) → j < n → get_or (slice at n c) j 0 ≡ byte c (at + j)
byte_in c at n j lt = get_or-take n (drop at c) j 0 lt ∙ get_or-drop at c j 0

slice_size : (c : List ℕ) (at n : ℕ) → at + n ≤ length c → length (slice at n c) ≡ n
slice_size c at n le = length-take-le n (drop at c) (omega (arith, le, length-drop at c))

-- the byte at a place of a range that was written
written_in : (old bytes : List ℕ) (at p : ℕ) → at + length bytes ≤ length old → at ≤ p → p < at + length bytes
    → byte (written old at bytes) p ≡ byte bytes (p - at)
written_in old bytes at p fits le lt =
    let place : at + (p - at) ≡ p = omega (arith, le) in
    ap (byte (written old at bytes)) (sym place)
    ∙ sym (get_or-drop at (written old at bytes) (p - at) 0)
    ∙ ap (λ (l : List ℕ). get_or l (p - at) 0) (drop_written old at bytes fits)
    ∙ get_or_append_left bytes (drop (at + length bytes) old) 0 (p - at) (omega (arith, le, lt))

-- a list that has the bytes of a write where it reaches, and else those from before, is the slice
-- after the write
overlaid : (new old bytes : List ℕ) (at n place : ℕ) → length new ≡ n → at + n ≤ length old → place + length bytes ≤ length old
    → ((i : ℕ) → i < n → at + i < place → byte new i ≡ byte old (at + i))
    → ((i : ℕ) → i < n → place ≤ at + i → at + i < place + length bytes → byte new i ≡ byte bytes (at + i - place))
    → ((i : ℕ) → i < n → place + length bytes ≤ at + i → byte new i ≡ byte old (at + i))
    → new ≡ slice at n (written old place bytes)
overlaid new old bytes at n place size range fits before inside after =
    let torn = written_torn old place bytes fits in
    let whole = slice_size (written old place bytes) at n (omega (arith, range, torn.as_long)) in
    ext_get_or 0 new (slice at n (written old place bytes)) (size ∙ sym whole) (λ i lt. at_i i (omega (arith, lt, size)))
  where
    at_i : (i : ℕ) → i < n → byte new i ≡ byte (slice at n (written old place bytes)) i
    at_i i lt = elim (cases_lt (at + i) place) [
      | inl less ↦ before i lt less ∙ sym (byte_in (written old place bytes) at n i lt
          ∙ byte_before place (length bytes) old (written old place bytes) (written_torn old place bytes fits) (at + i) less)
      | inr more ↦ elim (cases_lt (at + i) (place + length bytes)) [
        | inl within ↦ inside i lt more within ∙ sym (byte_in (written old place bytes) at n i lt ∙ written_in old bytes place (at + i) fits more within)
        | inr past ↦ after i lt past ∙ sym (byte_in (written old place bytes) at n i lt
            ∙ byte_after place (length bytes) old (written old place bytes) (written_torn old place bytes fits) (at + i) past)
      ]
    ]

-- the write doesn't reach the buffer
pub overlay_none : (old bytes buf : List ℕ) (at place from to : ℕ) → length old ≡ 549426 → at + length buf ≤ 549426 → place + length bytes ≤ 549426
    → from ≡ max at place → to ≡ min (at + length buf) (place + length bytes) → to ≤ from → buf ≡ slice at (length buf) old
    → buf ≡ slice at (length buf) (written old place bytes)
overlay_none old bytes buf at place from to size range fits is is' none same =
    overlaid buf old bytes at (length buf) place refl (omega (arith, size, range)) (omega (arith, size, fits))
    (λ i lt less. there i lt) (λ i lt le within. absurd (omega (arith, lt, le, within, is, is', none))) (λ i lt past. there i lt)
  where
    there : (i : ℕ) → i < length buf → byte buf i ≡ byte old (at + i)
    there i lt = ap (λ (l : List ℕ). byte l i) same ∙ byte_in old at (length buf) i lt

-- the write reaches it
pub overlay_some : (old bytes buf part : List ℕ) (at place from to : ℕ) → length old ≡ 549426 → at + length buf ≤ 549426 → place + length bytes ≤ 549426
    → from ≡ max at place → to ≡ min (at + length buf) (place + length bytes) → from < to
    → part ≡ take (to - place - (from - place)) (drop (from - place) bytes)
    → buf ≡ slice at (length buf) old → written buf (from - at) part ≡ slice at (length buf) (written old place bytes)
overlay_some old bytes buf part at place from to size range fits is is' some part_is same =
    overlaid (written buf (from - at) part) old bytes at (length buf) place (torn.as_long) (omega (arith, size, range)) (omega (arith, size, fits))
    (λ i lt less. byte_before (from - at) (length part) buf (written buf (from - at) part) torn i (omega (arith, less, is)) ∙ there i lt)
    (λ i lt le within.
    written_in buf part (from - at) i part_fits (omega (arith, is, le)) (omega (arith, is, is', le, within, lt, some, part_size))
    ∙ ap (λ (l : List ℕ). byte l (i - (from - at))) part_is
    ∙ get_or-take (to - place - (from - place)) (drop (from - place) bytes) (i - (from - at)) 0 (omega (arith, is, is', le, within, lt, some))
    ∙ get_or-drop (from - place) bytes (i - (from - at)) 0
    ∙ ap (byte bytes) (omega (arith, is, le)))
    (λ i lt past. byte_after (from - at) (length part) buf (written buf (from - at) part) torn i (omega (arith, is, is', past, lt, some, part_size))
    ∙ there i lt)
  where
    part_size : length part ≡ to - from
    part_size =
        ap length part_is ∙ length-take-le (to - place - (from - place)) (drop (from - place) bytes)
        (omega (arith, length-drop (from - place) bytes, is, is', some)) ∙ omega (arith, is, some)

    part_fits : from - at + length part ≤ length buf
    part_fits = omega (arith, part_size, is, is', some)

    torn : Torn (from - at) (length part) buf (written buf (from - at) part)
    torn = written_torn buf (from - at) part part_fits

    there : (i : ℕ) → i < length buf → byte buf i ≡ byte old (at + i)
    there i lt = ap (λ (l : List ℕ). byte l i) same ∙ byte_in old at (length buf) i lt

-- a buffer of nothing but 0 is a part of a disk on which nothing was written
zeros : (at n m : ℕ) → at + n ≤ m → take {A = ℕ} n (drop at (replicate m 0)) ≡ replicate n 0
zeros zero zero m le = refl
zeros zero (suc n) zero le = absurd (omega (arith, le))
zeros zero (suc n) (suc m) le = ap (λ (l : List ℕ). 0 ∷ l) (zeros zero n m (omega (arith, le)))
zeros (suc at) n zero le = absurd (omega (arith, le))
zeros (suc at) n (suc m) le = zeros at n m (omega (arith, le))

pub cleared : (at n : ℕ) (buf : List ℕ) → at + n ≤ 549426 → buf ≡ replicate n 0 → buf ≡ slice at n no_bytes
cleared at n buf le is = is ∙ sym (zeros at n disk_size (omega (arith, le, size_is)))

-- the write of a span, in the list of all
write_of : (bytes : List ℕ) (spans : List Span) (i : ℕ) (s : Span) (d : Write) → i < length spans → s ≡ get_or spans i s
    → get_or (span_writes bytes spans) i d ≡ record { at = s.at; bytes = take s.len (drop (total (take i spans)) bytes) }
write_of bytes [] i s d lt is = absurd (omega (arith, lt))
write_of bytes (t ∷ spans) zero s d lt is = ap (λ (x : Span). record { at = x.at; bytes = take x.len bytes }) (sym is)
write_of bytes (t ∷ spans) (suc i) s d lt is =
    write_of (drop t.len bytes) spans i s d (omega (arith, lt)) is
    ∙ ap (λ (l : List ℕ). record { at = s.at; bytes = take s.len l }) (drop-drop (total (take i spans)) t.len bytes)

pub total_more : (spans : List Span) (i : ℕ) (s : Span) → i < length spans → s ≡ get_or spans i s → total (take (i + 1) spans) ≡ total (take i spans) + s.len
total_more [] i s lt is = absurd (omega (arith, lt))
total_more (t ∷ spans) zero s lt is = omega (arith, ap (λ (x : Span). x.len) is)
total_more (t ∷ spans) (suc i) s lt is =
    let n : suc i + 1 ≡ suc (i + 1) = omega arith in
    ap (λ (k : ℕ). total (take k (t ∷ spans))) n ∙ omega (arith, total_more spans i s (omega (arith, lt)) is)

pub total_within : (spans : List Span) (i : ℕ) → total (take i spans) ≤ total spans
total_within [] zero = omega arith
total_within [] (suc i) = omega arith
total_within (t ∷ spans) zero = omega arith
total_within (t ∷ spans) (suc i) = omega (arith, total_within spans i)

-- the end of a span's bytes
pub ends_within : (bytes : List ℕ) (spans : List Span) (i start : ℕ) (s : Span) → total spans ≡ length bytes → i < length spans → s ≡ get_or spans i s
    → start ≡ total (take i spans) → start + s.len ≤ length bytes
ends_within bytes spans i start s all lt is at = omega (arith, all, at, total_more spans i s lt is, total_within spans (i + 1))

on_front : (i : ℕ) (ws : List Write) → AllByRecursion IsOnDisk ws → AllByRecursion IsOnDisk (take i ws)
on_front zero ws all = tt
on_front (suc i) [] all = tt
on_front (suc i) (w ∷ ws) all = (all.0, on_front i ws all.1)

on_at : (i : ℕ) (ws : List Write) (w : Write) → i < length ws → w ≡ get_or ws i w → AllByRecursion IsOnDisk ws → IsOnDisk w
on_at i [] w lt is all = absurd (omega (arith, lt))
on_at zero (v ∷ ws) w lt is all = subst IsOnDisk (sym is) all.0
on_at (suc i) (v ∷ ws) w lt is all = on_at i ws w (omega (arith, lt)) is all.1

module _ (bytes : List ℕ) (spans : List Span) (i start : ℕ) (s : Span) (lt : i < length spans) (is : s ≡ get_or spans i s)
    (at : start ≡ total (take i spans)) (all : AllByRecursion IsOnDisk (span_writes bytes spans)) where
  abbrev part : List ℕ
  part = take s.len (drop start bytes)

  write_is : record { at = s.at; bytes = take s.len (drop start bytes) } ≡ get_or (span_writes bytes spans) i
      (record { at = s.at; bytes = take s.len (drop start bytes) })
  write_is =
      ap (λ (n : ℕ). record { at = s.at; bytes = take s.len (drop n bytes) }) at
      ∙ sym (write_of bytes spans i s (record { at = s.at; bytes = take s.len (drop start bytes) }) lt is)

  longer : i < length (span_writes bytes spans)
  longer = omega (arith, lt, length-writes bytes spans)

  pub span_on : s.at + length (take s.len (drop start bytes)) ≤ 549426
  span_on = on_at i (span_writes bytes spans) (record { at = s.at; bytes = take s.len (drop start bytes) }) longer write_is all

  -- the writes up to this one
  pub writes_more : after_writes no_bytes (take (i + 1) (span_writes bytes spans)) ≡ written (after_writes no_bytes (take i (span_writes bytes spans))) s.at
      (take s.len (drop start bytes))
  writes_more =
      ap (after_writes no_bytes) (take_more (span_writes bytes spans) i (record { at = s.at; bytes = take s.len (drop start bytes) }) longer
      ∙ ap (λ (w : Write). take i (span_writes bytes spans) ++ w ∷ []) (sym write_is))
      ∙ after_push no_bytes (take i (span_writes bytes spans)) (record { at = s.at; bytes = take s.len (drop start bytes) })

  pub so_far_size : length (after_writes no_bytes (take i (span_writes bytes spans))) ≡ 549426
  so_far_size = writes_size no_bytes (take i (span_writes bytes spans)) none_size (on_front i (span_writes bytes spans) all)

  pub start_more : start + s.len ≡ total (take (i + 1) spans)
  start_more = omega (arith, at, total_more spans i s lt is)

pub all_read : (bytes : List ℕ) (spans : List Span) (i : ℕ) → length spans ≤ i
    → after_writes no_bytes (take i (span_writes bytes spans)) ≡ after_writes no_bytes (span_writes bytes spans)
all_read bytes spans i le = ap (after_writes no_bytes) (take_all i (span_writes bytes spans) (omega (arith, le, length-writes bytes spans)))

-- all writes, synced and loose
pub read_whole : (bytes : List ℕ) (spans : List Span) (synced spare : ℕ)
    → after_writes no_bytes (span_writes bytes spans) ≡ visible_bytes (shown bytes spans synced spare)
read_whole bytes spans synced spare =
    ap (after_writes no_bytes) (sym (take-append-drop synced (span_writes bytes spans)))
    ∙ after_both no_bytes (take synced (span_writes bytes spans)) (drop synced (span_writes bytes spans))

pub on_whole : (bytes : List ℕ) (spans : List Span) (synced : ℕ) → AllByRecursion IsOnDisk (take synced (span_writes bytes spans))
    → AllByRecursion IsOnDisk (drop synced (span_writes bytes spans))
    → AllByRecursion IsOnDisk (span_writes bytes spans)
on_whole bytes spans synced front back =
    subst (AllByRecursion IsOnDisk) (take-append-drop synced (span_writes bytes spans))
    (both_on (take synced (span_writes bytes spans)) (drop synced (span_writes bytes spans)) front back)
