-- Rows in any order come to one list.
use Rattle.std.proofs.Common.{◌≡◌, ◌≢◌, ◌==◌, ◌&&◌, ◌<◌, ℕ, nat_le, Bool, true, false, cond, List, [], ◌∷◌, codes, length, map, replicate, slice_set}
use Rattle.std.proofs.Common.{Option, Some, None, Result, Ok, Err, refl, sym, ap, ◌∙◌, inl, inr, arith, subst, eqb-true}
use Rattle.std.specs.Prelude.{All}
use Rattle.std.proofs.lemmas.Bool.{eqb-false, le-leb}
use Rattle.std.proofs.lemmas.List.{ext_get_or, get_or-replicate, get_or-set_other, length-map, length-replicate, length-set}
use Rattle.std.proofs.lemmas.List.Elements.{All-map, All-nil}
use Rattle.std.proofs.lemmas.List.FromFn.{get_or-map-range_with_len, length-map-range_with_len, length-range_with_len}
use Rattle.std.proofs.lemmas.Grind.{get_or-set_at}
use Rattle.sha2.specs.Sha256.{sha256}
use Rattle.sha2.proofs.Facts256.{length-sha256}
use Rattle.swap_base.specs.Fault.{◌>>=◌}
use Rattle.swap_base.specs.Lists.{IsElement}
use Rattle.swap_digraph.specs.declared.deal.Deal.{Deal}
use Rattle.swap_digraph.specs.declared.deal.Mode.{Mode}
use Rattle.swap_digraph.specs.declared.deal.Mode.TheVariants.{Timelocks, Hashkeys}
use Rattle.swap_digraph.specs.Deal.{locks}
use Rattle.hash_signature.specs.Signature.{derive_public_key}
use Rattle.party_machine.proofs.Digests.{digest_below}
use Rattle.swap_rules.specs.Party.{leads_one}
use Rattle.swap_job.specs.declared.job.Job.{Job}
use Rattle.command_input.specs.declared.refusal.Refusal.{Refusal}
use Rattle.command_input.specs.declared.reason.Reason.{Reason}
use Rattle.command_input.specs.declared.reason.Reason.TheVariants.{OverLimit}
use Rattle.command_input.specs.Refusal.{named_result}
use Rattle.typed_books.specs.Typed.{IsDigest}
use Rattle.offer_moves.specs.FieldLimits.{check_range}
use Rattle.offer_header.specs.Names.{is_name}
use Rattle.swap_gen.specs.Made.{seed_or_zeros}
use Rattle.transcript_book.specs.Between.{spaced}
use Rattle.transcript_book.proofs.SeparatedParts.{IsHigh}
use Rattle.party_rows.specs.Lines.{following_line_number, or_bad_line}
use Rattle.party_rows.specs.Names.{party_named}
use Rattle.party_rows.specs.declared.row.Row.{Row}
use Rattle.party_rows.specs.Laws.{seeded_rows}
use Rattle.party_rows.specs.Inside.{IsOffered}
use Rattle.party_rows.specs.Row.{parse_row, row_words, seeded_hashlock, seeded_keys, seeded_row}
use Rattle.party_rows.specs.Rows.{check_first, count_hashlocks, find_row, hashlocks_wanted, keys_wanted, parse_rows, right_hashlock, right_keys, with_party_row, with_row}
use Rattle.party_rows.specs.Rows.{with_rows}
use Rattle.read_back.specs.Texts.{job_party_name, AreApart, IsEachPartyOnce}
use Rattle.read_back.proofs.Named.{finds}
use Rattle.read_back.proofs.RowBack.{named_row, row_back, row_high, MayBeDigest}

pub step : {A B : Type 0} (r : Result A Refusal) (x : A) (f : A → Result B Refusal) → r ≡ Ok x → (r >>= f) ≡ f x
step r x f e = ap (λ (q : Result _ Refusal). q >>= f) e

-- ---- a row that a seed gives is right

hash_is : (m : List ℕ) → IsDigest (sha256 m)
hash_is m = record { size = length-sha256 m; bytes = digest_below m }

key_is : (seed : List ℕ) (p lock : ℕ) → IsDigest (derive_public_key seed p lock)
unfolding derive_public_key
key_is seed p lock = hash_is _

hashlock_is : (b : Bool) (seed : List ℕ) → MayBeDigest (seeded_hashlock b seed)
hashlock_is true seed = hash_is _
hashlock_is false seed = tt

keys_are : (m : Mode) (seed : List ℕ) (p : ℕ) (d : Deal) → All IsDigest (seeded_keys m seed p d)
keys_are Timelocks seed p d = All-nil IsDigest
keys_are Hashkeys seed p d = All-map IsDigest (derive_public_key seed p) (locks d) (λ i e lt. key_is seed p _)

as_many : (b : Bool) (seed : List ℕ) → count_hashlocks (seeded_hashlock b seed) ≡ hashlocks_wanted b
as_many true seed = refl
as_many false seed = refl

keys_count : (m : Mode) (seed : List ℕ) (p : ℕ) (d : Deal) → length (seeded_keys m seed p d) ≡ keys_wanted m d
keys_count Timelocks seed p d = refl
keys_count Hashkeys seed p d = length-map (locks d) (derive_public_key seed p) ∙ length-range_with_len 0 (length d.leaders)

both_true : (a b : Bool) → a ≡ true → b ≡ true → (a && b) ≡ true
both_true true b x y = y
both_true false b x y = absurd (cc x)

-- a number is within itself
within_itself : (line : ℕ) (field : List ℕ) (n m : ℕ) → m ≡ n → named_result [] (check_range line field n n m) ≡ Ok tt
unfolding check_range
within_itself line field n m same =
    let over : Result (Unit {0}) Reason = Err (OverLimit line field m) in
    ap (λ t. named_result [] (cond t (Ok tt) over))
    (both_true (nat_le n m) (nat_le m n) (le-leb n m (omega (arith, same))) (le-leb m n (omega (arith, same))))

right_lock : (line : ℕ) (seed : List ℕ) (p : ℕ) (d : Deal) → right_hashlock line (leads_one d p) (seeded_row seed p d) ≡ Ok tt
unfolding right_hashlock seeded_row
right_lock line seed p d =
    within_itself line (codes "hashlock") (hashlocks_wanted (leads_one d p)) (count_hashlocks (seeded_hashlock (leads_one d p) seed)) (as_many (leads_one d p) seed)

right_count : (line : ℕ) (seed : List ℕ) (p : ℕ) (d : Deal) → right_keys line d (seeded_row seed p d) ≡ Ok tt
unfolding right_keys seeded_row
right_count line seed p d = within_itself line (codes "keys") (keys_wanted d.mode d) (length (seeded_keys d.mode seed p d)) (keys_count d.mode seed p d)

-- ---- one row after another

module _ (job : Job) (seeds : List (Option (List ℕ))) (k : IsOffered job) (names : All (λ x. is_name x ≡ true) job.names) where
  abbrev row : ℕ → Row
  row p = seeded_row (seed_or_zeros seeds p) p job.deal

  abbrev pub row_text : ℕ → List ℕ
  row_text p = spaced (row_words (job_party_name job p) (row p))

  reads : (p : ℕ) → p < length job.names → parse_row (row_text p) ≡ Ok (named_row (job_party_name job p) (row p))
  unfolding seeded_row
  reads p lt =
      row_back (job_party_name job p) (row p) (names p [] lt) (hashlock_is (leads_one job.deal p) (seed_or_zeros seeds p))
      (keys_are job.deal.mode (seed_or_zeros seeds p) p job.deal)

  pub is_high : (p : ℕ) → p < length job.names → IsHigh 32 (row_text p)
  unfolding seeded_row
  is_high p lt =
      row_high (job_party_name job p) (row p) (names p [] lt) (hashlock_is (leads_one job.deal p) (seed_or_zeros seeds p))
      (keys_are job.deal.mode (seed_or_zeros seeds p) p job.deal)

  takes : (line : ℕ) (rows : List (Option Row)) (p : ℕ) → p < length job.names → find_row rows p ≡ None
      → with_row job line rows (row_text p) ≡ Ok (slice_set rows p (Some (row p)))
  unfolding with_row with_party_row
  takes line rows p lt none =
      let r = named_row (job_party_name job p) (row p) in
      step (or_bad_line line (parse_row (row_text p))) r _ (ap (or_bad_line line) (reads p lt))
      ∙ step (party_named line job.names (job_party_name job p)) p _ (finds line job.names p k.names lt)
      ∙ step (check_first line (job_party_name job p) (find_row rows p)) tt _ (ap (check_first line (job_party_name job p)) none)
      ∙ step (right_hashlock line (leads_one job.deal p) (row p)) tt _ (right_lock line (seed_or_zeros seeds p) p job.deal)
      ∙ step (right_keys line job.deal (row p)) tt _ (right_count line (seed_or_zeros seeds p) p job.deal)

  abbrev n : ℕ
  n = job.deal.graph.n

  -- Those in the order are still to come, and all others are there.
  record StandsBefore (order : List ℕ) (rows : List (Option Row)) : Type 0 where
    one_each : length rows ≡ n
    there : (p : ℕ) → p < n → ¬ IsElement p order → find_row rows p ≡ Some (row p)
    missing : (p : ℕ) → IsElement p order → find_row rows p ≡ None

  all_there : (rows : List (Option Row)) → StandsBefore [] rows → rows ≡ seeded_rows seeds job.deal
  all_there rows s =
      let give : ℕ → Option Row = λ p. Some (row p) in
      ext_get_or None rows (seeded_rows seeds job.deal) (s.one_each ∙ sym (length-map-range_with_len give 0 n)) (λ p lt.
      let below : p < n = omega (arith, s.one_each, lt) in
      s.there p below (λ i. i) ∙ sym (get_or-map-range_with_len give 0 n p p None below (omega arith)))

  goes_on : (p : ℕ) (ps : List ℕ) (rows : List (Option Row)) → p < n → ¬ IsElement p ps → StandsBefore (p ∷ ps) rows → StandsBefore ps (slice_set rows p (Some (row p)))
  goes_on p ps rows lt apart s = record {
    one_each = length-set rows p (Some (row p)) ∙ s.one_each;
    there = λ q below out. here q below out (q == p) refl;
    missing = λ q i.
        let other : q ≢ p = λ same. apart (subst (λ x. IsElement x ps) same i) in
        get_or-set_other rows p q (Some (row p)) None other ∙ s.missing q (inr i);
  }
    where
      not_in : (q : ℕ) → q ≢ p → ¬ IsElement q ps → IsElement q (p ∷ ps) → ⊥
      not_in q other out (inl e) = other e
      not_in q other out (inr i) = out i

      here : (q : ℕ) → q < n → ¬ IsElement q ps → (b : Bool) → (q == p) ≡ b → find_row (slice_set rows p (Some (row p))) q ≡ Some (row q)
      here q below out true e =
          let same : q ≡ p = eqb-true q p e in
          let inside : p < length rows = omega (arith, s.one_each, lt) in
          get_or-set_at rows p q (Some (row p)) None same inside ∙ ap (λ x. Some (row x)) (sym same)
      here q below out false e =
          let other : q ≢ p = eqb-false q p e in
          get_or-set_other rows p q (Some (row p)) None other ∙ s.there q below (λ i. not_in q other out i)

  takes_all : (line : ℕ) (order : List ℕ) (rows : List (Option Row)) → ((p : ℕ) → IsElement p order → p < n) → AreApart order → StandsBefore order rows
      → with_rows job line rows (map row_text order) ≡ Ok (seeded_rows seeds job.deal)
  takes_all line [] rows below apart s = ap (λ (l : List (Option Row)). Ok l) (all_there rows s)
  takes_all line (p ∷ ps) rows below apart s =
      let lt = below p (inl refl) in
      let named_lt : p < length job.names = omega (arith, k.whole.names, lt) in
      step (with_row job line rows (row_text p)) (slice_set rows p (Some (row p))) _ (takes line rows p named_lt (s.missing p (inl refl)))
      ∙ takes_all (following_line_number line) ps (slice_set rows p (Some (row p))) (λ q i. below q (inr i)) apart.1 (goes_on p ps rows lt apart.0 s)

  pub rows_back : (line : ℕ) (order : List ℕ) → IsEachPartyOnce n order → parse_rows job line (map row_text order) ≡ Ok (seeded_rows seeds job.deal)
  unfolding parse_rows
  rows_back line order o =
      takes_all line order (replicate n None) o.below o.apart (record {
        one_each = length-replicate n None;
        there = λ p lt out. absurd (out (o.each p lt));
        missing = λ p i. get_or-replicate n p None None (o.below p i);
      })
