-- From text to text.
use Rattle.std.proofs.Common.{◌≡◌, ◌<◌, ℕ, ◌+◌, List, [], ◌∷◌, ◌++◌, codes, length, map, Option, Some, None, Result, Ok, refl, ap, ap₂, ◌∙◌, inl, inr, arith}
use Rattle.std.specs.Prelude.{is_none}
use Rattle.std.specs.List.{flat_map, position_from, range_with_len, AllByRecursion}
use Rattle.std.proofs.lemmas.Iterator.Adapters.{position_from-zero}
use Rattle.hex.specs.Hex.{encode_lower}
use Rattle.swap_base.specs.Fault.{◌>>=◌}
use Rattle.swap_base.specs.Lists.{IsElement}
use Rattle.swap_job.specs.declared.job.Job.{Job}
use Rattle.command_input.specs.declared.refusal.Refusal.{Refusal}
use Rattle.typed_books.specs.Typed.{IsDigest}
use Rattle.swap_gen.specs.Made.{seed_or_zeros}
use Rattle.transcript_book.specs.declared.said.Misspelling.{Misspelling}
use Rattle.transcript_book.specs.Between.{fed_lines, spaced}
use Rattle.transcript_book.specs.Reading.{lower_hex_digest}
use Rattle.transcript_book.proofs.SeparatedParts.{high_between, high_too, parts_between}
use Rattle.transcript_book.proofs.Hex.{digest_back, high_hex}
use Rattle.transcript_book.proofs.Spelling.{field_back}
use Rattle.party_rows.specs.Digests.{digest_line, digest_told, this_word, told_digest}
use Rattle.party_rows.specs.Lines.{ended_lines, or_bad_line}
use Rattle.party_rows.specs.Names.{party_named}
use Rattle.party_rows.specs.Dealt.{dealt, dealt_line}
use Rattle.party_rows.specs.Keys.{deal_by_refusal, deal_from_rows, deal_output, keys_from_lines, keys_output, parse_dealing, parse_dealing_lines, row_from_lines, row_of_name}
use Rattle.party_rows.specs.Keys.{unless_missing, DealingState}
use Rattle.party_rows.specs.Laws.{seeded_rows}
use Rattle.party_rows.specs.Offer.{parse_offer}
use Rattle.party_rows.specs.Row.{row_line, seeded_row}
use Rattle.party_rows.specs.Rows.{first_missing, parse_rows}
use Rattle.party_rows.proofs.Making.{dealt_line_is_made}
use Rattle.read_back.specs.Texts.{deal_input, keys_input, job_party_name, seeded_row_line, AreSeeds, DealsOfRowsAreMade, IsOfferLine, IsEachPartyOnce, KeysGiveRows}
use Rattle.read_back.proofs.Ends.{ended_back, no_feed, HasNoFeed}
use Rattle.read_back.proofs.Named.{finds}
use Rattle.read_back.proofs.Proposing.{is_read, IsOfferedJob}
use Rattle.read_back.proofs.Order.{is_high, row_text, rows_back, step}

went : {A B : Type 0} (r : Result A Misspelling) (x : A) (f : A → Result B Misspelling) → r ≡ Ok x → (r >>= f) ≡ f x
went r x f e = ap (λ (q : Result _ Misspelling). q >>= f) e

-- ---- the line of a seed

abbrev seed_text : List ℕ → List ℕ
seed_text seed = spaced (codes "seed" ∷ encode_lower seed ∷ [])

seed_said : (seed : List ℕ) → IsDigest seed → told_digest (codes "seed") (codes "seed" ∷ encode_lower seed ∷ []) ≡ Ok seed
unfolding told_digest
seed_said seed k =
    went _ (tt, encode_lower seed ∷ []) _ (field_back (this_word (codes "seed")) (codes "seed") tt (encode_lower seed ∷ []) refl)
    ∙ went _ (seed, []) _ (field_back lower_hex_digest (encode_lower seed) seed [] (digest_back seed k))

seed_back : (seed : List ℕ) → IsDigest seed → digest_told (codes "seed") 1 (seed_text seed) ≡ Ok seed
unfolding digest_told
seed_back seed k =
    ap (λ ws. or_bad_line 1 (told_digest (codes "seed") ws))
    (parts_between 32 33 (codes "seed") (encode_lower seed ∷ []) (omega arith) refl (high_too 33 48 (encode_lower seed) (omega arith) (high_hex seed k.bytes), tt))
    ∙ ap (or_bad_line 1) (seed_said seed k)

seed_no_feed : (seed : List ℕ) → IsDigest seed → HasNoFeed (seed_text seed)
seed_no_feed seed k =
    no_feed (seed_text seed)
    (high_between 32 32 (codes "seed") (encode_lower seed ∷ []) (omega arith) refl (high_too 32 48 (encode_lower seed) (omega arith) (high_hex seed k.bytes), tt))

-- ---- keys

module _ (offer : List ℕ) (job : Job) (seeds : List (Option (List ℕ))) (k : IsOfferLine offer job) (s : AreSeeds seeds job) where
  known : IsOfferedJob job
  known = is_read 1 offer job k.reads

  named_below : (p : ℕ) → p < job.deal.graph.n → p < length job.names
  named_below p lt = omega (arith, known.offered.whole.names, lt)

  row_is : (p : ℕ) → p < job.deal.graph.n
      → row_from_lines (job_party_name job p) (seed_or_zeros seeds p) (offer ∷ []) ≡ Ok (seeded_row_line seeds job p)
  unfolding row_from_lines row_of_name
  row_is p lt =
      step (parse_offer 2 offer) job _ k.reads_second
      ∙ step (party_named 2 job.names (job_party_name job p)) p _ (finds 2 job.names p known.offered.names (named_below p lt))

  line_is : (p : ℕ) → p < job.deal.graph.n
      → digest_line (codes "seed") 1 (seed_text (seed_or_zeros seeds p) ∷ offer ∷ []) ≡ Ok (seed_or_zeros seeds p, offer ∷ [])
  unfolding digest_line
  line_is p lt = step (digest_told (codes "seed") 1 (seed_text (seed_or_zeros seeds p))) (seed_or_zeros seeds p) _ (seed_back (seed_or_zeros seeds p) (s p lt))

  pub keys_give : (p : ℕ) → p < job.deal.graph.n → keys_output (job_party_name job p) (keys_input (seed_or_zeros seeds p) offer) ≡ Ok (seeded_row_line seeds job p)
  unfolding keys_output keys_from_lines
  keys_give p lt =
      let seed = seed_or_zeros seeds p in
      step (ended_lines (keys_input seed offer)) (seed_text seed ∷ offer ∷ []) (keys_from_lines (job_party_name job p))
      (ended_back (seed_text seed) (offer ∷ []) (seed_no_feed seed (s p lt)) (k.one_line, tt))
      ∙ step (digest_line (codes "seed") 1 (seed_text seed ∷ offer ∷ [])) (seed, offer ∷ []) _ (line_is p lt)
      ∙ row_is p lt

  -- ---- deal

  abbrev text : ℕ → List ℕ
  text p = row_text job seeds known.offered known.names p

  same_texts : (rows : ℕ → List ℕ) (order : List ℕ) → ((p : ℕ) → IsElement p order → rows p ≡ text p ++ 10 ∷ []) → flat_map rows order ≡ fed_lines (map text order)
  same_texts rows [] same = refl
  same_texts rows (p ∷ ps) same = ap₂ (λ (a b : List ℕ). a ++ b) (same p (inl refl)) (same_texts rows ps (λ q i. same q (inr i)))

  no_feeds : (order : List ℕ) → ((p : ℕ) → IsElement p order → p < job.deal.graph.n) → AllByRecursion HasNoFeed (map text order)
  no_feeds [] below = tt
  no_feeds (p ∷ ps) below =
      (no_feed (text p) (is_high job seeds known.offered known.names p (named_below p (below p (inl refl)))), no_feeds ps (λ q i. below q (inr i)))

  abbrev state : DealingState
  state = record { job = job; rows = seeded_rows seeds job.deal }

  dealing_is : (order : List ℕ) → IsEachPartyOnce job.deal.graph.n order → parse_dealing_lines (offer ∷ map text order) ≡ Ok state
  unfolding parse_dealing_lines
  dealing_is order o =
      step (parse_offer 1 offer) job _ k.reads
      ∙ step (parse_rows job 2 (map text order)) (seeded_rows seeds job.deal) _ (rows_back job seeds known.offered known.names 2 order o)

  whole_is : (order : List ℕ) → IsEachPartyOnce job.deal.graph.n order → parse_dealing (fed_lines (offer ∷ map text order)) ≡ Ok state
  unfolding parse_dealing
  whole_is order o =
      step (ended_lines (fed_lines (offer ∷ map text order))) (offer ∷ map text order) parse_dealing_lines
      (ended_back offer (map text order) k.one_line (no_feeds order o.below))
      ∙ dealing_is order o

  none_from : (i : ℕ) (xs : List ℕ) → position_from is_none i (map (λ p. Some (seeded_row (seed_or_zeros seeds p) p job.deal)) xs) ≡ None
  none_from i [] = refl
  none_from i (x ∷ xs) = none_from (i + 1) xs

  none_missing : first_missing (seeded_rows seeds job.deal) ≡ None
  none_missing = position_from-zero is_none (seeded_rows seeds job.deal) ∙ none_from 0 (range_with_len 0 job.deal.graph.n)

  deal_is : (order : List ℕ) → IsEachPartyOnce job.deal.graph.n order
      → deal_output (fed_lines (offer ∷ map text order)) ≡ Ok (dealt_line (dealt (seeded_rows seeds job.deal) job))
  unfolding deal_output deal_from_rows
  deal_is order o =
      ap (λ (r : Result DealingState Refusal). deal_by_refusal r >>= deal_from_rows) (whole_is order o) ∙ ap (unless_missing state) none_missing

  -- the rows that are written are those that the seeds give
  same_ok : (a b : List ℕ) (r : Result (List ℕ) Refusal) → r ≡ Ok a → r ≡ Ok b → a ≡ b
  same_ok a b r x y = cc (x, y)

  row_texts : (rows : ℕ → List ℕ) (p : ℕ) → p < job.deal.graph.n
      → keys_output (job_party_name job p) (keys_input (seed_or_zeros seeds p) offer) ≡ Ok (rows p) → rows p ≡ text p ++ 10 ∷ []
  unfolding row_line
  row_texts rows p lt written = same_ok (rows p) (seeded_row_line seeds job p) _ written (keys_give p lt)

  pub deal_of_rows : (order : List ℕ) (rows : ℕ → List ℕ) → IsEachPartyOnce job.deal.graph.n order
      → ((p : ℕ) → p < job.deal.graph.n → keys_output (job_party_name job p) (keys_input (seed_or_zeros seeds p) offer) ≡ Ok (rows p))
      → deal_output (deal_input offer rows order) ≡ Ok (dealt_line (dealt (seeded_rows seeds job.deal) job))
  deal_of_rows order rows o written =
      ap (λ (t : List ℕ). deal_output ((offer ++ 10 ∷ []) ++ t)) (same_texts rows order (λ p i. row_texts rows p (o.below p i) (written p (o.below p i))))
      ∙ deal_is order o

pub keys_give_rows : KeysGiveRows
keys_give_rows offer job seeds p k s lt = keys_give offer job seeds k s p lt

pub deals_of_rows_are_made : DealsOfRowsAreMade
deals_of_rows_are_made offer job seeds order rows k s o written =
    deal_of_rows offer job seeds k s order rows o written
    ∙ ap (λ (t : List ℕ). Ok t) (dealt_line_is_made seeds job (let known : IsOfferedJob job = is_read 1 offer job k.reads in known.offered.proposed))
