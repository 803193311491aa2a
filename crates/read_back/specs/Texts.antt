-- The laws of the texts that `keys` and `deal` write.
use Rattle.std.specs.Prelude.{◌≡◌, ◌<◌, ◌==◌, ◌++◌, ℕ, List, [], ◌∷◌, codes, not, true, slice_index_or, Option, Ok}
use Rattle.std.specs.List.{flat_map, list_all}
use Rattle.hex.specs.Hex.{encode_lower}
use Rattle.swap_base.specs.Lists.{IsElement}
use Rattle.swap_job.specs.declared.job.Job.{Job}
use Rattle.swap_job.specs.declared.job.Purpose.TheVariants.{Audit}
use Rattle.typed_books.specs.Typed.{IsDigest}
use Rattle.swap_gen.specs.Made.{made_deal, seed_or_zeros}
use Rattle.transcript_book.specs.Between.{fed_lines, spaced}
use Rattle.party_rows.specs.Dealt.{dealt_line}
use Rattle.party_rows.specs.Keys.{deal_output, keys_output}
use Rattle.party_rows.specs.Offer.{parse_offer}
use Rattle.party_rows.specs.Row.{row_line, seeded_row}

-- A plain offer's line. It holds no line feed, and it proposes the job both as the first line,
-- which `deal` reads, and as the second line, which `keys` reads behind the line of a seed.
pub record IsOfferLine (offer : List ℕ) (job : Job) : Type 0 where
  pub one_line : list_all (λ x. not (x == 10)) offer ≡ true
  pub reads : parse_offer 1 offer ≡ Ok job
  pub reads_second : parse_offer 2 offer ≡ Ok job

-- the seeds of the parties of a job have 32 bytes each
abbrev pub AreSeeds : List (Option (List ℕ)) → Job → Type 0
AreSeeds seeds job = (p : ℕ) → p < job.deal.graph.n → IsDigest (seed_or_zeros seeds p)

-- the name of party p
abbrev pub job_party_name : Job → ℕ → List ℕ
job_party_name job p = slice_index_or job.names p []

-- the row that its seed gives party p
abbrev pub seeded_row_line : List (Option (List ℕ)) → Job → ℕ → List ℕ
seeded_row_line seeds job p = row_line (job_party_name job p) (seeded_row (seed_or_zeros seeds p) p job.deal)

-- what is handed over to `keys`: a seed and an offer
abbrev pub keys_input : List ℕ → List ℕ → List ℕ
keys_input seed offer = fed_lines (spaced (codes "seed" ∷ encode_lower seed ∷ []) ∷ offer ∷ [])

-- Of a seed and an offer `keys` writes the row that the seed gives the party.
abbrev pub KeysGiveRows : Type 0
KeysGiveRows =
    (offer : List ℕ) (job : Job) (seeds : List (Option (List ℕ))) (p : ℕ) → IsOfferLine offer job → AreSeeds seeds job → p < job.deal.graph.n
    → keys_output (job_party_name job p) (keys_input (seed_or_zeros seeds p) offer) ≡ Ok (seeded_row_line seeds job p)

-- no party stands twice
abbrev pub AreApart : List ℕ → Type 0
AreApart [] = Unit {0}
AreApart (p ∷ ps) = ¬ IsElement p ps × AreApart ps

-- Each of n parties once, in any order.
pub record IsEachPartyOnce (n : ℕ) (order : List ℕ) : Type 0 where
  pub below : (p : ℕ) → IsElement p order → p < n
  pub each : (p : ℕ) → p < n → IsElement p order
  pub apart : AreApart order

-- what is handed over to `deal`: an offer, and the parties' rows in that order
abbrev pub deal_input : List ℕ → (ℕ → List ℕ) → List ℕ → List ℕ
deal_input offer rows order = (offer ++ 10 ∷ []) ++ flat_map rows order

-- Given an offer and the rows that `keys` writes of the parties' seeds, in any order, `deal` writes
-- a header line. It is that of the job that is made of the offer with these seeds, as a transcript
-- shows it.
abbrev pub DealsOfRowsAreMade : Type 0
DealsOfRowsAreMade =
    (offer : List ℕ) (job : Job) (seeds : List (Option (List ℕ))) (order : List ℕ) (rows : ℕ → List ℕ)
    → IsOfferLine offer job → AreSeeds seeds job → IsEachPartyOnce job.deal.graph.n order
    → ((p : ℕ) → p < job.deal.graph.n → keys_output (job_party_name job p) (keys_input (seed_or_zeros seeds p) offer) ≡ Ok (rows p))
    → deal_output (deal_input offer rows order) ≡ Ok (dealt_line (record (record job { deal = made_deal seeds job.deal }) { purpose = Audit }))
