-- The header of a job that rows make can be written.
use Rattle.std.proofs.Common.{◌≡◌, ℕ, ◌<◌, Bool, true, false, nat_lt, List, [], length, get_or, slice_index, refl, sym, subst, arith, ltb-true, ltb-false}
use Rattle.std.proofs.Common.{Option, None}
use Rattle.std.proofs.Math.ListN.{get_or-eq_default}
use Rattle.std.specs.Str.{IsAscii, IsUtf8}
use Rattle.std.proofs.lemmas.List.{get_or_default}
use Rattle.std.proofs.lemmas.Str.{IsUtf8-from_ascii}
use Rattle.swap_job.specs.declared.job.Job.{Job}
use Rattle.offer_header.specs.Names.{AreNames}
use Rattle.swap_offer.specs.Job.{IsWholeJob}
use Rattle.offer_text.specs.Words.{AreTexts}
use Rattle.offer_text.specs.HeaderLine.{IsWritable}
use Rattle.party_rows.specs.declared.row.Row.{Row}
use Rattle.party_rows.specs.Dealt.{dealt, dealt_deal}
use Rattle.party_rows.specs.Inside.{IsOffered}
use Rattle.party_rows.specs.Rows.{AreDealRows, first_missing}
use Rattle.party_rows.proofs.Sized.{dealt_is_sized}

-- past the end of a text stands 0
below : (bs : List ℕ) → ((i : ℕ) → i < length bs → slice_index bs i < 128) → IsAscii bs
below bs each i = go (nat_lt i (length bs)) refl
  where
    go : (b : Bool) → nat_lt i (length bs) ≡ b → slice_index bs i < 128
    go true e = each i (ltb-true i (length bs) e)
    go false e = let z : slice_index bs i ≡ 0 = get_or-eq_default bs 0 (ltb-false i (length bs) e) in omega (arith, z)

are_texts : (names : List (List ℕ)) → AreNames names → AreTexts names
are_texts names k p d lt =
    subst IsUtf8 (get_or_default names p [] d lt) (IsUtf8-from_ascii (get_or names p []) (below (get_or names p []) (k.name p lt).ascii))

-- a job that was read can be written again
pub whole_is_writable : (job : Job) → IsWholeJob job → AreNames job.names → IsWritable job
whole_is_writable job whole names = record {
  sized = whole.sized;
  names = whole.names;
  texts = are_texts job.names names;
  conforming = whole.conforming;
  roles = whole.roles;
  seeds = whole.seeds;
}

pub is_writable : (rows : List (Option Row)) (job j : Job) → IsOffered job → AreDealRows job.deal rows → first_missing rows ≡ None → j ≡ dealt rows job
    → IsWritable j
unfolding dealt_deal
is_writable rows job j k are none e =
    subst IsWritable (sym e) (record {
      sized = dealt_is_sized rows job.deal k.proposed are none;
      names = k.whole.names;
      texts = are_texts job.names k.names;
      conforming = k.whole.conforming;
      roles = k.whole.roles;
      seeds = k.whole.seeds;
    })
