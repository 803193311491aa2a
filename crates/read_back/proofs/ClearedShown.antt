-- The line of a group's job with seeds is text, and is read as the job.
use Rattle.std.proofs.Common.{◌≡◌, inl, inr, ◌*◌, ◌^◌, ◌<◌, ℕ, true, List, [], ◌∷◌, length, Some, Ok, refl, sym, ◌∙◌, subst, arith}
use Rattle.std.specs.Prelude.{codes, slice_index_or, zip}
use Rattle.std.specs.List.{AllPass}
use Rattle.std.specs.Str.{is_utf8, IsAscii, IsUtf8}
use Rattle.std.proofs.lemmas.Bool.Decides.{nat_tests}
use Rattle.std.proofs.lemmas.List.Elements.{All-head, All-tail}
use Rattle.std.proofs.lemmas.Str.{IsUtf8-from_ascii, is_utf8-from_IsUtf8}
use Rattle.std.proofs.lemmas.Str.Ascii.{IsAscii-cons, IsAscii-nil}
use Rattle.hex.specs.Hex.{decode_pairs, decode_sized, is_hex_digit}
use Rattle.hex.proofs.HexLemmas.{decode_pairs-ok, decode_sized-ok}
use Rattle.hex.proofs.Pairs.{decode_sized-pairs}
use Rattle.serde_json.specs.Data.{Data, string, no_members, member}
use Rattle.serde_json.specs.Read.{read}
use Rattle.swap_base.specs.Lists.{IsElement}
use Rattle.offer_text.specs.Words.{list_data, name_data, number_data, AreTexts}
use Rattle.swap_clear.specs.declared.answer.Group.{Group}
use Rattle.swap_clear.specs.declared.proposed.Proposed.{Proposed}
use Rattle.swap_clear.specs.declared.limits.Wishes.{Wishes}
use Rattle.swap_clear.specs.ClearedText.{proposal_data, named_data, proposal}
use Rattle.swap_clear.proofs.Texts.{are_texts, text_at}
use Rattle.read_back.specs.ClearedJobs.{job_data, seeded_data, seeded_line, seeded_party, AreDigitTexts}
use Rattle.read_back.proofs.Texts.{list_is, number_is, object_is, reads_back, string_is, IsRead}
use Rattle.read_back.proofs.Lists.{second_in}
use Rattle.read_back.proofs.ClearedLimited.{amount_low, heads}
use Rattle.read_back.proofs.Shape.{IsClear}
use Rattle.read_back.proofs.HeaderShown.{field}

-- ---- hexadecimal digits are text

low_digit : (c : ℕ) → is_hex_digit c ≡ true → c < 128
low_digit c h = grind (arith, nat_tests)

ascii_digits : (t : List ℕ) → AllPass is_hex_digit t → IsAscii t
ascii_digits [] h = IsAscii-nil
ascii_digits (c ∷ t) h =
    IsAscii-cons c t (low_digit c (All-head (λ x. is_hex_digit x ≡ true) c t h)) (ascii_digits t (All-tail (λ x. is_hex_digit x ≡ true) c t h))

digits_text : (t seed : List ℕ) → decode_sized t 32 ≡ Ok seed → IsUtf8 t
digits_text t seed e =
    let long : length t ≡ 2 * 32 = decode_sized-ok t 32 seed e in
    let pairs : decode_pairs 0 t ≡ Ok seed = sym (decode_sized-pairs t 32 (omega (arith, long)) (omega (arith, long))) ∙ e in
    IsUtf8-from_ascii t (ascii_digits t (decode_pairs-ok 0 t seed pairs).0)

texts_are : (texts seeds : List (List ℕ)) → AreDigitTexts texts seeds → (t : List ℕ) → IsElement t texts → IsUtf8 t
texts_are [] seeds d t i = absurd i
texts_are (x ∷ texts) [] d t i = absurd (cc d)
texts_are (x ∷ texts) (s ∷ seeds) d t (inl e) = subst IsUtf8 (sym e) (digits_text x s (heads (decode_sized x 32) s _ _ d).0)
texts_are (x ∷ texts) (s ∷ seeds) d t (inr i) = texts_are texts seeds (heads (decode_sized x 32) s _ _ d).1 t i

-- ---- parties, arcs and leaders

module _ (names : List (List ℕ)) (texts : AreTexts names) where
  arc_is : (a : Proposed) → a.amount < 2 ^ 64 → IsRead 1 (proposal_data names a)
  arc_is a low =
      object_is 0 (member (codes "amount") (number_data a.amount) (member (codes "from") (name_data names a.from)
      (member (codes "to") (name_data names a.to) no_members))) (
        field (codes "amount") refl,
        number_is 0 a.amount low,
        (
          field (codes "from") refl,
          string_is 0 (slice_index_or names a.from []) (text_at names a.from texts),
          (field (codes "to") refl, string_is 0 (slice_index_or names a.to []) (text_at names a.to texts), tt),
        ),
      ) refl refl

  leader_is : (l : ℕ) → IsRead 1 (named_data (codes "party") names l)
  leader_is l =
      object_is 0 (member (codes "party") (name_data names l) no_members)
      (field (codes "party") refl, string_is 0 (slice_index_or names l []) (text_at names l texts), tt) refl refl

  party_is : (p : ℕ × List ℕ) → IsUtf8 p.1 → IsRead 1 (seeded_party names p)
  party_is p digits =
      object_is 0 (member (codes "name") (name_data names p.0) (member (codes "seed") (string p.1) no_members)) (
        field (codes "name") refl,
        string_is 0 (slice_index_or names p.0 []) (text_at names p.0 texts),
        (field (codes "seed") refl, string_is 0 p.1 digits, tt),
      ) refl refl

-- ---- the job

module _ (w : Wishes) (group : Group) (k : IsClear w group) (texts seeds : List (List ℕ)) (digits : AreDigitTexts texts seeds) where
  names_are : AreTexts w.names
  names_are = are_texts w.names k.within.names

  arcs_are : IsRead 2 (list_data (λ a. proposal_data w.names (proposal w.arcs a)) group.arcs)
  arcs_are =
      list_is 1 (λ a. proposal_data w.names (proposal w.arcs a)) group.arcs
      (λ a i. let low = (amount_low w group k a i).1 in arc_is w.names names_are (proposal w.arcs a) (omega (arith, low)))

  leaders_are : IsRead 2 (list_data (named_data (codes "party") w.names) group.leaders)
  leaders_are = list_is 1 (named_data (codes "party") w.names) group.leaders (λ l i. leader_is w.names names_are l)

  parties_are : IsRead 2 (list_data (seeded_party w.names) (zip group.parties texts))
  parties_are =
      list_is 1 (seeded_party w.names) (zip group.parties texts)
      (λ p i. party_is w.names names_are p (texts_are texts seeds digits p.1 (second_in group.parties texts p i)))

  job_is : (parties : Data) → IsRead 2 parties → IsRead 3 (job_data w group parties)
  job_is parties p =
      let bound = k.ready.bound.1 in
      let delta = k.within.delta.1 in
      let start = k.within.start.1 in
      object_is 2 _ (
        field (codes "arcs") refl,
        arcs_are,
        (
          field (codes "bound") refl,
          number_is 2 group.bound (omega (arith, bound)),
          (
            field (codes "delta") refl,
            number_is 2 w.delta (omega (arith, delta)),
            (
              field (codes "leaders") refl,
              leaders_are,
              (
                field (codes "mode") refl,
                string_is 2 (codes "hashkeys") (field (codes "hashkeys") refl),
                (
                  field (codes "parties") refl,
                  p,
                  (
                    field (codes "start") refl,
                    number_is 2 w.start (omega (arith, start)),
                    (field (codes "swap") refl, number_is 2 2 (omega arith), tt),
                  ),
                ),
              ),
            ),
          ),
        ),
      ) refl refl

  pub line_reads : (is_utf8 (seeded_line w group texts) ≡ true) × (read (seeded_line w group texts) ≡ Some (seeded_data w group texts))
  unfolding seeded_line
  line_reads =
      let h = job_is (list_data (seeded_party w.names) (zip group.parties texts)) parties_are in
      (is_utf8-from_IsUtf8 (seeded_line w group texts) h.text, reads_back 3 (seeded_data w group texts) h (omega arith))
