-- The text of a header holds no line feed.
use Rattle.std.proofs.Common.{◌≡◌, inl, inr, ◌==◌, ◌&&◌, ◌||◌, ◌/◌, ◌%◌, ◌^◌, ◌≤◌, ◌<◌, ◌≢◌, ℕ, zero, suc, nat_le, nat_lt, Bool, true, false, not}
use Rattle.std.proofs.Common.{cond, List}
use Rattle.std.proofs.Common.{[], ◌∷◌, ◌++◌, length, map, decimal, slice_index, refl, ap, ◌∙◌, arith, eqb-true, le-ltb, lt-ltb, ltb-true, ltb-false}
use Rattle.std.specs.Char.{digit_char}
use Rattle.std.specs.List.{list_all, range_with_len}
use Rattle.std.proofs.lemmas.Bool.{leb-true, ne_eqb, eqb-false}
use Rattle.json.specs.Print.{escape, escape_byte, quoted}
use Rattle.serde_json.specs.Data.{unsigned, negative, float, Data, null, boolean, number, string, array, object, Items, no_items, item, Members, no_members}
use Rattle.serde_json.specs.Data.{member}
use Rattle.serde_json.specs.View.{items_of}
use Rattle.serde_json.specs.Written.{comma_if, compact_text, items_text, members_text}
use Rattle.swap_base.proofs.Lists.{and_both, and_parts, from_range}
use Rattle.swap_base.specs.Lists.{IsElement}
use Rattle.swap_digraph.specs.Graph.{arcs, ends}
use Rattle.swap_digraph.specs.declared.arc_ends.ArcEnds.{ArcEnds}
use Rattle.swap_digraph.specs.declared.deal.Mode.{Mode}
use Rattle.swap_digraph.specs.declared.deal.Mode.TheVariants.{Timelocks, Hashkeys}
use Rattle.swap_digraph.specs.declared.deal.Version.{Version}
use Rattle.swap_digraph.specs.declared.deal.Version.TheVariants.{One, Two}
use Rattle.swap_digraph.specs.Deal.{amount, locks, IsWellSized}
use Rattle.swap_job.specs.declared.job.Job.{Job}
use Rattle.offer_text.specs.Words.{digest_data, list_data}
use Rattle.offer_text.specs.HeaderLine.{arc_json, arc_data, arcs_data, fields_by_mode, header_line, keys_data, leader_value, leaders_data, made_header}
use Rattle.offer_text.specs.HeaderLine.{version_number}
use Rattle.offer_text.specs.HeaderLine.{parties_data, shown_header, shown_party}
use Rattle.transcript_book.proofs.Numbers.{high_number}
use Rattle.transcript_book.proofs.SeparatedParts.{IsHigh}
use Rattle.read_back.specs.Headers.{HeaderIsOneLine}

abbrev pub IsOneLine : List ℕ → Type 0
IsOneLine l = list_all (λ x. not (x == 10)) l ≡ true

pub both_lines : (v w : List ℕ) → IsOneLine v → IsOneLine w → IsOneLine (v ++ w)
both_lines [] w h k = k
both_lines (x ∷ v) w h k =
    let p = and_parts (not (x == 10)) (list_all (λ y. not (y == 10)) v) h in
    and_both (not (x == 10)) (list_all (λ y. not (y == 10)) (v ++ w)) p.0 (both_lines v w p.1 k)

-- ---- texts in quotes

abbrev is_fine : ℕ → Bool
is_fine x = list_all (λ y. not (y == 10)) (escape_byte x)

abbrev are_fine : ℕ → Bool
are_fine zero = true
are_fine (suc n) = is_fine n && are_fine n

fine_at : (n x : ℕ) → are_fine n ≡ true → x < n → is_fine x ≡ true
fine_at zero x e lt = absurd (omega arith)
fine_at (suc n) x e lt = by (x == n) refl (fine_at n x (and_parts (is_fine n) (are_fine n) e).1)
  where
    by : (t : Bool) → (x == n) ≡ t → (x < n → is_fine x ≡ true) → is_fine x ≡ true
    by true q below = ap is_fine (eqb-true x n q) ∙ (and_parts (is_fine n) (are_fine n) e).0
    by false q below = below (let other : x ≢ n = eqb-false x n q in omega arith)

low_fine : (x : ℕ) → x < 32 → is_fine x ≡ true
unfolding escape_byte
low_fine x lt = fine_at 32 x refl lt

high_fine : (x : ℕ) → 32 ≤ x → is_fine x ≡ true
unfolding escape_byte
high_fine x le = by ((x == 34) || (x == 92))
  where
    by : (t : Bool) → list_all (λ y. not (y == 10)) (cond (nat_lt 0 (cond t x (cond (x == 8) 98 (cond (x == 12) 102 (cond (x == 10) 110 (cond (x == 13) 114
        (cond (x == 9) 116 0))))))) (92 ∷ cond t x (cond (x == 8) 98 (cond (x == 12) 102 (cond (x == 10) 110 (cond (x == 13) 114 (cond (x == 9) 116 0))))) ∷ [])
        (cond (nat_lt x 32) (92 ∷ 117 ∷ 48 ∷ 48 ∷ digit_char (x / 16) ∷ digit_char (x % 16) ∷ []) (x ∷ []))) ≡ true
    by true = rw (lt-ltb 0 x (omega (arith, le)), ne_eqb x 10 (λ e. omega (arith, le, e))) refl
    by false = rw (
      ne_eqb x 8 (λ e. omega (arith, le, e)),
      ne_eqb x 12 (λ e. omega (arith, le, e)),
      ne_eqb x 10 (λ e. omega (arith, le, e)),
      ne_eqb x 13 (λ e. omega (arith, le, e)),
      ne_eqb x 9 (λ e. omega (arith, le, e)),
      le-ltb x 32 le,
    ) (rw (ne_eqb x 10 (λ e. omega (arith, le, e))))

escaped : (s : List ℕ) → IsOneLine (escape s)
escaped [] = refl
escaped (x ∷ s) = both_lines (escape_byte x) (escape s) (by (nat_lt x 32) refl) (escaped s)
  where
    by : (t : Bool) → nat_lt x 32 ≡ t → is_fine x ≡ true
    by true e = low_fine x (ltb-true x 32 e)
    by false e = high_fine x (ltb-false x 32 e)

in_quotes : (s : List ℕ) → IsOneLine (quoted s)
in_quotes s = both_lines (escape s) (34 ∷ []) (escaped s) refl

-- ---- values

pub high_line : (w : List ℕ) → IsHigh 48 w → IsOneLine w
high_line [] h = refl
high_line (x ∷ w) h =
    let p = and_parts (nat_le 48 x) (list_all (λ y. nat_le 48 y) w) h in
    let low : 48 ≤ x = leb-true 48 x p.0 in
    and_both (not (x == 10)) (list_all (λ y. not (y == 10)) w) (ap not (ne_eqb x 10 (λ e. omega (arith, low, e)))) (high_line w p.1)

-- values whose numbers aren't negative and have at most 64 bits
abbrev mutual
  pub IsPlain : Data → Type 0
  IsPlain null = Unit {0}
  IsPlain (boolean b) = Unit {0}
  IsPlain (number (unsigned n)) = n < 2 ^ 64
  IsPlain (number (negative z)) = ⊥
  IsPlain (number (float x)) = ⊥
  IsPlain (string s) = Unit {0}
  IsPlain (array ds) = ArePlain ds
  IsPlain (object ms) = HavePlain ms

  pub ArePlain : Items → Type 0
  ArePlain no_items = Unit {0}
  ArePlain (item d ds) = IsPlain d × ArePlain ds

  pub HavePlain : Members → Type 0
  HavePlain no_members = Unit {0}
  HavePlain (member k d ms) = IsPlain d × HavePlain ms

a_comma : (later : Bool) → IsOneLine (comma_if later)
a_comma true = refl
a_comma false = refl

mutual
  pub one_value : (d : Data) → IsPlain d → IsOneLine (compact_text d)
  one_value null k = refl
  one_value (boolean true) k = refl
  one_value (boolean false) k = refl
  one_value (number (unsigned n)) k = high_line (decimal n) (high_number n k)
  one_value (number (negative z)) k = absurd k
  one_value (number (float x)) k = absurd k
  one_value (string s) k = in_quotes s
  one_value (array ds) k = one_items false ds k
  one_value (object ms) k = one_members false ms k

  one_items : (later : Bool) (ds : Items) → ArePlain ds → IsOneLine (items_text later ds)
  one_items later no_items k = refl
  one_items later (item d ds) k =
      both_lines (comma_if later) (compact_text d ++ items_text true ds) (a_comma later)
      (both_lines (compact_text d) (items_text true ds) (one_value d k.0) (one_items true ds k.1))

  one_members : (later : Bool) (ms : Members) → HavePlain ms → IsOneLine (members_text later ms)
  one_members later no_members k = refl
  one_members later (member key d ms) k =
      both_lines (comma_if later) (quoted key ++ 58 ∷ (compact_text d ++ members_text true ms)) (a_comma later)
      (both_lines (quoted key) (58 ∷ (compact_text d ++ members_text true ms)) (in_quotes key)
      (both_lines (compact_text d) (members_text true ms) (one_value d k.0) (one_members true ms k.1)))

-- ---- a header

pub low_version : (v : Version) → version_number v < 2 ^ 64
low_version One = omega arith
low_version Two = omega arith

pub items_plain : {A : Type 0} (f : A → Data) (xs : List A) → ((x : A) → IsElement x xs → IsPlain (f x)) → ArePlain (items_of (map f xs))
items_plain f [] h = tt
items_plain f (x ∷ xs) h = (h x (inl refl), items_plain f xs (λ y i. h y (inr i)))

arc_plain : (mode : Mode) (names : List (List ℕ)) (arc : ArcEnds) (units timelock : ℕ) → units < 2 ^ 64 → timelock < 2 ^ 64
    → IsPlain (arc_data mode names arc units timelock)
arc_plain Timelocks names arc units timelock u t = (u, (tt, (t, (tt, tt))))
arc_plain Hashkeys names arc units timelock u t = (u, (tt, (tt, tt)))

module _ (job : Job) (k : IsWellSized job.deal) where
  pub arcs_plain : IsPlain (arcs_data job.names job.deal)
  arcs_plain =
      items_plain (arc_json job.names job.deal) (arcs job.deal.graph) (λ a i.
      let lt = from_range a (length job.deal.graph.arcs) i in
      let units : amount job.deal a ≤ 10 ^ 12 = k.amount a lt in
      let timelock : slice_index job.deal.timelocks a ≤ 1000000 = k.timelock a lt in
      arc_plain job.deal.mode job.names (ends job.deal.graph a) (amount job.deal a) (slice_index job.deal.timelocks a) (omega arith) (omega arith))

  pub leaders_plain : IsPlain (leaders_data job.names job.deal)
  leaders_plain = items_plain (leader_value job.names job.deal) (locks job.deal) (λ i is. (tt, (tt, tt)))

  pub keys_plain : IsPlain (keys_data job.deal.keys)
  keys_plain = items_plain (list_data digest_data) job.deal.keys (λ row i. items_plain digest_data row (λ x j. tt))

  parties_plain : IsPlain (parties_data shown_party job)
  parties_plain = items_plain (shown_party job) (range_with_len 0 job.deal.graph.n) (λ p i. (tt, (tt, tt)))

  fields_plain : (mode : Mode) → HavePlain (fields_by_mode mode job.names (parties_data shown_party job) job.deal)
  fields_plain Timelocks =
      let start : job.deal.start ≤ 1000 = k.start in
      (leaders_plain, (tt, (parties_plain, (omega (arith, start), (low_version job.deal.version, tt)))))
  fields_plain Hashkeys =
      let start : job.deal.start ≤ 1000 = k.start in
      (keys_plain, (leaders_plain, (tt, (parties_plain, (omega (arith, start), (low_version job.deal.version, tt))))))

  shown_plain : IsPlain (shown_header job)
  shown_plain =
      let bound : job.deal.bound ≤ 64 = k.bound in
      let delta : job.deal.delta ≤ 100 = k.delta in
      (arcs_plain, (omega (arith, bound), (omega (arith, delta), fields_plain job.deal.mode)))

pub header_is_one_line : HeaderIsOneLine
unfolding header_line
header_is_one_line job k =
    ap (λ (b : Bool). list_all (λ x. not (x == 10)) (compact_text (cond b (made_header job) (shown_header job)))) k.stated
    ∙ one_value (shown_header job) (shown_plain job k.sized)
