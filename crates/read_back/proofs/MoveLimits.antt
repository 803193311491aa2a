-- The limits of moves: every move that is read keeps them, and one that keeps them is read back.
use Rattle.std.proofs.Common.{◌≡◌, ◌%◌, ◌<◌, ◌≤◌, ℕ, Bool, List, [], length, map, Option, Some, None, option_map, cond, Ok, refl, sym, ap}
use Rattle.std.proofs.Common.{◌∙◌, subst, arith, codes, le-leb, lt-ltb}
use Rattle.std.specs.Prelude.{All}
use Rattle.std.proofs.lemmas.List.{length-map}
use Rattle.hex.specs.Hex.{encode_lower}
use Rattle.hash_signature.specs.declared.sig.Sig.{Sig}
use Rattle.hashkey_path.specs.declared.hashkey.Hashkey.{Hashkey}
use Rattle.swap_job.specs.declared.moves.Move.{Move}
use Rattle.swap_job.specs.declared.moves.Move.TheVariants.{Publish, Craft, Replay, Raw, Claim, Refund, Transfer, Wait}
use Rattle.offer_moves.specs.FieldLimits.{to_digest, ranged_number, check_range}
use Rattle.offer_moves.specs.Lists.{collected_results}
use Rattle.offer_moves.specs.Names.{party_of_name}
use Rattle.offer_moves.proofs.Chains.{each_all, each_length}
use Rattle.offer_moves.proofs.Ranges.{number_within_ok, party_below, within_ok}
use Rattle.offer_moves.specs.Limits.{kept, limited_locks, number_below_count, optional_locks, optional_most, parse_sig}
use Rattle.offer_moves.specs.Moves.{parse_arc, parse_claim, parse_craft, checked_hashkey, parse_move, optional_arc, make_publish, parse_refund, parse_replay}
use Rattle.offer_moves.specs.Moves.{parse_transfer}
use Rattle.offer_moves.specs.Moves.{parse_unlock, parse_wait}
use Rattle.offer_moves.specs.declared.moves.Sizes.{Sizes}
use Rattle.offer_moves.specs.declared.raw.RawCraft.{RawCraft}
use Rattle.offer_moves.specs.declared.raw.RawKey.{RawKey}
use Rattle.offer_moves.specs.declared.raw.RawMove.{RawMove}
use Rattle.offer_moves.specs.declared.raw.RawMove.TheVariants as raws
use Rattle.offer_moves.specs.declared.raw.RawTerms.{RawTerms}
use Rattle.offer_moves.proofs.ReadNumbers.{number_below_ok}
use Rattle.typed_books.specs.Typed.{IsDigest}
use Rattle.read_back.proofs.HeaderLimited.{all_in, digest_back, map_self, number_back, within_back}
use Rattle.read_back.proofs.Onward.{landed, onward}
use Rattle.read_back.proofs.Showable.{digest_is}
use Rattle.read_back.proofs.Steps.{each_back, step}
use Rattle.read_back.proofs.RawMoves.{digits_of, party_label, raw_craft, raw_key, raw_move, raw_terms}
use Rattle.read_back.proofs.Signatures.{sig_back, sig_is, IsOfBytes}

-- ---- the limits

-- the sizes that a header may have
pub record IsSmall (s : Sizes) : Type 0 where
  pub arcs : s.arcs ≤ 128
  pub locks : s.locks ≤ 8

abbrev pub IsMost : ℕ → Option ℕ → Type 0
IsMost high None = Unit {0}
IsMost high (Some n) = n ≤ high

abbrev pub IsOneOf : ℕ → Option ℕ → Type 0
IsOneOf count None = Unit {0}
IsOneOf count (Some n) = n < count

abbrev pub AreLocks : ℕ → Option (List (List ℕ)) → Type 0
AreLocks count None = Unit {0}
AreLocks count (Some ds) = (length ds ≡ count) × All IsDigest ds

pub record AreTerms (s : Sizes) (arc : ℕ) (start delta bound timelock amount : Option ℕ) (locks : Option (List (List ℕ))) : Type 0 where
  pub read_clear_arc : arc < s.arcs
  pub start_in : IsMost 1000000 start
  pub delta_in : IsMost 1000000 delta
  pub bound_in : IsMost 1000000 bound
  pub read_timelock : IsMost 1000000 timelock
  pub amount_in : IsMost 1000000000000 amount
  pub locks_in : AreLocks s.locks locks

pub record IsCraft (s : Sizes) (n arc lock : ℕ) (via : List ℕ) (onto : Option ℕ) : Type 0 where
  pub read_clear_arc : arc < s.arcs
  pub lock_in : lock < s.locks
  pub some : 1 ≤ length via
  pub few : length via ≤ s.path
  pub below : All (λ p. p < n) via
  pub onto_in : IsOneOf s.arcs onto

pub record IsKey (s : Sizes) (n : ℕ) (key : Hashkey) : Type 0 where
  pub lock : key.lock < s.locks
  pub secret : IsDigest key.secret
  pub path : length key.path ≤ s.path
  pub below : All (λ p. p < n) key.path
  pub few : length key.sigs ≤ s.path
  pub sigs : All IsOfBytes key.sigs

-- a move within the numbers of arcs, locks and parties
abbrev pub IsLimited : Sizes → ℕ → Move → Type 0
IsLimited s n (Publish arc start delta bound timelock amount locks) = AreTerms s arc start delta bound timelock amount locks
IsLimited s n (Craft arc lock via onto) = IsCraft s n arc lock via onto
IsLimited s n (Replay arc lock onto) = (arc < s.arcs) × (lock < s.locks) × (onto < s.arcs)
IsLimited s n (Raw arc key) = (arc < s.arcs) × IsKey s n key
IsLimited s n (Claim arc) = arc < s.arcs
IsLimited s n (Refund arc) = arc < s.arcs
IsLimited s n (Transfer arc to units) = (arc < s.arcs) × (to < n) × (units ≤ 1000000000000)
IsLimited s n (Wait arc height) = (arc < s.arcs) × (height ≤ 1000000)

-- ---- what is read keeps them

read_clear_arc : (s : Sizes) (line : ℕ) (field : List ℕ) (n a : ℕ) → parse_arc s line field n ≡ Ok a → a < s.arcs
unfolding parse_arc
read_clear_arc s line field n a e = number_below_ok line field s.arcs n a e

most_in : (line : ℕ) (field : List ℕ) (high : ℕ) (o given : Option ℕ) → optional_most line field high o ≡ Ok given → IsMost high given
most_in line field high None = landed None (IsMost high) tt
most_in line field high (Some n) =
    onward (ranged_number line field 0 high n) _ (IsMost high)
    (λ m e. landed (Some m) (IsMost high) (number_within_ok line field 0 high n m e).1)

optional_arc_in : (s : Sizes) (line : ℕ) (field : List ℕ) (o given : Option ℕ) → optional_arc s line field o ≡ Ok given → IsOneOf s.arcs given
optional_arc_in s line field None = landed None (IsOneOf s.arcs) tt
optional_arc_in s line field (Some n) =
    onward (parse_arc s line field n) _ (IsOneOf s.arcs) (λ m e. landed (Some m) (IsOneOf s.arcs) (read_clear_arc s line field n m e))

kept_all : (digests : List (List ℕ)) → length digests ≤ 8 → kept digests ≡ digests
kept_all digests few = ap (λ (b : Bool). cond b digests []) (le-leb (length digests) 8 few)

-- a list of this number of digests
abbrev AreMany : ℕ → List (List ℕ) → Type 0
AreMany count ds = (length ds ≡ count) × All IsDigest ds

locks_in : (line count : ℕ) (texts ds : List (List ℕ)) → count ≤ 8 → limited_locks line count texts ≡ Ok ds → AreMany count ds
unfolding limited_locks
locks_in line count texts ds few =
    onward (check_range line (codes "locks") count count (length texts)) _ (AreMany count) (λ u w.
    onward (collected_results (to_digest line (codes "locks")) texts) _ (AreMany count) (λ digests e.
    let size : length digests ≡ length texts = each_length (to_digest line (codes "locks")) texts digests e in
    let range = within_ok line (codes "locks") count count (length texts) u w in
    let same : kept digests ≡ digests = kept_all digests (omega (arith, size, range.1, few)) in
    landed (kept digests) (AreMany count) (subst (AreMany count) (sym same) (
      omega (arith, size, range.0, range.1),
      each_all IsDigest (to_digest line (codes "locks")) (λ text xs d. digest_is line (codes "locks") text xs d) texts digests e,
    )))) ds

optional_locks_in : (line count : ℕ) (o locks : Option (List (List ℕ))) → count ≤ 8 → optional_locks line count o ≡ Ok locks → AreLocks count locks
optional_locks_in line count None locks few = landed None (AreLocks count) tt locks
optional_locks_in line count (Some texts) locks few =
    onward (limited_locks line count texts) _ (AreLocks count) (λ ds e. landed (Some ds) (AreLocks count) (locks_in line count texts ds few e)) locks

module _ (s : Sizes) (small : IsSmall s) (names : List (List ℕ)) (line : ℕ) where
  abbrev IsRead : Move → Type 0
  IsRead mv = IsLimited s (length names) mv

  read_publish : (n : ℕ) (t : RawTerms) (mv : Move) → make_publish s line n t ≡ Ok mv → IsRead mv
  unfolding make_publish
  read_publish n t =
      onward (parse_arc s line (codes "arc") n) _ IsRead (λ arc a.
      onward (optional_most line (codes "start") 1000000 t.start) _ IsRead (λ start b.
      onward (optional_most line (codes "delta") 1000000 t.delta) _ IsRead (λ delta c.
      onward (optional_most line (codes "bound") 1000000 t.bound) _ IsRead (λ bound e.
      onward (optional_most line (codes "timelock") 1000000 t.timelock) _ IsRead (λ timelock f.
      onward (optional_most line (codes "amount") 1000000000000 t.amount) _ IsRead (λ amount g.
      onward (optional_locks line s.locks t.locks) _ IsRead (λ locks l.
      landed (Publish arc start delta bound timelock amount locks) IsRead (record {
        read_clear_arc = read_clear_arc s line (codes "arc") n arc a;
        start_in = most_in line (codes "start") 1000000 t.start start b;
        delta_in = most_in line (codes "delta") 1000000 t.delta delta c;
        bound_in = most_in line (codes "bound") 1000000 t.bound bound e;
        read_timelock = most_in line (codes "timelock") 1000000 t.timelock timelock f;
        amount_in = most_in line (codes "amount") 1000000000000 t.amount amount g;
        locks_in = optional_locks_in line s.locks t.locks locks small.locks l;
      }))))))))

  read_craft : (n : ℕ) (k : RawCraft) (mv : Move) → parse_craft s names line n k ≡ Ok mv → IsRead mv
  unfolding parse_craft
  read_craft n k =
      onward (collected_results (party_of_name line names) k.via) _ IsRead (λ via a.
      onward (parse_arc s line (codes "arc") n) _ IsRead (λ arc b.
      onward (number_below_count line (codes "lock") s.locks k.lock) _ IsRead (λ lock c.
      onward (check_range line (codes "via") 1 s.path (length k.via)) _ IsRead (λ u w.
      onward (optional_arc s line (codes "onto") k.onto) _ IsRead (λ onto f.
      let size : length via ≡ length k.via = each_length (party_of_name line names) k.via via a in
      let range = within_ok line (codes "via") 1 s.path (length k.via) u w in
      landed (Craft arc lock via onto) IsRead (record {
        read_clear_arc = read_clear_arc s line (codes "arc") n arc b;
        lock_in = number_below_ok line (codes "lock") s.locks k.lock lock c;
        some = omega (arith, size, range.0);
        few = omega (arith, size, range.1);
        below = each_all (λ p. p < length names) (party_of_name line names) (λ x p e. party_below line names x p e) k.via via a;
        onto_in = optional_arc_in s line (codes "onto") k.onto onto f;
      }))))))

  read_replay : (n m k : ℕ) (mv : Move) → parse_replay s line n m k ≡ Ok mv → IsRead mv
  unfolding parse_replay
  read_replay n m k =
      onward (parse_arc s line (codes "arc") n) _ IsRead (λ arc a.
      onward (number_below_count line (codes "lock") s.locks m) _ IsRead (λ lock b.
      onward (parse_arc s line (codes "onto") k) _ IsRead (λ onto c.
      landed (Replay arc lock onto) IsRead (
        read_clear_arc s line (codes "arc") n arc a,
        number_below_ok line (codes "lock") s.locks m lock b,
        read_clear_arc s line (codes "onto") k onto c,
      ))))

  fetch_key : (path : List ℕ) (k : RawKey) → length path ≡ length k.path → All (λ p. p < length names) path → (key : Hashkey)
      → checked_hashkey s line path k ≡ Ok key → IsKey s (length names) key
  unfolding checked_hashkey
  fetch_key path k long below =
      let P = IsKey s (length names) in
      onward (number_below_count line (codes "lock") s.locks k.lock) _ P (λ lock a.
      onward (to_digest line (codes "secret") k.secret) _ P (λ secret b.
      onward (check_range line (codes "path") 0 s.path (length k.path)) _ P (λ u w.
      onward (check_range line (codes "sigs") 0 s.path (length k.sigs)) _ P (λ v x.
      onward (collected_results (parse_sig line) k.sigs) _ P (λ sigs f.
      let size : length sigs ≡ length k.sigs = each_length (parse_sig line) k.sigs sigs f in
      let few = within_ok line (codes "path") 0 s.path (length k.path) u w in
      let many = within_ok line (codes "sigs") 0 s.path (length k.sigs) v x in
      landed (record { lock = lock; secret = secret; path = path; sigs = sigs }) P (record {
        lock = number_below_ok line (codes "lock") s.locks k.lock lock a;
        secret = digest_is line (codes "secret") k.secret secret b;
        path = omega (arith, long, few.1);
        below = below;
        few = omega (arith, size, many.1);
        sigs = each_all IsOfBytes (parse_sig line) (sig_is line) k.sigs sigs f;
      }))))))

  unlock_key : (n : ℕ) (k : RawKey) (mv : Move) → parse_unlock s names line n k ≡ Ok mv → IsRead mv
  unfolding parse_unlock
  unlock_key n k =
      onward (collected_results (party_of_name line names) k.path) _ IsRead (λ path a.
      onward (parse_arc s line (codes "arc") n) _ IsRead (λ arc b.
      onward (checked_hashkey s line path k) _ IsRead (λ key c.
      landed (Raw arc key) IsRead (
        read_clear_arc s line (codes "arc") n arc b,
        fetch_key path k (each_length (party_of_name line names) k.path path a)
            (each_all (λ p. p < length names) (party_of_name line names) (λ x p e. party_below line names x p e) k.path path a) key c,
      ))))

  read_claim : (n : ℕ) (mv : Move) → parse_claim s line n ≡ Ok mv → IsRead mv
  unfolding parse_claim
  read_claim n = onward (parse_arc s line (codes "arc") n) _ IsRead (λ arc a. landed (Claim arc) IsRead (read_clear_arc s line (codes "arc") n arc a))

  read_refund : (n : ℕ) (mv : Move) → parse_refund s line n ≡ Ok mv → IsRead mv
  unfolding parse_refund
  read_refund n = onward (parse_arc s line (codes "arc") n) _ IsRead (λ arc a. landed (Refund arc) IsRead (read_clear_arc s line (codes "arc") n arc a))

  read_transfer : (n : ℕ) (name : List ℕ) (m : ℕ) (mv : Move) → parse_transfer s names line n name m ≡ Ok mv → IsRead mv
  unfolding parse_transfer
  read_transfer n name m =
      onward (party_of_name line names name) _ IsRead (λ to a.
      onward (parse_arc s line (codes "arc") n) _ IsRead (λ arc b.
      onward (ranged_number line (codes "units") 0 1000000000000 m) _ IsRead (λ units c.
      landed (Transfer arc to units) IsRead (
        read_clear_arc s line (codes "arc") n arc b,
        party_below line names name to a,
        (number_within_ok line (codes "units") 0 1000000000000 m units c).1,
      ))))

  read_wait : (n m : ℕ) (mv : Move) → parse_wait s line n m ≡ Ok mv → IsRead mv
  unfolding parse_wait
  read_wait n m =
      onward (parse_arc s line (codes "arc") n) _ IsRead (λ arc a.
      onward (ranged_number line (codes "height") 0 1000000 m) _ IsRead (λ height b.
      landed (Wait arc height) IsRead (
        read_clear_arc s line (codes "arc") n arc a,
        (number_within_ok line (codes "height") 0 1000000 m height b).1,
      )))

  pub read_move : (raw : RawMove) (mv : Move) → parse_move s names line raw ≡ Ok mv → IsLimited s (length names) mv
  read_move (raws.Publish n t) mv e = read_publish n t mv e
  read_move (raws.Craft n k) mv e = read_craft n k mv e
  read_move (raws.Replay n lock onto) mv e = read_replay n lock onto mv e
  read_move (raws.Raw n k) mv e = unlock_key n k mv e
  read_move (raws.Claim n) mv e = read_claim n mv e
  read_move (raws.Refund n) mv e = read_refund n mv e
  read_move (raws.Transfer n to units) mv e = read_transfer n to units mv e
  read_move (raws.Wait n height) mv e = read_wait n height mv e

-- ---- what keeps them is read back

pub below_back : (line : ℕ) (field : List ℕ) (count n : ℕ) → n < count → count ≤ 128 → number_below_count line field count n ≡ Ok n
unfolding number_below_count
below_back line field count n lt few =
    let same : n % 256 ≡ n = omega (arith, lt, few) in
    rw (lt-ltb n count lt) (ap (λ (m : ℕ). Ok m) same)

most_back : (line : ℕ) (field : List ℕ) (high : ℕ) (o : Option ℕ) → IsMost high o → optional_most line field high o ≡ Ok o
most_back line field high None k = refl
most_back line field high (Some n) k = step _ n _ (number_back line field 0 high n (omega arith) k)

digests_back : (line : ℕ) (field : List ℕ) (ds : List (List ℕ)) → All IsDigest ds → collected_results (to_digest line field) (map encode_lower ds) ≡ Ok ds
digests_back line field ds all =
    each_back (to_digest line field) encode_lower (λ x. x) ds (λ x i. digest_back line field x (all_in IsDigest ds x all i))
    ∙ ap (λ (l : List (List ℕ)). Ok l) (map_self ds)

locks_back : (line count : ℕ) (o : Option (List (List ℕ))) → count ≤ 8 → AreLocks count o
    → optional_locks line count (option_map (map encode_lower) o) ≡ Ok o
unfolding limited_locks
locks_back line count None few k = refl
locks_back line count (Some ds) few k =
    let long : length (map encode_lower ds) ≡ count = length-map ds encode_lower ∙ k.0 in
    let here : limited_locks line count (map encode_lower ds) ≡ Ok ds =
    step _ tt _ (within_back line (codes "locks") count count (length (map encode_lower ds)) (omega (arith, long)) (omega (arith, long)))
    ∙ step _ ds _ (digests_back line (codes "locks") ds k.1)
    ∙ ap (λ (l : List (List ℕ)). Ok l) (kept_all ds (omega (arith, k.0, few))) in
    step _ ds _ here

module _ (s : Sizes) (small : IsSmall s) (names : List (List ℕ)) (line : ℕ)
    (number : (p : ℕ) → p < length names → party_of_name line names (party_label names p) ≡ Ok p) where
  arc_back : (field : List ℕ) (a : ℕ) → a < s.arcs → parse_arc s line field a ≡ Ok a
  unfolding parse_arc
  arc_back field a lt = below_back line field s.arcs a lt small.arcs

  lock_back : (i : ℕ) → i < s.locks → number_below_count line (codes "lock") s.locks i ≡ Ok i
  lock_back i lt = let few = small.locks in below_back line (codes "lock") s.locks i lt (omega (arith, few))

  parties_back : (ps : List ℕ) → All (λ p. p < length names) ps → collected_results (party_of_name line names) (map (party_label names) ps) ≡ Ok ps
  parties_back ps all =
      each_back (party_of_name line names) (party_label names) (λ p. p) ps (λ p i. number p (all_in (λ q. q < length names) ps p all i))
      ∙ ap (λ (l : List ℕ). Ok l) (map_self ps)

  onto_back : (o : Option ℕ) → IsOneOf s.arcs o → optional_arc s line (codes "onto") o ≡ Ok o
  onto_back None k = refl
  onto_back (Some n) k = step _ n _ (arc_back (codes "onto") n k)

  publish_back : (arc : ℕ) (start delta bound timelock amount : Option ℕ) (locks : Option (List (List ℕ)))
      → AreTerms s arc start delta bound timelock amount locks
      → make_publish s line arc (raw_terms start delta bound timelock amount locks) ≡ Ok (Publish arc start delta bound timelock amount locks)
  unfolding make_publish
  publish_back arc start delta bound timelock amount locks k =
      step _ arc _ (arc_back (codes "arc") arc k.read_clear_arc)
      ∙ step _ start _ (most_back line (codes "start") 1000000 start k.start_in)
      ∙ step _ delta _ (most_back line (codes "delta") 1000000 delta k.delta_in)
      ∙ step _ bound _ (most_back line (codes "bound") 1000000 bound k.bound_in)
      ∙ step _ timelock _ (most_back line (codes "timelock") 1000000 timelock k.read_timelock)
      ∙ step _ amount _ (most_back line (codes "amount") 1000000000000 amount k.amount_in)
      ∙ step _ locks _ (locks_back line s.locks locks small.locks k.locks_in)

  craft_back : (arc lock : ℕ) (via : List ℕ) (onto : Option ℕ) → IsCraft s (length names) arc lock via onto
      → parse_craft s names line arc (raw_craft names lock via onto) ≡ Ok (Craft arc lock via onto)
  unfolding parse_craft
  craft_back arc lock via onto k =
      let size : length (map (party_label names) via) ≡ length via = length-map via (party_label names) in
      step _ via _ (parties_back via k.below)
      ∙ step _ arc _ (arc_back (codes "arc") arc k.read_clear_arc)
      ∙ step _ lock _ (lock_back lock k.lock_in)
      ∙ step _ tt _ (within_back line (codes "via") 1 s.path (length (map (party_label names) via)) (omega (arith, size, k.some)) (omega (arith, size, k.few)))
      ∙ step _ onto _ (onto_back onto k.onto_in)

  replay_back : (arc lock onto : ℕ) → arc < s.arcs → lock < s.locks → onto < s.arcs → parse_replay s line arc lock onto ≡ Ok (Replay arc lock onto)
  unfolding parse_replay
  replay_back arc lock onto a l o =
      step _ arc _ (arc_back (codes "arc") arc a)
      ∙ step _ lock _ (lock_back lock l)
      ∙ step _ onto _ (arc_back (codes "onto") onto o)

  sigs_back : (sigs : List Sig) → All IsOfBytes sigs → collected_results (parse_sig line) (map digits_of sigs) ≡ Ok sigs
  sigs_back sigs all =
      each_back (parse_sig line) digits_of (λ x. x) sigs (λ x i. sig_back line x (all_in IsOfBytes sigs x all i))
      ∙ ap (λ (l : List Sig). Ok l) (map_self sigs)

  key_back : (key : Hashkey) → IsKey s (length names) key → checked_hashkey s line key.path (raw_key names key) ≡ Ok key
  unfolding checked_hashkey
  key_back key k =
      let path : length (map (party_label names) key.path) ≡ length key.path = length-map key.path (party_label names) in
      let sigs : length (map digits_of key.sigs) ≡ length key.sigs = length-map key.sigs digits_of in
      step _ key.lock _ (lock_back key.lock k.lock)
      ∙ step _ key.secret _ (digest_back line (codes "secret") key.secret k.secret)
      ∙ step _ tt _ (within_back line (codes "path") 0 s.path (length (map (party_label names) key.path)) (omega arith) (omega (arith, path, k.path)))
      ∙ step _ tt _ (within_back line (codes "sigs") 0 s.path (length (map digits_of key.sigs)) (omega arith) (omega (arith, sigs, k.few)))
      ∙ step _ key.sigs _ (sigs_back key.sigs k.sigs)

  unlock_back : (arc : ℕ) (key : Hashkey) → arc < s.arcs → IsKey s (length names) key → parse_unlock s names line arc (raw_key names key) ≡ Ok (Raw arc key)
  unfolding parse_unlock
  unlock_back arc key a k =
      step _ key.path _ (parties_back key.path k.below)
      ∙ step _ arc _ (arc_back (codes "arc") arc a)
      ∙ step _ key _ (key_back key k)

  claim_back : (arc : ℕ) → arc < s.arcs → parse_claim s line arc ≡ Ok (Claim arc)
  unfolding parse_claim
  claim_back arc a = step _ arc _ (arc_back (codes "arc") arc a)

  refund_back : (arc : ℕ) → arc < s.arcs → parse_refund s line arc ≡ Ok (Refund arc)
  unfolding parse_refund
  refund_back arc a = step _ arc _ (arc_back (codes "arc") arc a)

  transfer_back : (arc to units : ℕ) → arc < s.arcs → to < length names → units ≤ 1000000000000
      → parse_transfer s names line arc (party_label names to) units ≡ Ok (Transfer arc to units)
  unfolding parse_transfer
  transfer_back arc to units a t u =
      step _ to _ (number to t)
      ∙ step _ arc _ (arc_back (codes "arc") arc a)
      ∙ step _ units _ (number_back line (codes "units") 0 1000000000000 units (omega arith) u)

  wait_back : (arc height : ℕ) → arc < s.arcs → height ≤ 1000000 → parse_wait s line arc height ≡ Ok (Wait arc height)
  unfolding parse_wait
  wait_back arc height a h =
      step _ arc _ (arc_back (codes "arc") arc a) ∙ step _ height _ (number_back line (codes "height") 0 1000000 height (omega arith) h)

  pub limited_move_back : (mv : Move) → IsLimited s (length names) mv → parse_move s names line (raw_move names mv) ≡ Ok mv
  limited_move_back (Publish arc start delta bound timelock amount locks) k = publish_back arc start delta bound timelock amount locks k
  limited_move_back (Craft arc lock via onto) k = craft_back arc lock via onto k
  limited_move_back (Replay arc lock onto) k = replay_back arc lock onto k.0 k.1 k.2
  limited_move_back (Raw arc key) k = unlock_back arc key k.0 k.1
  limited_move_back (Claim arc) k = claim_back arc k
  limited_move_back (Refund arc) k = refund_back arc k
  limited_move_back (Transfer arc to units) k = transfer_back arc to units k.0 k.1 k.2
  limited_move_back (Wait arc height) k = wait_back arc height k.0 k.1
