-- The JSON of moves: it is read back as it is, and its text is one line.
use Rattle.std.proofs.Common.{◌^◌, ◌<◌, ◌≤◌, ℕ, suc, List, Option, Some, None, option_map, refl, sym, subst, arith}
use Rattle.std.specs.Prelude.{codes}
use Rattle.std.specs.Str.{IsUtf8}
use Rattle.serde_json.specs.Data.{string, Members, no_members, member}
use Rattle.hashkey_path.specs.declared.hashkey.Hashkey.{Hashkey}
use Rattle.swap_job.specs.declared.moves.Move.{Move}
use Rattle.swap_job.specs.declared.moves.Move.TheVariants.{Publish, Craft, Replay, Raw, Claim, Refund, Transfer, Wait}
use Rattle.offer_moves.specs.declared.moves.Sizes.{Sizes}
use Rattle.offer_text.specs.Moves.{move_data, plain_move, signature_data}
use Rattle.offer_text.specs.Words.{digest_data, list_data, name_data, number_data, with_optional}
use Rattle.read_back.proofs.HeaderOneLine.{items_plain, HavePlain, IsPlain}
use Rattle.read_back.proofs.HeaderShown.{digest_is, field}
use Rattle.read_back.proofs.Texts.{list_is, number_is, object_is, string_is, IsRead}
use Rattle.read_back.proofs.Members.{fields_are, one_read, MayBeRead}
use Rattle.read_back.proofs.MoveLimits.{AreTerms, IsCraft, IsKey, IsLimited, IsMost, IsSmall}
use Rattle.read_back.proofs.RawMoves.{party_label, publish_is, publish_members}

-- ---- values that may be absent

most_read : (k high : ℕ) (o : Option ℕ) → high < 2 ^ 64 → IsMost high o → MayBeRead k (option_map number_data o)
most_read k high None low h = tt
most_read k high (Some n) low h = number_is k n (omega (arith, low, h))

locks_read : (k count : ℕ) (o : Option (List (List ℕ))) → MayBeRead (suc k) (option_map (list_data digest_data) o)
locks_read k count None = tt
locks_read k count (Some ds) = list_is k digest_data ds (λ x i. digest_is k x)

arc_low : (s : Sizes) → IsSmall s → (a : ℕ) → a < s.arcs → a < 2 ^ 64
arc_low s small a lt = let few = small.arcs in omega (arith, lt, few)

lock_low : (s : Sizes) → IsSmall s → (i : ℕ) → i < s.locks → i < 2 ^ 64
lock_low s small i lt = let few = small.locks in omega (arith, lt, few)

-- ---- read back

module _ (s : Sizes) (small : IsSmall s) (n : ℕ) (names : List (List ℕ)) (named : (p : ℕ) → IsUtf8 (party_label names p)) where
  names_are : (ps : List ℕ) → IsRead 1 (list_data (name_data names) ps)
  names_are ps = list_is 0 (name_data names) ps (λ p i. string_is 0 (party_label names p) (named p))

  publish_read : (arc : ℕ) (start delta bound timelock amount : Option ℕ) (locks : Option (List (List ℕ)))
      → AreTerms s arc start delta bound timelock amount locks → IsRead 2 (move_data names (Publish arc start delta bound timelock amount locks))
  publish_read arc start delta bound timelock amount locks k =
      subst (IsRead 2) (sym (publish_is 0 arc start delta bound timelock amount locks names))
      (fields_are 1 (publish_members arc start delta bound timelock amount locks)
      (one_read 1 (codes "amount") (option_map number_data amount) _ (field (codes "amount") refl)
      (most_read 1 1000000000000 amount (omega arith) k.amount_in) (
        field (codes "arc") refl,
        number_is 1 arc (arc_low s small arc k.read_clear_arc),
        one_read 1 (codes "bound") (option_map number_data bound) _ (field (codes "bound") refl) (most_read 1 1000000 bound (omega arith) k.bound_in)
            (one_read 1 (codes "delta") (option_map number_data delta) _ (field (codes "delta") refl) (most_read 1 1000000 delta (omega arith) k.delta_in) (
              field (codes "do") refl,
              string_is 1 (codes "publish") (field (codes "publish") refl),
              one_read 1 (codes "locks") (option_map (list_data digest_data) locks) _ (field (codes "locks") refl) (locks_read 0 s.locks locks)
                  (one_read 1 (codes "start") (option_map number_data start) _ (field (codes "start") refl) (most_read 1 1000000 start (omega arith) k.start_in)
                  (one_read 1 (codes "timelock") (option_map number_data timelock) no_members (field (codes "timelock") refl)
                  (most_read 1 1000000 timelock (omega arith) k.read_timelock) tt)),
            )),
      ))
      refl)

  craft_read : (arc lock : ℕ) (via : List ℕ) (onto : Option ℕ) → IsCraft s n arc lock via onto → IsRead 2 (move_data names (Craft arc lock via onto))
  unfolding move_data
  craft_read arc lock via None k =
      object_is 1 (member (codes "arc") (number_data arc) (member (codes "do") (string (codes "craft")) (member (codes "lock") (number_data lock)
      (member (codes "via") (list_data (name_data names) via) no_members)))) (
        field (codes "arc") refl,
        number_is 1 arc (arc_low s small arc k.read_clear_arc),
        (
          field (codes "do") refl,
          string_is 1 (codes "craft") (field (codes "craft") refl),
          (field (codes "lock") refl, number_is 1 lock (lock_low s small lock k.lock_in), (field (codes "via") refl, names_are via, tt)),
        ),
      ) refl refl
  craft_read arc lock via (Some onto) k =
      object_is 1 (member (codes "arc") (number_data arc) (member (codes "do") (string (codes "craft")) (member (codes "lock") (number_data lock)
      (member (codes "onto") (number_data onto) (member (codes "via") (list_data (name_data names) via) no_members))))) (
        field (codes "arc") refl,
        number_is 1 arc (arc_low s small arc k.read_clear_arc),
        (
          field (codes "do") refl,
          string_is 1 (codes "craft") (field (codes "craft") refl),
          (
            field (codes "lock") refl,
            number_is 1 lock (lock_low s small lock k.lock_in),
            (field (codes "onto") refl, number_is 1 onto (arc_low s small onto k.onto_in), (field (codes "via") refl, names_are via, tt)),
          ),
        ),
      ) refl refl

  replay_read : (arc lock onto : ℕ) → arc < s.arcs → lock < s.locks → onto < s.arcs → IsRead 2 (move_data names (Replay arc lock onto))
  unfolding move_data
  replay_read arc lock onto a l o =
      object_is 1 (member (codes "arc") (number_data arc) (member (codes "do") (string (codes "replay")) (member (codes "lock") (number_data lock)
      (member (codes "onto") (number_data onto) no_members)))) (
        field (codes "arc") refl,
        number_is 1 arc (arc_low s small arc a),
        (
          field (codes "do") refl,
          string_is 1 (codes "replay") (field (codes "replay") refl),
          (field (codes "lock") refl, number_is 1 lock (lock_low s small lock l), (field (codes "onto") refl, number_is 1 onto (arc_low s small onto o), tt)),
        ),
      ) refl refl

  raw_read : (arc : ℕ) (key : Hashkey) → arc < s.arcs → IsKey s n key → IsRead 2 (move_data names (Raw arc key))
  unfolding move_data
  raw_read arc key a k =
      object_is 1 (member (codes "arc") (number_data arc) (member (codes "do") (string (codes "raw")) (member (codes "lock") (number_data key.lock)
      (member (codes "path") (list_data (name_data names) key.path) (member (codes "secret") (digest_data key.secret)
      (member (codes "sigs") (list_data signature_data key.sigs) no_members)))))) (
        field (codes "arc") refl,
        number_is 1 arc (arc_low s small arc a),
        (
          field (codes "do") refl,
          string_is 1 (codes "raw") (field (codes "raw") refl),
          (
            field (codes "lock") refl,
            number_is 1 key.lock (lock_low s small key.lock k.lock),
            (
              field (codes "path") refl,
              names_are key.path,
              (
                field (codes "secret") refl,
                digest_is 1 key.secret,
                (field (codes "sigs") refl, list_is 0 signature_data key.sigs (λ sig i. digest_is 0 _), tt),
              ),
            ),
          ),
        ),
      ) refl refl

  plain_read : (word : List ℕ) (arc : ℕ) → IsUtf8 word → arc < s.arcs → IsRead 2 (plain_move word arc)
  plain_read word arc u a =
      object_is 1 (member (codes "arc") (number_data arc) (member (codes "do") (string word) no_members))
      (field (codes "arc") refl, number_is 1 arc (arc_low s small arc a), (field (codes "do") refl, string_is 1 word u, tt)) refl refl

  transfer_read : (arc to units : ℕ) → arc < s.arcs → units ≤ 1000000000000 → IsRead 2 (move_data names (Transfer arc to units))
  unfolding move_data
  transfer_read arc to units a u =
      object_is 1 (member (codes "arc") (number_data arc) (member (codes "do") (string (codes "transfer")) (member (codes "to") (name_data names to)
      (member (codes "units") (number_data units) no_members)))) (
        field (codes "arc") refl,
        number_is 1 arc (arc_low s small arc a),
        (
          field (codes "do") refl,
          string_is 1 (codes "transfer") (field (codes "transfer") refl),
          (field (codes "to") refl, string_is 1 (party_label names to) (named to), (field (codes "units") refl, number_is 1 units (omega (arith, u)), tt)),
        ),
      ) refl refl

  wait_read : (arc height : ℕ) → arc < s.arcs → height ≤ 1000000 → IsRead 2 (move_data names (Wait arc height))
  unfolding move_data
  wait_read arc height a h =
      object_is 1 (member (codes "arc") (number_data arc) (member (codes "do") (string (codes "wait"))
      (member (codes "height") (number_data height) no_members))) (
        field (codes "arc") refl,
        number_is 1 arc (arc_low s small arc a),
        (
          field (codes "do") refl,
          string_is 1 (codes "wait") (field (codes "wait") refl),
          (field (codes "height") refl, number_is 1 height (omega (arith, h)), tt),
        ),
      ) refl refl

  pub move_read : (mv : Move) → IsLimited s n mv → IsRead 2 (move_data names mv)
  unfolding move_data
  move_read (Publish arc start delta bound timelock amount locks) k = publish_read arc start delta bound timelock amount locks k
  move_read (Craft arc lock via onto) k = craft_read arc lock via onto k
  move_read (Replay arc lock onto) k = replay_read arc lock onto k.0 k.1 k.2
  move_read (Raw arc key) k = raw_read arc key k.0 k.1
  move_read (Claim arc) k = plain_read (codes "claim") arc (field (codes "claim") refl) k
  move_read (Refund arc) k = plain_read (codes "refund") arc (field (codes "refund") refl) k
  move_read (Transfer arc to units) k = transfer_read arc to units k.0 k.2
  move_read (Wait arc height) k = wait_read arc height k.0 k.1

-- ---- one line

may_plain : (name : List ℕ) (high : ℕ) (o : Option ℕ) (ms : Members) → high < 2 ^ 64 → IsMost high o → HavePlain ms
    → HavePlain (with_optional name number_data o ms)
may_plain name high None ms low h k = k
may_plain name high (Some n) ms low h k = (omega (arith, low, h), k)

may_lock_plain : (name : List ℕ) (o : Option (List (List ℕ))) (ms : Members) → HavePlain ms
    → HavePlain (with_optional name (list_data digest_data) o ms)
may_lock_plain name None ms k = k
may_lock_plain name (Some ds) ms k = (items_plain digest_data ds (λ x i. tt), k)

-- the last fields of a publish
last_plain : (start timelock : Option ℕ) (locks : Option (List (List ℕ))) → IsMost 1000000 start → IsMost 1000000 timelock
    → HavePlain (with_optional (codes "locks") (list_data digest_data) locks (with_optional (codes "start") number_data start
    (with_optional (codes "timelock") number_data timelock no_members)))
last_plain start timelock locks s t =
    may_lock_plain (codes "locks") locks _
    (may_plain (codes "start") 1000000 start _ (omega arith) s (may_plain (codes "timelock") 1000000 timelock no_members (omega arith) t tt))

module _ (s : Sizes) (small : IsSmall s) (n : ℕ) (names : List (List ℕ)) where
  names_plain : (ps : List ℕ) → IsPlain (list_data (name_data names) ps)
  names_plain ps = items_plain (name_data names) ps (λ p i. tt)

  pub move_plain : (mv : Move) → IsLimited s n mv → IsPlain (move_data names mv)
  unfolding move_data
  move_plain (Publish arc start delta bound timelock amount locks) k =
      may_plain (codes "amount") 1000000000000 amount _ (omega arith) k.amount_in (
        arc_low s small arc k.read_clear_arc,
        may_plain (codes "bound") 1000000 bound _ (omega arith) k.bound_in
            (may_plain (codes "delta") 1000000 delta _ (omega arith) k.delta_in (tt, last_plain start timelock locks k.start_in k.read_timelock)),
      )
  move_plain (Craft arc lock via None) k = (arc_low s small arc k.read_clear_arc, (tt, (lock_low s small lock k.lock_in, (names_plain via, tt))))
  move_plain (Craft arc lock via (Some onto)) k =
      (arc_low s small arc k.read_clear_arc, (tt, (lock_low s small lock k.lock_in, (arc_low s small onto k.onto_in, (names_plain via, tt)))))
  move_plain (Replay arc lock onto) k = (arc_low s small arc k.0, (tt, (lock_low s small lock k.1, (arc_low s small onto k.2, tt))))
  move_plain (Raw arc key) k =
      (arc_low s small arc k.0, (tt, (lock_low s small key.lock k.1.lock, (names_plain key.path, (tt, (items_plain signature_data key.sigs (λ x i. tt), tt))))))
  move_plain (Claim arc) k = (arc_low s small arc k, (tt, tt))
  move_plain (Refund arc) k = (arc_low s small arc k, (tt, tt))
  move_plain (Transfer arc to units) k = let few = k.2 in (arc_low s small arc k.0, (tt, (tt, (omega (arith, few), tt))))
  move_plain (Wait arc height) k = let few = k.1 in (arc_low s small arc k.0, (tt, (omega (arith, few), tt)))
