-- The move that a line asks for.
use Rattle.std.proofs.Common.{List, None, Option, Some, codes, length, nat_lt, ℕ}
use Rattle.hex.specs.Hex.{decode_sized}
use Rattle.command_input.specs.declared.reason.Reason.TheVariants.{OverLimit}
use Rattle.offer_moves.specs.FieldLimits.{ranged_number, check_range, decoded, to_digest}
use Rattle.offer_moves.specs.Lists.{collected_results}
use Rattle.offer_moves.specs.Names.{party_of_name}
use Rattle.offer_moves.specs.declared.moves.Sizes.{Sizes}
use Rattle.offer_moves.specs.declared.raw.RawTerms.{RawTerms}
use Rattle.offer_moves.specs.declared.raw.RawKey.{RawKey}
use Rattle.offer_moves.specs.declared.raw.RawCraft.{RawCraft}
use Rattle.offer_moves.specs.declared.raw.RawMove.{RawMove}
use Rattle.offer_moves.specs.Limits.{number_below_count, optional_most, optional_locks, parse_sig, limited_locks}
use Rattle.offer_moves.specs.Moves.{parse_arc, make_publish, optional_arc, parse_craft, parse_replay, checked_hashkey, parse_unlock, parse_claim, parse_refund}
use Rattle.offer_moves.specs.Moves.{parse_transfer, parse_wait}
use Rattle.offer_moves.specs.Moves.{parse_move}
use Rattle.offer_moves.specs.declared.raw.RawMove.TheVariants as raws
use Rattle.program_laws.proofs.Bare.{Bare, onward, landed, refused, choose, each_of_bare}
use Rattle.program_laws.proofs.Fields.{within_bare, number_within_bare, decoded_bare, digest_of_bare, party_of_name_bare}

pub number_below_bare : (line : ℕ) (field : List ℕ) (count : ℕ) (n : ℕ) → Bare (number_below_count line field count n)
unfolding number_below_count
number_below_bare line field count n = choose (nat_lt n count) _ _ (landed _) (refused (OverLimit line field n) tt)

pub optional_most_bare : (line : ℕ) (field : List ℕ) (high : ℕ) (x3 : Option ℕ) → Bare (optional_most line field high x3)
optional_most_bare line field high None = landed _
optional_most_bare line field high (Some n) = onward (ranged_number line field 0 high n) _ (number_within_bare line field 0 high n) (λ m. landed _)

pub locks_of_bare : (line : ℕ) (count : ℕ) (texts : List (List ℕ)) → Bare (limited_locks line count texts)
unfolding limited_locks
locks_of_bare line count texts =
    onward (check_range line (codes "locks") count count (length texts)) _ (within_bare line (codes "locks") count count (length texts))
    (λ u. onward (collected_results (to_digest line (codes "locks")) texts)
    _ (each_of_bare (to_digest line (codes "locks")) (digest_of_bare line (codes "locks")) texts) (λ digests. landed _))

pub optional_locks_bare : (line : ℕ) (count : ℕ) (x2 : Option (List (List ℕ))) → Bare (optional_locks line count x2)
optional_locks_bare line count None = landed _
optional_locks_bare line count (Some texts) = onward (limited_locks line count texts) _ (locks_of_bare line count texts) (λ locks. landed _)

pub sig_of_bare : (line : ℕ) (text : List ℕ) → Bare (parse_sig line text)
unfolding parse_sig
sig_of_bare line text =
    onward (decoded line (codes "sigs") (decode_sized text 2144)) _ (decoded_bare line (codes "sigs") (decode_sized text 2144)) (λ bytes. landed _)

pub arc_of_bare : (s : Sizes) (line : ℕ) (field : List ℕ) (n : ℕ) → Bare (parse_arc s line field n)
unfolding parse_arc
arc_of_bare s line field n = number_below_bare line field s.arcs n

pub publish_of_bare : (s : Sizes) (line : ℕ) (n : ℕ) (t : RawTerms) → Bare (make_publish s line n t)
unfolding make_publish
publish_of_bare s line n t =
    onward (parse_arc s line (codes "arc") n) _ (arc_of_bare s line (codes "arc") n)
    (λ arc. onward (optional_most line (codes "start") 1000000 t.start) _ (optional_most_bare line (codes "start") 1000000 t.start)
    (λ start. onward (optional_most line (codes "delta") 1000000 t.delta) _ (optional_most_bare line (codes "delta") 1000000 t.delta)
    (λ delta. onward (optional_most line (codes "bound") 1000000 t.bound) _ (optional_most_bare line (codes "bound") 1000000 t.bound)
    (λ bound. onward (optional_most line (codes "timelock") 1000000 t.timelock) _ (optional_most_bare line (codes "timelock") 1000000 t.timelock)
    (λ timelock. onward (optional_most line (codes "amount") 1000000000000 t.amount) _ (optional_most_bare line (codes "amount") 1000000000000 t.amount)
    (λ amount. onward (optional_locks line s.locks t.locks) _ (optional_locks_bare line s.locks t.locks) (λ locks. landed _)))))))

pub optional_arc_bare : (s : Sizes) (line : ℕ) (field : List ℕ) (x3 : Option ℕ) → Bare (optional_arc s line field x3)
optional_arc_bare s line field None = landed _
optional_arc_bare s line field (Some n) = onward (parse_arc s line field n) _ (arc_of_bare s line field n) (λ arc. landed _)

pub craft_of_bare : (s : Sizes) (names : List (List ℕ)) (line : ℕ) (n : ℕ) (k : RawCraft) → Bare (parse_craft s names line n k)
unfolding parse_craft
craft_of_bare s names line n k =
    onward (collected_results (party_of_name line names) k.via) _ (each_of_bare (party_of_name line names) (party_of_name_bare line names) k.via)
    (λ via. onward (parse_arc s line (codes "arc") n) _ (arc_of_bare s line (codes "arc") n)
    (λ arc. onward (number_below_count line (codes "lock") s.locks k.lock) _ (number_below_bare line (codes "lock") s.locks k.lock)
    (λ lock. onward (check_range line (codes "via") 1 s.path (length k.via)) _ (within_bare line (codes "via") 1 s.path (length k.via))
    (λ u. onward (optional_arc s line (codes "onto") k.onto) _ (optional_arc_bare s line (codes "onto") k.onto) (λ onto. landed _)))))

pub replay_of_bare : (s : Sizes) (line : ℕ) (n : ℕ) (m : ℕ) (k : ℕ) → Bare (parse_replay s line n m k)
unfolding parse_replay
replay_of_bare s line n m k =
    onward (parse_arc s line (codes "arc") n) _ (arc_of_bare s line (codes "arc") n)
    (λ arc. onward (number_below_count line (codes "lock") s.locks m) _ (number_below_bare line (codes "lock") s.locks m)
    (λ lock. onward (parse_arc s line (codes "onto") k) _ (arc_of_bare s line (codes "onto") k) (λ onto. landed _)))

pub key_of_bare : (s : Sizes) (line : ℕ) (path : List ℕ) (k : RawKey) → Bare (checked_hashkey s line path k)
unfolding checked_hashkey
key_of_bare s line path k =
    onward (number_below_count line (codes "lock") s.locks k.lock) _ (number_below_bare line (codes "lock") s.locks k.lock)
    (λ lock. onward (to_digest line (codes "secret") k.secret) _ (digest_of_bare line (codes "secret") k.secret)
    (λ secret. onward (check_range line (codes "path") 0 s.path (length k.path)) _ (within_bare line (codes "path") 0 s.path (length k.path))
    (λ u. onward (check_range line (codes "sigs") 0 s.path (length k.sigs)) _ (within_bare line (codes "sigs") 0 s.path (length k.sigs))
    (λ w. onward (collected_results (parse_sig line) k.sigs) _ (each_of_bare (parse_sig line) (sig_of_bare line) k.sigs) (λ sigs. landed _)))))

pub unlock_of_bare : (s : Sizes) (names : List (List ℕ)) (line : ℕ) (n : ℕ) (k : RawKey) → Bare (parse_unlock s names line n k)
unfolding parse_unlock
unlock_of_bare s names line n k =
    onward (collected_results (party_of_name line names) k.path) _ (each_of_bare (party_of_name line names) (party_of_name_bare line names) k.path)
    (λ path. onward (parse_arc s line (codes "arc") n) _ (arc_of_bare s line (codes "arc") n)
    (λ arc. onward (checked_hashkey s line path k) _ (key_of_bare s line path k) (λ key. landed _)))

pub claim_of_bare : (s : Sizes) (line : ℕ) (n : ℕ) → Bare (parse_claim s line n)
unfolding parse_claim
claim_of_bare s line n = onward (parse_arc s line (codes "arc") n) _ (arc_of_bare s line (codes "arc") n) (λ arc. landed _)

pub refund_of_bare : (s : Sizes) (line : ℕ) (n : ℕ) → Bare (parse_refund s line n)
unfolding parse_refund
refund_of_bare s line n = onward (parse_arc s line (codes "arc") n) _ (arc_of_bare s line (codes "arc") n) (λ arc. landed _)

pub transfer_of_bare : (s : Sizes) (names : List (List ℕ)) (line : ℕ) (n : ℕ) (name : List ℕ) (m : ℕ) → Bare (parse_transfer s names line n name m)
unfolding parse_transfer
transfer_of_bare s names line n name m =
    onward (party_of_name line names name) _ (party_of_name_bare line names name)
    (λ to. onward (parse_arc s line (codes "arc") n) _ (arc_of_bare s line (codes "arc") n)
    (λ arc. onward (ranged_number line (codes "units") 0 1000000000000 m)
    _ (number_within_bare line (codes "units") 0 1000000000000 m) (λ units. landed _)))

pub wait_of_bare : (s : Sizes) (line : ℕ) (n : ℕ) (m : ℕ) → Bare (parse_wait s line n m)
unfolding parse_wait
wait_of_bare s line n m =
    onward (parse_arc s line (codes "arc") n) _ (arc_of_bare s line (codes "arc") n)
    (λ arc. onward (ranged_number line (codes "height") 0 1000000 m) _ (number_within_bare line (codes "height") 0 1000000 m) (λ height. landed _))

pub move_of_bare : (s : Sizes) (names : List (List ℕ)) (line : ℕ) (x3 : RawMove) → Bare (parse_move s names line x3)
move_of_bare s names line (raws.Publish n t) = publish_of_bare s line n t
move_of_bare s names line (raws.Craft n k) = craft_of_bare s names line n k
move_of_bare s names line (raws.Replay n lock onto) = replay_of_bare s line n lock onto
move_of_bare s names line (raws.Raw n k) = unlock_of_bare s names line n k
move_of_bare s names line (raws.Claim n) = claim_of_bare s line n
move_of_bare s names line (raws.Refund n) = refund_of_bare s line n
move_of_bare s names line (raws.Transfer n to units) = transfer_of_bare s names line n to units
move_of_bare s names line (raws.Wait n height) = wait_of_bare s line n height
