-- A move that is answered stands on an arc, and the parties that craft are there.
use Rattle.std.proofs.Common.{◌≡◌, ℕ, ◌<◌, length, List, Ok, refl, codes, subst}
use Rattle.swap_job.specs.declared.moves.Move.{Move}
use Rattle.swap_job.specs.declared.moves.Move.TheVariants.{Publish, Craft, Replay, Raw, Claim, Refund, Transfer, Wait}
use Rattle.offer_moves.specs.Lists.{collected_results}
use Rattle.offer_moves.specs.FieldLimits.{ranged_number, check_range}
use Rattle.offer_moves.specs.Names.{party_of_name}
use Rattle.offer_moves.specs.declared.moves.Sizes.{Sizes}
use Rattle.offer_moves.specs.declared.raw.RawTerms.{RawTerms}
use Rattle.offer_moves.specs.declared.raw.RawKey.{RawKey}
use Rattle.offer_moves.specs.declared.raw.RawCraft.{RawCraft}
use Rattle.offer_moves.specs.declared.raw.RawMove.{RawMove}
use Rattle.offer_moves.specs.declared.raw.RawMove.TheVariants as raw_moves
use Rattle.offer_moves.specs.Limits.{number_below_count, optional_most, optional_locks}
use Rattle.offer_moves.specs.Moves.{parse_arc, optional_arc, make_publish, parse_craft, parse_replay, checked_hashkey, parse_unlock, parse_claim, parse_refund}
use Rattle.offer_moves.specs.Moves.{parse_transfer, parse_wait}
use Rattle.offer_moves.specs.Moves.{parse_move}
use Rattle.offer_moves.specs.Kept.{CanStand}
use Rattle.offer_moves.proofs.Chains.{went}
use Rattle.offer_moves.proofs.ReadNumbers.{number_below_ok, each_below}

arc_below : (s : Sizes) (line : ℕ) (field : List ℕ) (n a : ℕ) → parse_arc s line field n ≡ Ok a → a < s.arcs
unfolding parse_arc
arc_below s line field n a e = number_below_ok line field s.arcs n a e

publish_stands : (s : Sizes) (m line n : ℕ) (t : RawTerms) (mv : Move) → make_publish s line n t ≡ Ok mv → CanStand s.arcs m mv
unfolding make_publish
publish_stands s m line n t mv e =
    let p = went (parse_arc s line (codes "arc") n) _ mv e in
    let q = went (optional_most line (codes "start") 1000000 t.start) _ mv p.2 in
    let r = went (optional_most line (codes "delta") 1000000 t.delta) _ mv q.2 in
    let b = went (optional_most line (codes "bound") 1000000 t.bound) _ mv r.2 in
    let k = went (optional_most line (codes "timelock") 1000000 t.timelock) _ mv b.2 in
    let u = went (optional_most line (codes "amount") 1000000000000 t.amount) _ mv k.2 in
    let l = went (optional_locks line s.locks t.locks) _ mv u.2 in
    let is : Publish p.0 q.0 r.0 b.0 k.0 u.0 l.0 ≡ mv = cc (l.2) in
    subst (CanStand s.arcs m) is (record { arc = arc_below s line (codes "arc") n p.0 p.1; crafters = tt })

craft_stands : (s : Sizes) (names : List (List ℕ)) (line n : ℕ) (k : RawCraft) (mv : Move) → parse_craft s names line n k ≡ Ok mv
    → CanStand s.arcs (length names) mv
unfolding parse_craft
craft_stands s names line n k mv e =
    let p = went (collected_results (party_of_name line names) k.via) _ mv e in
    let q = went (parse_arc s line (codes "arc") n) _ mv p.2 in
    let l = went (number_below_count line (codes "lock") s.locks k.lock) _ mv q.2 in
    let w = went (check_range line (codes "via") 1 s.path (length k.via)) _ mv l.2 in
    let o = went (optional_arc s line (codes "onto") k.onto) _ mv w.2 in
    let is : Craft q.0 l.0 p.0 o.0 ≡ mv = cc (o.2) in
    subst (CanStand s.arcs (length names)) is (record {
      arc = arc_below s line (codes "arc") n q.0 q.1;
      crafters = each_below line (length names) names k.via p.0 refl p.1;
    })

replay_stands : (s : Sizes) (m line n lock onto : ℕ) (mv : Move) → parse_replay s line n lock onto ≡ Ok mv → CanStand s.arcs m mv
unfolding parse_replay
replay_stands s m line n lock onto mv e =
    let p = went (parse_arc s line (codes "arc") n) _ mv e in
    let q = went (number_below_count line (codes "lock") s.locks lock) _ mv p.2 in
    let r = went (parse_arc s line (codes "onto") onto) _ mv q.2 in
    let is : Replay p.0 q.0 r.0 ≡ mv = cc (r.2) in
    subst (CanStand s.arcs m) is (record { arc = arc_below s line (codes "arc") n p.0 p.1; crafters = tt })

unlock_stands : (s : Sizes) (names : List (List ℕ)) (m line n : ℕ) (k : RawKey) (mv : Move) → parse_unlock s names line n k ≡ Ok mv → CanStand s.arcs m mv
unfolding parse_unlock
unlock_stands s names m line n k mv e =
    let p = went (collected_results (party_of_name line names) k.path) _ mv e in
    let q = went (parse_arc s line (codes "arc") n) _ mv p.2 in
    let r = went (checked_hashkey s line p.0 k) _ mv q.2 in
    let is : Raw q.0 r.0 ≡ mv = cc (r.2) in
    subst (CanStand s.arcs m) is (record { arc = arc_below s line (codes "arc") n q.0 q.1; crafters = tt })

claim_stands : (s : Sizes) (m line n : ℕ) (mv : Move) → parse_claim s line n ≡ Ok mv → CanStand s.arcs m mv
unfolding parse_claim
claim_stands s m line n mv e =
    let p = went (parse_arc s line (codes "arc") n) _ mv e in
    let is : Claim p.0 ≡ mv = cc (p.2) in
    subst (CanStand s.arcs m) is (record { arc = arc_below s line (codes "arc") n p.0 p.1; crafters = tt })

refund_stands : (s : Sizes) (m line n : ℕ) (mv : Move) → parse_refund s line n ≡ Ok mv → CanStand s.arcs m mv
unfolding parse_refund
refund_stands s m line n mv e =
    let p = went (parse_arc s line (codes "arc") n) _ mv e in
    let is : Refund p.0 ≡ mv = cc (p.2) in
    subst (CanStand s.arcs m) is (record { arc = arc_below s line (codes "arc") n p.0 p.1; crafters = tt })

transfer_stands : (s : Sizes) (names : List (List ℕ)) (m line n : ℕ) (name : List ℕ) (amount : ℕ) (mv : Move)
    → parse_transfer s names line n name amount ≡ Ok mv
    → CanStand s.arcs m mv
unfolding parse_transfer
transfer_stands s names m line n name amount mv e =
    let p = went (party_of_name line names name) _ mv e in
    let q = went (parse_arc s line (codes "arc") n) _ mv p.2 in
    let r = went (ranged_number line (codes "units") 0 1000000000000 amount) _ mv q.2 in
    let is : Transfer q.0 p.0 r.0 ≡ mv = cc (r.2) in
    subst (CanStand s.arcs m) is (record { arc = arc_below s line (codes "arc") n q.0 q.1; crafters = tt })

wait_stands : (s : Sizes) (m line n height : ℕ) (mv : Move) → parse_wait s line n height ≡ Ok mv → CanStand s.arcs m mv
unfolding parse_wait
wait_stands s m line n height mv e =
    let p = went (parse_arc s line (codes "arc") n) _ mv e in
    let q = went (ranged_number line (codes "height") 0 1000000 height) _ mv p.2 in
    let is : Wait p.0 q.0 ≡ mv = cc (q.2) in
    subst (CanStand s.arcs m) is (record { arc = arc_below s line (codes "arc") n p.0 p.1; crafters = tt })

pub move_stands : (s : Sizes) (names : List (List ℕ)) (line : ℕ) (raw : RawMove) (mv : Move) → parse_move s names line raw ≡ Ok mv
    → CanStand s.arcs (length names) mv
move_stands s names line (raw_moves.Publish n t) mv e = publish_stands s (length names) line n t mv e
move_stands s names line (raw_moves.Craft n k) mv e = craft_stands s names line n k mv e
move_stands s names line (raw_moves.Replay n lock onto) mv e = replay_stands s (length names) line n lock onto mv e
move_stands s names line (raw_moves.Raw n k) mv e = unlock_stands s names (length names) line n k mv e
move_stands s names line (raw_moves.Claim n) mv e = claim_stands s (length names) line n mv e
move_stands s names line (raw_moves.Refund n) mv e = refund_stands s (length names) line n mv e
move_stands s names line (raw_moves.Transfer n to units) mv e = transfer_stands s names (length names) line n to units mv e
move_stands s names line (raw_moves.Wait n height) mv e = wait_stands s (length names) line n height mv e
