-- The move that a line asks for: first its names, then its numbers and texts, in the order of its
-- fields.
use Rattle.std.specs.Prelude.{ℕ, List, length, codes, Option, Some, None, Result, Ok}
use Rattle.swap_base.specs.Fault.{◌>>=◌}
use Rattle.swap_digraph.specs.declared.deal.Deal.{Deal}
use Rattle.swap_digraph.specs.Deal.{path_limit}
use Rattle.hashkey_path.specs.declared.hashkey.Hashkey.{Hashkey}
use Rattle.swap_job.specs.declared.moves.Move.{Move}
use Rattle.swap_job.specs.declared.moves.Move.TheVariants.{Publish, Craft, Replay, Raw, Claim, Refund, Transfer, Wait}
use Rattle.command_input.specs.declared.reason.Reason.{Reason}
use Rattle.offer_moves.specs.Lists.{collected_results}
use Rattle.offer_moves.specs.FieldLimits.{ranged_number, check_range, to_digest}
use Rattle.offer_moves.specs.Names.{party_of_name}
use Rattle.offer_moves.specs.declared.moves.Sizes.{Sizes}
use Rattle.offer_moves.specs.declared.raw.RawTerms.{RawTerms}
use Rattle.offer_moves.specs.declared.raw.RawKey.{RawKey}
use Rattle.offer_moves.specs.declared.raw.RawCraft.{RawCraft}
use Rattle.offer_moves.specs.declared.raw.RawMove.{RawMove}
use Rattle.offer_moves.specs.declared.raw.RawMove.TheVariants as raws
use Rattle.offer_moves.specs.Limits.{number_below_count, optional_most, optional_locks, parse_sig}

-- how many arcs and locks a deal has, and the most vertices of a path
abbrev pub deal_sizes : Deal → Sizes
deal_sizes d = record { arcs = length d.graph.arcs; locks = length d.leaders; path = path_limit d }

-- the arc of that number
unfoldable pub parse_arc : Sizes → ℕ → List ℕ → ℕ → Result ℕ Reason
parse_arc s line field n = number_below_count line field s.arcs n

unfoldable pub make_publish : Sizes → ℕ → ℕ → RawTerms → Result Move Reason
make_publish s line n t = do
  arc ← parse_arc s line (codes "arc") n
  start ← optional_most line (codes "start") 1000000 t.start
  delta ← optional_most line (codes "delta") 1000000 t.delta
  bound ← optional_most line (codes "bound") 1000000 t.bound
  timelock ← optional_most line (codes "timelock") 1000000 t.timelock
  amount ← optional_most line (codes "amount") 1000000000000 t.amount
  locks ← optional_locks line s.locks t.locks
  Ok (Publish arc start delta bound timelock amount locks)

-- the arc of that number, where there is one
abbrev pub optional_arc : Sizes → ℕ → List ℕ → Option ℕ → Result (Option ℕ) Reason
optional_arc s line field None = Ok None
optional_arc s line field (Some n) = do
  arc ← parse_arc s line field n
  Ok (Some arc)

unfoldable pub parse_craft : Sizes → List (List ℕ) → ℕ → ℕ → RawCraft → Result Move Reason
parse_craft s names line n k = do
  via ← collected_results (party_of_name line names) k.via
  arc ← parse_arc s line (codes "arc") n
  lock ← number_below_count line (codes "lock") s.locks k.lock
  u ← check_range line (codes "via") 1 s.path (length k.via)
  onto ← optional_arc s line (codes "onto") k.onto
  Ok (Craft arc lock via onto)

unfoldable pub parse_replay : Sizes → ℕ → ℕ → ℕ → ℕ → Result Move Reason
parse_replay s line n m k = do
  arc ← parse_arc s line (codes "arc") n
  lock ← number_below_count line (codes "lock") s.locks m
  onto ← parse_arc s line (codes "onto") k
  Ok (Replay arc lock onto)

unfoldable pub checked_hashkey : Sizes → ℕ → List ℕ → RawKey → Result Hashkey Reason
checked_hashkey s line path k = do
  lock ← number_below_count line (codes "lock") s.locks k.lock
  secret ← to_digest line (codes "secret") k.secret
  u ← check_range line (codes "path") 0 s.path (length k.path)
  w ← check_range line (codes "sigs") 0 s.path (length k.sigs)
  sigs ← collected_results (parse_sig line) k.sigs
  Ok (record { lock = lock; secret = secret; path = path; sigs = sigs })

unfoldable pub parse_unlock : Sizes → List (List ℕ) → ℕ → ℕ → RawKey → Result Move Reason
parse_unlock s names line n k = do
  path ← collected_results (party_of_name line names) k.path
  arc ← parse_arc s line (codes "arc") n
  key ← checked_hashkey s line path k
  Ok (Raw arc key)

unfoldable pub parse_claim : Sizes → ℕ → ℕ → Result Move Reason
parse_claim s line n = do
  arc ← parse_arc s line (codes "arc") n
  Ok (Claim arc)

unfoldable pub parse_refund : Sizes → ℕ → ℕ → Result Move Reason
parse_refund s line n = do
  arc ← parse_arc s line (codes "arc") n
  Ok (Refund arc)

-- a transfer to a party that is known
abbrev pub make_transfer : Sizes → ℕ → ℕ → ℕ → ℕ → Result Move Reason
make_transfer s line n to m = do
  arc ← parse_arc s line (codes "arc") n
  units ← ranged_number line (codes "units") 0 1000000000000 m
  Ok (Transfer arc to units)

unfoldable pub parse_transfer : Sizes → List (List ℕ) → ℕ → ℕ → List ℕ → ℕ → Result Move Reason
parse_transfer s names line n name m = do
  to ← party_of_name line names name
  make_transfer s line n to m

unfoldable pub parse_wait : Sizes → ℕ → ℕ → ℕ → Result Move Reason
parse_wait s line n m = do
  arc ← parse_arc s line (codes "arc") n
  height ← ranged_number line (codes "height") 0 1000000 m
  Ok (Wait arc height)

-- the move that a line asks for
abbrev pub parse_move : Sizes → List (List ℕ) → ℕ → RawMove → Result Move Reason
parse_move s names line (raws.Publish n t) = make_publish s line n t
parse_move s names line (raws.Craft n k) = parse_craft s names line n k
parse_move s names line (raws.Replay n lock onto) = parse_replay s line n lock onto
parse_move s names line (raws.Raw n k) = parse_unlock s names line n k
parse_move s names line (raws.Claim n) = parse_claim s line n
parse_move s names line (raws.Refund n) = parse_refund s line n
parse_move s names line (raws.Transfer n to units) = parse_transfer s names line n to units
parse_move s names line (raws.Wait n height) = parse_wait s line n height
